use Rattle.std.proofs.Common.{rules, ◌∙◌, ap}
use Rattle.mp_region.specs.Cells.{part_of}
use Rattle.mp_region.proofs.Parts.{leaves, into}
use Rattle.mp_region.proofs.region.Region.set.Goals as goal

pub returns-clause-value : goal.returns-clause-value
returns-clause-value c = search rules

pub returns-clause-others : goal.returns-clause-others
returns-clause-others c = λ other apart. ap (λ region. part_of region other) (returns-clause-value c) ∙ leaves c.args.self.now c.args.span.now other c.args.i c.args.value c.requires.known apart

pub returns-clause-written : goal.returns-clause-written
returns-clause-written c = ap (λ region. part_of region c.args.span.now) (returns-clause-value c) ∙ into c.args.self.now.cells c.args.span.now.at c.args.span.now.len c.args.i c.args.value
