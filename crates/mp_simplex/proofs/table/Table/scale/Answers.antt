use Rattle.std.proofs.Common.{rules, ◌≡◌, FitsSigned, to_z-of_z}
use Rattle.std.specs.Int.{w128}
use Rattle.mp_num.specs.Multiple.{lcm_of}
use Rattle.mp_simplex.proofs.ReadingLemmas.{scale_positive, scale_entry}
use Rattle.mp_simplex.proofs.table.Table.scale.Goals as goal

pub returns-clause-positive : goal.returns-clause-positive
returns-clause-positive c =
    let fq : FitsSigned w128 c.args.q = c.ranges.q in
    let fe : FitsSigned w128 c.entry.result = search rules in
    let e : c.lcm.result ≡ lcm_of c.args.q c.entry.result = simp to_z-of_z at c.lcm.ensures in
    scale_positive c.lcm.result c.args.q c.entry.result e c.requires.positive (scale_entry c.args.self.now c.args.r c.index-basic.result.now c.entry.result c.requires.based c.requires.row c.index-basic.ensures c.entry.ensures)
