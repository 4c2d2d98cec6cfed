use Rattle.std.proofs.Common.{subst, Some}
use Rattle.mp_simplex.specs.Running.{IsFirstTable}
use Rattle.mp_simplex.proofs.MaximiseLemmas.{meets_outcome, means}
use Rattle.mp_simplex.proofs.maximise.Goals as goal

pub returns-clause-meaning : goal.returns-clause-meaning
returns-clause-meaning c =
    let lp = c.args.lp.now in
    let first : IsFirstTable lp (Some c.in-Some.table) = subst (IsFirstTable lp) c.in-Some.is c.in_ok-table.ensures in
    means lp c.args.limit c.read_ending.result c.requires.right_sides
    (meets_outcome lp c.args.limit c.in-Some.table c.run-ending.new.self c.run-ending.result c.read_ending.result first c.run-ending.ensures.end c.run-ending.ensures.shape c.read_ending.ensures)
