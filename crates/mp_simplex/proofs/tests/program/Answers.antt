use Rattle.std.proofs.Common.{rules, ◌≡◌, refl, true}
use Rattle.mp_simplex.specs.Checking.{none_negative}
use Rattle.mp_simplex.proofs.CheckingLemmas.{begins_as}
use Rattle.mp_simplex.proofs.tests.program.Goals as goal

pub returns-clause-right_sides : goal.returns-clause-right_sides
returns-clause-right_sides g c =
    let sign : none_negative c.args.b.now ≡ true = search rules in
    begins_as _ c.args.b.now c.in_ok-right_sides.ensures refl sign
