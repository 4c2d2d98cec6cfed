use Rattle.std.proofs.Common.{◌≤ℤ◌, pos, arith, sym, to_z-of_z}
use Rattle.mp_admit.proofs.SumLemmas.{of_positive}
use Rattle.mp_admit.proofs.turns.slack_of.Goals as goal

pub new-requires : goal.new-requires
new-requires c =
    let p : pos 1 ≤ℤ c.in_ok-unit.unit = of_positive _ _ _ _ _ c.requires.network c.requires.flows c.requires.values c.requires.some (sym c.in_ok-unit.ensures) in
    grind (arith, to_z-of_z)
