use Rattle.std.proofs.Common.{◌≤ℤ◌, pos, arith, sym, to_z-of_z}
use Rattle.mp_admit.proofs.SlackLemmas.{alone_positive}
use Rattle.mp_admit.proofs.alone.slack_alone.Goals as goal

pub new-requires : goal.new-requires
new-requires c =
    let p : pos 1 ≤ℤ c.in_ok-unit.unit = alone_positive _ _ _ _ c.requires.network c.requires.flows c.requires.known (sym c.in_ok-unit.ensures) in
    grind (arith, to_z-of_z)
