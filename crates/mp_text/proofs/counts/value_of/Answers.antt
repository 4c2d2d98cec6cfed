use Rattle.std.proofs.Common.{◌<◌, ◌≤◌, ◌+◌, ◌*◌, ◌^◌, ℕ, arith}
use Rattle.std.proofs.lemmas.Grind.{common_steps}
use Rattle.mp_text.proofs.Digits.{next_value}
use Rattle.mp_text.proofs.counts.value_of.Goals as goal

power_more : (n i d : ℕ) → n < 10 ^ i → d ≤ 9 → n * 10 + d < 10 ^ (i + 1)
power_more n i d small low = grind (arith, common_steps)

pub loop-digit-preserved : goal.loop-digit-preserved
loop-digit-preserved c =
    let next = next_value c.args.digits.now c.loop-digit.digit-index c.loop-digit.number c.from.result c.requires.digits c.loop-digit-test.true c.loop-digit.invariant.value c.from.ensures in
    record { value = next.0; small = power_more c.loop-digit.number c.loop-digit.digit-index c.from.result c.loop-digit.invariant.small next.1 }
