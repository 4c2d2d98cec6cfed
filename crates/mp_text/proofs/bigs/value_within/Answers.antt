use Rattle.std.proofs.Common.{◌+◌, arith}
use Rattle.mp_text.proofs.Digits.{next_value, front_value}
use Rattle.mp_text.proofs.bigs.value_within.Goals as goal

pub returns-then-number-unit : goal.returns-then-number-unit
returns-then-number-unit c =
    let next = next_value c.args.digits.now c.loop-digit.digit-index c.loop-digit.number c.from-unit.result c.requires c.loop-digit-test.true c.loop-digit.invariant.value c.from-unit.ensures in
    omega (arith, next.0, next.1, front_value c.args.digits.now (c.loop-digit.digit-index + 1))

pub loop-digit-preserved : goal.loop-digit-preserved
loop-digit-preserved c =
    let next = next_value c.args.digits.now c.loop-digit.digit-index c.loop-digit.number c.from-unit.result c.requires c.loop-digit-test.true c.loop-digit.invariant.value c.from-unit.ensures in
    record { value = next.0; small = omega (arith, next.1) }
