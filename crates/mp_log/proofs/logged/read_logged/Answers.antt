use Rattle.std.proofs.Common.{rules, arith}
use Rattle.mp_log.proofs.LoggedLemmas.{reading_more, reading_fails, no_letter, last_letter}
use Rattle.mp_log.proofs.logged.read_logged.Goals as goal

pub returns-in_default : goal.returns-in_default
returns-in_default c = reading_fails c.args.bytes.now c.args.fed c.loop.rest.now c.loop.into.items c.loop.counter c.loop.invariant c.loop-test.true (search rules)

pub loop-preserved : goal.loop-preserved
loop-preserved c = rw c.from-rest.ensures (reading_more c.args.bytes.now c.args.fed c.loop.rest.now c.loop.into.items c.loop.counter c.in-Some.count _ _ c.loop.invariant c.loop-test.true c.in-Some.ensures.1 (search rules))

pub returns-in_default-behind : goal.returns-in_default-behind
returns-in_default-behind c = no_letter c.args.bytes.now c.args.fed c.loop.rest.now c.loop.into.items c.loop.counter c.loop.invariant (omega (arith, c.loop-test.false, c.loop.auto.counter-end)) (search rules)

pub returns : goal.returns
returns c = last_letter c.args.bytes.now c.args.fed c.loop.rest.now c.loop.into.items c.in-Some-behind.after.now c.loop.counter c.ends_field.result c.loop.invariant (omega (arith, c.loop-test.false, c.loop.auto.counter-end)) c.in-Some-behind.ensures c.ends_field.ensures
