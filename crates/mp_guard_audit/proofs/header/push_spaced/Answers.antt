use Rattle.mp_guard_audit.proofs.HeadingLemmas.{room_so_far, room_at_end}
use Rattle.mp_guard_audit.proofs.header.push_spaced.Goals as goal

pub push_next-requires-clause-room : goal.push_next-requires-clause-room
push_next-requires-clause-room c = room_so_far c.args.line.now.held c.loop-number.line.held c.args.numbers.now c.loop-number.number-index c.requires.few c.requires.small c.requires.room c.loop-number-test.true c.loop-number.invariant

pub returns-clause-len : goal.returns-clause-len
returns-clause-len c = room_at_end c.args.line.now.held c.loop-number.line.held c.args.numbers.now c.loop-number.number-index c.requires.few c.requires.small c.requires.room c.loop-number-test.false c.loop-number.invariant
