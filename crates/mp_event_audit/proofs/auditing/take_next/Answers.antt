use Rattle.std.proofs.Common.{rules, refl}
use Rattle.mp_event_audit.proofs.Taking.{moves_on, takes_line, takes_none, takes_long}
use Rattle.mp_event_audit.proofs.auditing.take_next.Goals as goal

pub returns-in-Line-clause-takes : goal.returns-in-Line-clause-takes
returns-in-Line-clause-takes g c = takes_line c.args.session.now.net _ _ c.args.session.now.round c.args.cutter.now c.next.new.self c.take_logged.new.session.round c.take_logged.result c.line.result.now c.line.ensures c.take_logged.ensures.takes (search rules)

pub returns-in-Line-clause-moves : goal.returns-in-Line-clause-moves
returns-in-Line-clause-moves g c = moves_on c.args.session.now.net c.args.session.now.round c.take_logged.new.session.round c.take_logged.result c.line.result.now c.next.new.self.line c.line.ensures c.take_logged.ensures.takes

pub returns-in-End-clause-takes : goal.returns-in-End-clause-takes
returns-in-End-clause-takes g c = takes_none c.args.session.now.net _ _ c.args.session.now.round c.args.cutter.now c.next.new.self c.in-End.ensures.told

pub returns-in-TooLong-clause-takes : goal.returns-in-TooLong-clause-takes
returns-in-TooLong-clause-takes g c = takes_long c.args.session.now.net _ _ c.args.session.now.round c.args.cutter.now c.next.new.self c.args.session.now c.round.ensures.kept refl c.in-TooLong.ensures.told
