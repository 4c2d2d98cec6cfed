use Rattle.std.proofs.Common.{rules}
use Rattle.mp_guard_audit.proofs.LineLemmas.{takes_line, takes_none, takes_long}
use Rattle.mp_guard_audit.proofs.auditing.take_next.Goals as goal

pub returns-in-Line-clause-takes : goal.returns-in-Line-clause-takes
returns-in-Line-clause-takes g c = takes_line _ _ c.args.session.now c.args.cutter.now c.next.new.self c.take_logged.new.session c.take_logged.result c.line.result.now c.line.ensures c.take_logged.ensures.takes (search rules)

pub returns-in-End-clause-takes : goal.returns-in-End-clause-takes
returns-in-End-clause-takes g c = takes_none _ _ c.args.session.now c.args.cutter.now c.next.new.self c.in-End.ensures.told

pub returns-in-TooLong-clause-takes : goal.returns-in-TooLong-clause-takes
returns-in-TooLong-clause-takes g c = takes_long _ _ c.args.session.now c.args.cutter.now c.next.new.self c.state.ensures.guarding c.requires c.in-TooLong.ensures.told
