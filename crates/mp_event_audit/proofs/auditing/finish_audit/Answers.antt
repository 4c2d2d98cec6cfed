use Rattle.mp_run.proofs.AuditLemmas.{line_after_end, long_after_end}
use Rattle.mp_event_audit.proofs.auditing.finish_audit.Goals as goal

pub returns-in-Line-clause-ends : goal.returns-in-Line-clause-ends
returns-in-Line-clause-ends g c = line_after_end _ _ c.args.cutter.now c.next.new.self c.args.periods c.args.line c.in-Line.ensures.told

pub returns-in-TooLong-clause-ends : goal.returns-in-TooLong-clause-ends
returns-in-TooLong-clause-ends g c = long_after_end _ _ c.args.cutter.now c.next.new.self c.args.periods c.args.line c.in-TooLong.ensures.told
