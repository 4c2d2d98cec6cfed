use Rattle.mp_event_audit.proofs.Taking.{compares_end, compares_long}
use Rattle.mp_event_audit.proofs.auditing.compare_next.Goals as goal

pub returns-in-End-clause-told : goal.returns-in-End-clause-told
returns-in-End-clause-told g c = compares_end _ _ c.args.cutter.now c.next.new.self c.args.wanted.now c.in-End.ensures.told

pub returns-in-TooLong-clause-told : goal.returns-in-TooLong-clause-told
returns-in-TooLong-clause-told g c = compares_long _ _ c.args.cutter.now c.next.new.self c.args.wanted.now c.requires c.in-TooLong.ensures.told
