use Rattle.mp_guard_control.proofs.ProgressLemmas.{answered_put, answered_cut}
use Rattle.mp_guard_control.specs.Accounts.{answer_by}
use Rattle.mp_guard_control.proofs.driving.answer_line.Goals as goal

pub returns-in-Ok-clause-answers : goal.returns-in-Ok-clause-answers
returns-in-Ok-clause-answers g c = answered_put (answer_by c.args.net.now c.args.guard.now c.args.period c.args.owed.now) _ c.read_input.new.into.items c.answer_counts.result _ _ _ c.in-Counts.ensures.line c.in-Ok.is c.answer_counts.ensures.bytes

pub returns-in-Err-clause-answers : goal.returns-in-Err-clause-answers
returns-in-Err-clause-answers g c = answered_cut (answer_by c.args.net.now c.args.guard.now c.args.period c.args.owed.now) _ c.read_input.new.into.items c.answer_counts.result _ _ _ c.in-Counts.ensures.line c.in-Err.is c.answer_counts.ensures.bytes
