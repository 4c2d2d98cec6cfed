use Rattle.std.proofs.Common.{List, ℕ, subst}
use Rattle.mp_model.specs.ControlLog.{plain_line}
use Rattle.mp_guard_control.specs.Accounts.{answer_by}
use Rattle.mp_guard_control.specs.Driving.{Answers}
use Rattle.mp_guard_control.proofs.ProgressLemmas.{takes_line}
use Rattle.mp_guard_control.proofs.driving.answer_next.Goals as goal

pub returns-in-Line-clause-takes : goal.returns-in-Line-clause-takes
returns-in-Line-clause-takes g c = takes_line c.answer_line.result _ _ c.args.cutter.now c.next.new.self c.answer_line.ensures.of_line c.in-Line.ensures.told

pub returns-in-Line-clause-answers : goal.returns-in-Line-clause-answers
returns-in-Line-clause-answers g c =
    subst (λ (line : List ℕ). Answers (answer_by c.args.net.now c.args.guard.now c.args.period c.args.owed.now) c.answer_line.result (plain_line c.args.net.now line) (g.Out.Sink.held c.args.out.now) (g.Out.Sink.held c.answer_line.new.out)) c.line.ensures c.answer_line.ensures.answers
