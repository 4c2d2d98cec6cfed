use Rattle.std.proofs.Common.{sym, subst}
use Rattle.mp_cert.specs.Weighing.{weighed}
use Rattle.mp_cert.specs.declared.types.Against.{Against}
use Rattle.mp_verdict.specs.Stated.{Stated, Gives}
use Rattle.mp_verdict.specs.Verdict.{Verdict as StatedVerdict}
use Rattle.mp_admit.specs.declared.verdict.Verdict.{Verdict}
use Rattle.mp_admit.specs.Verdicts.{verdict_of}
use Rattle.mp_admit.proofs.VerdictLemmas.{after_no_vector, after_no_sums, after_judged}
use Rattle.mp_admit.proofs.verdict.decide.Goals as goal

pub returns-in-Err : goal.returns-in-Err
returns-in-Err c = after_no_vector {X = Against} {X' = Verdict} (λ a. a.p) verdict_of _ (weighed c.args.net.now) _ _ c.in-Err.fault c.in-Err.ensures.calculation

pub returns-in-Ok-weigh : goal.returns-in-Ok-weigh
returns-in-Ok-weigh c =
    subst (λ (t : Stated StatedVerdict). Gives verdict_of c.judge.result t) (sym (after_judged _ (weighed c.args.net.now) _ _ c.in-Ok.against.p c.in-Ok-weigh._sums c.in-Ok.ensures.calculation c.in-Ok-weigh.ensures.calculation)) c.judge.ensures

pub returns-in-Err-weigh : goal.returns-in-Err-weigh
returns-in-Err-weigh c = after_no_sums _ (weighed c.args.net.now) _ _ c.in-Ok.against.p c.in-Ok.ensures.calculation c.in-Err-weigh.ensures.calculation
