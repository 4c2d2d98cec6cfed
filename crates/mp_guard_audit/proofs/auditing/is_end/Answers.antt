use Rattle.std.proofs.Common.{◌≡◌, ◌+◌, ◌∙◌, sum, ap, subst, arith}
use Rattle.mp_run.proofs.PeriodLemmas.{end_line_is}
use Rattle.mp_step.specs.Standing.{Standing}
use Rattle.mp_guard_audit.proofs.LineLemmas.{ends_logged}
use Rattle.mp_guard_audit.proofs.auditing.is_end.Goals as goal

pub returns : goal.returns
returns c =
    let s = c.args.session.now in
    let at = c.state-state.ensures.value in
    ends_logged c.is_same.result c.args.line.now c.bytes.result.now s
    (λ now stands. c.bytes.ensures.value ∙ c.push_end.ensures.held
    ∙ end_line_is s.net s.at c.period.result c.total_in-2.result c.total_out-2.result _ c.state-state.ensures.guarding.on (c.period.ensures.value ∙ ap (λ (st : Standing). st.period) at)
    (c.total_in-2.ensures.value ∙ ap (λ (st : Standing). st.total_in) at) (c.total_out-2.ensures.value ∙ ap (λ (st : Standing). st.total_out) at) (omega (arith, c.total_in.ensures.value, c.total_out.ensures.value, c.total_in-2.ensures.value, c.total_out-2.ensures.value))
    (subst (λ (st : Standing). st.total_in ≡ st.total_out + sum st.queues) at c.total_in.ensures.conserved) now.state stands.stands) c.is_same.ensures
