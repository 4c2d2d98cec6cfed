use Rattle.std.proofs.Common.{◌≡◌, ◌+◌, ◌∙◌, sum, ap, subst, arith}
use Rattle.mp_step.specs.Standing.{Standing}
use Rattle.mp_event_audit.proofs.Taking.{ends_logged, shown_end}
use Rattle.mp_event_audit.proofs.auditing.is_end.Goals as goal

pub returns : goal.returns
returns c =
    let net = c.args.session.now.net in
    let round = c.args.session.now.round in
    let at = c.state-state.ensures in
    ends_logged c.is_same.result net c.args.line.now c.bytes.result.now round
    (λ A stands. c.bytes.ensures.value ∙ c.push_end.ensures.held
    ∙ shown_end net c.round.ensures.kept.acceptable.network round c.period.result c.total_in-2.result c.total_out-2.result _ c.round.ensures.kept.on.on (c.period.ensures.value ∙ ap (λ (st : Standing). st.period) at)
    (c.total_in-2.ensures.value ∙ ap (λ (st : Standing). st.total_in) at) (c.total_out-2.ensures.value ∙ ap (λ (st : Standing). st.total_out) at) (omega (arith, c.total_in.ensures.value, c.total_out.ensures.value, c.total_in-2.ensures.value, c.total_out-2.ensures.value))
    (subst (λ (st : Standing). st.total_in ≡ st.total_out + sum st.queues) at c.total_in.ensures.conserved) A stands) c.is_same.ensures
