use Rattle.std.proofs.Common.{◌≡◌, ◌+◌, ◌∙◌, sum, ap, subst, arith}
use Rattle.mp_round.specs.RoundView.{RoundView}
use Rattle.mp_step.specs.Standing.{Standing}
use Rattle.mp_event_run.proofs.Bounding.{finishes}
use Rattle.mp_event_run.proofs.run.SessionDrivenRefusal.finish.Goals as goal

pub returns-clause-end : goal.returns-clause-end
returns-clause-end g c =
    let at : c.state-state.result.now ≡ c.args.self.now.round.standing = c.state-state.ensures ∙ ap (λ (r : RoundView). r.standing) c.round.ensures.value in
    let kept = c.round.ensures.kept in
    finishes c.put_end.result c.args.self.now.net kept.acceptable.network c.args.self.now.round c.period.result c.total_in-2.result c.total_out-2.result _ _ _ kept.on.on (c.period.ensures.value ∙ ap (λ (st : Standing). st.period) at)
    (c.total_in-2.ensures.value ∙ ap (λ (st : Standing). st.total_in) at) (c.total_out-2.ensures.value ∙ ap (λ (st : Standing). st.total_out) at) (omega arith)
    (subst (λ (st : Standing). st.total_in ≡ st.total_out + sum st.queues) at c.total_in.ensures.conserved) c.put_end.ensures.bytes
