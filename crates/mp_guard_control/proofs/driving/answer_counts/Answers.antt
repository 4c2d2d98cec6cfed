use Rattle.std.proofs.Common.{◌≡◌, ◌+◌, ◌++◌, ◌∷◌, [], ℕ, List, ap, ap₂, ◌∙◌, subst}
use Rattle.mp_edge.specs.Outside.{Tells, Puts}
use Rattle.mp_model.specs.Network.{entry}
use Rattle.mp_model.specs.ControlLog.{answer_of}
use Rattle.mp_press.specs.Queues.{naturals}
use Rattle.mp_guard_run.specs.Accounts.{stages_by}
use Rattle.mp_guard_control.proofs.SizeLemmas.{answer_fits}
use Rattle.mp_guard_control.proofs.driving.answer_counts.Goals as goal

pub put_answer-requires : goal.put_answer-requires
put_answer-requires g c =
    let counts : c.deref-4.result.now ≡ c.args.buffers.now.counts.items = c.deref-4.ensures.0 in
    let stages : c.deref-5.result.now ≡ c.choose.new.into.items = c.deref-5.ensures.0 in
    rw (counts, stages) (answer_fits c.args.net.now c.shares.ensures.acceptable c.args.buffers.now.counts.items c.choose.new.into.items c.requires.small c.requires.count c.choose.ensures.size c.choose.ensures.known)

pub returns-clause-bytes : goal.returns-clause-bytes
returns-clause-bytes g c =
    let stages = c.deref-5.ensures.0 ∙ c.choose.ensures.value ∙ ap (λ zs. stages_by c.args.net.now c.args.guard.now (entry (naturals zs)) c.args.period c.args.owed.now) c.deref.ensures.0 in
    subst (λ (text : List ℕ). Tells (g.Out.Sink.held c.args.out.now) (g.Out.Sink.held c.put_answer.new.out) (Puts c.put_answer.result (text ++ 10 ∷ [])))
    (ap₂ (answer_of (c.args.period + 1)) (ap naturals c.deref-4.ensures.0) stages) c.put_answer.ensures.bytes
