use Rattle.std.proofs.Common.{◌≡◌, ◌++◌, ◌∷◌, [], ℕ, List, ap, ◌∙◌, subst}
use Rattle.mp_edge.specs.Outside.{Tells, Puts}
use Rattle.mp_model.specs.ControlLog.{answer_of}
use Rattle.mp_press.specs.Queues.{naturals}
use Rattle.mp_control.proofs.answering.put_answer.Goals as goal

pub returns-clause-bytes : goal.returns-clause-bytes
returns-clause-bytes g c =
    let text : c.bytes.result.now ≡ answer_of c.args.number (naturals c.args.counts.now) c.args.stages.now ++ 10 ∷ [] =
    c.bytes.ensures.value ∙ c.push_text.ensures.held ∙ ap (λ (xs : List ℕ). xs ++ 10 ∷ []) c.push_answer.ensures.held in
    subst (λ (xs : List ℕ). Tells (g.K.Sink.held c.args.out.now) (g.K.Sink.held c.put.new.self) (Puts c.put.result xs)) text c.put.ensures.bytes
