use Rattle.std.proofs.Common.{◌≡◌, ◌++◌, ◌∷◌, [], ℕ, List, ap, ◌∙◌, subst}
use Rattle.mp_edge.specs.Outside.{Tells, Puts}
use Rattle.mp_model.specs.Log.{period_line}
use Rattle.mp_log.proofs.period.put_period_in.Goals as goal

pub returns-clause-bytes : goal.returns-clause-bytes
returns-clause-bytes g c = λ counts is.
    let text : c.bytes.result.now ≡ period_line c.args.period c.args.arrivals.now c.args.stages.now counts ++ 10 ∷ [] =
    c.bytes.ensures.value ∙ c.push_text.ensures.held ∙ ap (λ (xs : List ℕ). xs ++ 10 ∷ []) (c.push_period.ensures.held counts is) in
    subst (λ (xs : List ℕ). Tells (g.K.Sink.held c.args.out.now) (g.K.Sink.held c.put.new.self) (Puts c.put.result xs)) text c.put.ensures.bytes
