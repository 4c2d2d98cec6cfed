use Rattle.std.proofs.Common.{◌≡◌, ◌++◌, ℕ, List, codes, sym, ◌∙◌, ap, subst}
use Rattle.std.proofs.lemmas.Result.{err_from_is_err_and}
use Rattle.mp_edge.specs.Outside.{Puts}
use Rattle.mp_edge.proofs.Told.{Tells-weaker, Tells-then}
use Rattle.mp_edge.proofs.Gains.{GainsPrefix-longer}
use Rattle.mp_cli.specs.Commands.{asked}
use Rattle.mp_cli.specs.Messages.{message_of, words_of, vector_behind}
use Rattle.mp_cli.proofs.MessageLemmas.{message_is, puts_behind, cause_within}
use Rattle.mp_cli.proofs.message.put_message.Goals as goal

pub returns-in_err-put : goal.returns-in_err-put
returns-in_err-put g c =
    let p = err_from_is_err_and c.from_residual.result c.from_residual.ensures.1 in
    let outcome = c.args.outcome.now in
    let line : c.bytes.result.now ≡ words_of outcome ++ codes "\n" = c.bytes.ensures.value ∙ c.push_text.ensures.held ∙ ap (λ l. l ++ codes "\n") c.push_message.ensures.held in
    let whole : message_of (asked c.args.command) outcome ≡ c.bytes.result.now ++ vector_behind outcome =
    message_is (asked c.args.command) outcome c.requires c.in_default.not-Store ∙ ap (λ l. l ++ vector_behind outcome) (sym line) in
    rw p.1 (record {
      bytes = Tells-weaker _ _ _ _ (λ before after gain. GainsPrefix-longer c.bytes.result.now (message_of (asked c.args.command) outcome) before after (vector_behind outcome, whole) gain) c.in_err-put.ensures.bytes;
      cause = record { later = c.in_err-put.ensures.cause.later; failed = c.in_err-put.ensures.cause.failed };
    })

pub returns : goal.returns
returns g c =
    let outcome = c.args.outcome.now in
    let line : c.bytes.result.now ≡ words_of outcome ++ codes "\n" = c.bytes.ensures.value ∙ c.push_text.ensures.held ∙ ap (λ l. l ++ codes "\n") c.push_message.ensures.held in
    let whole : message_of (asked c.args.command) outcome ≡ c.bytes.result.now ++ vector_behind outcome =
    message_is (asked c.args.command) outcome c.requires c.in_default.not-Store ∙ ap (λ l. l ++ vector_behind outcome) (sym line) in
    record {
      bytes = Tells-then (g.Er.Sink.held c.args.err.now) (g.Er.Sink.held c.put.new.self) (g.Er.Sink.held c.put_vector.new.err) (λ x y. y ≡ x ++ c.bytes.result.now) (Puts c.put_vector.result (vector_behind outcome)) (Puts c.put_vector.result (message_of (asked c.args.command) outcome))
          (λ x y z first then. subst (λ (text : List ℕ). Puts c.put_vector.result text x z) (sym whole) (puts_behind c.put_vector.result c.bytes.result.now (vector_behind outcome) x y z first then))
          c.in_ok-put.ensures.bytes c.put_vector.ensures.bytes;
      cause = cause_within c.put_vector.result (g.Er.Sink.faults c.args.err.now) (g.Er.Sink.faults c.put.new.self) (g.Er.Sink.faults c.put_vector.new.err) c.in_ok-put.ensures.cause.later c.put_vector.ensures.cause;
    }
