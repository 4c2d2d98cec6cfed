use Rattle.std.proofs.Common.{ℕ, List, ◌∷◌, ◌∙◌, ap}
use Rattle.mp_log.proofs.KindLemmas.{many_words}
use Rattle.mp_log.proofs.event_line.read_words.Goals as goal

pub returns-in-Some-first_word-2-clause-kind : goal.returns-in-Some-first_word-2-clause-kind
returns-in-Some-first_word-2-clause-kind c =
    let words = c.in-Some-first_word-2.field-0 in
    many_words c.args.net.now c.args.line.now c.in-Some.word.now c.in-Some-first_word.junction.now words.0.now words.1.now
    (c.in-Some.ensures ∙ ap (λ (ws : List (List ℕ)). c.in-Some.word.now ∷ ws) (c.in-Some-first_word.ensures ∙ ap (λ (ws : List (List ℕ)). c.in-Some-first_word.junction.now ∷ ws) (c.in-Some-first_word-2.ensures)))
