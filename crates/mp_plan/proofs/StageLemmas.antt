-- Which stage runs, green by green.
use Rattle.std.proofs.Common.{◌≡◌, ℕ, zero, suc, ◌+◌, ◌-◌, ◌≤◌, ◌<◌, cond, List, [], ◌∷◌, length, get_or, drop, nat_lt, arith, refl, sym, ◌∙◌, ap, add-one, drop-cons}
use Rattle.std.proofs.lemmas.Bool.{lt-ltb, le-ltb}
use Rattle.mp_model.specs.Plans.{running_from}

abbrev pub StillRuns : List ℕ → ℕ → ℕ → ℕ → Type 0
StillRuns greens n i left = running_from (i + 1) (drop i greens) left ≡ running_from 1 greens n

pub runs_start : (greens : List ℕ) (n : ℕ) → StillRuns greens n 0 n
runs_start greens n = refl

split : (greens : List ℕ) (i left : ℕ) → i < length greens → running_from (i + 1) (drop i greens) left ≡ cond (nat_lt left (get_or greens i 0)) (i + 1) (running_from (i + 1 + 1) (drop (i + 1) greens) (left - get_or greens i 0))
split greens i left lt =
    ap (λ gs. running_from (i + 1) gs left) (drop-cons greens i 0 lt)
    ∙ ap (λ m. cond (nat_lt left (get_or greens i 0)) (i + 1) (running_from (i + 1 + 1) (drop m greens) (left - get_or greens i 0))) (sym (add-one i))

pub runs_found : (greens : List ℕ) (n i left : ℕ) → i < length greens → StillRuns greens n i left → left < get_or greens i 0 → i + 1 ≡ running_from 1 greens n
runs_found greens n i left lt still less =
    sym (ap (λ b. cond b (i + 1) (running_from (i + 1 + 1) (drop (i + 1) greens) (left - get_or greens i 0))) (lt-ltb left (get_or greens i 0) less)) ∙ sym (split greens i left lt) ∙ still

pub runs_more : (greens : List ℕ) (n i left rest : ℕ) → i < length greens → StillRuns greens n i left → get_or greens i 0 ≤ left → rest ≡ left - get_or greens i 0 → StillRuns greens n (i + 1) rest
runs_more greens n i left rest lt still more is =
    ap (running_from (i + 1 + 1) (drop (i + 1) greens)) is
    ∙ sym (ap (λ b. cond b (i + 1) (running_from (i + 1 + 1) (drop (i + 1) greens) (left - get_or greens i 0))) (le-ltb left (get_or greens i 0) more)) ∙ sym (split greens i left lt) ∙ still

none_left : (s : ℕ) (greens : List ℕ) (i left : ℕ) → length greens ≤ i → running_from s (drop i greens) left ≡ 0
none_left s [] zero left past = refl
none_left s [] (suc i) left past = refl
none_left s (g ∷ gs) zero left past = absurd (omega arith)
none_left s (g ∷ gs) (suc i) left past = none_left s gs i left (omega arith)

pub runs_end : (greens : List ℕ) (n i left : ℕ) → length greens ≤ i → StillRuns greens n i left → 0 ≡ running_from 1 greens n
runs_end greens n i left past still = sym (none_left (i + 1) greens i left past) ∙ still

pub ruleset stages = (runs_start, runs_found, runs_more, runs_end)
