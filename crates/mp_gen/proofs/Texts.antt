-- The text of a demonstration, from what it shows.
use Rattle.std.proofs.Common.{◌≡◌, ℕ, ◌+◌, ◌-◌, List, [], ◌∷◌, ◌++◌, length, sum, sum_by, refl, sym, ◌∙◌, ap, subst, arith, codes, decimal}
use Rattle.std.specs.List.{range_with_len, flat_map}
use Rattle.std.proofs.lemmas.List.{append-nil, append_assoc, length-append, get_or_at}
use Rattle.std.proofs.lemmas.List.Sums.{sum_by-cons}
use Rattle.mp_model.specs.Network.{Network, movement_numbers, entry}
use Rattle.mp_model.specs.Step.{State, queued}
use Rattle.mp_model.specs.Run.{opening, state_after}
use Rattle.mp_step.specs.Standing.{Standing, IsOn, Stands}
use Rattle.mp_model.specs.Load.{greatest as greatest_of}
use Rattle.mp_gen.specs.Demonstration.{Demonstrated}
use Rattle.mp_gen.specs.DemoText.{demo_text, demo_summary}

-- the pieces of six lines, one after the other, where nl ends a line
glued : (nl first n slack e over d bound b periods in' i out o rest q greatest g : List ℕ) →
    (((((((((((((((first ++ n) ++ (nl ++ slack)) ++ e) ++ over) ++ d) ++ (nl ++ bound)) ++ b) ++ (nl ++ (periods ++ (nl ++ in')))) ++ i) ++ out) ++ o) ++ rest) ++ q) ++ (nl ++ greatest)) ++ g) ++ nl
    ≡ flat_map (λ line. line ++ nl) ((first ++ n) ∷ (((slack ++ e) ++ over) ++ d) ∷ (bound ++ b) ∷ periods ∷ (((((in' ++ i) ++ out) ++ o) ++ rest) ++ q) ∷ (greatest ++ g) ∷ [])
glued nl first n slack e over d bound b periods in' i out o rest q greatest g = simp (append_assoc, append-nil)

-- the pieces of the text, one after the other
abbrev pub pieces : ℕ → ℕ → ℕ → ℕ → ℕ → ℕ → ℕ → ℕ → List ℕ
pieces n E D bound total_in total_out rest greatest =
    (((((((((((((((codes "demo " ++ decimal n) ++ codes "\nslack ") ++ decimal E) ++ codes "/") ++ decimal D) ++ codes "\nbound ") ++ decimal bound) ++ codes "\nperiods 1048576\nin ") ++ decimal total_in) ++ codes " out ") ++ decimal total_out) ++ codes " queued ") ++ decimal rest) ++ codes "\ngreatest ") ++ decimal greatest) ++ codes "\n"

pub text_is : (n E D bound total_in total_out rest greatest : ℕ) → pieces n E D bound total_in total_out rest greatest ≡ demo_text n E D bound total_in total_out rest greatest
text_is n E D bound total_in total_out rest greatest =
    glued (10 ∷ []) (codes "demo ") (decimal n) (codes "slack ") (decimal E) (codes "/") (decimal D) (codes "bound ") (decimal bound) (codes "periods 1048576") (codes "in ") (decimal total_in) (codes " out ") (decimal total_out) (codes " queued ") (decimal rest) (codes "greatest ") (decimal greatest)

-- the same text by other names of its numbers
pub same_text : (n e E d D bound most i total_in o total_out q rest greatest : ℕ) → e ≡ E → d ≡ D → bound ≡ most → i ≡ total_in → o ≡ total_out → q ≡ rest → demo_text n e d bound i o q greatest ≡ demo_text n E D most total_in total_out rest greatest
same_text n e E d D bound most i total_in o total_out q rest greatest he hd hb hi ho hq =
    ap (λ x. demo_text n x d bound i o q greatest) he ∙ ap (λ x. demo_text n E x bound i o q greatest) hd ∙ ap (λ x. demo_text n E D x i o q greatest) hb
    ∙ ap (λ x. demo_text n E D most x o q greatest) hi ∙ ap (λ x. demo_text n E D most total_in x q greatest) ho ∙ ap (λ x. demo_text n E D most total_in total_out x greatest) hq

-- the entries of a list, by their numbers
sum_by_numbers : (q front : List ℕ) (n : ℕ) → n ≡ length front + 1 → sum_by (entry (front ++ q)) (range_with_len n (length q)) ≡ sum q
sum_by_numbers [] front n is = refl
sum_by_numbers (x ∷ q) front n is =
    let here : entry (front ++ x ∷ q) n ≡ x = get_or_at front x q 0 (n - 1) (omega arith) in
    let rest : sum_by (entry ((front ++ x ∷ []) ++ q)) (range_with_len (n + 1) (length q)) ≡ sum q =
    sum_by_numbers q (front ++ x ∷ []) (n + 1) (omega (arith, length-append front (x ∷ []))) in
    let later : sum_by (entry (front ++ x ∷ q)) (range_with_len (n + 1) (length q)) ≡ sum q = subst (λ xs. sum_by (entry xs) (range_with_len (n + 1) (length q)) ≡ sum q) (append_assoc front (x ∷ []) q) rest in
    sum_by-cons (entry (front ++ x ∷ q)) n (range_with_len (n + 1) (length q)) ∙ ap (λ a. a + sum_by (entry (front ++ x ∷ q)) (range_with_len (n + 1) (length q))) here ∙ ap (λ b. x + b) later ∙ sym (sum_by-cons (λ y. y) x q)

-- what is queued is the sum of the queues
queued_is : (net : Network) (at : Standing) (state : State) → IsOn net at → Stands net at state → queued net state ≡ sum at.queues
queued_is net at state on stands =
    ap (λ q. sum_by (entry q) (movement_numbers net)) (sym stands.queues)
    ∙ ap (λ n. sum_by (entry at.queues) (range_with_len 1 n)) (sym on.queues) ∙ sum_by_numbers at.queues [] 1 refl

-- what is shown is the run over the arrivals
pub summary_is : (n : ℕ) (net : Network) (E D : ℕ) (bounds : List ℕ) (at : Standing) (greatest : ℕ) → IsOn net at → (shown : Demonstrated net n at greatest) →
    demo_text n E D (greatest_of bounds) at.total_in at.total_out (sum at.queues) greatest ≡ demo_summary n net E D bounds shown.arrivals
summary_is n net E D bounds at greatest on shown =
    let state : State = state_after net (opening net) shown.arrivals in
    let bound : ℕ = greatest_of bounds in
    ap (λ i. demo_text n E D bound i at.total_out (sum at.queues) greatest) shown.stands.total_in
    ∙ ap (λ o. demo_text n E D bound state.total_in o (sum at.queues) greatest) shown.stands.total_out
    ∙ ap (λ q. demo_text n E D bound state.total_in state.total_out q greatest) (sym (queued_is net at state on shown.stands))
    ∙ ap (λ g. demo_text n E D bound state.total_in state.total_out (queued net state) g) shown.greatest_is
