-- The periods of a demonstration, one after the other.
use Rattle.std.proofs.Common.{◌≡◌, ℕ, ◌+◌, ◌^◌, max, List, [], ◌∷◌, ◌++◌, length, arith, refl, sym, ◌∙◌, ap, subst, append-nil, length-append}
use Rattle.std.specs.List.{flat_map}
use Rattle.std.proofs.lemmas.List.Concat.{flat_map-append}
use Rattle.rand_pcg.specs.Lcg.{Lcg}
use Rattle.mp_model.specs.Network.{Network, entry}
use Rattle.mp_model.specs.Step.{State, step}
use Rattle.mp_model.specs.Arrivals.{arrivals_of}
use Rattle.mp_model.specs.Run.{opening, advance, greatest_stages, run_from, state_after}
use Rattle.mp_step.specs.Standing.{Standing, Stands}
use Rattle.mp_step.specs.Taken.{HasTaken}
use Rattle.mp_model.specs.Load.{greatest as greatest_of}
use Rattle.mp_gen.specs.DemoNetwork.{demo_network}
use Rattle.mp_gen.specs.DemoArrivals.{seeded, AreDrawn}
use Rattle.mp_gen.specs.Demonstration.{greatest_queue, Demonstrated, ClosesNext}
use Rattle.mp_gen.proofs.Greatests.{greatest-append}
use Rattle.mp_gen.proofs.Roads.{none_at_start}
use Rattle.mp_gen.proofs.Draws.{drawn_more}

-- a period with the greatest stages of the queues before it is one of the run
pub advances : (net : Network) (old new : Standing) (stages counts : List ℕ) → stages ≡ greatest_stages net (entry old.queues) → ((state : State) → Stands net old state → Stands net new (step net stages (arrivals_of net counts) state))
    → (state : State) → Stands net old state → Stands net new (advance net counts state)
advances net old new stages counts are steps state stands =
    subst (λ (ss : List ℕ). Stands net new (step net ss (arrivals_of net counts) state)) (are ∙ ap (λ (qs : List ℕ). greatest_stages net (entry qs)) stands.queues) (steps state stands)

-- in the middle of a demonstration: so many periods were drawn and closed, the run stands after them, and this is its greatest queue
pub record Shown (net : Network) (n : ℕ) (at : Standing) (words : Lcg) (turns greatest : ℕ) : Type 0 where
  pub arrivals : List (List ℕ)
  pub periods : length arrivals ≡ turns
  pub drawn : AreDrawn net [] (seeded n) arrivals words
  pub taken : HasTaken net at arrivals
  pub stands : Stands net at (state_after net (opening net) arrivals)
  pub greatest_is : greatest ≡ greatest_queue net arrivals

pub shown_start : (net : Network) (n : ℕ) (at : Standing) (words : Lcg) → net ≡ demo_network n → Stands net at (opening net) → HasTaken net at [] → words ≡ seeded n → Shown net n at words 0 0
shown_start net n at words demo stands taken is =
    record { arrivals = []; periods = refl; drawn = is; taken = taken; stands = stands; greatest_is = subst (λ (m : Network). 0 ≡ greatest_queue m []) (sym demo) (none_at_start n) }

-- one more period of a run
run_more : (net : Network) (state : State) (A : List (List ℕ)) (counts : List ℕ) → run_from net state (A ++ counts ∷ []) ≡ run_from net state A ++ advance net counts (state_after net state A) ∷ []
run_more net state [] counts = refl
run_more net state (a ∷ A) counts = ap (λ (states : List State). state ∷ states) (run_more net (advance net a state) A counts)

state_more : (net : Network) (state : State) (A : List (List ℕ)) (counts : List ℕ) → state_after net state (A ++ counts ∷ []) ≡ advance net counts (state_after net state A)
state_more net state [] counts = refl
state_more net state (a ∷ A) counts = state_more net (advance net a state) A counts

abbrev queues_of : State → List ℕ
queues_of state = state.queues

greatest_more : (net : Network) (A : List (List ℕ)) (counts : List ℕ) → greatest_queue net (A ++ counts ∷ []) ≡ max (greatest_of (advance net counts (state_after net (opening net) A)).queues) (greatest_queue net A)
greatest_more net A counts =
    let last : State = advance net counts (state_after net (opening net) A) in
    let all : List ℕ = flat_map queues_of (run_from net (opening net) A) in
    let e : greatest_queue net (A ++ counts ∷ []) ≡ greatest_of (all ++ last.queues) =
    ap (λ (states : List State). greatest_of (flat_map queues_of states)) (run_more net (opening net) A counts)
    ∙ ap greatest_of (flat_map-append queues_of (run_from net (opening net) A) (last ∷ [])) ∙ ap (λ (qs : List ℕ). greatest_of (all ++ qs)) (append-nil last.queues) in
    omega (arith, e, greatest-append all last.queues)

pub shown_more : (net : Network) (n : ℕ) (old new : Standing) (words left : Lcg) (turns turns' greatest greatest' : ℕ) → Shown net n old words turns greatest → ClosesNext net old new words left → turns' ≡ turns + 1
    → greatest' ≡ max (greatest_of new.queues) greatest → Shown net n new left turns' greatest'
shown_more net n old new words left turns turns' greatest greatest' shown closes one now =
    let A : List (List ℕ) = shown.arrivals in
    let stands : Stands net new (advance net closes.counts (state_after net (opening net) A)) = closes.step (state_after net (opening net) A) shown.stands in
    record {
      arrivals = A ++ closes.counts ∷ [];
      periods = length-append A (closes.counts ∷ []) ∙ ap (λ t. t + 1) shown.periods ∙ sym one;
      drawn = drawn_more net (seeded n) A words closes.counts left shown.drawn (closes.drawn A shown.taken);
      taken = closes.taken A shown.taken;
      stands = subst (Stands net new) (sym (state_more net (opening net) A closes.counts)) stands;
      greatest_is = now ∙ ap (λ (qs : List ℕ). max (greatest_of qs) greatest) stands.queues
          ∙ ap (λ g. max (greatest_of (advance net closes.counts (state_after net (opening net) A)).queues) g) shown.greatest_is ∙ sym (greatest_more net A closes.counts);
    }

pub shown_end : (net : Network) (n : ℕ) (at : Standing) (words : Lcg) (turns greatest : ℕ) → net ≡ demo_network n → turns ≡ 2 ^ 20 → Shown net n at words turns greatest → Demonstrated net n at greatest
shown_end net n at words turns greatest is all shown = record {
  arrivals = shown.arrivals;
  periods = shown.periods ∙ all;
  drawn = (words, subst (λ (m : Network). AreDrawn m [] (seeded n) shown.arrivals words) is shown.drawn);
  permitted = shown.taken.permitted;
  stands = shown.stands;
  greatest_is = shown.greatest_is;
}
