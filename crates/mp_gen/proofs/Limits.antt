-- No queue of a demonstration is above the greatest bound.
use Rattle.std.proofs.Common.{◌≡◌, ◌≤◌, ℕ, ◌-◌, List, [], ◌∷◌, length, pos, unsigned_abs, arith, ◌∙◌, ap}
use Rattle.std.specs.List.{AllByRecursion, flat_map}
use Rattle.std.proofs.lemmas.Simd.{map-map}
use Rattle.std.proofs.lemmas.List.{map-id}
use Rattle.std.proofs.lemmas.List.FromFn.{length-map-range_with_len}
use Rattle.mp_model.specs.Network.{Network, movement_numbers, start_of, entry}
use Rattle.mp_model.specs.Step.{State, queue}
use Rattle.mp_model.specs.Run.{opening, advance, run_from}
use Rattle.mp_laws.proofs.Lists.{AllOf-map, at_index, from_numbers}
use Rattle.mp_laws.proofs.Permitted.{bound_of_run}
use Rattle.mp_press.specs.Queues.{naturals}
use Rattle.mp_step.specs.Standing.{Standing}
use Rattle.mp_num.specs.Fraction.{numerator, denominator}
use Rattle.mp_session.specs.SessionView.{SessionView, IsBounded}
use Rattle.mp_model.specs.Load.{greatest as greatest_of}
use Rattle.mp_gen.specs.Demonstration.{Demonstrated}
use Rattle.mp_gen.proofs.Greatests.{none_above, greatest-append}

greatest_below : (xs : List ℕ) (b : ℕ) → AllByRecursion (λ x. x ≤ b) xs → greatest_of xs ≤ b
greatest_below [] b h = omega arith
greatest_below (x ∷ xs) b h = omega (arith, h.0, greatest_below xs b h.1)

-- the queues of a state are within the bounds of their movements
abbrev IsLow : Network → List ℕ → State → Type 0
IsLow net bounds state = AllByRecursion (λ k. queue state k ≤ entry bounds k) (movement_numbers net)

entry_below : (xs : List ℕ) (k : ℕ) → entry xs k ≤ greatest_of xs
entry_below xs k = at_index (λ x. x ≤ greatest_of xs) 0 xs (k - 1) (none_above xs) (omega arith)

state_below : (net : Network) (bounds : List ℕ) (state : State) → length state.queues ≡ length net.movements → IsLow net bounds state → greatest_of state.queues ≤ greatest_of bounds
state_below net bounds state size low =
    greatest_below state.queues (greatest_of bounds)
    (from_numbers (λ x. x ≤ greatest_of bounds) 0 (length net.movements) state.queues (omega arith)
    (AllOf-map (λ k. queue state k ≤ entry bounds k) (λ k. queue state k ≤ greatest_of bounds) (λ k h. omega (arith, h, entry_below bounds k)) (movement_numbers net) low))

states_below : (net : Network) (bounds : List ℕ) (state : State) (A : List (List ℕ)) → length state.queues ≡ length net.movements → AllByRecursion (IsLow net bounds) (run_from net state A)
    → greatest_of (flat_map (λ (state : State). state.queues) (run_from net state A)) ≤ greatest_of bounds
states_below net bounds state [] size low = omega (arith, greatest-append state.queues [], state_below net bounds state size low.0)
states_below net bounds state (counts ∷ A) size low =
    omega (
      arith,
      greatest-append state.queues (flat_map (λ (state : State). state.queues) (run_from net (advance net counts state) A)),
      state_below net bounds state size low.0,
      states_below net bounds (advance net counts state) A (length-map-range_with_len _ 1 (length net.movements)) low.1,
    )

-- the greatest queue of a demonstration is at most the greatest bound
pub demonstrated_below : (s : SessionView) → IsBounded s → (n : ℕ) (at : Standing) (greatest : ℕ) → Demonstrated s.net n at greatest → greatest ≤ greatest_of (naturals s.bounds)
demonstrated_below s b n at greatest shown =
    let low = bound_of_run s.net b.acceptable.network b.certified.0 b.certified.1 (numerator s.slack) (denominator s.slack) b.certified.2 b.bounds.bounds b.bounds.are shown.arrivals shown.permitted in
    let bounds : naturals s.bounds ≡ b.bounds.bounds = ap naturals b.bounds.listed ∙ map-map unsigned_abs pos b.bounds.bounds ∙ map-id b.bounds.bounds in
    let most = states_below s.net b.bounds.bounds (opening s.net) shown.arrivals (length-map-range_with_len (start_of s.net) 1 (length s.net.movements)) low in
    omega (arith, shown.greatest_is, most, ap greatest_of bounds)
