-- Vectors from their texts: their numbers, whether all are 0, and what their sums show.
use Rattle.std.proofs.Common.{◌≡◌, ◌≤◌, ◌<◌, ◌-◌, ◌*◌, ℕ, zero, suc, ℤ, pos, negsuc, Bool, true, false, List, [], ◌∷◌, length, map, sum_by, codes, unsigned_abs, inl, inr, refl, sym, ◌∙◌, ap, subst, arith, if◌then◌else◌, ◌↔◌, IsTrue}
use Rattle.std.specs.Prelude.{slice_index, int_lt}
use Rattle.std.specs.List.{AllByRecursion}
use Rattle.std.proofs.lemmas.Int.{ints}
use Rattle.std.proofs.lemmas.List.{length-map}
use Rattle.std.proofs.lemmas.List.Elements.{recursion_from_All, All-from_recursion}
use Rattle.mp_laws.proofs.Lists.{all_of}
use Rattle.mp_laws.proofs.Sums.{sum_by-same_at, sum_by-zero, terms_le}
use Rattle.mp_laws.proofs.Tied.{overload, tight}
use Rattle.mp_press.proofs.Writes.{numbers_by_all}
use Rattle.mp_model.specs.Load.{IsVector, ShowsOverload, IsTight, load, capacity}
use Rattle.mp_model.specs.Network.{Network, movement_numbers, entry}
use Rattle.mp_model.specs.NetworkRules.{IsNetwork}
use Rattle.mp_cert.specs.declared.types.Weighed.{Weighed}
use Rattle.mp_cli.specs.Outcomes.{word_of}
use Rattle.mp_cli.specs.declared.outcome.Outcome.{Outcome}
use Rattle.mp_cli.specs.Ports.{Ports, Answers}
use Rattle.mp_cli.specs.Refuting.{IsZero, IsWeak, SpeaksAgainst, sums_line}
use Rattle.mp_press.specs.Queues.{naturals}

at_place : (p : List ℤ) → AllByRecursion (λ n. n ≡ pos 0) p → (i : ℕ) → slice_index (naturals p) i ≡ 0
at_place [] zeros i = refl
at_place (n ∷ p) zeros zero = ap unsigned_abs zeros.0
at_place (n ∷ p) zeros (suc i) = at_place p zeros.1 i

-- each entry of zeros is 0, and so they sum to 0
pub no_sum : (net : Network) (p : List ℤ) → IsZero p → sum_by (entry (naturals p)) (movement_numbers net) ≡ 0
no_sum net p zeros =
    sum_by-same_at (entry (naturals p)) (λ k. 0) (movement_numbers net)
    (all_of (λ k. entry (naturals p) k ≡ 0) (λ k. at_place p (recursion_from_All (λ n. n ≡ pos 0) p zeros) (k - 1)) (movement_numbers net)) ∙ sum_by-zero (movement_numbers net)

all_map : (f : ℕ → ℕ) (most : ℕ) (ks : List ℕ) → AllByRecursion (λ k. f k ≤ most) ks → AllByRecursion (λ x. x ≤ most) (map f ks)
all_map f most [] all = tt
all_map f most (k ∷ ks) all = (all.0, all_map f most ks all.1)

zeros_of : (p : List ℤ) → AllByRecursion (λ x. x ≤ 0) (naturals p) → AllByRecursion (λ n. n ≡ pos 0) p
zeros_of [] all = tt
zeros_of (pos zero ∷ p) all = (refl, zeros_of p all.1)
zeros_of (pos (suc n) ∷ p) all = absurd (let h : suc n ≤ 0 = all.0 in omega (arith, h))
zeros_of (negsuc n ∷ p) all = absurd (let h : suc n ≤ 0 = all.0 in omega (arith, h))

-- numbers that sum to 0 are zeros
zero_sum : (net : Network) (p : List ℤ) → length p ≡ length net.movements → sum_by (entry (naturals p)) (movement_numbers net) ≡ 0 → IsZero p
zero_sum net p size none =
    let ns = naturals p in
    let parts : ns ≡ map (entry ns) (movement_numbers net) = numbers_by_all (entry ns) ns (length net.movements) (length-map p unsigned_abs ∙ size) (λ k low high. refl) in
    let terms = subst (λ most. AllByRecursion (λ k. entry ns k ≤ most) (movement_numbers net)) none (terms_le (entry ns) (movement_numbers net)) in
    All-from_recursion (λ n. n ≡ pos 0) p (zeros_of p (subst (λ (xs : List ℕ). AllByRecursion (λ x. x ≤ 0) xs) (sym parts) (all_map (entry ns) 0 (movement_numbers net) terms)))

-- numbers of which not all are 0 are a vector against the network
pub is_vector : (net : Network) (p : List ℤ) → length p ≡ length net.movements → (IsZero p → ⊥) → IsVector net (naturals p)
is_vector net p size some =
    record {
      lengths = length-map p unsigned_abs ∙ size;
      some = from (sum_by (entry (naturals p)) (movement_numbers net)) refl;
    }
  where
    from : (total : ℕ) → sum_by (entry (naturals p)) (movement_numbers net) ≡ total → 1 ≤ total
    from zero none = absurd (some (zero_sum net p size none))
    from (suc n) is = omega arith

-- a test says what is so, and where it fails what is not
pub is_zeros : (b : Bool) (p q : List ℤ) → b ≡ true → (IsTrue b ↔ IsZero q) → q ≡ p → IsZero p
is_zeros b p q holds tells same = subst IsZero same (tells.0 holds)

pub not_zero : (b : Bool) (p q : List ℤ) → b ≡ false → (IsTrue b ↔ IsZero q) → q ≡ p → IsZero p → ⊥
not_zero b p q fails tells same zeros = let no = tells.1 (subst IsZero (sym same) zeros) in (let wrong = sym no ∙ fails in cc)

-- the sums of a vector
abbrev brought : Network → List ℤ → ℕ
brought net p = load net (entry (naturals p))

abbrev served : Network → List ℤ → ℕ
served net p = net.per * capacity net (entry (naturals p))

below_from : (m n : ℕ) → int_lt (pos m) (pos n) ≡ true → m < n
below_from m n is = grind (arith, ints)

above_from : (m n : ℕ) → int_lt (pos m) (pos n) ≡ false → n ≤ m
above_from m n is = grind (arith, ints)

-- a vector whose load is below what is served is weak
pub is_weak : (net : Network) (p : List ℤ) (sums : Weighed) → IsVector net (naturals p) → sums.load ≡ pos (brought net p) → sums.served ≡ pos (served net p) → int_lt sums.load sums.served ≡ true → IsWeak net p
is_weak net p sums vector loads serves less =
    record { vector = vector; below = below_from (brought net p) (served net p) (sym (ap (λ x. int_lt x sums.served) loads ∙ ap (λ y. int_lt (pos (brought net p)) y) serves) ∙ less) }

line_is : (word : List ℕ) (net : Network) (p : List ℤ) (sums : Weighed) → word_of sums ≡ word → sums.load ≡ pos (brought net p) → sums.served ≡ pos (served net p)
    → sums_line (word_of sums) (unsigned_abs sums.load) (unsigned_abs sums.served) ≡ sums_line word (brought net p) (served net p)
line_is word net p sums named loads serves =
    ap (λ w. sums_line w (unsigned_abs sums.load) (unsigned_abs sums.served)) named ∙ ap (λ x. sums_line word (unsigned_abs x) (unsigned_abs sums.served)) loads ∙ ap (λ y. sums_line word (brought net p) (unsigned_abs y)) serves

-- a vector whose load is at least what is served speaks against the network, and is told as it does
pub refuting : (net : Network) (p : List ℤ) (sums : Weighed) (outcome : Outcome) (ports : Ports) → IsNetwork net → IsVector net (naturals p) → sums.load ≡ pos (brought net p) → sums.served ≡ pos (served net p) → int_lt sums.load sums.served ≡ false
    → Answers outcome ports (sums_line (word_of sums) (unsigned_abs sums.load) (unsigned_abs sums.served)) → SpeaksAgainst outcome net ports (naturals p)
refuting net p sums outcome ports network vector loads serves most answers = by (int_lt sums.served sums.load) refl
  where
    in_numbers : int_lt sums.served sums.load ≡ int_lt (pos (served net p)) (pos (brought net p))
    in_numbers = ap (λ x. int_lt x sums.load) serves ∙ ap (λ y. int_lt (pos (served net p)) y) loads

    at_least : served net p ≤ brought net p
    at_least = above_from (brought net p) (served net p) (sym (ap (λ x. int_lt x sums.served) loads ∙ ap (λ y. int_lt (pos (brought net p)) y) serves) ∙ most)

    by : (above : Bool) → int_lt sums.served sums.load ≡ above → SpeaksAgainst outcome net ports (naturals p)
    by true is =
        let shows : ShowsOverload net (naturals p) = record { vector = vector; above = below_from (served net p) (brought net p) (sym in_numbers ∙ is) } in
        let named : word_of sums ≡ codes "overloaded" = ap (λ (b : Bool). if b then codes "overloaded" else codes "tight") is in
        inl (record { shows = shows; none = overload net network (naturals p, shows); answers = subst (Answers outcome ports) (line_is (codes "overloaded") net p sums named loads serves) answers })
    by false is =
        let most_served : brought net p ≤ served net p = above_from (served net p) (brought net p) (sym in_numbers ∙ is) in
        let even : IsTight net (naturals p) = record { vector = vector; equal = omega (arith, at_least, most_served) } in
        let named : word_of sums ≡ codes "tight" = ap (λ (b : Bool). if b then codes "overloaded" else codes "tight") is in
        inr (record { tight = even; none = tight net network (naturals p) even; answers = subst (Answers outcome ports) (line_is (codes "tight") net p sums named loads serves) answers })
