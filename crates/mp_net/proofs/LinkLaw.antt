-- What the rules on links say of a network.
use Rattle.std.proofs.Common.{◌≡◌, ◌==◌, ◌&&◌, ℕ, ◌≤◌, Bool, true, false, not, nat_le, length, Option, Some, None, IfSome, List, [], ◌∷◌, sum_by, refl, sym, inl, inr, arith}
use Rattle.std.specs.List.{AllByRecursion, list_any, find, filter}
use Rattle.std.proofs.lemmas.List.Sums.{sum_by-cons}
use Rattle.std.proofs.lemmas.Bool.{false≢true, and_parts, cases_Bool}
use Rattle.std.proofs.lemmas.Bool.Decides.{nat_tests}
use Rattle.mp_model.specs.Network.{Network, from_of, to_of, share_of, out_of, link_at, is_fed, fed, movement_numbers, link_numbers, has}
use Rattle.mp_model.specs.WayOut.{HasWayOut}
use Rattle.mp_net.specs.LinkRules.{link_is_there, goes_nowhere, names_unknown_link, unknown_link, has_movement, has_bad_shares, bad_shares, no_movement_out, no_fed_link}
use Rattle.mp_net.specs.WayRules.{has_way_out, no_way_out}
use Rattle.mp_net.specs.Marks.{HasItsLinks}
use Rattle.mp_net.proofs.Broken.{no_spot, spot_none}
use Rattle.mp_net.proofs.Lists.{none_passes, nothing_found, passing, all_each, each_all, in_range, of_range, of_filter, or_none}
use Rattle.mp_net.proofs.Ways.{chain_from_way, way_from_chain}

pub not_false : (b : Bool) → not b ≡ false → b ≡ true
not_false true h = refl
not_false false h = sym h

is_link : (net : Network) (l : ℕ) → link_is_there net l ≡ true → has (link_numbers net) l ≡ true
is_link net l h = let p = and_parts (nat_le 1 l) (nat_le l (length net.links)) h in of_range 1 (length net.links) l (grind (arith, nat_tests)) (grind (arith, nat_tests))

of_link : (net : Network) (l : ℕ) → has (link_numbers net) l ≡ true → link_is_there net l ≡ true
of_link net l h = let r = in_range 1 (length net.links) l h in let low : 1 ≤ l = r.0 in let high : l ≤ length net.links = omega (arith, r.1) in grind (arith, nat_tests)

is_target : (net : Network) (to : Option ℕ) → goes_nowhere net to ≡ false → IfSome to (λ l. has (link_numbers net) l ≡ true)
is_target net None h = tt
is_target net (Some l) h = is_link net l (not_false (link_is_there net l) h)

of_target : (net : Network) (to : Option ℕ) → IfSome to (λ l. has (link_numbers net) l ≡ true) → goes_nowhere net to ≡ false
of_target net None h = refl
of_target net (Some l) h = rw (of_link net l h)

-- ---- links that movements name

known : (net : Network) (k : ℕ) → unknown_link net ≡ None → has (movement_numbers net) k ≡ true → (not (link_is_there net (from_of net k)) ≡ false) × (goes_nowhere net (to_of net k) ≡ false)
known net k none h = or_none _ _ (none_passes (names_unknown_link net) (movement_numbers net) k (no_spot false None (find (names_unknown_link net) (movement_numbers net)) None none).2 h)

pub its_links : (net : Network) → unknown_link net ≡ None → HasItsLinks net
its_links net none = record {
  from = each_all (λ k. has (link_numbers net) (from_of net k) ≡ true) (movement_numbers net) (λ k h. is_link net (from_of net k) (not_false _ (known net k none h).0));
  to = each_all (λ k. IfSome (to_of net k) (λ l. has (link_numbers net) l ≡ true)) (movement_numbers net) (λ k h. is_target net (to_of net k) (known net k none h).1);
}

pub no_unknown : (net : Network) → HasItsLinks net → unknown_link net ≡ None
no_unknown net there =
    spot_none false None (find (names_unknown_link net) (movement_numbers net)) None refl refl
    (nothing_found (names_unknown_link net) (movement_numbers net) (λ k h.
    let from = all_each (λ i. has (link_numbers net) (from_of net i) ≡ true) (movement_numbers net) k there.from h in
    let to = all_each (λ i. IfSome (to_of net i) (λ l. has (link_numbers net) l ≡ true)) (movement_numbers net) k there.to h in
    rw (of_link net (from_of net k) from, of_target net (to_of net k) to)))
    refl

-- ---- shares

-- each link has shares that sum to the total
abbrev pub IsSplit : Network → Type 0
IsSplit net = AllByRecursion (λ l. sum_by (share_of net) (out_of net l) ≡ net.shares) (link_numbers net)

right_sum : (b : Bool) (m n : ℕ) → b ≡ true → (b && not (m == n)) ≡ false → m ≡ n
right_sum true m n some h = let e : (m == n) ≡ true = not_false (m == n) h in grind (arith, nat_tests)
right_sum false m n some h = absurd (false≢true some)

pub its_split : (net : Network) → bad_shares net ≡ None → no_movement_out net ≡ None → IsSplit net
its_split net none some =
    each_all (λ l. sum_by (share_of net) (out_of net l) ≡ net.shares) (link_numbers net) (λ l h.
    right_sum (has_movement net l) (sum_by (share_of net) (out_of net l)) net.shares
    (not_false _ (none_passes (λ m. not (has_movement net m)) (link_numbers net) l (no_spot false (find (λ m. not (has_movement net m)) (link_numbers net)) None None some).1 h))
    (none_passes (has_bad_shares net) (link_numbers net) l (no_spot false (find (has_bad_shares net) (link_numbers net)) None None none).1 h))

wrong_sum : (b : Bool) (m n : ℕ) → m ≡ n → (b && not (m == n)) ≡ false
wrong_sum true m n e = let t : (m == n) ≡ true = grind (arith, nat_tests) in rw t
wrong_sum false m n e = refl

pub no_bad_shares : (net : Network) → IsSplit net → bad_shares net ≡ None
no_bad_shares net split =
    spot_none false (find (has_bad_shares net) (link_numbers net)) None None refl
    (nothing_found (has_bad_shares net) (link_numbers net) (λ l h.
    wrong_sum (has_movement net l) (sum_by (share_of net) (out_of net l)) net.shares (all_each (λ m. sum_by (share_of net) (out_of net m) ≡ net.shares) (link_numbers net) l split h)))
    refl refl

-- a term is no more than the sum
term_below : (f : ℕ → ℕ) (ks : List ℕ) (k : ℕ) → has ks k ≡ true → f k ≤ sum_by f ks
term_below f [] k h = absurd (false≢true h)
term_below f (x ∷ ks) k h =
    elim (cases_Bool (x == k)) [
      | inl here ↦ let same : x ≡ k = grind (arith, nat_tests) in rw (← same) (omega (arith, sum_by-cons f x ks))
      | inr other ↦ omega (arith, sum_by-cons f x ks, term_below f ks k (rw other at h))
    ]

-- a share is at most the total
pub few_shares : (net : Network) → HasItsLinks net → IsSplit net → AllByRecursion (λ k. share_of net k ≤ net.shares) (movement_numbers net)
few_shares net there split = each_all (λ k. share_of net k ≤ net.shares) (movement_numbers net) (λ k h.
    let l = from_of net k in
    let link = all_each (λ i. has (link_numbers net) (from_of net i) ≡ true) (movement_numbers net) k there.from h in
    let sum = all_each (λ m. sum_by (share_of net) (out_of net m) ≡ net.shares) (link_numbers net) l split link in
    let self : (l == l) ≡ true = grind (arith, nat_tests) in
    omega (arith, sum, term_below (share_of net) (out_of net l) k (of_filter (λ x. from_of net x == l) (movement_numbers net) k h self)))

-- a sum that is not 0 has a term
some_term : (f : ℕ → ℕ) (p : ℕ → Bool) (ks : List ℕ) → 1 ≤ sum_by f (filter p ks) → list_any p ks ≡ true
some_term f p [] h = absurd (omega arith)
some_term f p (k ∷ ks) h =
    elim (cases_Bool (p k)) [
      | inl one ↦ rw one
      | inr none ↦ rw none (some_term f p ks (rw none at h))
    ]

pub no_lone_link : (net : Network) → 1 ≤ net.shares → IsSplit net → no_movement_out net ≡ None
no_lone_link net low split =
    spot_none false (find (λ m. not (has_movement net m)) (link_numbers net)) None None refl
    (nothing_found (λ m. not (has_movement net m)) (link_numbers net) (λ l h.
    let sum = all_each (λ m. sum_by (share_of net) (out_of net m) ≡ net.shares) (link_numbers net) l split h in
    let some : has_movement net l ≡ true = some_term (share_of net) (λ k. from_of net k == l) (movement_numbers net) (omega (arith, sum)) in
    rw some))
    refl refl

-- ---- fed links

something : (xs : List ℕ) (k : ℕ) → has xs k ≡ true → 1 ≤ length xs
something [] k h = absurd (false≢true h)
something (x ∷ xs) k h = omega arith

pub some_fed : (net : Network) → no_fed_link net ≡ None → 1 ≤ length (fed net)
some_fed net none =
    let p = passing (λ l. is_fed (link_at net l)) (link_numbers net) (not_false _ (no_spot (not (list_any (λ l. is_fed (link_at net l)) (link_numbers net))) None None None none).0) in
    something (fed net) p.0 (of_filter (λ l. is_fed (link_at net l)) (link_numbers net) p.0 p.1 p.2)

left_over : (p : ℕ → Bool) (ks : List ℕ) → 1 ≤ length (filter p ks) → list_any p ks ≡ true
left_over p [] h = absurd (omega arith)
left_over p (k ∷ ks) h =
    elim (cases_Bool (p k)) [
      | inl one ↦ rw one
      | inr none ↦ rw none (left_over p ks (rw none at h))
    ]

pub no_unfed : (net : Network) → 1 ≤ length (fed net) → no_fed_link net ≡ None
no_unfed net some = let e : list_any (λ l. is_fed (link_at net l)) (link_numbers net) ≡ true = left_over (λ l. is_fed (link_at net l)) (link_numbers net) some in rw e

-- ---- ways out

pub its_ways : (net : Network) → no_way_out net ≡ None → AllByRecursion (HasWayOut net) (link_numbers net)
its_ways net none =
    each_all (HasWayOut net) (link_numbers net) (λ l h.
    chain_from_way net (length net.links) l
    (not_false _ (none_passes (λ m. not (has_way_out net m)) (link_numbers net) l (no_spot false (find (λ m. not (has_way_out net m)) (link_numbers net)) None None none).1 h)))

pub no_dead_end : (net : Network) → HasItsLinks net → AllByRecursion (HasWayOut net) (link_numbers net) → no_way_out net ≡ None
no_dead_end net there ways =
    spot_none false (find (λ m. not (has_way_out net m)) (link_numbers net)) None None refl
    (nothing_found (λ m. not (has_way_out net m)) (link_numbers net) (λ l h.
    let way : has_way_out net l ≡ true = way_from_chain net l there h (all_each (HasWayOut net) (link_numbers net) l ways h) in
    rw way))
    refl refl
