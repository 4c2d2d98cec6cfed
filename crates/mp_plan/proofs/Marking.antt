-- What marks say of chains of movements.
use Rattle.std.proofs.Common.{◌≡◌, ◌≢◌, ◌==◌, ◌||◌, ◌&&◌, ◌≤◌, ◌<◌, ℕ, zero, suc, ◌+◌, ◌-◌, Bool, true, false, not, cond, List, [], ◌∷◌, length, get_or, sum_by, replicate, IfSome, Option, Some, None, unwrap_or, arith, refl, sym, ◌∙◌, ap, subst, eq-eqb, eqb-true, get_or-set_other, ◌⊎◌, inl, inr}
use Rattle.std.specs.List.{AllByRecursion, find, slice_set}
use Rattle.std.proofs.lemmas.Bool.{false≢true}
use Rattle.std.proofs.lemmas.Option.{same_Some}
use Rattle.std.proofs.lemmas.List.{length-replicate, length-set}
use Rattle.std.proofs.lemmas.List.Sums.{sum_by-set}
use Rattle.mp_cert.proofs.PlaceLemmas.{in_bounds}
use Rattle.mp_laws.proofs.Lists.{at_in, at_range, find_none}
use Rattle.mp_model.specs.Network.{Network, from_of, has, link_numbers, movement_numbers, numbers_to, to_of}
use Rattle.mp_model.specs.NetworkRules.{IsNetwork}
use Rattle.mp_model.specs.Plans.{IsOnCycle, Lead}
use Rattle.mp_plan.specs.Marks.{is_marked, is_open, is_unmarked}
use Rattle.mp_plan.proofs.Greening.{all_more}

or_right : (a b : Bool) → b ≡ true → (a || b) ≡ true
or_right true b e = refl
or_right false b e = e

pub find_some : (p : ℕ → Bool) (xs : List ℕ) (k : ℕ) → find p xs ≡ Some k → (has xs k ≡ true) × (p k ≡ true)
find_some p [] k e = absurd (cc)
find_some p (x ∷ xs) k e = go (p x) refl (find_some p xs k) e
  where
    go : (b : Bool) → p x ≡ b → (find p xs ≡ Some k → (has xs k ≡ true) × (p k ≡ true)) → cond b (Some x) (find p xs) ≡ Some k → (has (x ∷ xs) k ≡ true) × (p k ≡ true)
    go true h more e = let same : x ≡ k = same_Some x k e in (ap (λ b. b || has xs k) (eq-eqb x k same), ap p (sym same) ∙ h)
    go false h more e = let r = more e in (or_right (x == k) (has xs k) r.0, r.1)

abbrev Known : Network → List ℕ → Type 0
Known net ks = AllByRecursion (λ k. has (movement_numbers net) k ≡ true) ks

-- one movement or more lead from l to m
pub record Chain (net : Network) (l m : ℕ) : Type 0 where
  pub movements : List ℕ
  pub some : 1 ≤ length movements
  pub known : Known net movements
  pub lead : Lead net l movements m

-- a chain leads from l to each link that has a mark
pub record Reached (net : Network) (l : ℕ) (marks : List Bool) : Type 0 where
  pub size : length marks ≡ 128
  pub chains : (m : ℕ) → 1 ≤ m → is_marked marks m ≡ true → Chain net l m

unmarked_at : (n i : ℕ) → get_or (replicate n false) i false ≡ false
unmarked_at zero i = refl
unmarked_at (suc n) zero = refl
unmarked_at (suc n) (suc i) = unmarked_at n i

pub reached_start : (net : Network) (l : ℕ) (marks : List Bool) → marks ≡ replicate 128 false → Reached net l marks
reached_start net l marks e = record {
  size = ap length e ∙ length-replicate 128 false;
  chains = λ m low marked. absurd (false≢true (sym (unmarked_at 128 (m - 1)) ∙ sym (ap (λ ms. get_or ms (m - 1) false) e) ∙ marked));
}

and_left : (a b : Bool) → (a && b) ≡ true → (a ≡ true) × (b ≡ true)
and_left true b e = (refl, e)
and_left false b e = absurd (false≢true e)

or_cases : (a b : Bool) → (a || b) ≡ true → (a ≡ true) ⊎ (b ≡ true)
or_cases true b e = inl refl
or_cases false b e = inr e

not_true : (b : Bool) → not b ≡ true → b ≡ false
not_true true e = absurd (false≢true e)
not_true false e = refl

append_one : (net : Network) (l : ℕ) (ks : List ℕ) (m k n : ℕ) → Lead net l ks m → from_of net k ≡ m → to_of net k ≡ Some n → Known net ks → has (movement_numbers net) k ≡ true → Chain net l n
append_one net l [] m k n lead from to known in' = record { movements = k ∷ []; some = omega arith; known = (in', tt); lead = (from ∙ sym lead, n, to, refl) }
append_one net l (i ∷ ks) m k n lead from to known in' =
    let r = append_one net lead.1 ks m k n lead.3 from to known.1 in' in
    record { movements = i ∷ r.movements; some = omega arith; known = (known.0, r.known); lead = (lead.0, lead.1, lead.2, r.lead) }

-- the target of an open movement is a link without a mark, and a chain leads to it
pub record Target (net : Network) (l : ℕ) (marks : List Bool) (k : ℕ) : Type 0 where
  pub link : ℕ
  pub to : to_of net k ≡ Some link
  pub low : 1 ≤ link
  pub high : link ≤ length net.links
  pub unmarked : is_marked marks link ≡ false
  pub chain : Chain net l link
  pub known_low : 1 ≤ k
  pub known_high : k ≤ length net.movements

pub target_of : (net : Network) → IsNetwork net → (l : ℕ) (marks : List Bool) (k : ℕ) → Reached net l marks → find (is_open net l marks) (movement_numbers net) ≡ Some k → Target net l marks k
target_of net ok l marks k reached e =
    let found = find_some (is_open net l marks) (movement_numbers net) k e in
    let parts = and_left (from_of net k == l || is_marked marks (from_of net k)) (is_unmarked marks (to_of net k)) found.1 in
    go found.0 (or_cases (from_of net k == l) (is_marked marks (from_of net k)) parts.0) (to_of net k) refl parts.1
  where
    from : has (movement_numbers net) k ≡ true → (from_of net k == l ≡ true) ⊎ (is_marked marks (from_of net k) ≡ true) → (n : ℕ) → to_of net k ≡ Some n → Chain net l n
    from in' (inl same) n to = append_one net l [] l k n refl (eqb-true (from_of net k) l same) to tt in'
    from in' (inr marked) n to =
        let there = in_bounds (length net.links) (from_of net k) (at_in (λ k. has (link_numbers net) (from_of net k) ≡ true) k (movement_numbers net) in' ok.from) in
        let c = reached.chains (from_of net k) there.0 marked in
        append_one net l c.movements (from_of net k) k n c.lead refl to c.known in'

    go : has (movement_numbers net) k ≡ true → (from_of net k == l ≡ true) ⊎ (is_marked marks (from_of net k) ≡ true) → (o : Option ℕ) → to_of net k ≡ o → is_unmarked marks o ≡ true → Target net l marks k
    go in' way None to un = absurd (false≢true un)
    go in' way (Some n) to un =
        let there = in_bounds (length net.links) n (subst (λ (o : Option ℕ). IfSome o (λ l. has (link_numbers net) l ≡ true)) to (at_in (λ k. IfSome (to_of net k) (λ l. has (link_numbers net) l ≡ true)) k (movement_numbers net) in' ok.to)) in
        let k_in = in_bounds (length net.movements) k in' in
        record { link = n; to = to; low = there.0; high = there.1; unmarked = not_true (is_marked marks n) un; chain = from in' way n to; known_low = k_in.0; known_high = k_in.1 }

-- the target is marked
pub reached_more : (net : Network) (l : ℕ) (marks after : List Bool) (k : ℕ) → Reached net l marks → (t : Target net l marks k) → length net.links ≤ 128 → after ≡ slice_set marks (unwrap_or (to_of net k) 0 - 1) true → Reached net l after
reached_more net l marks after k reached t few e = record {
  size = ap length is ∙ length-set marks (t.link - 1) true ∙ reached.size;
  chains = λ m low marked. go m low (m == t.link) refl (sym (ap (λ ms. get_or ms (m - 1) false) is) ∙ marked);
}
  where
    is : after ≡ slice_set marks (t.link - 1) true
    is = e ∙ ap (λ (o : Option ℕ). slice_set marks (unwrap_or o 0 - 1) true) t.to

    go : (m : ℕ) → 1 ≤ m → (b : Bool) → (m == t.link) ≡ b → get_or (slice_set marks (t.link - 1) true) (m - 1) false ≡ true → Chain net l m
    go m low true h marked = subst (λ n. Chain net l n) (sym (eqb-true m t.link h)) t.chain
    go m low false h marked =
        let low' = t.low in
        let other : m - 1 ≢ t.link - 1 = λ same. false≢true (sym h ∙ eq-eqb m t.link (omega arith)) in
        reached.chains m low (sym (get_or-set_other marks (t.link - 1) (m - 1) true false other) ∙ marked)

abbrev pub free : List Bool → ℕ
free marks = sum_by (λ b. cond {A = ℕ} b 0 1) marks

-- and one link less has none
pub free_fewer : (net : Network) (l : ℕ) (marks after : List Bool) (k : ℕ) → Reached net l marks → (t : Target net l marks k) → length net.links ≤ 128 → after ≡ slice_set marks (unwrap_or (to_of net k) 0 - 1) true → free after < free marks
free_fewer net l marks after k reached t few e =
    let is : after ≡ slice_set marks (t.link - 1) true = e ∙ ap (λ (o : Option ℕ). slice_set marks (unwrap_or o 0 - 1) true) t.to in
    let size = reached.size in
    let low = t.low in
    let high = t.high in
    let sums = sum_by-set (λ b. cond {A = ℕ} b 0 1) marks (t.link - 1) true false (omega arith) in
    let here : cond {A = ℕ} (get_or marks (t.link - 1) false) 0 1 ≡ 1 = ap {B = ℕ} (λ b. cond {A = ℕ} b 0 1) t.unmarked in
    let same : free after ≡ free (slice_set marks (t.link - 1) true) = ap free is in
    omega (arith, sums, here, same)

-- where no movement is open, each chain from l ends at a link with a mark
closed_at : (net : Network) (l : ℕ) (marks : List Bool) (k n : ℕ) → is_open net l marks k ≡ false → (from_of net k == l || is_marked marks (from_of net k)) ≡ true → to_of net k ≡ Some n → is_marked marks n ≡ true
closed_at net l marks k n closed way to = go (is_marked marks n) refl
  where
    go : (b : Bool) → is_marked marks n ≡ b → is_marked marks n ≡ true
    go true e = e
    go false e = absurd (false≢true (sym closed ∙ ap (λ b. b && is_unmarked marks (to_of net k)) way ∙ ap (is_unmarked marks) to ∙ ap not e))

ends_marked : (net : Network) (l : ℕ) (marks : List Bool) → AllByRecursion (λ k. is_open net l marks k ≡ false) (movement_numbers net) → (m : ℕ) (ks : List ℕ) (n : ℕ) → 1 ≤ length ks → Known net ks → Lead net m ks n → (m == l || is_marked marks m) ≡ true →
    is_marked marks n ≡ true
ends_marked net l marks closed m [] n some known lead way = absurd (omega arith)
ends_marked net l marks closed m (k ∷ []) n some known lead way =
    let here = closed_at net l marks k lead.1 (at_in (λ k. is_open net l marks k ≡ false) k (movement_numbers net) known.0 closed) (ap (λ x. x == l || is_marked marks x) lead.0 ∙ way) lead.2 in
    subst (λ x. is_marked marks x ≡ true) lead.3 here
ends_marked net l marks closed m (k ∷ i ∷ ks) n some known lead way =
    let here = closed_at net l marks k lead.1 (at_in (λ k. is_open net l marks k ≡ false) k (movement_numbers net) known.0 closed) (ap (λ x. x == l || is_marked marks x) lead.0 ∙ way) lead.2 in
    ends_marked net l marks closed lead.1 (i ∷ ks) n (omega arith) known.1 lead.3 (or_right (lead.1 == l) (is_marked marks lead.1) here)

pub on_cycle : (net : Network) (l : ℕ) (marks : List Bool) → 1 ≤ l → Reached net l marks → is_marked marks l ≡ true → IsOnCycle net l
on_cycle net l marks low reached marked = let c = reached.chains l low marked in record { movements = c.movements; some = c.some; known = c.known; back = c.lead }

pub is_marked_on : (net : Network) (l : ℕ) (marks : List Bool) → find (is_open net l marks) (movement_numbers net) ≡ None → IsOnCycle net l → is_marked marks l ≡ true
is_marked_on net l marks none c =
    ends_marked net l marks (find_none (is_open net l marks) (movement_numbers net) none) l c.movements l c.some c.known c.back (ap (λ b. b || is_marked marks l) (eq-eqb l l refl))

-- a link that is on a cycle is one of the network
pub cycle_known : (net : Network) → IsNetwork net → (l : ℕ) → IsOnCycle net l → (1 ≤ l) × (l ≤ length net.links)
cycle_known net ok l c = go c.movements c.some c.known c.back
  where
    go : (ks : List ℕ) → 1 ≤ length ks → Known net ks → Lead net l ks l → (1 ≤ l) × (l ≤ length net.links)
    go [] some known lead = absurd (omega arith)
    go (k ∷ ks) some known lead =
        in_bounds (length net.links) l (subst (λ x. has (link_numbers net) x ≡ true) lead.0 (at_in (λ k. has (link_numbers net) (from_of net k) ≡ true) k (movement_numbers net) known.0 ok.from))

pub none_more : (net : Network) (l : ℕ) → AllByRecursion (λ m. ¬ IsOnCycle net m) (numbers_to l) → ¬ IsOnCycle net (l + 1) → AllByRecursion (λ m. ¬ IsOnCycle net m) (numbers_to (l + 1))
none_more net l before here = let e : l + 1 ≡ 1 + l = omega arith in all_more (λ m. ¬ IsOnCycle net m) 1 l before (subst (λ n. ¬ IsOnCycle net n) e here)

pub none_end : (net : Network) → IsNetwork net → (n : ℕ) → AllByRecursion (λ m. ¬ IsOnCycle net m) (numbers_to n) → length net.links ≤ n → (l : ℕ) → ¬ IsOnCycle net l
none_end net ok n before all l on = let known = cycle_known net ok l on in at_range (λ m. ¬ IsOnCycle net m) 1 n l known.0 (omega (arith, known.1)) before on
