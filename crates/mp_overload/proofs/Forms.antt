-- What the stated calculations come to, where they exceed nothing.
use Rattle.std.proofs.Common.{◌≡◌, ℕ, zero, suc, ◌-◌, ◌*◌, Bool, true, false, cond, List, [], ◌∷◌, length, map, get_or, sum_by, unsigned_abs, ℤ, pos, negsuc, ◌-ℤ◌, ◌*ℤ◌, ◌≤ℤ◌, int_lt, Option, Some, None, option_map, All, arith, refl, ap, sym, ◌∙◌, subst}
use Rattle.std.specs.List.{AllByRecursion}
use Rattle.std.specs.Int.{int_max}
use Rattle.std.proofs.lemmas.Int.{ints}
use Rattle.std.proofs.lemmas.Option.{same_Some}
use Rattle.std.proofs.lemmas.List.Elements.{recursion_from_All}
use Rattle.std.proofs.lemmas.List.Sums.{sum_by-cons}
use Rattle.mp_cert.proofs.Gives.{Gives, gives-some, gives-times, gives-plus, gives-less, gives-same, gives-summed}
use Rattle.mp_model.specs.Certificate.{int_entry}
use Rattle.mp_model.specs.Load.{load, capacity}
use Rattle.mp_model.specs.Network.{Network, movement_numbers, from_of, share_of, out_of}
use Rattle.mp_model.specs.NetworkRules.{IsNetwork}
use Rattle.mp_model.specs.Step.{State, queue}
use Rattle.mp_model.specs.Sums.{int_sum_by}
use Rattle.mp_num.specs.Operations.{times, num, summed}
use Rattle.mp_overload.proofs.Accounts.{on_trail}
use Rattle.mp_overload.specs.Forming.{natural_entry, growth_formed, shared, counts_formed, split_formed, lost_formed, weighed, queues_formed, least_formed}
use Rattle.mp_overload.specs.Growing.{growth, rated, lost_to_counts, lost_to_split, lost_to_rounding, weighed_queues}
use Rattle.mp_overload.specs.Laws.{FormsGrowth, IsFormed}
use Rattle.mp_overload.specs.Trails.{IsOnTrail}

times_pos : (a b : ℕ) → pos a *ℤ pos b ≡ pos (a * b)
times_pos a b = omega (arith, ints)

sums_pos : (f : ℕ → ℕ) (xs : List ℕ) → int_sum_by (λ x. pos (f x)) xs ≡ pos (sum_by f xs)
sums_pos f [] = refl
sums_pos f (x ∷ xs) = let r = sums_pos f xs in omega (arith, ints, sum_by-cons f x xs)

natural : (z : ℤ) → pos 0 ≤ℤ z → z ≡ pos (unsigned_abs z)
natural (pos n) h = refl
natural (negsuc n) h = absurd (omega (arith, ints, h))

natural_at : (p : List ℤ) → AllByRecursion (λ x. pos 0 ≤ℤ x) p → (i : ℕ) → get_or p i (pos 0) ≡ pos (get_or (map unsigned_abs p) i 0)
natural_at [] h i = refl
natural_at (x ∷ xs) h zero = natural x h.0
natural_at (x ∷ xs) h (suc i) = natural_at xs h.1 i

gives-product : (a b : Option ℤ) (m n : ℕ) → Gives a (pos m) → Gives b (pos n) → Gives (times a b) (pos (m * n))
gives-product a b m n g h = gives-same _ _ _ (gives-times a b (pos m) (pos n) g h) (times_pos m n)

gives-sum : (term : ℕ → Option ℤ) (f : ℕ → ℕ) (xs : List ℕ) → ((x : ℕ) → Gives (term x) (pos (f x))) → Gives (summed term xs) (pos (sum_by f xs))
gives-sum term f xs h = gives-same _ _ _ (gives-summed term (λ x. pos (f x)) xs h) (sums_pos f xs)

module _ (net : Network) (p : List ℤ) (signs : AllByRecursion (λ x. pos 0 ≤ℤ x) p) where
  gives-entry : (k : ℕ) → Gives (Some (int_entry p k)) (pos (natural_entry p k))
  gives-entry k = gives-same _ _ _ (gives-some (int_entry p k)) (natural_at p signs (k - 1))

  gives-shared : (k : ℕ) → Gives (shared net p k) (pos (natural_entry p k * share_of net k))
  unfolding shared
  gives-shared k = gives-product _ _ (natural_entry p k) (share_of net k) (gives-entry k) (gives-some _)

  gives-counts : Gives (counts_formed net p) (pos (lost_to_counts net (natural_entry p)))
  unfolding counts_formed
  gives-counts = gives-product _ _ (net.per - 1) _ (gives-some _) (gives-sum (shared net p) (λ k. natural_entry p k * share_of net k) (rated net) gives-shared)

  gives-split : (k : ℕ) → Gives (split_formed net p k) (pos (lost_to_split net (natural_entry p) k))
  unfolding split_formed
  gives-split k = gives-product _ _ (natural_entry p k * (length (out_of net (from_of net k)) - 1)) (net.shares - 1) (gives-product _ _ (natural_entry p k) (length (out_of net (from_of net k)) - 1) (gives-entry k) (gives-some _)) (gives-some _)

  pub gives-lost : Gives (lost_formed net p) (pos (lost_to_rounding net (natural_entry p)))
  unfolding lost_formed
  gives-lost =
      let splits = gives-product (num net.per) _ net.per (sum_by (lost_to_split net (natural_entry p)) (movement_numbers net)) (gives-some _) (gives-sum (split_formed net p) (lost_to_split net (natural_entry p)) (movement_numbers net) gives-split) in
      gives-same _ _ _ (gives-plus _ _ _ _ gives-counts splits) (omega (arith, ints))

  gives-weighed : (q : ℕ → ℕ) (k : ℕ) → Gives (weighed net p q k) (pos (natural_entry p k * q k))
  unfolding weighed
  gives-weighed q k = gives-product _ _ (natural_entry p k) (q k) (gives-entry k) (gives-some _)

  pub gives-queues : (q : ℕ → ℕ) → Gives (queues_formed net p q) (pos (weighed_queues net (natural_entry p) q))
  unfolding queues_formed
  gives-queues q = gives-product _ _ (net.shares * net.per) _ (gives-some _) (gives-sum (weighed net p q) (λ k. natural_entry p k * q k) (movement_numbers net) (gives-weighed q))

pub gives-growth : (load served : ℤ) → Gives (growth_formed load served) (load -ℤ served)
unfolding growth_formed
gives-growth load served = gives-less _ _ load served (gives-some load) (gives-some served)

gives-max : (o : Option ℤ) (v : ℤ) → Gives o v → Gives (option_map (int_max (pos 0)) o) (int_max (pos 0) v)
gives-max None v g = record { at = λ z e. absurd (cc) }
gives-max (Some x) v g = record { at = λ z e. sym (same_Some _ _ e) ∙ ap (int_max (pos 0)) (g.at x refl) }

pub gives-least : (T : ℕ) (per lost : ℤ) → Gives (least_formed T per lost) (int_max (pos 0) (pos T *ℤ per -ℤ lost))
unfolding least_formed
gives-least T per lost = gives-max _ _ (gives-less _ _ (pos T *ℤ per) lost (gives-times _ _ (pos T) per (gives-some _) (gives-some per)) (gives-some lost))

pub forms : (net : Network) (p : List ℤ) → All (λ x. pos 0 ≤ℤ x) p → FormsGrowth net p
forms net p signs =
    let all = recursion_from_All (λ x. pos 0 ≤ℤ x) p signs in
    record {
      growth_is = (gives-growth (pos (load net (natural_entry p))) (pos (net.per * capacity net (natural_entry p)))).at;
      lost_is = (gives-lost net p all).at;
      queues_are = λ q. (gives-queues net p all q).at;
    }

max_le : (x : ℤ) (n : ℕ) → x ≤ℤ pos n → int_max (pos 0) x ≤ℤ pos n
max_le x n h = go (int_lt x (pos 0))
  where
    go : (b : Bool) → cond b (pos 0) x ≤ℤ pos n
    go true = omega (arith, ints)
    go false = h

pub least_below : (net : Network) → IsNetwork net → (p : List ℤ) → All (λ x. pos 0 ≤ℤ x) p → (state : State) → IsOnTrail net state → (per lost sum least : ℤ) → IsFormed net p state per lost sum least → least ≤ℤ sum
least_below net ok p signs state t per lost sum least formed =
    let forms = forms net p signs in
    let g = forms.growth_is per formed.growth_so in
    let c = forms.lost_is lost formed.lost_so in
    let s = forms.queues_are (queue state) sum formed.queues_so in
    let m = (gives-least state.period per lost).at least formed.least_so in
    let grown = on_trail net ok state t (natural_entry p) in
    let line : (pos state.period *ℤ per -ℤ lost) ≤ℤ pos (weighed_queues net (natural_entry p) (queue state)) =
    subst (λ g. (pos state.period *ℤ g -ℤ lost) ≤ℤ pos (weighed_queues net (natural_entry p) (queue state))) (sym g) (subst (λ c. (pos state.period *ℤ growth net (natural_entry p) -ℤ c) ≤ℤ pos (weighed_queues net (natural_entry p) (queue state))) (sym c) grown) in
    subst (λ x. x ≤ℤ sum) (sym m) (subst (λ s. int_max (pos 0) (pos state.period *ℤ per -ℤ lost) ≤ℤ s) (sym s) (max_le _ _ line))
