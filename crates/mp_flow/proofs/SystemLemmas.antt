-- From the rows of a network's systems to its links and movements.
use Rattle.std.proofs.Common.{◌≡◌, ◌≢◌, ◌==◌, ◌||◌, ℕ, zero, suc, ◌+◌, ◌-◌, ◌*◌, ◌<◌, ◌≤◌, Bool, true, false, cond, List, [], ◌∷◌, ◌++◌, length, map, filter, sum_by, get_or, Option, Some, None, is_none, ℤ, pos, ◌-ℤ◌, ◌*ℤ◌, refl, ap, ap₂, sym, ◌∙◌, subst, arith, eq-eqb, eqb-true, ne_eqb}
use Rattle.std.specs.Prelude.{IfSome}
use Rattle.std.specs.List.{AllByRecursion, range_with_len}
use Rattle.std.proofs.lemmas.Int.{ints}
use Rattle.std.proofs.lemmas.List.{get_or_append_left, get_or-append-add, length-map}
use Rattle.std.proofs.lemmas.List.FromFn.{length-range_with_len, get_or-map-range_with_len}
use Rattle.std.proofs.lemmas.List.Sums.{sum_by-cons}
use Rattle.mp_model.specs.Network.{Network, link_numbers, movement_numbers, numbers_to, link_at, from_of, to_of, share_of, into_link, out_of, goes_to, goes_out, has}
use Rattle.mp_model.specs.NetworkRules.{IsNetwork}
use Rattle.mp_model.specs.WayOut.{LeadsOut, HasWayOut}
use Rattle.mp_model.specs.Certificate.{int_entry}
use Rattle.mp_laws.proofs.Lists.{at_in, each_in, all_in, filter_sub, in_numbers, at_range}
use Rattle.mp_num.specs.Sums.{total}
use Rattle.mp_num.specs.Row.{entry}
use Rattle.mp_num.proofs.SumLemmas.{total-same, total-one}
use Rattle.mp_num.proofs.Ring.{diff_of, differences, diff-eq}
use Rattle.mp_flow.specs.Systems.{share_from, share_to, flow_cell, flow_row, flow_rows, worth_cell, worth_row, worth_rows}
use Rattle.mp_flow.proofs.RouteLemmas.{sum_below, WayOut, Leaves, Goes, IsRouting, sum-none, sum-plus, sum-same, sum-one}

-- ---- the numbers of the rows
row_at : (f : ℕ → List ℤ) (n l : ℕ) → l < n → get_or (map f (numbers_to n)) l [] ≡ f (1 + l)
row_at f n l h = get_or-map-range_with_len f 1 n l (1 + l) [] h refl

length-cells : (f : ℕ → ℤ) (n : ℕ) → length (map f (numbers_to n)) ≡ n
length-cells f n = length-map (numbers_to n) f ∙ length-range_with_len 1 n

cell_in_row : (f : ℕ → ℤ) (n m : ℕ) (sides : List ℤ) → m < n → entry (map f (numbers_to n) ++ sides) m ≡ f (1 + m)
cell_in_row f n m sides h = get_or_append_left (map f (numbers_to n)) sides (pos 0) m (omega (arith, length-cells f n)) ∙ get_or-map-range_with_len f 1 n m (1 + m) (pos 0) h refl

side_in_row : (f : ℕ → ℤ) (n s : ℕ) (sides : List ℤ) → entry (map f (numbers_to n) ++ sides) (n + s) ≡ entry sides s
side_in_row f n s sides = ap (λ i. entry (map f (numbers_to n) ++ sides) (i + s)) (sym (length-cells f n)) ∙ get_or-append-add (map f (numbers_to n)) sides s (pos 0)

pub flow_entry : (net : Network) (l m : ℕ) → l < length net.links → m < length net.links → entry (get_or (flow_rows net) l []) m ≡ flow_cell net (1 + l) (1 + m)
unfolding flow_rows flow_row
flow_entry net l m h i = ap (λ r. entry r m) (row_at (flow_row net) (length net.links) l h) ∙ cell_in_row (flow_cell net (1 + l)) (length net.links) m _ i

pub flow_side : (net : Network) (l s : ℕ) → l < length net.links →
    entry (get_or (flow_rows net) l []) (length net.links + s) ≡ entry (pos (net.shares * (link_at net (1 + l)).rate) ∷ pos (net.shares * length (into_link net (1 + l))) ∷ []) s
unfolding flow_rows flow_row
flow_side net l s h = ap (λ r. entry r (length net.links + s)) (row_at (flow_row net) (length net.links) l h) ∙ side_in_row (flow_cell net (1 + l)) (length net.links) s _

pub worth_entry : (net : Network) (u : List ℤ) (l m : ℕ) → l < length net.links → m < length net.links → entry (get_or (worth_rows net u) l []) m ≡ worth_cell net (1 + l) (1 + m)
unfolding worth_rows worth_row
worth_entry net u l m h i = ap (λ r. entry r m) (row_at (worth_row net u) (length net.links) l h) ∙ cell_in_row (worth_cell net (1 + l)) (length net.links) m _ i

pub worth_side : (net : Network) (u : List ℤ) (l : ℕ) → l < length net.links → entry (get_or (worth_rows net u) l []) (length net.links + 0) ≡ int_entry u (1 + l)
unfolding worth_rows worth_row
worth_side net u l h = ap (λ r. entry r (length net.links + 0)) (row_at (worth_row net u) (length net.links) l h) ∙ side_in_row (worth_cell net (1 + l)) (length net.links) 0 _

-- ---- a row times values
difference_times : (u v z : ℤ) → (u -ℤ v) *ℤ z ≡ u *ℤ z -ℤ v *ℤ z
difference_times u v z = rw (diff_of u, diff_of v, diff_of z) (simp differences (diff-eq _ _ _ _ (omega arith)))

total-minus : (n : ℕ) (f g : ℕ → ℤ) → total n (λ k. f k -ℤ g k) ≡ total n f -ℤ total n g
total-minus zero f g = omega (arith, ints)
total-minus (suc n) f g = omega (arith, ints, total-minus n f g)

nothing : (z : ℤ) → pos 0 *ℤ z ≡ pos 0
nothing z = omega (arith, ints)

same_one : (l : ℕ) → (1 + l == 1 + l) ≡ true
same_one l = eq-eqb (1 + l) (1 + l) refl

other_one : (l m : ℕ) → m ≢ l → (1 + l == 1 + m) ≡ false
other_one l m h = ne_eqb (1 + l) (1 + m) (λ (e : 1 + l ≡ 1 + m). h (omega arith))

-- the share total at one column, less the shares at all, times values
pub row_times : (n l whole : ℕ) (c : ℕ → ℕ) (z : ℕ → ℤ) → l < n →
    total n (λ m. (pos (cond (1 + l == 1 + m) whole 0) -ℤ pos (c m)) *ℤ z m) ≡ pos whole *ℤ z l -ℤ total n (λ m. pos (c m) *ℤ z m)
row_times n l whole c z h =
    let own : ℕ → ℤ = λ m. pos (cond (1 + l == 1 + m) whole 0) *ℤ z m in
    let one : total n own ≡ pos whole *ℤ z l =
    total-one n l own h (λ k _ other. ap (λ b. pos (cond b whole 0) *ℤ z k) (other_one l k other) ∙ nothing (z k)) ∙ ap (λ b. pos (cond b whole 0) *ℤ z l) (same_one l) in
    total-same n _ (λ m. own m -ℤ pos (c m) *ℤ z m) (λ m _. difference_times (pos (cond (1 + l == 1 + m) whole 0)) (pos (c m)) (z m))
    ∙ total-minus n own (λ m. pos (c m) *ℤ z m) ∙ ap (λ t. t -ℤ total n (λ m. pos (c m) *ℤ z m)) one

-- ---- the shares from link to link, one way and the other
swap_parts : (p q : ℕ → Bool) (w : ℕ → ℕ) (xs : List ℕ) → sum_by (λ j. cond (p j) (w j) 0) (filter q xs) ≡ sum_by (λ j. cond (q j) (w j) 0) (filter p xs)
swap_parts p q w [] = refl
swap_parts p q w (x ∷ xs) = go (p x) refl (q x) refl (swap_parts p q w xs)
  where
    go : (b : Bool) → p x ≡ b → (c : Bool) → q x ≡ c → sum_by (λ j. cond (p j) (w j) 0) (filter q xs) ≡ sum_by (λ j. cond (q j) (w j) 0) (filter p xs) →
        sum_by (λ j. cond (p j) (w j) 0) (cond c (x ∷ filter q xs) (filter q xs)) ≡ sum_by (λ j. cond (q j) (w j) 0) (cond b (x ∷ filter p xs) (filter p xs))
    go true e true f r = sum_by-cons (λ j. cond (p j) (w j) 0) x (filter q xs) ∙ ap₂ (λ b s. cond b (w x) 0 + s) e r ∙ ap (λ b. cond b (w x) 0 + sum_by (λ j. cond (q j) (w j) 0) (filter p xs)) (sym f) ∙ sym (sum_by-cons (λ j. cond (q j) (w j) 0) x (filter p xs))
    go true e false f r = r ∙ omega (arith, sum_by-cons (λ j. cond (q j) (w j) 0) x (filter p xs), ap (λ b. cond b (w x) 0) f)
    go false e true f r = omega (arith, r, sum_by-cons (λ j. cond (p j) (w j) 0) x (filter q xs), ap (λ b. cond b (w x) 0) e)
    go false e false f r = r

pub share_from_to : (net : Network) (l m : ℕ) → share_from net l m ≡ share_to net m l
share_from_to net l m = swap_parts (λ j. from_of net j == m) (λ j. goes_to (to_of net j) l) (share_of net) (movement_numbers net)

-- ---- the routes of a network
-- the shares of the movements out of link l that leave the network
abbrev pub share_out : Network → ℕ → ℕ
share_out net l = sum_by (λ k. cond (goes_out net k) (share_of net k) 0) (out_of net l)

-- one movement to a link of the network, or out of it, counts once
counted_target : (to : Option ℕ) (n w : ℕ) → IfSome to (λ l. has (numbers_to n) l ≡ true) → sum_below n (λ m. cond (goes_to to (1 + m)) w 0) + cond (is_none to) w 0 ≡ w
counted_target None n w h = omega (arith, sum-none n)
counted_target (Some t) n w h =
    let range = in_numbers n t h in
    let at : 1 + (t - 1) ≡ t = omega (arith, range) in
    let one = sum-one n (t - 1) (λ m. cond (1 + m == t) w 0) (omega (arith, range)) (λ k l other. ap (λ b. cond b w 0) (ne_eqb (1 + k) t (λ (e : 1 + k ≡ t). other (omega (arith, e))))) in
    omega (arith, one, ap (λ b. cond b w 0) (eq-eqb (1 + (t - 1)) t at))

-- all movements of a list, by the links that they go to
counted_all : (to : ℕ → Option ℕ) (w : ℕ → ℕ) (n : ℕ) (ks : List ℕ) → AllByRecursion (λ k. IfSome (to k) (λ l. has (numbers_to n) l ≡ true)) ks →
    sum_below n (λ m. sum_by (λ k. cond (goes_to (to k) (1 + m)) (w k) 0) ks) + sum_by (λ k. cond (is_none (to k)) (w k) 0) ks ≡ sum_by w ks
counted_all to w n [] h = omega (arith, sum-none n)
counted_all to w n (k ∷ ks) h =
    let at : ℕ → ℕ → ℕ = λ k m. cond (goes_to (to k) (1 + m)) (w k) 0 in
    let parts : sum_below n (λ m. sum_by (λ k. at k m) (k ∷ ks)) ≡ sum_below n (at k) + sum_below n (λ m. sum_by (λ k. at k m) ks) =
    sum-same n _ _ (λ m _. sum_by-cons (λ k. at k m) k ks) ∙ sum-plus n (at k) (λ m. sum_by (λ k. at k m) ks) in
    omega (arith, parts, counted_target (to k) n (w k) h.0, counted_all to w n ks h.1, sum_by-cons (λ k. cond (is_none (to k)) (w k) 0) k ks, sum_by-cons w k ks)

le_sum : (f : ℕ → ℕ) (x : ℕ) (ks : List ℕ) → has ks x ≡ true → f x ≤ sum_by f ks
le_sum f x [] h = absurd (cc)
le_sum f x (y ∷ ys) h = go (le_sum f x ys) (y == x) refl h
  where
    go : (has ys x ≡ true → f x ≤ sum_by f ys) → (b : Bool) → (y == x) ≡ b → (b || has ys x) ≡ true → f x ≤ sum_by f (y ∷ ys)
    go more true e i = omega (arith, sum_by-cons f y ys, ap f (eqb-true y x e))
    go more false e i = omega (arith, sum_by-cons f y ys, more i)

has_range : (a n x : ℕ) → a ≤ x → x < a + n → has (range_with_len a n) x ≡ true
has_range a n x h l = at_range (λ x. has (range_with_len a n) x ≡ true) a n x h l (all_in (range_with_len a n))

module _ (net : Network) (ok : IsNetwork net) where
  abbrev count : ℕ
  count = length net.links

  abbrev pub onto : ℕ → ℕ → ℕ
  onto l m = share_to net (1 + l) (1 + m)

  abbrev pub outward : ℕ → ℕ
  outward l = share_out net (1 + l)

  number_in : (l : ℕ) → l < count → has (link_numbers net) (1 + l) ≡ true
  number_in l h = has_range 1 count (1 + l) (omega arith) (omega arith)

  target_in : (l k : ℕ) → has (out_of net l) k ≡ true → IfSome (to_of net k) (λ m. has (link_numbers net) m ≡ true)
  target_in l k h = at_in (λ k. IfSome (to_of net k) (λ m. has (link_numbers net) m ≡ true)) k (movement_numbers net) (filter_sub (λ k. from_of net k == l) (movement_numbers net) k h) ok.to

  all_shares : (l : ℕ) → l < count → sum_below count (onto l) + outward l ≡ net.shares
  all_shares l h =
      counted_all (to_of net) (share_of net) count (out_of net (1 + l)) (each_in (λ k. IfSome (to_of net k) (λ m. has (link_numbers net) m ≡ true)) (out_of net (1 + l)) (target_in (1 + l)))
      ∙ at_in (λ l. sum_by (share_of net) (out_of net l) ≡ net.shares) (1 + l) (link_numbers net) (number_in l h) ok.split

  share_some : (l k : ℕ) → has (out_of net l) k ≡ true → 1 ≤ share_of net k
  share_some l k h = at_in (λ k. 1 ≤ share_of net k) k (movement_numbers net) (filter_sub (λ k. from_of net k == l) (movement_numbers net) k h) ok.share

  goes_out_some : (l k : ℕ) → has (out_of net l) k ≡ true → to_of net k ≡ None → 0 < share_out net l
  goes_out_some l k h e =
      let own : cond (goes_out net k) (share_of net k) 0 ≡ share_of net k = ap (λ to. cond (is_none to) (share_of net k) 0) e in
      omega (arith, le_sum (λ k. cond (goes_out net k) (share_of net k) 0) k (out_of net l) h, own, share_some l k h)

  goes_on_some : (l k m : ℕ) → has (out_of net l) k ≡ true → to_of net k ≡ Some m → 0 < share_to net l m
  goes_on_some l k m h e =
      let own : cond (goes_to (to_of net k) m) (share_of net k) 0 ≡ share_of net k = ap (λ to. cond (goes_to to m) (share_of net k) 0) e ∙ ap (λ b. cond b (share_of net k) 0) (eq-eqb m m refl) in
      omega (arith, le_sum (λ k. cond (goes_to (to_of net k) m) (share_of net k) 0) k (out_of net l) h, own, share_some l k h)

  way : (ks : List ℕ) (l : ℕ) → 1 ≤ l → LeadsOut net (Some l) ks → WayOut count onto outward (l - 1)
  way [] l some h = absurd h
  way (k ∷ ks) l some h = go (way ks) (to_of net k) refl h.1
    where
      go : ((m : ℕ) → 1 ≤ m → LeadsOut net (Some m) ks → WayOut count onto outward (m - 1)) → (to : Option ℕ) → to_of net k ≡ to → LeadsOut net to ks → WayOut count onto outward (l - 1)
      go more None e lead =
          let at : 1 + (l - 1) ≡ l = omega (arith, some) in
          Leaves (l - 1) (rw at (goes_out_some l k h.0 e))
      go more (Some m) e lead =
          let at : 1 + (l - 1) ≡ l = omega (arith, some) in
          let inside : has (link_numbers net) m ≡ true = subst (λ (to : Option ℕ). IfSome to (λ m. has (link_numbers net) m ≡ true)) e (target_in l k h.0) in
          let range = in_numbers count m inside in
          let at_m : 1 + (m - 1) ≡ m = omega (arith, range) in
          Goes (l - 1) (m - 1) (omega (arith, range)) (rw (at, at_m) (goes_on_some l k m h.0 e)) (more m range.0 lead)

  pub routing : IsRouting count net.shares onto outward
  routing = record {
    positive = ok.shares;
    all_shares = all_shares;
    way_out = λ l h. (let w = at_in (HasWayOut net) (1 + l) (link_numbers net) (number_in l h) ok.way_out in
        subst (λ (i : ℕ). WayOut count onto outward i) (omega arith) (way w.0 (1 + l) (omega arith) w.1));
  }
