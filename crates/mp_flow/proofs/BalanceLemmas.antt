-- The answers of a network's two systems: balanced at each link, not negative, and with no kernel.
use Rattle.std.proofs.Common.{◌≡◌, ◌≢◌, ◌==◌, ℕ, ◌+◌, ◌-◌, ◌*◌, ◌<◌, Bool, true, false, cond, List, [], ◌∷◌, length, sum_by, get_or, take, drop, Option, Some, None, ℤ, pos, negsuc, ◌+ℤ◌, ◌-ℤ◌, ◌*ℤ◌, ◌≤ℤ◌, ap, ap₂, sym, ◌∙◌, subst, arith, All, eq-eqb, ne_eqb, length-take-le, length-drop}
use Rattle.std.specs.Prelude.{IfSome}
use Rattle.std.specs.List.{AllByRecursion}
use Rattle.std.proofs.lemmas.Int.{ints}
use Rattle.std.proofs.lemmas.List.{get_or-take, get_or-drop, length-map}
use Rattle.std.proofs.lemmas.List.Elements.{All-from_get_or}
use Rattle.std.proofs.lemmas.List.FromFn.{length-range_with_len}
use Rattle.std.proofs.lemmas.List.Sums.{sum_by-cons}
use Rattle.mp_model.specs.Sums.{int_sum_by}
use Rattle.mp_model.specs.Network.{Network, link_numbers, movement_numbers, link_at, from_of, to_of, share_of, into_link, out_of, goes_to, has}
use Rattle.mp_model.specs.NetworkRules.{IsNetwork}
use Rattle.mp_model.specs.Certificate.{int_entry}
use Rattle.mp_laws.proofs.Lists.{at_in, each_in, filter_sub, in_numbers, at_range}
use Rattle.mp_num.specs.Sums.{total}
use Rattle.mp_num.specs.Row.{entry}
use Rattle.mp_num.proofs.SumLemmas.{total-same, total-one, total-zero, total-plus}
use Rattle.mp_num.proofs.Ring.{diff_of, differences, diff-eq}
use Rattle.mp_flow.specs.Answers.{RowAnswered, Answers, IsKernel}
use Rattle.mp_flow.specs.Systems.{share_from, flow_cell, flow_row, flow_rows, worth_cell, worth_row, worth_rows, IsBalancedFlow, AreFlows, onward, IsBalancedWorth, AreWorths, AreOnlyFlows, AreOnlyWorths, Flows, Worths}
use Rattle.mp_flow.proofs.NetworkLemmas.{flow_unique, flow_positive, flow_one, worth_unique, worth_positive, worth_one}
use Rattle.mp_flow.proofs.SystemLemmas.{row_times, flow_entry, flow_side, worth_entry, worth_side, share_from_to, onto, outward, routing}

nothing : (z : ℤ) → pos 0 *ℤ z ≡ pos 0
nothing z = omega (arith, ints)

-- the values at one column
one_column : (n i : ℕ) (test : ℕ → Bool) (w : ℕ) (z : ℕ → ℤ) → i < n → test i ≡ true → ((m : ℕ) → m ≢ i → test m ≡ false) → total n (λ m. pos (cond (test m) w 0) *ℤ z m) ≡ pos w *ℤ z i
one_column n i test w z h e other =
    total-one n i (λ m. pos (cond (test m) w 0) *ℤ z m) h (λ k _ apart. ap (λ b. pos (cond b w 0) *ℤ z k) (other k apart) ∙ nothing (z k)) ∙ ap (λ b. pos (cond b w 0) *ℤ z i) e

sum_times : (a b : ℕ) (z : ℤ) → pos (a + b) *ℤ z ≡ pos a *ℤ z +ℤ pos b *ℤ z
sum_times a b z = parts (pos a) (pos b) z
  where
    parts : (u v z : ℤ) → (u +ℤ v) *ℤ z ≡ u *ℤ z +ℤ v *ℤ z
    parts u v z = rw (diff_of u, diff_of v, diff_of z) (simp differences (diff-eq _ _ _ _ (omega arith)))

-- the shares at all columns times values, movement by movement
spread : (n : ℕ) (test : ℕ → ℕ → Bool) (w : ℕ → ℕ) (z at : ℕ → ℤ) (js : List ℕ) → AllByRecursion (λ j. total n (λ m. pos (cond (test j m) (w j) 0) *ℤ z m) ≡ pos (w j) *ℤ at j) js →
    total n (λ m. pos (sum_by (λ j. cond (test j m) (w j) 0) js) *ℤ z m) ≡ int_sum_by (λ j. pos (w j) *ℤ at j) js
spread n test w z at [] h = total-zero n (λ m. pos 0 *ℤ z m) (λ k _. nothing (z k))
spread n test w z at (j ∷ js) h =
    total-same n _ (λ m. pos (cond (test j m) (w j) 0) *ℤ z m +ℤ pos (sum_by (λ j. cond (test j m) (w j) 0) js) *ℤ z m)
    (λ m _. ap (λ t. pos t *ℤ z m) (sum_by-cons (λ j. cond (test j m) (w j) 0) j js) ∙ sum_times (cond (test j m) (w j) 0) (sum_by (λ j. cond (test j m) (w j) 0) js) (z m))
    ∙ total-plus n (λ m. pos (cond (test j m) (w j) 0) *ℤ z m) (λ m. pos (sum_by (λ j. cond (test j m) (w j) 0) js) *ℤ z m)
    ∙ ap₂ (λ a b. a +ℤ b) h.0 (spread n test w z at js h.1)

move : (a t b : ℤ) → a -ℤ t ≡ b → a ≡ t +ℤ b
move a t b e = omega (arith, ints, e)

positive_times : (d z : ℤ) → pos 1 ≤ℤ d → pos 0 ≤ℤ z → pos 0 ≤ℤ (d *ℤ z)
positive_times (pos m) (pos n) h l = omega (arith, ints)
positive_times (pos m) (negsuc n) h l = absurd (omega (arith, ints))
positive_times (negsuc m) z h l = absurd (omega (arith, ints))

no_rest : (a t d : ℤ) → a ≡ t +ℤ d *ℤ pos 0 → a ≡ t
no_rest a t d e = omega (arith, ints, e)

int_entry-of : (f : List ℤ) (l : ℕ) → int_entry f (1 + l) ≡ entry f l
int_entry-of f l = let e : (1 + l) - 1 ≡ l = omega arith in ap (λ i. entry f i) e

no_side : (t a : ℤ) → t ≡ pos 0 → t ≡ a -ℤ a
no_side t a e = omega (arith, ints, e)

module _ (net : Network) (ok : IsNetwork net) where
  abbrev count : ℕ
  count = length net.links

  by_link : (P : ℕ → Type 0) → ((l : ℕ) → l < count → P (1 + l)) → AllByRecursion P (link_numbers net)
  by_link P h = each_in P (link_numbers net) (λ l i.
      (let range = in_numbers count l i in
      let at : 1 + (l - 1) ≡ l = omega (arith, range) in
      subst P at (h (l - 1) (omega (arith, range)))))

  -- ---- the flows
  abbrev inflow : (ℕ → ℤ) → ℕ → ℤ
  inflow z l = total count (λ m. pos (share_from net (1 + l) (1 + m)) *ℤ z m)

  -- a row of the flows times values
  flow_times : (z : ℕ → ℤ) (l : ℕ) → l < count → total count (λ j. entry (get_or (flow_rows net) l []) j *ℤ z j) ≡ pos net.shares *ℤ z l -ℤ inflow z l
  unfolding flow_cell
  flow_times z l h =
      total-same count _ (λ m. (pos (cond (1 + l == 1 + m) net.shares 0) -ℤ pos (share_from net (1 + l) (1 + m))) *ℤ z m) (λ j i. ap (λ t. t *ℤ z j) (flow_entry net l j h i))
      ∙ row_times count l net.shares (λ m. share_from net (1 + l) (1 + m)) z h

  -- the same by the shares of the links that the movements leave
  flow_turn : (z : ℕ → ℤ) (l : ℕ) → inflow z l ≡ total count (λ m. pos (onto net ok m l) *ℤ z m)
  flow_turn z l = total-same count _ _ (λ m _. ap (λ s. pos s *ℤ z m) (share_from_to net (1 + l) (1 + m)))

  pub flow_kernel : (x : List ℤ) → IsKernel count (flow_rows net) x → ⊥
  unfolding flow_rows
  flow_kernel x k =
      let long : length (flow_rows net) ≡ count = length-map (link_numbers net) (flow_row net) ∙ length-range_with_len 1 count in
      k.some.2 (flow_unique count net.shares (onto net ok) (outward net ok) (λ m. entry x m) (routing net ok)
      (λ m h. move (pos net.shares *ℤ entry x m) (inflow (λ m. entry x m) m) (pos 0) (sym (flow_times (λ m. entry x m) m h) ∙ k.solves m [] (omega (arith, long))) ∙ plus_none (inflow (λ m. entry x m) m) ∙ flow_turn (λ m. entry x m) m) k.some.0 k.some.1)
    where
      plus_none : (t : ℤ) → t +ℤ pos 0 ≡ t
      plus_none t = omega (arith, ints)

  -- what answers a right side of the flows
  record FlowAnswered (f : List ℤ) (d : ℤ) (b : ℕ → ℕ) : Type 0 where
    at : (l : ℕ) → l < count → pos net.shares *ℤ entry f l ≡ inflow (λ m. entry f m) l +ℤ d *ℤ pos (b (1 + l))

  flow_answered : (x f : List ℤ) (d : ℤ) (s : ℕ) (b : ℕ → ℕ) → ((m : ℕ) → m < count → entry x (s * count + m) ≡ entry f m) →
      ((l : ℕ) → l < count → entry (get_or (flow_rows net) l []) (count + s) ≡ pos (b (1 + l))) → All (λ row. RowAnswered count s row x d) (flow_rows net) → FlowAnswered f d b
  unfolding flow_rows
  flow_answered x f d s b same side answered =
      let long : length (flow_rows net) ≡ count = length-map (link_numbers net) (flow_row net) ∙ length-range_with_len 1 count in
      record {
        at = λ l h. move (pos net.shares *ℤ entry f l) (inflow (λ m. entry f m) l) (d *ℤ pos (b (1 + l)))
            (sym (flow_times (λ m. entry f m) l h)
            ∙ total-same count _ _ (λ j i. ap (λ t. entry (get_or (flow_rows net) l []) j *ℤ t) (sym (same j i)))
            ∙ answered l [] (omega (arith, long)) ∙ ap (λ t. d *ℤ t) (side l h));
      }

  from_in : (l j : ℕ) → has (into_link net l) j ≡ true → has (link_numbers net) (from_of net j) ≡ true
  from_in l j h = at_in (λ k. has (link_numbers net) (from_of net k) ≡ true) j (movement_numbers net) (filter_sub (λ k. goes_to (to_of net k) l) (movement_numbers net) j h) ok.from

  inflow_by_movements : (f : List ℤ) (l : ℕ) → inflow (λ m. entry f m) l ≡ int_sum_by (λ j. pos (share_of net j) *ℤ int_entry f (from_of net j)) (into_link net (1 + l))
  inflow_by_movements f l = spread count (λ j m. from_of net j == 1 + m) (share_of net) (λ m. entry f m) (λ j. int_entry f (from_of net j)) (into_link net (1 + l))
      (each_in (λ j. total count (λ m. pos (cond (from_of net j == 1 + m) (share_of net j) 0) *ℤ entry f m) ≡ pos (share_of net j) *ℤ int_entry f (from_of net j)) (into_link net (1 + l))
      (λ j i. (let range = in_numbers count (from_of net j) (from_in (1 + l) j i) in
      one_column count (from_of net j - 1) (λ m. from_of net j == 1 + m) (share_of net j) (λ m. entry f m) (omega (arith, range))
      (eq-eqb (from_of net j) (1 + (from_of net j - 1)) (omega (arith, range)))
      (λ m apart. ne_eqb (from_of net j) (1 + m) (λ (e : from_of net j ≡ 1 + m). apart (omega (arith, e)))))))

  flow_balanced : (f : List ℤ) (d : ℤ) (b : ℕ → ℕ) → FlowAnswered f d b → AllByRecursion (λ l. IsBalancedFlow net f d (b l) l) (link_numbers net)
  flow_balanced f d b a = by_link (λ l. IsBalancedFlow net f d (b l) l) (λ l h.
      ap (λ t. pos net.shares *ℤ t) (int_entry-of f l) ∙ a.at l h ∙ ap (λ t. t +ℤ d *ℤ pos (b (1 + l))) (inflow_by_movements f l))

  flow_signs : (f : List ℤ) (d : ℤ) (b : ℕ → ℕ) → length f ≡ count → pos 1 ≤ℤ d → FlowAnswered f d b → All (λ v. pos 0 ≤ℤ v) f
  flow_signs f d b long one a = All-from_get_or (λ v. pos 0 ≤ℤ v) f (pos 0) (λ l h.
      flow_positive count net.shares (onto net ok) (outward net ok) (λ m. entry f m) (λ m. d *ℤ pos (b (1 + m))) (routing net ok)
      (λ m _. positive_times d (pos (b (1 + m))) one (omega (arith, ints)))
      (λ m i. a.at m i ∙ ap (λ t. t +ℤ d *ℤ pos (b (1 + m))) (flow_turn (λ m. entry f m) m)) l (omega (arith, long)))

  pub flows_right : (x : List ℤ) (d : ℤ) → pos 1 ≤ℤ d → length x ≡ 2 * count → Answers count 2 (flow_rows net) x d → AreFlows net (record { rate = take count x; unit = drop count x; d = d })
  flows_right x d one long answers =
      let rates : length (take count x) ≡ count = length-take-le count x (omega arith) in
      let units : length (drop count x) ≡ count = length-drop count x ∙ omega arith in
      let rate : FlowAnswered (take count x) d (λ l. net.shares * (link_at net l).rate) =
      flow_answered x (take count x) d 0 (λ l. net.shares * (link_at net l).rate)
      (λ m h. ap (λ i. entry x i) (omega arith) ∙ sym (get_or-take count x m (pos 0) h)) (λ l h. flow_side net l 0 h) (answers 0 (omega arith)) in
      let unit : FlowAnswered (drop count x) d (λ l. net.shares * length (into_link net l)) =
      flow_answered x (drop count x) d 1 (λ l. net.shares * length (into_link net l))
      (λ m h. ap (λ i. entry x i) (omega arith) ∙ sym (get_or-drop count x m (pos 0))) (λ l h. flow_side net l 1 h) (answers 1 (omega arith)) in
      record {
        denominator = one;
        rates = rates;
        units = units;
        rate_balance = flow_balanced (take count x) d (λ l. net.shares * (link_at net l).rate) rate;
        unit_balance = flow_balanced (drop count x) d (λ l. net.shares * length (into_link net l)) unit;
        rate_sign = flow_signs (take count x) d (λ l. net.shares * (link_at net l).rate) rates one rate;
        unit_sign = flow_signs (drop count x) d (λ l. net.shares * length (into_link net l)) units one unit;
      }

  -- ---- the worths
  abbrev ahead : (ℕ → ℤ) → ℕ → ℤ
  ahead z l = total count (λ m. pos (onto net ok l m) *ℤ z m)

  worth_times : (u : List ℤ) (z : ℕ → ℤ) (l : ℕ) → l < count → total count (λ j. entry (get_or (worth_rows net u) l []) j *ℤ z j) ≡ pos net.shares *ℤ z l -ℤ ahead z l
  unfolding worth_cell
  worth_times u z l h =
      total-same count _ (λ m. (pos (cond (1 + l == 1 + m) net.shares 0) -ℤ pos (onto net ok l m)) *ℤ z m) (λ j i. ap (λ t. t *ℤ z j) (worth_entry net u l j h i))
      ∙ row_times count l net.shares (λ m. onto net ok l m) z h

  pub worth_kernel : (u x : List ℤ) → IsKernel count (worth_rows net u) x → ⊥
  unfolding worth_rows
  worth_kernel u x k =
      let long : length (worth_rows net u) ≡ count = length-map (link_numbers net) (worth_row net u) ∙ length-range_with_len 1 count in
      k.some.2 (worth_unique count net.shares (onto net ok) (outward net ok) (λ m. entry x m) (routing net ok)
      (λ m h. move (pos net.shares *ℤ entry x m) (ahead (λ m. entry x m) m) (pos 0) (sym (worth_times u (λ m. entry x m) m h) ∙ k.solves m [] (omega (arith, long))) ∙ plus_none (ahead (λ m. entry x m) m)) k.some.0 k.some.1)
    where
      plus_none : (t : ℤ) → t +ℤ pos 0 ≡ t
      plus_none t = omega (arith, ints)

  worth_answered : (u x : List ℤ) (d : ℤ) → Answers count 1 (worth_rows net u) x d → (l : ℕ) → l < count → pos net.shares *ℤ entry x l ≡ ahead (λ m. entry x m) l +ℤ d *ℤ int_entry u (1 + l)
  unfolding worth_rows
  worth_answered u x d answers l h =
      let long : length (worth_rows net u) ≡ count = length-map (link_numbers net) (worth_row net u) ∙ length-range_with_len 1 count in
      move (pos net.shares *ℤ entry x l) (ahead (λ m. entry x m) l) (d *ℤ int_entry u (1 + l))
      (sym (worth_times u (λ m. entry x m) l h)
      ∙ total-same count _ _ (λ j i. ap (λ t. entry (get_or (worth_rows net u) l []) j *ℤ entry x t) (omega arith))
      ∙ answers 0 (omega arith) l [] (omega (arith, long)) ∙ ap (λ t. d *ℤ t) (worth_side net u l h))

  onward_column : (x : List ℤ) (to : Option ℕ) (w : ℕ) → IfSome to (λ l. has (link_numbers net) l ≡ true) → total count (λ m. pos (cond (goes_to to (1 + m)) w 0) *ℤ entry x m) ≡ pos w *ℤ onward x to
  onward_column x None w h = total-zero count (λ m. pos 0 *ℤ entry x m) (λ k _. nothing (entry x k)) ∙ sym (times_none w)
    where
      times_none : (w : ℕ) → pos w *ℤ pos 0 ≡ pos 0
      times_none w = omega (arith, ints)
  onward_column x (Some t) w h =
      let range = in_numbers count t h in
      one_column count (t - 1) (λ m. 1 + m == t) w (λ m. entry x m) (omega (arith, range)) (eq-eqb (1 + (t - 1)) t (omega (arith, range)))
      (λ m apart. ne_eqb (1 + m) t (λ (e : 1 + m ≡ t). apart (omega (arith, e))))

  to_in : (l k : ℕ) → has (out_of net l) k ≡ true → IfSome (to_of net k) (λ m. has (link_numbers net) m ≡ true)
  to_in l k h = at_in (λ k. IfSome (to_of net k) (λ m. has (link_numbers net) m ≡ true)) k (movement_numbers net) (filter_sub (λ k. from_of net k == l) (movement_numbers net) k h) ok.to

  ahead_by_movements : (x : List ℤ) (l : ℕ) → ahead (λ m. entry x m) l ≡ int_sum_by (λ k. pos (share_of net k) *ℤ onward x (to_of net k)) (out_of net (1 + l))
  ahead_by_movements x l = spread count (λ k m. goes_to (to_of net k) (1 + m)) (share_of net) (λ m. entry x m) (λ k. onward x (to_of net k)) (out_of net (1 + l))
      (each_in (λ k. total count (λ m. pos (cond (goes_to (to_of net k) (1 + m)) (share_of net k) 0) *ℤ entry x m) ≡ pos (share_of net k) *ℤ onward x (to_of net k)) (out_of net (1 + l))
      (λ k i. onward_column x (to_of net k) (share_of net k) (to_in (1 + l) k i)))

  pub worths_right : (u x : List ℤ) (d : ℤ) → length u ≡ count → All (λ v. pos 0 ≤ℤ v) u → pos 1 ≤ℤ d → length x ≡ 1 * count → Answers count 1 (worth_rows net u) x d → AreWorths net u (record { x = x; d = d })
  worths_right u x d fits signs one long answers = record {
    denominator = one;
    values = omega arith;
    balance = by_link (IsBalancedWorth net u x d) (λ l h. ap (λ t. pos net.shares *ℤ t) (int_entry-of x l) ∙ worth_answered u x d answers l h ∙ ap (λ t. t +ℤ d *ℤ int_entry u (1 + l)) (ahead_by_movements x l));
    sign = All-from_get_or (λ v. pos 0 ≤ℤ v) x (pos 0) (λ l h.
        worth_positive count net.shares (onto net ok) (outward net ok) (λ m. entry x m) (λ m. d *ℤ int_entry u (1 + m)) (routing net ok)
        (λ m i. positive_times d (int_entry u (1 + m)) one (sign_at m i))
        (λ m i. worth_answered u x d answers m i) l (omega (arith, long)));
  }
    where
      sign_at : (m : ℕ) → m < count → pos 0 ≤ℤ int_entry u (1 + m)
      sign_at m i = subst (λ (t : ℤ). pos 0 ≤ℤ t) (sym (int_entry-of u m)) (signs m (pos 0) (omega (arith, fits)))

  -- ---- one solution of each
  at_link : (P : ℕ → Type 0) → AllByRecursion P (link_numbers net) → (l : ℕ) → l < count → P (1 + l)
  at_link P all l h = at_range P 1 count (1 + l) (omega arith) (omega arith) all

  flow_row_of : (f : List ℤ) (d : ℤ) (b : ℕ → ℕ) → AllByRecursion (λ l. IsBalancedFlow net f d (b l) l) (link_numbers net) → (m : ℕ) → m < count →
      pos net.shares *ℤ entry f m ≡ total count (λ l. pos (onto net ok l m) *ℤ entry f l) +ℤ d *ℤ pos (b (1 + m))
  flow_row_of f d b all m h =
      ap (λ t. pos net.shares *ℤ t) (sym (int_entry-of f m)) ∙ at_link (λ l. IsBalancedFlow net f d (b l) l) all m h
      ∙ ap (λ t. t +ℤ d *ℤ pos (b (1 + m))) (sym (inflow_by_movements f m) ∙ flow_turn (λ m. entry f m) m)

  one_flow : (f g : List ℤ) (d e : ℤ) (b : ℕ → ℕ) → AllByRecursion (λ l. IsBalancedFlow net f d (b l) l) (link_numbers net) → AllByRecursion (λ l. IsBalancedFlow net g e (b l) l) (link_numbers net) →
      AllByRecursion (λ l. e *ℤ int_entry f l ≡ d *ℤ int_entry g l) (link_numbers net)
  one_flow f g d e b hf hg = by_link (λ l. e *ℤ int_entry f l ≡ d *ℤ int_entry g l) (λ l h.
      ap (λ t. e *ℤ t) (int_entry-of f l)
      ∙ flow_one count net.shares (onto net ok) (outward net ok) (λ m. entry f m) (λ m. entry g m) (λ m. pos (b (1 + m))) d e (routing net ok) (flow_row_of f d b hf) (flow_row_of g e b hg) l h
      ∙ ap (λ t. d *ℤ t) (sym (int_entry-of g l)))

  pub flows_only : (flows : Flows) → AreFlows net flows → AreOnlyFlows net flows
  flows_only flows a = record {
    rates = λ f d h. one_flow f flows.rate d flows.d (λ l. net.shares * (link_at net l).rate) h a.rate_balance;
    units = λ f d h. one_flow f flows.unit d flows.d (λ l. net.shares * length (into_link net l)) h a.unit_balance;
  }

  worth_row_of : (u x : List ℤ) (d : ℤ) → AllByRecursion (IsBalancedWorth net u x d) (link_numbers net) → (l : ℕ) → l < count →
      pos net.shares *ℤ entry x l ≡ total count (λ m. pos (onto net ok l m) *ℤ entry x m) +ℤ d *ℤ int_entry u (1 + l)
  worth_row_of u x d all l h =
      ap (λ t. pos net.shares *ℤ t) (sym (int_entry-of x l)) ∙ at_link (IsBalancedWorth net u x d) all l h
      ∙ ap (λ t. t +ℤ d *ℤ int_entry u (1 + l)) (sym (ahead_by_movements x l))

  pub worths_only : (u : List ℤ) (worths : Worths) → AreWorths net u worths → AreOnlyWorths net u worths
  worths_only u worths a = record {
    values = λ x d h. by_link (λ l. worths.d *ℤ int_entry x l ≡ d *ℤ int_entry worths.x l) (λ l i.
        ap (λ t. worths.d *ℤ t) (int_entry-of x l)
        ∙ worth_one count net.shares (onto net ok) (outward net ok) (λ m. entry x m) (λ m. entry worths.x m) (λ m. int_entry u (1 + m)) d worths.d (routing net ok) (worth_row_of u x d h) (worth_row_of u worths.x worths.d a.balance) l i
        ∙ ap (λ t. d *ℤ t) (sym (int_entry-of worths.x l)));
  }

pub ruleset balances = (flow_kernel, flows_right, worth_kernel, worths_right)
