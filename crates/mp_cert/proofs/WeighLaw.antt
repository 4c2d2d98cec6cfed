-- What the two sums of a vector are, where no calculation passes.
use Rattle.std.proofs.Common.{◌≡◌, ℕ, zero, suc, ◌+◌, ◌*◌, ◌-◌, ◌<◌, ◌≤◌, max, Bool, true, false, cond, List, [], ◌∷◌, length, map, get_or, sum_by, unsigned_abs, ℤ, pos, negsuc, ◌+ℤ◌, ◌-ℤ◌, ◌*ℤ◌, ◌≤ℤ◌, int_lt, Option, Some, None, option_map, option_and_then, arith, refl, ap, sym, ◌∙◌, subst, ⊎_elim}
use Rattle.std.specs.List.{AllByRecursion, range_with_len}
use Rattle.std.proofs.lemmas.Int.{ints}
use Rattle.std.proofs.lemmas.Bool.{cases_lt}
use Rattle.std.proofs.lemmas.Option.{option_and_then_some, same_Some}
use Rattle.std.proofs.lemmas.List.Sums.{sum_by-cons}
use Rattle.mp_model.specs.Sums.{int_sum_by}
use Rattle.mp_model.specs.Network.{Network, Junction, movement_numbers, junction_numbers, junction_at, no_junction, share_of, flow_of, rate_before, downstream, entry}
use Rattle.mp_model.specs.Pressure.{queued_downstream, positive_weight, pressure}
use Rattle.mp_model.specs.Load.{greatest, load, junction_capacity, capacity}
use Rattle.mp_model.specs.Certificate.{int_entry}
use Rattle.mp_num.specs.Passing.{stepped}
use Rattle.mp_num.specs.Operations.{times, plus, num, summed}
use Rattle.mp_cert.specs.Weighing.{brought, load_formed, counted, behind_formed, weight_formed, press_added, pressed, pressure_formed, greater, stage_taken, junction_formed, served_formed, weighed}
use Rattle.mp_cert.specs.declared.types.Weighed.{Weighed}
use Rattle.mp_cert.proofs.Gives.{Gives, gives-some, gives-times, gives-plus, gives-less, gives-same, gives-then, gives-summed}

-- ---- natural numbers among the signed ones
times_pos : (a b : ℕ) → pos a *ℤ pos b ≡ pos (a * b)
times_pos a b = omega (arith, ints)

sums_pos : (f : ℕ → ℕ) (xs : List ℕ) → int_sum_by (λ x. pos (f x)) xs ≡ pos (sum_by f xs)
sums_pos f [] = refl
sums_pos f (x ∷ xs) = let r = sums_pos f xs in omega (arith, ints, sum_by-cons f x xs)

natural : (z : ℤ) → pos 0 ≤ℤ z → z ≡ pos (unsigned_abs z)
natural (pos n) h = refl
natural (negsuc n) h = absurd (omega (arith, ints, h))

natural_at : (p : List ℤ) → AllByRecursion (λ x. pos 0 ≤ℤ x) p → (i : ℕ) → get_or p i (pos 0) ≡ pos (get_or (map unsigned_abs p) i 0)
natural_at [] h i = refl
natural_at (x ∷ xs) h zero = natural x h.0
natural_at (x ∷ xs) h (suc i) = natural_at xs h.1 i

gives-times_pos : (a b : Option ℤ) (m n : ℕ) → Gives a (pos m) → Gives b (pos n) → Gives (times a b) (pos (m * n))
gives-times_pos a b m n g h = gives-same _ _ _ (gives-times a b (pos m) (pos n) g h) (times_pos m n)

gives-summed_pos : (term : ℕ → Option ℤ) (f : ℕ → ℕ) (xs : List ℕ) → ((x : ℕ) → Gives (term x) (pos (f x))) → Gives (summed term xs) (pos (sum_by f xs))
gives-summed_pos term f xs h = gives-same _ _ _ (gives-summed term (λ x. pos (f x)) xs h) (sums_pos f xs)

-- ---- a running value over the numbers of a list, and over the list
by_number : {X S : Type 0} (f : S → X → Option S) (g : S → ℕ → Option S) (d : X) (xs : List X) (i : ℕ) → ((m : ℕ) (s : S) → m < length xs → g s (i + m) ≡ f s (get_or xs m d)) → (acc : S) → stepped g acc (range_with_len i (length xs)) ≡ stepped f acc xs
unfolding stepped
by_number f g d [] i h acc = refl
by_number {S = S} f g d (x ∷ xs) i h acc =
    let here : i + 0 ≡ i = omega arith in
    let first : g acc i ≡ f acc x = sym (ap (g acc) here) ∙ h 0 acc (omega arith) in
    let rest : (t : S) → stepped g t (range_with_len (i + 1) (length xs)) ≡ stepped f t xs = λ t. by_number f g d xs (i + 1) (λ m s l. let there : (i + 1) + m ≡ i + suc m = omega arith in ap (g s) there ∙ h (suc m) s (omega (arith, l))) t in
    ap (option_and_then (λ t. stepped g t (range_with_len (i + 1) (length xs)))) first ∙ then_same (f acc x) rest
  where
    then_same : (o : Option S) → ((t : S) → stepped g t (range_with_len (i + 1) (length xs)) ≡ stepped f t xs) → option_and_then (λ t. stepped g t (range_with_len (i + 1) (length xs))) o ≡ option_and_then (λ t. stepped f t xs) o
    then_same None r = refl
    then_same (Some t) r = r t

-- ---- the two sums
module _ (net : Network) (p : List ℤ) (signs : AllByRecursion (λ x. pos 0 ≤ℤ x) p) where
  q : ℕ → ℕ
  q k = entry (map unsigned_abs p) k

  gives-number : (k : ℕ) → Gives (Some (int_entry p k)) (pos (q k))
  unfolding q
  gives-number k = gives-same _ _ _ (gives-some (int_entry p k)) (natural_at p signs (k - 1))

  gives-load : Gives (load_formed net p) (pos (load net q))
  unfolding load_formed brought
  gives-load = gives-summed_pos (brought net p) (λ k. q k * share_of net k * rate_before net k) (movement_numbers net) (λ k. gives-times_pos _ _ (q k * share_of net k) (rate_before net k) (gives-times_pos _ _ (q k) (share_of net k) (gives-number k) (gives-some _)) (gives-some _))

  gives-behind : (k : ℕ) → Gives (behind_formed net p k) (pos (queued_downstream net q k))
  unfolding counted
  gives-behind k = gives-summed_pos (counted net p) (λ j. share_of net j * q j) (downstream net k) (λ j. gives-times_pos _ _ (share_of net j) (q j) (gives-some _) (gives-number j))

  gives-weight : (k : ℕ) → Gives (weight_formed net p k) (pos (net.shares * q k) -ℤ pos (queued_downstream net q k))
  unfolding weight_formed
  gives-weight k = gives-less _ _ (pos (net.shares * q k)) (pos (queued_downstream net q k)) (gives-times_pos _ _ net.shares (q k) (gives-some _) (gives-number k)) (gives-behind k)

  gives-press : (k a b : ℕ) (sum weight : ℤ) → weight ≡ pos a -ℤ pos b → Gives (press_added net k sum weight) (sum +ℤ pos (flow_of net k * (a - b)))
  unfolding press_added
  gives-press k a b sum weight e = go (int_lt (pos 0) weight) refl
    where
      go : (above : Bool) → int_lt (pos 0) weight ≡ above → Gives (cond above (plus (Some sum) (times (num (flow_of net k)) (Some weight))) (Some sum)) (sum +ℤ pos (flow_of net k * (a - b)))
      go true t =
          let positive : b < a = grind (arith, ints) in
          let same : weight ≡ pos (a - b) = omega (arith, ints, e, positive) in
          gives-plus (Some sum) _ sum (pos (flow_of net k * (a - b))) (gives-some sum) (gives-times_pos _ _ (flow_of net k) (a - b) (gives-some _) (gives-same _ _ _ (gives-some weight) same))
      go false t =
          let low : a ≤ b = grind (arith, ints) in
          let nothing : a - b ≡ 0 = omega (arith, low) in
          gives-same _ _ _ (gives-some sum) (let none : flow_of net k * (a - b) ≡ 0 = ap (λ n. flow_of net k * n) nothing ∙ omega arith in omega (arith, ints, none))

  gives-pressed : (sum : ℤ) (k : ℕ) → Gives (pressed net p sum k) (sum +ℤ pos (flow_of net k * positive_weight net q k))
  unfolding pressed
  gives-pressed sum k = gives-then (weight_formed net p k) (λ weight. press_added net k sum weight) (pos (net.shares * q k) -ℤ pos (queued_downstream net q k)) _ (gives-weight k) (λ weight e. gives-press k (net.shares * q k) (queued_downstream net q k) sum weight e)

  gives-pressures : (stage : List ℕ) (sum : ℤ) → Gives (stepped (pressed net p) sum stage) (sum +ℤ pos (pressure net q stage))
  unfolding stepped
  gives-pressures [] sum = gives-same _ _ _ (gives-some sum) (omega (arith, ints))
  gives-pressures (k ∷ ks) sum =
      gives-then (pressed net p sum k) (λ t. stepped (pressed net p) t ks) (sum +ℤ pos (flow_of net k * positive_weight net q k)) _ (gives-pressed sum k)
      (λ t e. gives-same _ _ _ (gives-pressures ks t) (omega (arith, ints, e, sum_by-cons (λ k. flow_of net k * positive_weight net q k) k ks)))

  gives-pressure : (stage : List ℕ) → Gives (pressure_formed net p stage) (pos (pressure net q stage))
  unfolding pressure_formed
  gives-pressure stage = gives-same _ _ _ (gives-pressures stage (pos 0)) (omega (arith, ints))

  -- the stages of a junction, one after the other
  over_stage : ℤ → List ℕ → Option ℤ
  over_stage most stage = option_map (greater most) (pressure_formed net p stage)

  greater_pos : (m n : ℕ) → greater (pos m) (pos n) ≡ pos (max m n)
  greater_pos m n = ⊎_elim
      (λ (h : m < n). let t : int_lt (pos m) (pos n) ≡ true = grind (arith, ints) in let e : max m n ≡ n = omega (arith, h) in rw (t, e) refl)
      (λ (h : n ≤ m). let t : int_lt (pos m) (pos n) ≡ false = grind (arith, ints) in let e : max m n ≡ m = omega (arith, h) in rw (t, e) refl) (cases_lt m n)

  gives-map : (f : ℤ → ℤ) (o : Option ℤ) (v : ℤ) → Gives o v → Gives (option_map f o) (f v)
  gives-map f None v g = record { at = λ z e. absurd (cc) }
  gives-map f (Some x) v g = record { at = λ z e. sym (same_Some _ _ e) ∙ ap f (g.at x refl) }

  gives-stages : (stages : List (List ℕ)) (n : ℕ) (most : ℤ) → most ≡ pos n → Gives (stepped over_stage most stages) (pos (max n (greatest (map (pressure net q) stages))))
  unfolding stepped over_stage
  gives-stages [] n most e = gives-same _ _ _ (gives-some most) (let m : max n 0 ≡ n = omega arith in rw m e)
  gives-stages (stage ∷ stages) n most e =
      gives-then (over_stage most stage) (λ t. stepped over_stage t stages) (pos (max n (pressure net q stage))) _
      (gives-same _ _ _ (gives-map (greater most) (pressure_formed net p stage) (pos (pressure net q stage)) (gives-pressure stage)) (ap (λ m. greater m (pos (pressure net q stage))) e ∙ greater_pos n (pressure net q stage)))
      (λ t et. gives-same _ _ _ (gives-stages stages (max n (pressure net q stage)) t et) (let m : max (max n (pressure net q stage)) (greatest (map (pressure net q) stages)) ≡ max n (max (pressure net q stage) (greatest (map (pressure net q) stages))) = omega arith in ap pos m))

  gives-junction : (j : ℕ) → Gives (junction_formed net p j) (pos (junction_capacity net q (junction_at net j)))
  unfolding junction_formed stage_taken over_stage
  gives-junction j =
      let stages : List (List ℕ) = (junction_at net j).stages in
      let same : junction_formed net p j ≡ stepped over_stage (pos 0) stages = by_number over_stage (stage_taken net p j) [] stages 1 (λ m s l. let back : (1 + m) - 1 ≡ m = omega arith in ap (λ i. over_stage s (get_or stages i [])) back) (pos 0) in
      subst (λ (o : Option ℤ). Gives o (pos (junction_capacity net q (junction_at net j)))) (sym same)
      (gives-same _ _ _ (gives-stages stages 0 (pos 0) refl) (let m : max 0 (greatest (map (pressure net q) stages)) ≡ greatest (map (pressure net q) stages) = omega arith in ap pos m))

  -- the capacities by number are those of the junctions
  number_sums : (f : Junction → ℕ) (js : List Junction) (g : ℕ → ℕ) (i : ℕ) → ((m : ℕ) → m < length js → g (i + m) ≡ f (get_or js m no_junction)) → sum_by g (range_with_len i (length js)) ≡ sum_by f js
  number_sums f [] g i h = refl
  number_sums f (j ∷ js) g i h =
      let here : i + 0 ≡ i = omega arith in
      let first : g i ≡ f j = sym (ap g here) ∙ h 0 (omega arith) in
      let rest = number_sums f js g (i + 1) (λ m l. let there : (i + 1) + m ≡ i + suc m = omega arith in ap g there ∙ h (suc m) (omega (arith, l))) in
      omega (arith, first, rest, sum_by-cons f j js, sum_by-cons g i (range_with_len (i + 1) (length js)))

  capacity_by_number : sum_by (λ j. junction_capacity net q (junction_at net j)) (junction_numbers net) ≡ capacity net q
  capacity_by_number = number_sums (junction_capacity net q) net.junctions (λ j. junction_capacity net q (junction_at net j)) 1 (λ m l. let back : (1 + m) - 1 ≡ m = omega arith in ap (λ i. junction_capacity net q (get_or net.junctions i no_junction)) back)

  gives-served : Gives (served_formed net p) (pos (net.per * capacity net q))
  unfolding served_formed
  gives-served =
      gives-same _ _ _
      (gives-times_pos _ _ (sum_by (λ j. junction_capacity net q (junction_at net j)) (junction_numbers net)) net.per (gives-summed_pos (junction_formed net p) (λ j. junction_capacity net q (junction_at net j)) (junction_numbers net) gives-junction) (gives-some _))
      (ap (λ c. pos (c * net.per)) capacity_by_number ∙ ap pos (omega arith))

  -- the sums that are there
  pub sums_are : (sums : Weighed) → weighed net p ≡ Some sums → (sums.load ≡ pos (load net (entry (map unsigned_abs p)))) × (sums.served ≡ pos (net.per * capacity net (entry (map unsigned_abs p))))
  unfolding weighed q
  sums_are sums e =
      option_and_then_some _ (load_formed net p) sums e (λ load hl e'.
      option_map_is _ (served_formed net p) sums e' (λ served hs e''.
      (ap (λ (w : Weighed). w.load) e'' ∙ gives-load.at load hl, ap (λ (w : Weighed). w.served) e'' ∙ gives-served.at served hs)))
    where
      option_map_is : {A B P : Type 0} (g : A → B) (o : Option A) (y : B) → option_map g o ≡ Some y → ((x : A) → o ≡ Some x → y ≡ g x → P) → P
      option_map_is g None y e h = absurd (cc)
      option_map_is g (Some x) y e h = h x refl (sym (same_Some _ _ e))
