-- The bounds by the stated calculation, formed turn by turn.
use Rattle.std.proofs.Common.{◌≡◌, ◌≤◌, ◌<◌, ℕ, zero, suc, ◌+◌, ◌-◌, ◌*◌, ◌^◌, Bool, true, false, cond, nat_lt, List, [], ◌∷◌, length, map, get_or, sum_by, replicate, Option, Some, None, option_map, option_and_then, arith, refl, sym, ◌∙◌, ap, ap₂, subst, mul-le-mul_left, mul-le-mul_right}
use Rattle.std.specs.List.{All, AllByRecursion}
use Rattle.std.proofs.Math.Nat.{one-le-mul}
use Rattle.std.proofs.lemmas.Bool.{ltb-false, le-ltb}
use Rattle.std.proofs.lemmas.List.{length-map, length-replicate}
use Rattle.std.proofs.lemmas.List.Elements.{All-from_recursion}
use Rattle.std.proofs.lemmas.List.FromFn.{length-range_with_len}
use Rattle.std.proofs.lemmas.Option.{option_and_then_some, same_Some}
use Rattle.mp_laws.proofs.Lists.{at_in, each_in, filter_sub, numbered}
use Rattle.mp_laws.proofs.Sums.{sum_by-le_at}
use Rattle.mp_model.specs.GuardedBursts.{quotient_up}
use Rattle.mp_model.specs.Network.{Network, burst_before, entry, from_of, goes_to, into_link, movement_numbers, out_of, share_of, start_of, to_of}
use Rattle.mp_model.specs.NetworkRules.{IsNetwork}
use Rattle.mp_model.specs.Plans.{flow_before, planned_bound}
use Rattle.mp_num.specs.Passing.{each}
use Rattle.mp_num.proofs.OutcomeLemmas.{option_map_some}
use Rattle.mp_planned.specs.Bounds.{ArePlannedBounds, formed_bounds}
use Rattle.mp_planned.proofs.Chains.{one_list_of, settled_of}
use Rattle.mp_served.proofs.Quotients.{quotient_holds, quotient_least}
use Rattle.mp_plan.specs.Ends.{AreBeyond}
use Rattle.mp_plan.specs.Made.{HasNoCycle}
use Rattle.mp_plan.specs.Stated.{bound_from, coming_from, early_from, fitting, stated_bound, stated_bounds, stated_coming, stated_early, with_room}
use Rattle.mp_plan.proofs.Fitting.{fitting_is, fitting_low, low_fits}
use Rattle.mp_plan.proofs.Greening.{each_is}

and_then_step : {A B : Type 0} (f : A → Option B) (o : Option A) (x : A) (r : Option B) → o ≡ Some x → f x ≡ r → option_and_then f o ≡ r
and_then_step f o x r e h = ap (option_and_then f) e ∙ h

quotient_grows : (x y n : ℕ) → 1 ≤ n → x ≤ y → quotient_up x n ≤ quotient_up y n
quotient_grows x y n some le = let h = quotient_holds y n some in quotient_least x n (quotient_up y n) some (omega arith)

-- ---- what comes
record Coming (share burst d per flow cycle y : ℕ) : Type 0 where
  pub some : burst * d < 2 ^ 127
  pub at_once : burst * d * per < 2 ^ 127
  pub in_cycle : flow * cycle < 2 ^ 127
  pub all : burst * d * per + flow * cycle < 2 ^ 127
  pub whole : share * (burst * d * per + flow * cycle) < 2 ^ 127
  pub is : y ≡ share * (burst * d * per + flow * cycle)

coming_parts : (share burst d per flow cycle y : ℕ) → coming_from share burst d per flow cycle ≡ Some y → Coming share burst d per flow cycle y
unfolding coming_from
coming_parts share burst d per flow cycle y e =
    option_and_then_some _ (fitting (burst * d)) y e (λ some hs e1.
    option_and_then_some _ (fitting (some * per)) y e1 (λ at_once ha e2.
    option_and_then_some _ (fitting (flow * cycle)) y e2 (λ in_cycle hc e3.
    option_and_then_some _ (fitting (at_once + in_cycle)) y e3 (λ all hl e4.
    (let a : some ≡ burst * d = fitting_is _ some hs in
    let b : at_once ≡ burst * d * per = fitting_is _ at_once ha ∙ ap (λ n. n * per) a in
    let c : in_cycle ≡ flow * cycle = fitting_is _ in_cycle hc in
    let t : all ≡ burst * d * per + flow * cycle = fitting_is _ all hl ∙ ap₂ (λ m n. m + n) b c in
    record {
      some = fitting_low _ some hs;
      at_once = subst (λ n. n * per < 2 ^ 127) a (fitting_low _ at_once ha);
      in_cycle = fitting_low _ in_cycle hc;
      all = subst (λ n. n < 2 ^ 127) (ap₂ (λ m n. m + n) b c) (fitting_low _ all hl);
      whole = subst (λ n. share * n < 2 ^ 127) t (fitting_low _ y e4);
      is = fitting_is _ y e4 ∙ ap (λ n. share * n) t;
    })))))

coming_some : (share burst d per flow cycle y : ℕ) → Coming share burst d per flow cycle y → coming_from share burst d per flow cycle ≡ Some (share * (burst * d * per + flow * cycle))
unfolding coming_from
coming_some share burst d per flow cycle y h =
    and_then_step _ (fitting (burst * d)) (burst * d) _ (low_fits (burst * d) h.some) (
    and_then_step _ (fitting (burst * d * per)) (burst * d * per) _ (low_fits (burst * d * per) h.at_once) (
    and_then_step _ (fitting (flow * cycle)) (flow * cycle) _ (low_fits (flow * cycle) h.in_cycle) (
    and_then_step _ (fitting (burst * d * per + flow * cycle)) (burst * d * per + flow * cycle) _ (low_fits (burst * d * per + flow * cycle) h.all)
    (low_fits (share * (burst * d * per + flow * cycle)) h.whole))))

crowd_grows : (share less burst d per other : ℕ) → less ≤ burst → share * (less * d * per + other) ≤ share * (burst * d * per + other)
crowd_grows share less burst d per other le = let a = mul-le-mul_right per (mul-le-mul_right d le) in mul-le-mul_left share (omega (arith, a))

-- less comes from less
coming_less : (share less burst d per flow cycle y : ℕ) → less ≤ burst → Coming share burst d per flow cycle y → Coming share less d per flow cycle (share * (less * d * per + flow * cycle))
coming_less share less burst d per flow cycle y le h =
    let a : less * d ≤ burst * d = mul-le-mul_right d le in
    let b : less * d * per ≤ burst * d * per = mul-le-mul_right per a in
    let c : share * (less * d * per + flow * cycle) ≤ share * (burst * d * per + flow * cycle) = mul-le-mul_left share (omega (arith, b)) in
    let some = h.some in
    let at_once = h.at_once in
    let all = h.all in
    let whole = h.whole in
    record {
      some = omega (arith, a, some);
      at_once = omega (arith, b, at_once);
      in_cycle = h.in_cycle;
      all = omega (arith, b, all);
      whole = omega (arith, c, whole);
      is = refl;
    }

-- ---- what comes early
early_is : (d per outs shares y : ℕ) → early_from d per outs shares ≡ Some y → y ≡ d * per * outs * (shares - 1)
unfolding early_from
early_is d per outs shares y e =
    option_and_then_some _ (fitting (d * per)) y e (λ some hs e1.
    option_and_then_some _ (fitting (some * outs)) y e1 (λ all ha e2.
    (let a : all ≡ d * per * outs = fitting_is _ all ha ∙ ap (λ n. n * outs) (fitting_is _ some hs) in
    fitting_is _ y e2 ∙ ap (λ n. n * (shares - 1)) a)))

-- ---- a bound
room_is : (n y : ℕ) → with_room n ≡ Some y → (y ≡ n) × (n ≤ 2 ^ 62)
unfolding with_room
room_is n y e = go (nat_lt (2 ^ 62) n) refl e
  where
    go : (b : Bool) → nat_lt (2 ^ 62) n ≡ b → cond b None (Some n) ≡ Some y → (y ≡ n) × (n ≤ 2 ^ 62)
    go true h e = absurd (cc)
    go false h e = (sym (same_Some _ _ e), ltb-false (2 ^ 62) n h)

with_room_is : (n : ℕ) → n ≤ 2 ^ 62 → with_room n ≡ Some n
unfolding with_room
with_room_is n h = ap (λ b. cond b None (Some n)) (le-ltb (2 ^ 62) n h)

record Bound (coming early unit d start y : ℕ) : Type 0 where
  pub above : coming + early < 2 ^ 127
  pub below : unit * d < 2 ^ 127
  pub room : start + quotient_up (coming + early) (unit * d) ≤ 2 ^ 62
  pub is : y ≡ start + quotient_up (coming + early) (unit * d)

bound_parts : (coming early unit d start y : ℕ) → bound_from coming early unit d start ≡ Some y → Bound coming early unit d start y
unfolding bound_from
bound_parts coming early unit d start y e =
    option_and_then_some _ (fitting (coming + early)) y e (λ above ha e1.
    option_and_then_some _ (fitting (unit * d)) y e1 (λ below hb e2.
    (let r = room_is (start + quotient_up above below) y e2 in
    let q : start + quotient_up above below ≡ start + quotient_up (coming + early) (unit * d) = ap₂ (λ m n. start + quotient_up m n) (fitting_is _ above ha) (fitting_is _ below hb) in
    record { above = fitting_low _ above ha; below = fitting_low _ below hb; room = subst (λ n. n ≤ 2 ^ 62) q r.1; is = r.0 ∙ q })))

bound_less : (less coming early unit d start y : ℕ) → 1 ≤ unit * d → less ≤ coming → Bound coming early unit d start y → bound_from less early unit d start ≡ Some (start + quotient_up (less + early) (unit * d))
unfolding bound_from
bound_less less coming early unit d start y some le h =
    let q : quotient_up (less + early) (unit * d) ≤ quotient_up (coming + early) (unit * d) = quotient_grows (less + early) (coming + early) (unit * d) some (omega arith) in
    let above = h.above in
    let room = h.room in
    and_then_step _ (fitting (less + early)) (less + early) _ (low_fits (less + early) (omega (arith, above))) (
    and_then_step _ (fitting (unit * d)) (unit * d) _ (low_fits (unit * d) h.below)
    (with_room_is (start + quotient_up (less + early) (unit * d)) (omega (arith, q, room))))

each_all : {X : Type 0} (f : X → Option ℕ) (P : ℕ → Type 0) → ((x : X) (y : ℕ) → f x ≡ Some y → P y) → (xs : List X) (ys : List ℕ) → each f xs ≡ Some ys → AllByRecursion P ys
unfolding each
each_all f P h [] ys e = subst (AllByRecursion P) (same_Some _ _ e) tt
each_all f P h (x ∷ xs) ys e =
    option_and_then_some _ (f x) ys e (λ y hy e'.
    option_map_some _ (each f xs) ys e' (λ rest hr e''. subst (AllByRecursion P) (sym e'') (h x y hy, each_all f P h xs rest hr)))

-- what one calculation exceeds, another does
each_none : {X Y : Type 0} (f g : X → Option Y) → ((x : X) → f x ≡ None → g x ≡ None) → (xs : List X) → each f xs ≡ None → each g xs ≡ None
unfolding each
each_none f g h [] e = absurd (cc)
each_none {Y = Y} f g h (x ∷ xs) e = go (f x) refl e (each_none f g h xs)
  where
    second : (o : Option Y) → each g xs ≡ None → option_and_then (λ z. option_map (λ zs. z ∷ zs) (each g xs)) o ≡ None
    second None n = refl
    second (Some z) n = ap (option_map (λ zs. z ∷ zs)) n

    unmapped : (z : Y) (o : Option (List Y)) → option_map (λ zs. z ∷ zs) o ≡ None → o ≡ None
    unmapped z None e = refl
    unmapped z (Some zs) e = absurd (cc)

    go : (o : Option Y) → f x ≡ o → option_and_then (λ z. option_map (λ zs. z ∷ zs) (each f xs)) o ≡ None → (each f xs ≡ None → each g xs ≡ None) → option_and_then (λ z. option_map (λ zs. z ∷ zs) (each g xs)) (g x) ≡ None
    go None is e more = ap (option_and_then (λ z. option_map (λ zs. z ∷ zs) (each g xs))) (h x is)
    go (Some z) is e more = second (g x) (more (unmapped z (each f xs) e))

module _ (net : Network) (f : List ℕ) (d cycle : ℕ) where
  burst_from : List ℕ → ℕ → ℕ
  burst_from b k = burst_before net k + sum_by (entry b) (into_link net (from_of net k))

  burst_grows : (b c : List ℕ) → AllByRecursion (λ j. entry b j ≤ entry c j) (movement_numbers net) → (k : ℕ) → burst_from b k ≤ burst_from c k
  unfolding burst_from
  burst_grows b c le k =
      let l = from_of net k in
      let s = sum_by-le_at (entry b) (entry c) (into_link net l) (each_in (λ j. entry b j ≤ entry c j) (into_link net l) (λ j in'. at_in (λ j. entry b j ≤ entry c j) j (movement_numbers net) (filter_sub (λ k. goes_to (to_of net k) l) (movement_numbers net) j in') le)) in
      omega (arith, s)

  -- the parts of the calculation of a bound
  record Parts (b : List ℕ) (k y : ℕ) : Type 0 where
    pub coming_is : ℕ
    pub early_is : ℕ
    pub burst_fits : burst_from b k < 2 ^ 127
    pub coming : Coming (share_of net k) (burst_from b k) d net.per (flow_before net f k) cycle coming_is
    pub early : stated_early net d k ≡ Some early_is
    pub bound : Bound coming_is early_is (net.shares * net.per) d (start_of net k) y

  parts_of : (b : List ℕ) (k y : ℕ) → stated_bound net f d cycle b k ≡ Some y → Parts b k y
  unfolding stated_bound stated_coming burst_from
  parts_of b k y e =
      option_and_then_some _ (stated_coming net f d cycle b k) y e (λ coming hc e1.
      option_and_then_some _ (stated_early net d k) y e1 (λ early he e2.
      option_and_then_some _ (fitting (burst_from b k)) coming hc (λ burst hb e3.
      (let is : burst ≡ burst_from b k = fitting_is _ burst hb in
      record {
        coming_is = coming;
        early_is = early;
        burst_fits = fitting_low _ burst hb;
        coming = coming_parts (share_of net k) (burst_from b k) d net.per (flow_before net f k) cycle coming (subst (λ n. coming_from (share_of net k) n d net.per (flow_before net f k) cycle ≡ Some coming) is e3);
        early = he;
        bound = bound_parts coming early (net.shares * net.per) d (start_of net k) y e2;
      }))))

  pub bound_is : (b : List ℕ) (k y : ℕ) → stated_bound net f d cycle b k ≡ Some y → y ≡ planned_bound net f d cycle b k
  unfolding burst_from
  bound_is b k y e =
      let p = parts_of b k y e in
      let c : p.coming_is ≡ share_of net k * (burst_from b k * d * net.per + flow_before net f k * cycle) = p.coming.is in
      let a = early_is d net.per (length (out_of net (from_of net k))) net.shares p.early_is p.early in
      p.bound.is ∙ ap₂ (λ m n. start_of net k + quotient_up (m + n) (net.shares * net.per * d)) c a

  pub bound_room : (b : List ℕ) (k y : ℕ) → stated_bound net f d cycle b k ≡ Some y → y ≤ 2 ^ 62
  bound_room b k y e = let p = parts_of b k y e in let bound = p.bound in let is = bound.is in let room = bound.room in omega (arith, is, room)

  -- less is found from less
  less_found : 1 ≤ net.shares * net.per * d → (b c : List ℕ) → AllByRecursion (λ j. entry b j ≤ entry c j) (movement_numbers net) → (k y : ℕ) → stated_bound net f d cycle c k ≡ Some y → (x : ℕ) × (stated_bound net f d cycle b k ≡ Some x)
  unfolding stated_bound stated_coming burst_from
  less_found some b c le k y e =
      let p = parts_of c k y e in
      let grows = burst_grows b c le k in
      let fits = p.burst_fits in
      let is : p.coming_is ≡ share_of net k * (burst_from c k * d * net.per + flow_before net f k * cycle) = p.coming.is in
      let less = coming_less (share_of net k) (burst_from b k) (burst_from c k) d net.per (flow_before net f k) cycle p.coming_is grows p.coming in
      let coming = share_of net k * (burst_from b k * d * net.per + flow_before net f k * cycle) in
      let low : coming ≤ p.coming_is = omega (arith, is, crowd_grows (share_of net k) (burst_from b k) (burst_from c k) d net.per (flow_before net f k * cycle) grows) in
      let found : stated_coming net f d cycle b k ≡ Some coming = found_coming b k (omega (arith, grows, fits)) (coming_some (share_of net k) (burst_from b k) d net.per (flow_before net f k) cycle coming less) in (
        start_of net k + quotient_up (coming + p.early_is) (net.shares * net.per * d),
        and_then_step _ (stated_coming net f d cycle b k) coming _ found (
            and_then_step _ (stated_early net d k) p.early_is _ p.early
            (bound_less coming p.coming_is p.early_is (net.shares * net.per) d (start_of net k) y some low p.bound)),
      )
    where
      found_coming : (b : List ℕ) (k : ℕ) → burst_from b k < 2 ^ 127 → coming_from (share_of net k) (burst_from b k) d net.per (flow_before net f k) cycle ≡ Some (share_of net k * (burst_from b k * d * net.per + flow_before net f k * cycle)) →
          stated_coming net f d cycle b k ≡ Some (share_of net k * (burst_from b k * d * net.per + flow_before net f k * cycle))
      found_coming b k h e = and_then_step _ (fitting (burst_from b k)) (burst_from b k) _ (low_fits (burst_from b k) h) e

  -- so what less exceeds, more does
  more_passes : 1 ≤ net.shares * net.per * d → (b c : List ℕ) → AllByRecursion (λ j. entry b j ≤ entry c j) (movement_numbers net) → stated_bounds net f d cycle b ≡ None → stated_bounds net f d cycle c ≡ None
  unfolding stated_bounds
  more_passes some b c le e = each_none (stated_bound net f d cycle b) (stated_bound net f d cycle c) one (movement_numbers net) e
    where
      one : (k : ℕ) → stated_bound net f d cycle b k ≡ None → stated_bound net f d cycle c k ≡ None
      one k none = go (stated_bound net f d cycle c k) refl
        where
          go : (o : Option ℕ) → stated_bound net f d cycle c k ≡ o → stated_bound net f d cycle c k ≡ None
          go None e = e
          go (Some y) e = let x = less_found some b c le k y e in absurd (cc (x.1, none))

  planned_grows : 1 ≤ net.shares * net.per * d → (b c : List ℕ) → AllByRecursion (λ j. entry b j ≤ entry c j) (movement_numbers net) → (k : ℕ) → planned_bound net f d cycle b k ≤ planned_bound net f d cycle c k
  unfolding burst_from
  planned_grows some b c le k =
      let early = d * net.per * length (out_of net (from_of net k)) * (net.shares - 1) in
      let grows = crowd_grows (share_of net k) (burst_from b k) (burst_from c k) d net.per (flow_before net f k * cycle) (burst_grows b c le k) in
      let q = quotient_grows (share_of net k * (burst_from b k * d * net.per + flow_before net f k * cycle) + early) (share_of net k * (burst_from c k * d * net.per + flow_before net f k * cycle) + early) (net.shares * net.per * d) some (omega (arith, grows)) in
      omega (arith, q)

  abbrev pub zeros : List ℕ
  zeros = replicate (length net.movements) 0

  zero_at : (n i : ℕ) → ◌≡◌ {A = ℕ} (get_or (replicate n 0) i 0) 0
  zero_at zero i = refl
  zero_at (suc n) zero = refl
  zero_at (suc n) (suc i) = zero_at n i

  below : 1 ≤ net.shares * net.per * d → (c : List ℕ) → ArePlannedBounds net f d cycle c → (n : ℕ) → AllByRecursion (λ k. entry (formed_bounds net f d cycle n zeros) k ≤ entry c k) (movement_numbers net)
  below some c are zero = each_in (λ k. entry (formed_bounds net f d cycle 0 zeros) k ≤ entry c k) (movement_numbers net) (λ k in'. let e : entry zeros k ≡ 0 = zero_at (length net.movements) (k - 1) in omega (arith, e))
  below some c are (suc n) = each_in (λ k. entry (formed_bounds net f d cycle (suc n) zeros) k ≤ entry c k) (movement_numbers net) (λ k in'.
      let one : entry (formed_bounds net f d cycle (suc n) zeros) k ≡ planned_bound net f d cycle (formed_bounds net f d cycle n zeros) k = numbered (planned_bound net f d cycle (formed_bounds net f d cycle n zeros)) (length net.movements) k in' in
      let two : entry c k ≡ planned_bound net f d cycle c k = ap (λ xs. entry xs k) are ∙ numbered (planned_bound net f d cycle c) (length net.movements) k in' in
      let grows = planned_grows some (formed_bounds net f d cycle n zeros) c (below some c are n) k in
      omega (arith, one, two, grows))

  -- ---- turn by turn
  pub record Forming (n : ℕ) (now : List ℕ) : Type 0 where
    pub formed : now ≡ formed_bounds net f d cycle n zeros
    pub size : length now ≡ length net.movements
    pub room : All (λ b. b ≤ 2 ^ 62) now

  pub bounds_are : (b bs : List ℕ) → stated_bounds net f d cycle b ≡ Some bs → bs ≡ map (planned_bound net f d cycle b) (movement_numbers net)
  unfolding stated_bounds
  bounds_are b bs e = each_is (stated_bound net f d cycle b) (planned_bound net f d cycle b) (bound_is b) (movement_numbers net) bs e

  pub bounds_room : (b bs : List ℕ) → stated_bounds net f d cycle b ≡ Some bs → All (λ b. b ≤ 2 ^ 62) bs
  unfolding stated_bounds
  bounds_room b bs e = All-from_recursion (λ b. b ≤ 2 ^ 62) bs (each_all (stated_bound net f d cycle b) (λ b. b ≤ 2 ^ 62) (bound_room b) (movement_numbers net) bs e)

  pub bounds_size : (b bs : List ℕ) → stated_bounds net f d cycle b ≡ Some bs → length bs ≡ length net.movements
  bounds_size b bs e = ap length (bounds_are b bs e) ∙ length-map (movement_numbers net) (planned_bound net f d cycle b) ∙ length-range_with_len 1 (length net.movements)

  zeros_room : (n : ℕ) → AllByRecursion (λ b. b ≤ 2 ^ 62) (replicate n 0)
  zeros_room zero = tt
  zeros_room (suc n) = (omega arith, zeros_room n)

  pub forming_start : (now : List ℕ) → now ≡ replicate (length net.movements) 0 → Forming 0 now
  forming_start now e = record {
    formed = e;
    size = ap length e ∙ length-replicate (length net.movements) 0;
    room = subst (All (λ b. b ≤ 2 ^ 62)) (sym e) (All-from_recursion (λ b. b ≤ 2 ^ 62) (replicate (length net.movements) 0) (zeros_room (length net.movements)));
  }

  pub forming_more : (n : ℕ) (now next : List ℕ) → Forming n now → stated_bounds net f d cycle now ≡ Some next → Forming (n + 1) next
  forming_more n now next so_far e = record {
    formed =
        let one : suc n ≡ n + 1 = omega arith in
        bounds_are now next e ∙ ap (λ b. map (planned_bound net f d cycle b) (movement_numbers net)) so_far.formed ∙ ap (λ m. formed_bounds net f d cycle m zeros) one;
    size = bounds_size now next e;
    room = bounds_room now next e;
  }

  module _ (ok : IsNetwork net) (none : HasNoCycle net) where
    pub forming_fails : 1 ≤ net.shares * net.per * d → (n : ℕ) (now : List ℕ) → Forming n now → stated_bounds net f d cycle now ≡ None → AreBeyond net f d cycle
    forming_fails some n now so_far e =
        let one = one_list_of net ok none f d cycle in
        record {
          bounds = one.bounds;
          are = one.are;
          passes = more_passes some now one.bounds (subst (λ b. AllByRecursion (λ k. entry b k ≤ entry one.bounds k) (movement_numbers net)) (sym so_far.formed) (below some one.bounds one.are n)) e;
        }

    settled : (n : ℕ) (now : List ℕ) → Forming n now → n ≡ length net.links + 2 → ArePlannedBounds net f d cycle now
    settled n now so_far e =
        let is : formed_bounds net f d cycle (length net.links + 2) zeros ≡ now = ap (λ m. formed_bounds net f d cycle m zeros) (sym e) ∙ sym so_far.formed in
        subst (ArePlannedBounds net f d cycle) is (settled_of net ok none f d cycle zeros)

    pub forming_ends : (n : ℕ) (now bounds : List ℕ) → Forming n now → n ≡ length net.links + 2 → stated_bounds net f d cycle now ≡ Some bounds → ArePlannedBounds net f d cycle bounds × (stated_bounds net f d cycle bounds ≡ Some bounds)
    forming_ends n now bounds so_far e stated =
        let are = settled n now so_far e in
        let same : now ≡ bounds = are ∙ sym (bounds_are now bounds stated) in
        (subst (ArePlannedBounds net f d cycle) same are, ap (stated_bounds net f d cycle) (sym same) ∙ stated)

    pub forming_beyond : (n : ℕ) (now : List ℕ) → Forming n now → n ≡ length net.links + 2 → stated_bounds net f d cycle now ≡ None → AreBeyond net f d cycle
    forming_beyond n now so_far e stated = record { bounds = now; are = settled n now so_far e; passes = stated }

-- the unit of bounds is not 0
pub unit_some : (net : Network) → IsNetwork net → (d : ℕ) → 1 ≤ d → 1 ≤ net.shares * net.per * d
unit_some net ok d h = one-le-mul (one-le-mul ok.shares ok.per) h
