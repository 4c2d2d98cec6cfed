-- What the finder finds guards the network.
use Rattle.std.proofs.Common.{◌≡◌, ◌≤◌, ◌<◌, ℕ, zero, suc, ◌+◌, ◌-◌, ◌*◌, ◌^◌, max, Bool, true, false, cond, nat_le, List, [], ◌∷◌, ◌++◌, length, get_or, map, sum_by, ℤ, pos, negsuc, ◌*ℤ◌, ◌≤ℤ◌, nat_abs, unsigned_abs, Option, Some, None, arith, refl, sym, ◌∙◌, ap, ap₂, subst, mul-le-mul, mul-le-mul_left, append_assoc, append-nil}
use Rattle.std.proofs.Math.ListN.{get_or-map}
use Rattle.std.specs.List.{All, AllByRecursion}
use Rattle.std.proofs.lemmas.Int.{ints}
use Rattle.std.proofs.lemmas.Bool.{leb-true}
use Rattle.std.proofs.lemmas.List.{length-map}
use Rattle.std.proofs.lemmas.List.Elements.{All-from_recursion}
use Rattle.std.proofs.lemmas.List.FromFn.{length-range_with_len, get_or-range_with_len}
use Rattle.std.proofs.lemmas.Option.{option_and_then_some}
use Rattle.mp_num.specs.Checked.{within}
use Rattle.mp_num.proofs.OutcomeLemmas.{each_some, option_map_some}
use Rattle.mp_served.proofs.Places.{at_place, junction_in}
use Rattle.mp_laws.proofs.Bridge.{plain_holds, to_mix, to_plain}
use Rattle.mp_laws.proofs.Lists.{all_in, all_places, at_in, at_number, back_one, each_in, filter_has, filter_sub, in_numbers, numbered}
use Rattle.mp_laws.proofs.PlainCertificate.{AllServe, PlainCert, PlainMix, Holds, Balances, Serves, plain_h, plain_parts_with}
use Rattle.mp_laws.proofs.Sums.{terms_le}
use Rattle.mp_model.specs.Certificate.{Cert, MeetsRules, Mix, PartRule, WholeRule, mix_at, no_mix}
use Rattle.mp_model.specs.Guard.{Guard, Guards, FlowRule, GreensFit, GuardedBalanceRule, GuardedServeRule, given, greens_at, is_always_green, sum_with}
use Rattle.mp_model.specs.Network.{Network, Junction, no_junction, movement_numbers, junction_numbers, junction_at, junction_of_movement, from_of, share_of, flow_of, rate_before, into_link, own, stage_at, stage_numbers, stands_in, has, entry}
use Rattle.mp_model.specs.NetworkRules.{IsAcceptable, IsNetwork}
use Rattle.mp_press.proofs.Known.{flow_few, has_numbers, stage_own}
use Rattle.mp_trial.proofs.Bounds.{rate_most}
use Rattle.mp_trial.proofs.Fitting.{fits}
use Rattle.mp_trial.proofs.Rounding.{rounding}
use Rattle.mp_trial.specs.Sweeps.{rounded_up}
use Rattle.mp_trial.specs.Trials.{Trial, Fits, Unfit, Endless, PassesIn, LimitIn, trial}
use Rattle.mp_verdict.proofs.Duality.{cancel_le}
use Rattle.mp_verdict.proofs.Holders.{has_junction}
use Rattle.mp_finder.specs.Finding.{Finding, Guarded, FullAt, by_greens, by_trial, finding, found_by, guard_with, taken}
use Rattle.mp_finder.specs.Giving.{IsMixOver}
use Rattle.mp_finder.specs.Greens.{all_wanted, green_for, greens_by, greens_for, settled, wanted}
use Rattle.mp_finder.proofs.Firsts.{green_few, over_is, under_is, under_some}
use Rattle.mp_finder.proofs.Settling.{InCycle, Serving, all_lowered, all_raised}

-- ---- the certificate in natural numbers
abs_same : (z : ℤ) → unsigned_abs z ≡ nat_abs z
abs_same (pos n) = refl
abs_same (negsuc n) = refl

abs_all : (zs : List ℤ) → map unsigned_abs zs ≡ map nat_abs zs
abs_all [] = refl
abs_all (z ∷ zs) = ap₂ (λ x xs. x ∷ xs) (abs_same z) (abs_all zs)

serves_here : (net : Network) (d : ℕ) (h : ℕ → ℕ) (js : List Junction) (mixes : List PlainMix) (n : ℕ) (none : PlainMix) → AllServe net d h js mixes → n < length js → Serves net d h (get_or js n no_junction) (get_or mixes n none)
serves_here net d h [] mixes n none s lt = absurd (omega arith)
serves_here net d h (j ∷ js) [] n none s lt = absurd s
serves_here net d h (j ∷ js) (mix ∷ mixes) zero none s lt = s.0
serves_here net d h (j ∷ js) (mix ∷ mixes) (suc n) none s lt = serves_here net d h js mixes n none s.1 (omega arith)

part_up : (v m : ℤ) (D : ℕ) → pos 0 ≤ℤ v → pos 1 ≤ℤ m → nat_abs v ≤ nat_abs m * D → v ≤ℤ (m *ℤ pos D)
part_up (pos v) (pos m) D a b le = let p : pos m *ℤ pos D ≡ pos (m * D) = refl in omega (arith, ints, le, p)
part_up (pos v) (negsuc m) D a b le = absurd (omega (arith, ints))
part_up (negsuc v) m D a b le = absurd (omega (arith, ints))

-- ---- the first greens of a junction
parts_sum : (stages : List (List ℕ)) (parts greens : List ℕ) (k C w : ℕ) → length greens ≡ length parts → ((i : ℕ) → i < length parts → C * get_or parts i 0 ≤ w * get_or greens i 0) → C * plain_parts_with stages parts k ≤ w * sum_with stages greens k
parts_sum [] parts greens k C w size each = omega arith
parts_sum (stage ∷ stages) [] [] k C w size each = omega arith
parts_sum (stage ∷ stages) [] (g ∷ greens) k C w size each = absurd (omega arith)
parts_sum (stage ∷ stages) (p ∷ parts) [] k C w size each = absurd (omega arith)
parts_sum (stage ∷ stages) (p ∷ parts) (g ∷ greens) k C w size each =
    one (has stage k) (each 0 (omega arith)) (parts_sum stages parts greens k C w (omega arith) (λ i lt. each (suc i) (omega arith)))
  where
    one : (b : Bool) → C * p ≤ w * g → C * plain_parts_with stages parts k ≤ w * sum_with stages greens k → C * (cond b p 0 + plain_parts_with stages parts k) ≤ w * (cond b g 0 + sum_with stages greens k)
    one true a more = omega (arith, a, more)
    one false a more = omega (arith, more)

served_numbers : (m D c C h G P : ℕ) → 1 ≤ m → m * h ≤ c * P → C * P ≤ (m * D) * G → C * h ≤ (D * c) * G
served_numbers m D c C h G P some row sums = cancel_le m (C * h) ((D * c) * G) some (omega (arith, mul-le-mul_left C row, mul-le-mul_left c sums))

green_is : {P : Type 0} (C D : ℕ) (whole v : ℤ) (g : ℕ) → green_for C D whole v ≡ Some g → ((x y : ℤ) → within (pos C *ℤ v) ≡ Some x → within (whole *ℤ pos D) ≡ Some y → g ≡ rounded_up (unsigned_abs x) (unsigned_abs y) → P) → P
unfolding green_for
green_is C D whole v g e k = option_and_then_some _ (within (pos C *ℤ v)) g e (λ x hx e'. option_map_some _ (within (whole *ℤ pos D)) g e' (λ y hy e''. k x y hx hy e''))

module _ (C D : ℕ) (some : 1 ≤ D) (mix : Mix) (over : IsMixOver D mix) (first : List ℕ) (is : greens_for C D mix ≡ Some first) where
  first_size : length first ≡ length mix.parts
  first_size = (each_some (green_for C D mix.whole) mix.parts first is).same_length

  -- each carries its part, and none is longer than the cycle
  first_at : (i : ℕ) → i < length mix.parts → (C * nat_abs (get_or mix.parts i (pos 0)) ≤ (nat_abs mix.whole * D) * get_or first i 0) × (get_or first i 0 ≤ C)
  first_at i lt =
      let v = get_or mix.parts i (pos 0) in
      green_is C D mix.whole v (get_or first i 0) ((each_some (green_for C D mix.whole) mix.parts first is).at i (pos 0) 0 lt)
      (λ x y hx hy e.
      (let le : rounded_up (unsigned_abs x) (unsigned_abs y) ≤ get_or first i 0 = omega (arith, e) in
      let carried = (rounding (unsigned_abs x) (unsigned_abs y) (get_or first i 0) (under_some C D some mix over y hy)).0 le in
      let xs = over_is C D some mix over v x hx in
      let ys : unsigned_abs y * get_or first i 0 ≡ (nat_abs mix.whole * D) * get_or first i 0 = ap (λ n. n * get_or first i 0) (under_is C D some mix over y hy ∙ ap (λ n. n * D) (abs_same mix.whole)) in
      let few = green_few C D some mix over i x y lt hx hy in
      (omega (arith, carried, xs, ys, ap (λ n. C * n) (abs_same v)), omega (arith, few, e))))

  first_few : (i : ℕ) → get_or first i 0 ≤ C
  first_few i = past first i (λ lt. (first_at i (omega (arith, lt, first_size))).1)
    where
      past : (xs : List ℕ) (i : ℕ) → (i < length xs → get_or xs i 0 ≤ C) → get_or xs i 0 ≤ C
      past [] i h = omega arith
      past (x ∷ xs) zero h = h (omega arith)
      past (x ∷ xs) (suc i) h = past xs i (λ lt. h (omega (arith, lt)))

  first_sum : (stages : List (List ℕ)) (k : ℕ) → C * plain_parts_with stages (map nat_abs mix.parts) k ≤ (nat_abs mix.whole * D) * sum_with stages first k
  first_sum stages k =
      let size = length-map mix.parts nat_abs in
      parts_sum stages (map nat_abs mix.parts) first k C (nat_abs mix.whole * D) (first_size ∙ sym size)
      (λ i lt.
      (let row = first_at i (omega (arith, lt, size)) in
      let here = get_or-map nat_abs mix.parts i (pos 0) in
      omega (arith, row.0, ap (λ n. C * n) here)))

-- ---- the rates, and one junction
module _ (net : Network) (ok : IsNetwork net) (C D : ℕ) (cycle : 1 ≤ C) (over : 1 ≤ D) (cert : Cert) (rules : MeetsRules net cert) (den : cert.d ≡ pos D) (sign : pos 0 ≤ℤ cert.e) where
  abbrev p : PlainCert
  p = to_plain cert

  abbrev h : List ℕ
  h = map unsigned_abs cert.h

  abbrev wants : List ℕ
  wants = all_wanted net C D h

  holds : Holds net p
  holds = plain_holds net ok cert rules sign

  d_is : p.d ≡ D
  d_is = ap nat_abs den

  rate_is : (k : ℕ) → entry h k ≡ plain_h p k
  rate_is k = ap (λ xs. get_or xs (k - 1) 0) (abs_all cert.h)

  -- no rate is above its flow
  pub flow_most : (k : ℕ) → has (movement_numbers net) k ≡ true → entry h k ≤ flow_of net k * D
  flow_most k in' = let m = rate_most net ok p holds k in' in omega (arith, m, rate_is k, ap (λ d. flow_of net k * d) d_is)

  serves_at : (j : ℕ) → has (junction_numbers net) j ≡ true → Serves net p.d (plain_h p) (junction_at net j) (to_mix (mix_at cert j))
  serves_at j in' =
      let b = in_numbers (length net.junctions) j in' in
      let s = serves_here net p.d (plain_h p) net.junctions p.mixes (j - 1) (to_mix no_mix) holds.served (omega (arith, b)) in
      subst (λ (mix : PlainMix). Serves net p.d (plain_h p) (junction_at net j) mix) (get_or-map to_mix cert.mixes (j - 1) no_mix) s

  pub parts_size : (j : ℕ) → has (junction_numbers net) j ≡ true → length (mix_at cert j).parts ≡ length (junction_at net j).stages
  parts_size j in' = at_in (λ j. length (mix_at cert j).parts ≡ length (junction_at net j).stages) j (junction_numbers net) in' rules.lengths.parts

  pub mix_over : (j : ℕ) → has (junction_numbers net) j ≡ true → IsMixOver D (mix_at cert j)
  mix_over j in' =
      let mix = mix_at cert j in
      let one = at_in (WholeRule cert) j (junction_numbers net) in' rules.wholes in
      let mass = (serves_at j in').mass in
      let terms = terms_le (λ x. x) (map nat_abs mix.parts) in
      record {
        whole = one;
        parts = all_places (λ part. (pos 0 ≤ℤ part) × (part ≤ℤ (mix.whole *ℤ pos D))) (pos 0) mix.parts
            (λ i lt.
            (let all = at_in (λ j. AllByRecursion (PartRule cert j) (stage_numbers (junction_at net j))) j (junction_numbers net) in' rules.parts in
            let low : pos 0 ≤ℤ get_or mix.parts i (pos 0) =
            subst (λ (n : ℕ). pos 0 ≤ℤ get_or mix.parts n (pos 0)) (back_one i) (at_number (PartRule cert j) (length (junction_at net j).stages) i (omega (arith, lt, parts_size j in')) all) in
            let term = at_place (λ x. x ≤ sum_by (λ x. x) (map nat_abs mix.parts)) 0 (map nat_abs mix.parts) i (omega (arith, lt, length-map mix.parts nat_abs)) terms in
            (low, part_up (get_or mix.parts i (pos 0)) mix.whole D low one (omega (arith, term, mass, get_or-map nat_abs mix.parts i (pos 0), ap (λ d. nat_abs mix.whole * d) d_is)))));
      }

  want_is : (k : ℕ) → has (movement_numbers net) k ≡ true → entry wants k ≡ wanted net C D h k
  want_is k in' = numbered (wanted net C D h) (length net.movements) k in'

  flow_some : (k : ℕ) → has (movement_numbers net) k ≡ true → 1 ≤ D * flow_of net k
  flow_some k in' = mul-le-mul over (at_in (λ k. 1 ≤ flow_of net k) k (movement_numbers net) in' ok.flow)

  near_want : (k G : ℕ) → has (movement_numbers net) k ≡ true → C * entry h k ≤ (D * flow_of net k) * G → entry wants k ≤ max 1 G
  unfolding wanted
  near_want k G in' le =
      let r = (rounding (C * entry h k) (D * flow_of net k) G (flow_some k in')).1 le in
      let w = want_is k in' in
      go (is_always_green (junction_at net (junction_of_movement net k)) k) r w
    where
      go : (b : Bool) → rounded_up (C * entry h k) (D * flow_of net k) ≤ G → entry wants k ≡ cond b 0 (max 1 (rounded_up (C * entry h k) (D * flow_of net k))) → entry wants k ≤ max 1 G
      go true r w = omega (arith, w)
      go false r w = omega (arith, r, w)

  module _ (j : ℕ) (in' : has (junction_numbers net) j ≡ true) where
    abbrev here : Junction
    here = junction_at net j

    pub mine : (s k : ℕ) → has (stage_at here s) k ≡ true → has (own net here) k ≡ true
    mine s k there = at_in (λ k. has (own net here) k ≡ true) k (stage_at here s) there (stage_own net ok (j - 1) s)

    near : (first : List ℕ) → greens_for C D (mix_at cert j) ≡ Some first → AllByRecursion (λ k. (stands_in here k ≡ true) × (entry wants k ≤ max 1 (sum_with here.stages first k))) (own net here)
    near first is =
        let s = serves_at j in' in
        each_in (λ k. (stands_in here k ≡ true) × (entry wants k ≤ max 1 (sum_with here.stages first k))) (own net here)
        (λ k own'.
        (let known = filter_sub (stands_in here) (movement_numbers net) k own' in
        let row = at_in (λ k. (nat_abs (mix_at cert j).whole) * plain_h p k ≤ flow_of net k * plain_parts_with here.stages (map nat_abs (mix_at cert j).parts) k) k (own net here) own' s.serve in
        let sums = first_sum C D over (mix_at cert j) (mix_over j in') first is here.stages k in
        let row' : nat_abs (mix_at cert j).whole * entry h k ≤ flow_of net k * plain_parts_with here.stages (map nat_abs (mix_at cert j).parts) k = omega (arith, row, ap (λ n. nat_abs (mix_at cert j).whole * n) (rate_is k)) in
        let served = served_numbers (nat_abs (mix_at cert j).whole) D (flow_of net k) C (entry h k) (sum_with here.stages first k) (plain_parts_with here.stages (map nat_abs (mix_at cert j).parts) k) s.whole row' sums in
        (filter_has (stands_in here) (movement_numbers net) k own', near_want k (sum_with here.stages first k) known served)))

    pub settles : (first : List ℕ) → greens_for C D (mix_at cert j) ≡ Some first → Serving C here wants (own net here) mine (settled net here wants first)
    settles first is =
        let fits : InCycle C here first = record { size = first_size C D over (mix_at cert j) (mix_over j in') first is ∙ parts_size j in'; few = first_few C D over (mix_at cert j) (mix_over j in') first is } in
        let raised = all_raised C cycle here wants (own net here) first fits (near first is) in
        all_lowered C here wants (own net here) mine (stage_numbers here) _ (record { fits = raised.fits; given = raised.given })
        (each_in (λ s. (1 ≤ s) × (s ≤ length here.stages)) (stage_numbers here) (λ s there. (let b = in_numbers (length here.stages) s there in (b.0, omega (arith, b)))))

    pub own_greens : (L : ℕ) (greens : List ℕ) → greens_by net C D wants j (mix_at cert j) ≡ Some greens → Serving C here wants (own net here) mine greens
    own_greens L greens e = option_map_some (settled net here wants) (greens_for C D (mix_at cert j)) greens e (λ first is same. subst (Serving C here wants (own net here) mine) (sym same) (settles first is))

-- ---- all junctions
pub full_or : {P : Type 0} (C L j : ℕ) (o : Option (List ℕ)) (go : List ℕ → Finding) (guard : Guard) → by_greens C L j o go ≡ Guarded guard → ((greens : List ℕ) → o ≡ Some greens → taken L greens ≤ C → go greens ≡ Guarded guard → P) → P
full_or C L j None go guard e k = absurd (cc)
full_or {P = P} C L j (Some greens) go guard e k = by (nat_le (taken L greens) C) refl e
  where
    by : (b : Bool) → nat_le (taken L greens) C ≡ b → cond b (go greens) (FullAt j) ≡ Guarded guard → P
    by true t e = k greens refl (leb-true (taken L greens) C t) e
    by false t e = absurd (cc)

pub same_guard : (a b : Guard) → Guarded a ≡ Guarded b → a ≡ b
same_guard a b e = cc

balance_numbers : (w H n D A S h d e S' h' : ℕ) → d ≡ D → e ≡ 0 → S ≡ S' → h ≡ h' → w * (d * n + H * S') + A * e ≤ A * h' → w * (n * D + H * S) ≤ A * h
balance_numbers w H n D A S h d e S' h' ed ee es eh le =
    omega (arith, le, ap (λ t. w * t * n) ed, ap (λ t. A * t) ee, ap (λ t. w * H * t) es, ap (λ t. A * t) eh)

module _ (net : Network) (ok : IsNetwork net) (C L D : ℕ) (cycle : (1 ≤ C) × (C ≤ 3600)) (lost : L ≤ 1) (over : (1 ≤ D) × (D ≤ 999999999)) (cert : Cert) (rules : MeetsRules net cert) (den : cert.d ≡ pos D) (none : cert.e ≡ pos 0) where
  sign : pos 0 ≤ℤ cert.e
  sign = omega (arith, ints, none)

  abbrev rates : List ℕ
  rates = map unsigned_abs cert.h

  abbrev all : List ℕ
  all = all_wanted net C D rates

  -- the greens of a junction are one for each stage, fit into the cycle, and give each movement what it wants
  record IsServed (j : ℕ) (greens : List ℕ) : Type 0 where
    fits : InCycle C (junction_at net j) greens
    given : AllByRecursion (λ k. entry all k ≤ sum_with (junction_at net j).stages greens k) (own net (junction_at net j))
    taken : taken L greens ≤ C

  abbrev AllServed : List ℕ → List (List ℕ) → Type 0
  AllServed [] [] = Unit {0}
  AllServed [] (greens ∷ rows) = ⊥
  AllServed (j ∷ js) [] = ⊥
  AllServed (j ∷ js) (greens ∷ rows) = IsServed j greens × AllServed js rows

  served_size : (js : List ℕ) (rows : List (List ℕ)) → AllServed js rows → length rows ≡ length js
  served_size [] [] s = refl
  served_size [] (greens ∷ rows) s = absurd s
  served_size (j ∷ js) [] s = absurd s
  served_size (j ∷ js) (greens ∷ rows) s = ap suc (served_size js rows s.1)

  served_place : (js : List ℕ) (rows : List (List ℕ)) (i : ℕ) → AllServed js rows → i < length js → IsServed (get_or js i 0) (get_or rows i [])
  served_place [] rows i s lt = absurd (omega arith)
  served_place (j ∷ js) [] i s lt = absurd s
  served_place (j ∷ js) (greens ∷ rows) zero s lt = s.0
  served_place (j ∷ js) (greens ∷ rows) (suc i) s lt = served_place js rows i s.1 (omega arith)

  record IsFound (before : List (List ℕ)) (js : List ℕ) (guard : Guard) : Type 0 where
    rows : List (List ℕ)
    served : AllServed js rows
    same : guard_with C L D rates (before ++ rows) ≡ guard

  found : (js : List ℕ) (before : List (List ℕ)) (guard : Guard) → AllByRecursion (λ j. has (junction_numbers net) j ≡ true) js → found_by net C L D cert rates before js ≡ Guarded guard → IsFound before js guard
  unfolding found_by
  found [] before guard known e = record { rows = []; served = tt; same = ap (guard_with C L D rates) (append-nil before) ∙ same_guard (guard_with C L D rates before) guard e }
  found (j ∷ js) before guard known e =
      full_or C L j (greens_by net C D all j (mix_at cert j)) _ guard e
      (λ greens is few e'.
      (let r = found js (before ++ greens ∷ []) guard known.1 e' in
      let s = own_greens net ok C D cycle.0 over.0 cert rules den sign j known.0 L greens is in
      record {
        rows = greens ∷ r.rows;
        served = (record { fits = s.fits; given = s.given; taken = few }, r.served);
        same = ap (guard_with C L D rates) (sym (append_assoc before (greens ∷ []) r.rows)) ∙ r.same;
      }))

  -- ---- the rules
  module _ (rows : List (List ℕ)) (served : AllServed (junction_numbers net) rows) where
    abbrev guard : Guard
    guard = guard_with C L D rates rows

    served_at : (j : ℕ) → has (junction_numbers net) j ≡ true → IsServed j (greens_at guard j)
    served_at j in' =
        let b = in_numbers (length net.junctions) j in' in
        let n = length-range_with_len 1 (length net.junctions) in
        subst (λ (i : ℕ). IsServed i (get_or rows (j - 1) [])) (get_or-range_with_len 1 (length net.junctions) (j - 1) 0 (omega (arith, b)) ∙ omega (arith, b)) (served_place (junction_numbers net) rows (j - 1) served (omega (arith, b, n)))

    flow : (k : ℕ) → has (movement_numbers net) k ≡ true → FlowRule net guard k
    flow k in' = flow_most net ok C D cycle.0 over.0 cert rules den sign k in'

    balance : (k : ℕ) → has (movement_numbers net) k ≡ true → GuardedBalanceRule net guard k
    balance k in' =
        let p = to_plain cert in
        let row = at_in (Balances net p) k (movement_numbers net) in' (holds net ok C D cycle.0 over.0 cert rules den sign).balance in
        let e : p.e ≡ 0 = ap nat_abs none in
        let d : p.d ≡ D = ap nat_abs den in
        let same = abs_all cert.h in
        balance_numbers (share_of net k) net.per (rate_before net k) D (net.shares * net.per) (sum_by (entry rates) (into_link net (from_of net k))) (entry rates k) p.d p.e (sum_by (plain_h p) (into_link net (from_of net k))) (plain_h p k)
        d e (ap (λ xs. sum_by (entry xs) (into_link net (from_of net k))) same) (ap (λ xs. entry xs k) same) row

    serve : (k : ℕ) → has (movement_numbers net) k ≡ true → GuardedServeRule net guard k
    unfolding wanted
    serve k in' =
        let j = junction_of_movement net k in
        let s = served_at j (junction_in net ok k in') in
        let want = at_in (λ k. entry all k ≤ sum_with (junction_at net j).stages (greens_at guard j) k) k (own net (junction_at net j)) (has_junction net ok k in').mine s.given in
        go (is_always_green (junction_at net j) k) refl (omega (arith, want, want_is net ok C D cycle.0 over.0 cert rules den sign k in'))
      where
        J : Junction
        J = junction_at net (junction_of_movement net k)

        G : ℕ
        G = sum_with J.stages (greens_at guard (junction_of_movement net k)) k

        R : ℕ
        R = rounded_up (C * entry rates k) (D * flow_of net k)

        go : (b : Bool) → is_always_green J k ≡ b → cond (is_always_green J k) 0 (max 1 R) ≤ G → GuardedServeRule net guard k
        go true e w =
            let is : given net guard k ≡ C = ap (λ b. cond b C G) e in
            let low = mul-le-mul_left C (flow k in') in
            record { some = omega (arith, is, cycle.0); serves = omega (arith, low, ap (λ n. D * flow_of net k * n) is) }
        go false e w =
            let is : given net guard k ≡ G = ap (λ b. cond b C G) e in
            let w' : cond {A = ℕ} (is_always_green J k) 0 (max 1 R) ≡ max 1 R = ap {B = ℕ} (λ b. cond b 0 (max 1 R)) e in
            let row = (rounding (C * entry rates k) (D * flow_of net k) G (flow_some net ok C D cycle.0 over.0 cert rules den sign k in')).0 (omega (arith, w, w')) in
            record { some = omega (arith, is, w, w'); serves = omega (arith, row, ap (λ n. D * flow_of net k * n) is) }

    guards : Guards net guard
    guards = record {
      lengths = record {
        rates = length-map cert.h unsigned_abs ∙ rules.lengths.rates;
        junctions = served_size (junction_numbers net) rows served ∙ length-range_with_len 1 (length net.junctions);
        greens = each_in (λ j. length (greens_at guard j) ≡ length (junction_at net j).stages) (junction_numbers net) (λ j in'. (served_at j in').fits.size);
      };
      cycle = cycle;
      lost = lost;
      denominator = over;
      flows = each_in (FlowRule net guard) (movement_numbers net) flow;
      greens = each_in (λ j. AllByRecursion (λ n. n ≤ C) (greens_at guard j)) (junction_numbers net) (λ j in'. all_places (λ n. n ≤ C) 0 (greens_at guard j) (λ i lt. (served_at j in').fits.few i));
      masses = each_in (λ j. GreensFit guard (greens_at guard j)) (junction_numbers net) (λ j in'. (served_at j in').taken);
      balances = each_in (GuardedBalanceRule net guard) (movement_numbers net) balance;
      serves = each_in (GuardedServeRule net guard) (movement_numbers net) serve;
    }

  -- what is found at the rates and the mixes of the certificate guards the network
  pub guarded : (guard : Guard) → found_by net C L D cert rates [] (junction_numbers net) ≡ Guarded guard → Guards net guard
  guarded guard e = let r = found (junction_numbers net) [] guard (all_in (junction_numbers net)) e in subst (Guards net) r.same (guards r.rows r.served)

-- what the finder finds guards the network
pub finding_guards : (net : Network) → IsNetwork net → (C L D : ℕ) → (1 ≤ C) × (C ≤ 3600) → L ≤ 1 → (1 ≤ D) × (D ≤ 999999999) → (guard : Guard) → finding net C L D ≡ Guarded guard → Guards net guard
finding_guards net ok C L D cycle lost over guard e = go (trial net D 0) refl e
  where
    go : (t : Trial) → trial net D 0 ≡ t → by_trial net C L D t ≡ Guarded guard → Guards net guard
    go (Fits cert) t e = let f = fits net ok D 0 over.0 cert t in guarded net ok C L D cycle lost over cert f.0 f.1 f.2 guard e
    go Unfit t e = absurd (cc)
    go Endless t e = absurd (cc)
    go (PassesIn j) t e = absurd (cc)
    go (LimitIn j) t e = absurd (cc)

-- no rate of the finder is above a thousand vehicles a period
pub rates_few : (net : Network) → IsAcceptable net → (D : ℕ) → 1 ≤ D → D ≤ 10 ^ 9 → (cert : Cert) → trial net D 0 ≡ Fits cert → All (λ rate. rate ≤ 10 ^ 12) (map unsigned_abs cert.h)
rates_few net ok D some few cert t =
    let f = fits net ok.network D 0 some cert t in
    let is = f.2 in
    let size = length-map cert.h unsigned_abs ∙ f.0.lengths.rates in
    All-from_recursion (λ rate. rate ≤ 10 ^ 12) (map unsigned_abs cert.h)
    (all_places (λ rate. rate ≤ 10 ^ 12) 0 (map unsigned_abs cert.h)
    (λ i lt.
    (let known = has_numbers (length net.movements) (suc i) (omega arith, omega (arith, lt, size)) in
    let most = flow_most net ok.network 1 D (omega arith) some cert f.0 f.1 (omega (arith, ints, is)) (suc i) known in
    let product : flow_of net (suc i) * D ≤ 1000 * 10 ^ 9 = mul-le-mul (flow_few net ok.range (suc i)) few in
    omega (arith, most, product, ap (λ n. get_or (map unsigned_abs cert.h) n 0) (back_one i)))))
