-- What the search comes to.
use Rattle.std.proofs.Common.{◌≡◌, ℕ, zero, suc, ◌+◌, ◌-◌, ◌*◌, ◌≤◌, ◌<◌, Bool, true, false, if◌then◌else◌, nat_lt, List, [], ◌∷◌, length, get_or, pos, ◌<ℤ◌, arith, refl, sym, ap, subst, ltb-true, ltb-false, mul-le-mul_left, ⊎_elim}
use Rattle.std.proofs.lemmas.Bool.{cases_lt}
use Rattle.std.proofs.lemmas.Int.{ints}
use Rattle.mp_model.specs.Network.{Network, Movement, no_movement, movement_numbers, flow_of, has}
use Rattle.mp_model.specs.NetworkRules.{IsNetwork}
use Rattle.mp_model.specs.Certificate.{Cert, Certifies}
use Rattle.mp_laws.proofs.Bridge.{to_plain}
use Rattle.mp_laws.proofs.Lists.{all_in, at_number, back_one}
use Rattle.mp_trial.specs.Laws.{SearchLaw}
use Rattle.mp_trial.specs.Trials.{Trial, Fits, Unfit, Endless, PassesIn, LimitIn, trial}
use Rattle.mp_trial.specs.Search.{Scaled, Found, NoneAt, after_trial, middle, halved, least_flow, too_great, scaled, HoldsOver}
use Rattle.mp_trial.proofs.Halving.{above_low, below_high}
use Rattle.mp_trial.proofs.Bounds.{plain_is, rate_most, rate_least}
use Rattle.mp_trial.proofs.Fitting.{fits}
use Rattle.mp_trial.proofs.Unfitness.{unfit}

-- ---- no excess is above the least flow over the denominator
record HasLeast (movements : List Movement) : Type 0 where
  at : ℕ
  inside : at < length movements
  most : (get_or movements at no_movement).flow ≤ least_flow movements

least_at : (movements : List Movement) → 1 ≤ length movements → HasLeast movements
least_at [] some = absurd (omega arith)
least_at (movement ∷ []) some = record { at = 0; inside = omega arith; most = omega arith }
least_at (movement ∷ other ∷ movements) some =
    let rest = least_at (other ∷ movements) (omega arith) in
    ⊎_elim (λ (l : movement.flow < least_flow (other ∷ movements)). record { at = 0; inside = omega arith; most = omega (arith, l) })
    (λ (l : least_flow (other ∷ movements) ≤ movement.flow). let m = rest.most in record { at = suc rest.at; inside = omega (arith, rest.inside); most = omega (arith, l, m) })
    (cases_lt movement.flow (least_flow (other ∷ movements)))

below_numbers : (e h c D f : ℕ) → e ≤ h → h ≤ c * D → c ≤ f → e < D * f + 1
below_numbers e h c D f a b l = omega (arith, a, b, mul-le-mul_left D l)

-- the certificates over the denominator have excesses below a bound
abbrev AllBelow : Network → ℕ → ℕ → Type 0
AllBelow net D hi = (other : Cert) → Certifies net other → other.d ≡ pos D → other.e <ℤ pos hi

below_too_great : (net : Network) → IsNetwork net → 1 ≤ length net.movements → (D : ℕ) → AllBelow net D (too_great net D)
below_too_great net ok motion D cert c d =
    let least = least_at net.movements motion in
    let k = suc least.at in
    let there : has (movement_numbers net) k ≡ true = at_number (λ k. has (movement_numbers net) k ≡ true) (length net.movements) least.at least.inside (all_in (movement_numbers net)) in
    let some = c.excess in
    let p = plain_is net ok D cert c.rules d (omega (arith, ints, some)) in
    let low = rate_least net ok (to_plain cert) p.holds k there in
    let most = rate_most net ok (to_plain cert) p.holds k there in
    let flow : flow_of net k ≤ least_flow net.movements = subst (λ (i : ℕ). (get_or net.movements i no_movement).flow ≤ least_flow net.movements) (sym (back_one least.at)) least.most in
    let l = below_numbers (to_plain cert).e _ (flow_of net k) D (least_flow net.movements) low (omega (arith, most, ap (λ n. flow_of net k * n) p.denominator)) flow in
    let e = p.excess in
    omega (arith, ints, l, e)

-- ---- the halvings
-- the certificate has the excess lo, and no certificate over the denominator has hi
record IsBetween (net : Network) (D lo hi : ℕ) (cert : Cert) : Type 0 where
  certifies : Certifies net cert
  denominator : cert.d ≡ pos D
  excess : cert.e ≡ pos lo
  below : AllBelow net D hi

after_holds : (net : Network) (D e : ℕ) (t : Trial) (above : Cert → Scaled) (below : Scaled) → ((cert : Cert) → t ≡ Fits cert → HoldsOver net D (above cert)) → (t ≡ Unfit → HoldsOver net D below) → HoldsOver net D (after_trial e t above below)
after_holds net D e (Fits cert) above below h k = h cert refl
after_holds net D e Unfit above below h k = k refl
after_holds net D e Endless above below h k = tt
after_holds net D e (PassesIn j) above below h k = tt
after_holds net D e (LimitIn j) above below h k = tt

if_holds : (net : Network) (D : ℕ) (b : Bool) (x y : Scaled) → (b ≡ true → HoldsOver net D x) → (b ≡ false → HoldsOver net D y) → HoldsOver net D (if b then x else y)
if_holds net D true x y h k = h refl
if_holds net D false x y h k = k refl

found_holds : (net : Network) (D lo hi : ℕ) (cert : Cert) → hi ≤ lo + 1 → IsBetween net D lo hi cert → HoldsOver net D (Found cert)
found_holds net D lo hi cert l b = record {
  certifies = b.certifies;
  denominator = b.denominator;
  greatest = λ other c d. (let less = b.below other c d in let e = b.excess in omega (arith, ints, less, e, l));
}

module _ (net : Network) (ok : IsNetwork net) (D : ℕ) (some : 1 ≤ D) where
  fitted : (e hi : ℕ) (cert : Cert) → 1 ≤ e → trial net D e ≡ Fits cert → AllBelow net D hi → IsBetween net D e hi cert
  fitted e hi cert one t below = let f = fits net ok D e some cert t in let is = f.2 in record { certifies = record { rules = f.0; excess = omega (arith, ints, is, one) }; denominator = f.1; excess = f.2; below = below }

  halved_holds : (halvings lo hi : ℕ) (cert : Cert) → 1 ≤ lo → hi - lo ≤ halvings + 1 → IsBetween net D lo hi cert → HoldsOver net D (halved net D halvings lo hi cert)
  unfolding halved
  halved_holds zero lo hi cert one l b = found_holds net D lo hi cert (omega arith) b
  halved_holds (suc halvings) lo hi cert one l b =
      if_holds net D (nat_lt (lo + 1) hi) _ (Found cert)
      (λ t.
      (let between : lo + 1 < hi = ltb-true (lo + 1) hi t in
      let m = middle lo hi in
      let up = above_low lo hi between in
      let down = below_high lo hi between in
      after_holds net D m (trial net D m) _ _
      (λ c fit. halved_holds halvings m hi c (omega (arith, one, up)) (omega (arith, l, up, down, between)) (fitted m hi c (omega (arith, one, up)) fit b.below))
      (λ not_fit. halved_holds halvings lo m cert one (omega (arith, l, up, down, between)) (record { certifies = b.certifies; denominator = b.denominator; excess = b.excess; below = λ other c d. unfit net ok D m not_fit other c.rules d }))))
      (λ f. (let near = ltb-false (lo + 1) hi f in found_holds net D lo hi cert near b))

pub searched : SearchLaw
unfolding scaled
searched net ok motion D some =
    after_holds net D 1 (trial net D 1) _ NoneAt
    (λ cert fit. halved_holds net ok D some (too_great net D) 1 (too_great net D) cert (omega arith) (omega arith) (fitted net ok D some 1 (too_great net D) cert (omega arith) fit (below_too_great net ok motion D)))
    (λ not_fit cert c d. (let l = unfit net ok D 1 not_fit cert c.rules d in let one = c.excess in omega (arith, ints, l, one)))
