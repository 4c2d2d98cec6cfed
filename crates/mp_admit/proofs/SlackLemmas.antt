-- What makes the denominator of a slack positive.
use Rattle.std.proofs.Common.{to_z-of_z, ◌≡◌, ℕ, zero, suc, ◌+◌, ◌-◌, ◌*◌, ◌≤◌, length, ℤ, pos, negsuc, ◌+ℤ◌, ◌*ℤ◌, ◌≤ℤ◌, Option, Some, None, refl, sym, ◌∙◌, subst, arith}
use Rattle.std.proofs.lemmas.Int.{ints}
use Rattle.mp_num.proofs.CheckedLemmas.{within_some}
use Rattle.mp_model.specs.Network.{Network, from_of, share_of}
use Rattle.mp_model.specs.NetworkRules.{IsNetwork}
use Rattle.mp_model.specs.Certificate.{int_entry}
use Rattle.mp_flow.specs.Systems.{Flows, AreFlows}
use Rattle.mp_num.specs.Operations.{times, plus, num}
use Rattle.mp_verdict.specs.Rates.{unit_need}
use Rattle.mp_admit.proofs.TermLemmas.{from_known}

-- the parts of a product and of a sum that are there
pub record Factors (a b : Option ℤ) (v : ℤ) : Type 0 where
  pub left : ℤ
  pub right : ℤ
  pub is_left : a ≡ Some left
  pub is_right : b ≡ Some right
  pub value : v ≡ left *ℤ right

pub record Summands (a b : Option ℤ) (v : ℤ) : Type 0 where
  pub left : ℤ
  pub right : ℤ
  pub is_left : a ≡ Some left
  pub is_right : b ≡ Some right
  pub value : v ≡ left +ℤ right

pub factors : (a b : Option ℤ) (v : ℤ) → times a b ≡ Some v → Factors a b v
unfolding times
factors None b v e = cc
factors (Some x) None v e = cc
factors (Some x) (Some y) v e = record { left = x; right = y; is_left = refl; is_right = refl; value = within_some (x *ℤ y) v e }

pub summands : (a b : Option ℤ) (v : ℤ) → plus a b ≡ Some v → Summands a b v
unfolding plus
summands None b v e = cc
summands (Some x) None v e = cc
summands (Some x) (Some y) v e = record { left = x; right = y; is_left = refl; is_right = refl; value = within_some (x +ℤ y) v e }

pub product_sign : (a b : ℤ) → pos 0 ≤ℤ a → pos 0 ≤ℤ b → pos 0 ≤ℤ (a *ℤ b)
product_sign (pos a) (pos b) h k = omega (arith, ints)
product_sign (negsuc a) b h k = absurd (omega (arith, ints, h))
product_sign (pos a) (negsuc b) h k = absurd (omega (arith, ints, k))

product_some : (a b : ℕ) → 1 ≤ suc a * suc b
product_some a b = omega arith

pub product_positive : (a b : ℤ) → pos 1 ≤ℤ a → pos 1 ≤ℤ b → pos 1 ≤ℤ (a *ℤ b)
product_positive (pos zero) b h k = absurd (omega (arith, ints, h))
product_positive (pos (suc a)) (pos zero) h k = absurd (omega (arith, ints, k))
product_positive (pos (suc a)) (pos (suc b)) h k = omega (arith, ints, product_some a b)
product_positive (negsuc a) b h k = absurd (omega (arith, ints, h))
product_positive (pos (suc a)) (negsuc b) h k = absurd (omega (arith, ints, k))

-- a product with a number of at least 1 is no less
pub product_least : (a b : ℤ) → pos 1 ≤ℤ a → pos 0 ≤ℤ b → b ≤ℤ (a *ℤ b)
product_least (pos zero) b h k = absurd (omega (arith, ints, h))
product_least (pos (suc a)) (pos b) h k = let e : suc a * b ≡ b + a * b = omega arith in omega (arith, ints, e)
product_least (pos (suc a)) (negsuc b) h k = absurd (omega (arith, ints, k))
product_least (negsuc a) b h k = absurd (omega (arith, ints, h))

pub some_injective : {x y : ℤ} → Some x ≡ Some y → x ≡ y
some_injective e = cc

unit_on : (net : Network) (flows : Flows) (k : ℕ) → IsNetwork net → AreFlows net flows → (1 ≤ k) × (k ≤ length net.movements) → pos 0 ≤ℤ int_entry flows.unit (from_of net k)
unit_on net flows k ok a h = let l = from_known net k ok h in a.unit_sign (from_of net k - 1) (pos 0) (omega (arith, l, a.units))

pub unit_positive : (net : Network) (flows : Flows) (k : ℕ) (u : ℤ) → IsNetwork net → AreFlows net flows → (1 ≤ k) × (k ≤ length net.movements) → unit_need net flows k ≡ Some u → pos 1 ≤ℤ u
unfolding unit_need
unit_positive net flows k u ok a h e =
    let s = summands (times (num (share_of net k)) (Some (int_entry flows.unit (from_of net k)))) (times (num net.shares) (Some flows.d)) u e in
    let l = factors (num (share_of net k)) (Some (int_entry flows.unit (from_of net k))) s.left s.is_left in
    let r = factors (num net.shares) (Some flows.d) s.right s.is_right in
    let ll : pos (share_of net k) ≡ l.left = some_injective l.is_left in
    let lr : int_entry flows.unit (from_of net k) ≡ l.right = some_injective l.is_right in
    let rl : pos net.shares ≡ r.left = some_injective r.is_left in
    let rr : flows.d ≡ r.right = some_injective r.is_right in
    let share : pos 0 ≤ℤ l.left = subst (λ (t : ℤ). pos 0 ≤ℤ t) ll (omega (arith, ints)) in
    let unit : pos 0 ≤ℤ l.right = subst (λ (t : ℤ). pos 0 ≤ℤ t) lr (unit_on net flows k ok a h) in
    let shares : pos 1 ≤ℤ r.left = (let one = ok.shares in subst (λ (t : ℤ). pos 1 ≤ℤ t) rl (omega (arith, ints, one))) in
    let d : pos 1 ≤ℤ r.right = subst (λ (t : ℤ). pos 1 ≤ℤ t) rr a.denominator in
    omega (arith, ints, s.value, l.value, r.value, product_sign l.left l.right share unit, product_positive r.left r.right shares d)

-- a positive number over a rate length
pub over_positive : (net : Network) (o : Option ℤ) (u v : ℤ) → IsNetwork net → o ≡ Some u → pos 1 ≤ℤ u → times (num net.per) o ≡ Some v → pos 1 ≤ℤ v
over_positive net o u v ok e h t =
    let f = factors (num net.per) o v t in
    let l : pos net.per ≡ f.left = some_injective f.is_left in
    let r : u ≡ f.right = some_injective (sym e ∙ f.is_right) in
    let per : pos 1 ≤ℤ f.left = (let one = ok.per in subst (λ (t : ℤ). pos 1 ≤ℤ t) l (omega (arith, ints, one))) in
    let some : pos 1 ≤ℤ f.right = subst (λ (t : ℤ). pos 1 ≤ℤ t) r h in
    subst (λ (t : ℤ). pos 1 ≤ℤ t) (sym f.value) (product_positive f.left f.right per some)

pub alone_positive : (net : Network) (flows : Flows) (k : ℕ) (v : ℤ) → IsNetwork net → AreFlows net flows → (1 ≤ k) × (k ≤ length net.movements) → times (num net.per) (unit_need net flows k) ≡ Some v → pos 1 ≤ℤ v
alone_positive net flows k v ok a h t =
    let f = factors (num net.per) (unit_need net flows k) v t in
    over_positive net (unit_need net flows k) f.right v ok f.is_right (unit_positive net flows k f.right ok a h f.is_right) t

pub ruleset slacks = (to_z-of_z, alone_positive)
