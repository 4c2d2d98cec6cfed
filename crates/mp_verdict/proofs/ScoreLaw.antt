-- The laws of the game.
use Rattle.std.proofs.Common.{◌≡◌, ℕ, zero, suc, ◌+◌, ◌-◌, ◌*◌, ◌≤◌, Bool, true, false, cond, List, [], ◌∷◌, length, map, sum_by, ℤ, pos, ◌+ℤ◌, ◌*ℤ◌, ◌≤ℤ◌, unsigned_abs, Some, None, arith, refl, ◌∙◌, ap, ap₂}
use Rattle.std.specs.List.{AllByRecursion}
use Rattle.std.proofs.lemmas.Int.{ints}
use Rattle.std.proofs.lemmas.List.{length-map}
use Rattle.std.proofs.lemmas.List.Sums.{sum_by-cons}
use Rattle.mp_model.specs.Sums.{int_sum_by}
use Rattle.mp_model.specs.Network.{Network, Junction, junction_at, from_of, share_of, flow_of, own, has, numbers_to}
use Rattle.mp_model.specs.NetworkRules.{IsNetwork}
use Rattle.mp_model.specs.Certificate.{int_entry, parts_with}
use Rattle.mp_laws.proofs.PlainCertificate.{plain_parts_with}
use Rattle.mp_laws.proofs.Lists.{AllOf-map, at_number, all_in}
use Rattle.mp_num.specs.Fraction.{Fraction, IsLowest}
use Rattle.mp_flow.specs.Systems.{Flows, AreFlows}
use Rattle.mp_verdict.specs.Laws.{exact_need, CarriesSlack, SatisfiedLaw, BoundedLaw, MotionLaw}
use Rattle.mp_verdict.proofs.Plain.{CarriesAt, asked, unit_asked}
use Rattle.mp_verdict.proofs.Signed.{mul_posℤ}
use Rattle.mp_verdict.proofs.Falls.{good_at}
use Rattle.mp_verdict.proofs.FlowNumbers.{abs_is, positive_is, entry_sign}
use Rattle.mp_verdict.proofs.RatesAt.{d_of, f_of, g_of, need_law}
use Rattle.mp_verdict.proofs.Sound.{IsSound, weights_of}
use Rattle.mp_verdict.proofs.Programs.{no_ray}
use Rattle.mp_verdict.proofs.Whole.{some_sound, game_sound, some_own}

parts_pos : (stages : List (List ℕ)) (parts : List ℕ) (k : ℕ) → parts_with stages (map pos parts) k ≡ pos (plain_parts_with stages parts k)
parts_pos [] parts k = refl
parts_pos (stage ∷ stages) [] k = refl
parts_pos (stage ∷ stages) (part ∷ parts) k = head (has stage k) (parts_pos stages parts k)
  where
    head : (b : Bool) → parts_with stages (map pos parts) k ≡ pos (plain_parts_with stages parts k) → cond b (pos part) (pos 0) +ℤ parts_with stages (map pos parts) k ≡ pos (cond b part 0 + plain_parts_with stages parts k)
    head true e = ap (λ t. pos part +ℤ t) e
    head false e = ap (λ t. pos 0 +ℤ t) e

sum_pos : (parts : List ℕ) → int_sum_by (λ y. y) (map pos parts) ≡ pos (sum_by (λ y. y) parts)
sum_pos [] = refl
sum_pos (y ∷ ys) = omega (arith, ints, sum_pos ys, sum_by-cons (λ y. y) y ys)

all_pos : (xs : List ℕ) → AllByRecursion (λ y. pos 0 ≤ℤ y) (map pos xs)
all_pos [] = tt
all_pos (x ∷ xs) = (omega (arith, ints), all_pos xs)

mass_pos : (s m G q : ℕ) (S T : ℤ) → S ≡ pos s → T ≡ pos (G * q) → s ≤ m * (G * q) → S ≤ℤ (pos m *ℤ T)
mass_pos s m G q S T e f le = let p : pos m *ℤ T ≡ pos (m * (G * q)) = ap (λ t. pos m *ℤ t) f ∙ mul_posℤ m (G * q) in omega (arith, ints, e, p, le)

serve_pos : (m c r : ℕ) (n n' R : ℤ) → n' ≡ n → R ≡ pos r → (pos m *ℤ n) ≤ℤ pos (c * r) → (pos m *ℤ n') ≤ℤ (pos c *ℤ R)
serve_pos m c r n n' R e f le =
    let p : pos m *ℤ n' ≡ pos m *ℤ n = ap (λ t. pos m *ℤ t) e in
    let q : pos c *ℤ R ≡ pos (c * r) = ap (λ t. pos c *ℤ t) f ∙ mul_posℤ c r in
    omega (arith, ints, p, q, le)

module _ (net : Network) (flows : Flows) (are : AreFlows net flows) (slack : Fraction) (low : IsLowest slack.num slack.den) where
  need_is : (k : ℕ) → exact_need net flows slack k ≡ asked net (d_of flows) (f_of flows) (g_of flows) slack.num (unsigned_abs slack.den) k
  need_is k =
      let w = share_of net k in
      let l = from_of net k in
      let f = abs_is (int_entry flows.rate l) (entry_sign flows.rate are.rate_sign l) in
      let g = abs_is (int_entry flows.unit l) (entry_sign flows.unit are.unit_sign l) in
      let d = positive_is flows.d are.denominator in
      let first : pos w *ℤ int_entry flows.rate l ≡ pos (w * f_of flows l) = ap (λ t. pos w *ℤ t) f ∙ mul_posℤ w (f_of flows l) in
      let second : pos w *ℤ int_entry flows.unit l +ℤ pos net.shares *ℤ flows.d ≡ pos (unit_asked net (d_of flows) (g_of flows) k) =
      ap₂ (λ a b. a +ℤ b) (ap (λ t. pos w *ℤ t) g ∙ mul_posℤ w (g_of flows l)) (ap (λ t. pos net.shares *ℤ t) d ∙ mul_posℤ net.shares (d_of flows)) in
      ap₂ (λ a b. a +ℤ (pos net.per *ℤ slack.num) *ℤ b) (ap₂ (λ a b. a *ℤ b) first (positive_is slack.den low.positive)) second
      ∙ need_law (w * f_of flows l) (unsigned_abs slack.den) net.per (unit_asked net (d_of flows) (g_of flows) k) slack.num

  carries_slack : (j : Junction) → CarriesAt net (d_of flows) (f_of flows) (g_of flows) slack.num (unsigned_abs slack.den) j → CarriesSlack net flows slack j
  carries_slack j c =
      let G = net.shares * net.per * d_of flows in
      let whole : (pos (net.shares * net.per) *ℤ flows.d) *ℤ slack.den ≡ pos (G * unsigned_abs slack.den) =
      ap₂ (λ a b. a *ℤ b) (ap (λ t. pos (net.shares * net.per) *ℤ t) (positive_is flows.d are.denominator) ∙ mul_posℤ (net.shares * net.per) (d_of flows)) (positive_is slack.den low.positive) ∙ mul_posℤ G (unsigned_abs slack.den) in
      record {
        mix = record { whole = pos c.plan.whole; parts = map pos c.plan.parts };
        whole = (let w = c.whole in omega (arith, ints, w));
        lengths = length-map c.plan.parts pos ∙ c.lengths;
        parts = all_pos c.plan.parts;
        mass = mass_pos (sum_by (λ y. y) c.plan.parts) c.plan.whole G (unsigned_abs slack.den) (int_sum_by (λ part. part) (map pos c.plan.parts)) _ (sum_pos c.plan.parts) whole c.mass;
        serve = AllOf-map (λ k. (pos c.plan.whole *ℤ asked net (d_of flows) (f_of flows) (g_of flows) slack.num (unsigned_abs slack.den) k) ≤ℤ pos (flow_of net k * plain_parts_with j.stages c.plan.parts k))
            (λ k. (pos c.plan.whole *ℤ exact_need net flows slack k) ≤ℤ (pos (flow_of net k) *ℤ parts_with j.stages (map pos c.plan.parts) k))
            (λ k le. serve_pos c.plan.whole (flow_of net k) (plain_parts_with j.stages c.plan.parts k) (asked net (d_of flows) (f_of flows) (g_of flows) slack.num (unsigned_abs slack.den) k) (exact_need net flows slack k) (parts_with j.stages (map pos c.plan.parts) k) (need_is k) (parts_pos j.stages c.plan.parts k) le) (own net j) c.serve;
      }

pub satisfied : SatisfiedLaw
satisfied net ok flows are n l score e =
    let s : IsSound net flows n score = some_sound net ok flows are n (Some score) l e in
    record {
      lowest = s.lowest;
      worst = (weights_of net score, s.whole, s.worst);
      values = s.values;
      carries = λ i some i'. carries_slack net flows are score.slack s.lowest (junction_at net i) (s.carries i some i');
    }

pub never_endless : BoundedLaw
never_endless net ok j some most h limit ray e = no_ray net (junction_at net j) h ok (good_at net net.junctions (j - 1) (omega (arith, some, most)) ok.stages) limit ray e

none_left : (net : Network) → IsNetwork net → (n : ℕ) → ((k : ℕ) → has (numbers_to n) k ≡ true → ⊥) → n ≡ 0
none_left net ok zero h = refl
none_left net ok (suc n) h = absurd (h 1 (at_number (λ k. has (numbers_to (suc n)) k ≡ true) (suc n) 0 (omega arith) (all_in (numbers_to (suc n)))))

pub no_motion : MotionLaw
no_motion net ok flows are e = none_left net ok (length net.movements) (λ k m. some_own net ok flows k m (game_sound net ok flows are None e))
