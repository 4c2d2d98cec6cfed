-- The laws of the verdict.
use Rattle.std.proofs.Common.{◌≡◌, ℕ, zero, suc, ◌+◌, ◌-◌, ◌*◌, ◌≤◌, List, [], ◌∷◌, length, get_or, map, sum_by, ℤ, pos, negsuc, ◌+ℤ◌, ◌*ℤ◌, ◌≤ℤ◌, unsigned_abs, Option, Some, None, arith, refl, sym, ◌∙◌, ap, subst, mul-le-mul}
use Rattle.std.specs.List.{AllByRecursion}
use Rattle.std.proofs.lemmas.Int.{ints}
use Rattle.std.proofs.lemmas.List.{length-map}
use Rattle.std.proofs.lemmas.List.Elements.{All-from_recursion}
use Rattle.std.proofs.Math.Nat.{le_of_mul-le-mul_left}
use Rattle.mp_model.specs.Network.{Network, movement_numbers, numbers_to, entry}
use Rattle.mp_model.specs.NetworkRules.{IsNetwork}
use Rattle.mp_model.specs.Certificate.{Cert, Certifies}
use Rattle.mp_model.specs.Load.{load, capacity, IsOverloaded, IsVector}
use Rattle.mp_model.specs.Slack.{IsSlack, ShowsSlack, IsGreatestSlack}
use Rattle.mp_laws.proofs.Tied.{margin_of, tight as uncertified}
use Rattle.mp_flow.specs.declared.network.Place.{Place}
use Rattle.mp_flow.specs.Systems.{Flows, AreFlows, stated_flows}
use Rattle.mp_verdict.specs.Stated.{Reached, at_place}
use Rattle.mp_verdict.specs.Rates.{rates_at}
use Rattle.mp_verdict.specs.Game.{Score, game}
use Rattle.mp_verdict.specs.Vector.{vector_of}
use Rattle.mp_verdict.specs.Mixes.{mixes, certificate_of, certificate_at}
use Rattle.mp_verdict.specs.Verdict.{Verdict, Admitted, Critical, Overloaded, Motionless, judged, verdict_after, verdict}
use Rattle.mp_verdict.specs.Worst.{IsDivided, against, ShowsSigned}
use Rattle.mp_verdict.specs.VectorLaws.{ShowsBySign}
use Rattle.mp_verdict.specs.Laws.{IsNatural, Holds, CertifiedLaw, CriticalLaw, VerdictLaw, ApartLaw, ExactLaw}
use Rattle.mp_verdict.proofs.Plain.{CarriesAt}
use Rattle.mp_verdict.proofs.FlowNumbers.{positive_is, above_one, flow_is}
use Rattle.mp_verdict.proofs.RatesAt.{d_of, f_of, g_of}
use Rattle.mp_verdict.proofs.Sound.{IsSound, weights_of}
use Rattle.mp_verdict.proofs.Reaching.{then_reached, same_reached, at_place_reached}
use Rattle.mp_verdict.proofs.StatedFlows.{flows_are}
use Rattle.mp_verdict.proofs.Whole.{game_sound, game_end}
use Rattle.mp_verdict.proofs.VectorOf.{IsVectorOf, vector_is}
use Rattle.mp_verdict.proofs.VectorLaw.{shows, by_sign}
use Rattle.mp_verdict.proofs.Carried.{none_overloads}
use Rattle.mp_verdict.proofs.CarriedRates.{carries_rates}
use Rattle.mp_verdict.proofs.Certified.{certifies, has_slack}
use Rattle.mp_verdict.proofs.ScoreLaw.{no_motion}

get_abs : (xs : List ℤ) (i : ℕ) → get_or (map unsigned_abs xs) i 0 ≡ unsigned_abs (get_or xs i (pos 0))
get_abs [] i = refl
get_abs (x ∷ xs) zero = refl
get_abs (x ∷ xs) (suc i) = get_abs xs i

-- ---- the certificate
certified_by : (net : Network) → IsNetwork net → (flows : Flows) → AreFlows net flows → (st : Score) → IsSound net flows (length net.junctions) st → (n : ℕ) → st.slack.num ≡ pos (suc n) →
    (cert : Cert) → certificate_at net flows st.slack ≡ Reached cert → Certifies net cert × IsSlack cert (suc n) (unsigned_abs st.slack.den)
unfolding certificate_at
certified_by net ok flows are st sound n above cert e =
    then_reached (at_place (Place.Mix 1) (rates_at net flows st.slack)) _ cert e (λ rates hr e1.
    then_reached (mixes net rates) _ cert e1 (λ list hl e2.
    (let there = at_place_reached (Place.Mix 1) (rates_at net flows st.slack) rates hr in
    let P : Cert → Type 0 = λ cert. Certifies net cert × IsSlack cert (suc n) (unsigned_abs st.slack.den) in
    subst P (same_reached (certificate_of rates list) cert e2)
    (certifies net ok flows are st n above sound rates there list hl, has_slack net ok flows are st n above sound rates there list hl))))

natural_above : (P : ℤ → Type 0) (z : ℤ) → pos 1 ≤ℤ z → ((n : ℕ) → z ≡ pos (suc n) → P z) → P z
natural_above P (pos zero) h k = absurd (omega (arith, ints))
natural_above P (pos (suc n)) h k = k n refl
natural_above P (negsuc n) h k = absurd (omega (arith, ints))

pub certified : CertifiedLaw
certified net ok flows are score e above cert ec =
    let sound : IsSound net flows (length net.junctions) score = game_sound net ok flows are (Some score) e in
    natural_above (λ z. Certifies net cert × IsSlack cert (unsigned_abs z) (unsigned_abs score.slack.den)) score.slack.num above
    (λ n en. (let r = certified_by net ok flows are score sound n en cert ec in
    (r.0, subst (λ (z : ℤ). IsSlack cert (unsigned_abs z) (unsigned_abs score.slack.den)) (sym en) r.1)))

-- ---- the verdict
module _ (net : Network) (ok : IsNetwork net) (flows : Flows) (are : AreFlows net flows) (st : Score) (sound : IsSound net flows (length net.junctions) st) (p : List ℤ) (v : IsVectorOf net ok st sound.values p) where
  shown : ShowsSigned net (entry (map unsigned_abs p)) st.slack.num (unsigned_abs st.slack.den)
  shown =
      let r : IsDivided net (against net v.d (weights_of net st) v.x) (entry (map unsigned_abs p)) =
      record { factor = v.divided.factor; some = v.divided.some; at = λ k i. v.divided.at k i ∙ ap (λ t. v.divided.factor * t) (sym (get_abs p (k - 1))) } in
      shows net ok (d_of flows) v.d (f_of flows) (g_of flows) (weights_of net st) v.x st.junction sound.whole st.slack.num (unsigned_abs st.slack.den) (flow_is net flows are) v.worth sound.worst (entry (map unsigned_abs p)) r

  natural : IsNatural net p
  natural = record { lengths = v.count; signs = All-from_recursion (λ v. pos 0 ≤ℤ v) p v.signs }

  sign_shown : (num : ℤ) → st.slack.num ≡ num → ShowsBySign net (map unsigned_abs p) num (unsigned_abs st.slack.den)
  sign_shown num e =
      by_sign net ok (map unsigned_abs p) (length-map p unsigned_abs ∙ v.count) num (unsigned_abs st.slack.den) sound.worst.slack.some
      (subst (λ (z : ℤ). ShowsSigned net (entry (map unsigned_abs p)) z (unsigned_abs st.slack.den)) e shown)

  judged_holds : (num : ℤ) → st.slack.num ≡ num → (w : Verdict) → judged net flows st.slack p num ≡ Reached w → Holds net w
  unfolding judged
  judged_holds (pos zero) e w h =
      let tight = sign_shown (pos zero) e in
      let carried : AllByRecursion (CarriesAt net (d_of flows) (f_of flows) (g_of flows) (pos 0) (unsigned_abs st.slack.den)) net.junctions =
      subst (λ (z : ℤ). AllByRecursion (CarriesAt net (d_of flows) (f_of flows) (g_of flows) z (unsigned_abs st.slack.den)) net.junctions) e (game_end net ok flows are st sound).carries in
      subst (Holds net) (same_reached (Critical p) w h) (
        natural,
        tight,
        record {
          tight = (map unsigned_abs p, tight);
          none = λ p' is. none_overloads net ok (d_of flows) (f_of flows) (g_of flows) (flow_is net flows are) 0 (unsigned_abs st.slack.den) sound.worst.slack.some carried (entry p');
        },
        record {
          carries = carries_rates net ok (d_of flows) (f_of flows) (g_of flows) (flow_is net flows are) (unsigned_abs st.slack.den) sound.worst.slack.some carried;
          none = uncertified net ok (map unsigned_abs p) tight;
        },
      )
  judged_holds (pos (suc n)) e w h =
      then_reached (certificate_at net flows st.slack) _ w h (λ cert hc e1.
      (let c = certified_by net ok flows are st sound n e cert hc in
      let s = sign_shown (pos (suc n)) e in
      let P : ℤ → Type 0 = λ z. IsSlack cert (unsigned_abs z) (unsigned_abs st.slack.den) in
      let Q : ℤ → Type 0 = λ z. ShowsSlack net (map unsigned_abs p) (unsigned_abs z) (unsigned_abs st.slack.den) in
      let R : ℤ → Type 0 = λ z. IsGreatestSlack net (unsigned_abs z) (unsigned_abs st.slack.den) in
      subst (Holds net) (same_reached (Admitted cert p st.slack) w e1) (
        natural,
        record {
          above = omega (arith, ints, e);
          denominator = sound.lowest.positive;
          certifies = c.0;
          reaches = subst P (sym e) c.1;
          shows = subst Q (sym e) s;
          greatest = subst R (sym e) (record { above = omega arith; reached = (cert, c.0, c.1); shown = (map unsigned_abs p, s) });
        },
      )))
  judged_holds (negsuc n) e w h = subst (Holds net) (same_reached (Overloaded p) w h) (natural, sign_shown (negsuc n) e)

after_holds : {X : Type 0} (net : Network) → IsNetwork net → (weighed : List ℤ → Option X) (flows : Flows) → AreFlows net flows → (score : Option Score) → game net flows ≡ Reached score → (w : Verdict) → verdict_after net weighed flows score ≡ Reached w → Holds net w
unfolding verdict_after
after_holds net ok weighed flows are None g w h = subst (Holds net) (same_reached Motionless w h) (no_motion net ok flows are g)
after_holds net ok weighed flows are (Some st) g w h =
    let sound : IsSound net flows (length net.junctions) st = game_sound net ok flows are (Some st) g in
    then_reached (at_place Place.Adjoint (vector_of net st)) _ w h (λ p hp e1.
    then_reached (at_place Place.Vector (weighed p)) _ w e1 (λ sums hs e2.
    judged_holds net ok flows are st sound p (vector_is net ok st sound.values p (at_place_reached Place.Adjoint (vector_of net st) p hp)) st.slack.num refl w e2))

pub holds : (X : Type 0) → VerdictLaw X
unfolding verdict
holds X net ok weighed w h =
    then_reached (at_place Place.Flow (stated_flows net)) _ w h (λ flows hf e1.
    then_reached (game net flows) _ w e1 (λ score hg e2.
    after_holds net ok weighed flows (flows_are net ok flows (at_place_reached Place.Flow (stated_flows net) flows hf)) score hg w e2))

pub critical : (X : Type 0) → CriticalLaw X
critical X net ok weighed vector h = (holds X net ok weighed (Critical vector) h).3

-- ---- no two hold
margin_numbers : (d e s l c : ℕ) → 1 ≤ d → d * l + e * s ≤ d * c → l ≤ c
margin_numbers d e s l c one h = le_of_mul-le-mul_left {k = d} (omega (arith, h)) one

tight_numbers : (d e s l c : ℕ) → 1 ≤ e → 1 ≤ s → d * l + e * s ≤ d * c → l ≡ c → ⊥
tight_numbers d e s l c he hs h eq = omega (arith, h, mul-le-mul he hs, ap (λ n. d * n) eq)

natural_margin : (d e : ℤ) (s l c : ℕ) → pos 1 ≤ℤ d → pos 1 ≤ℤ e → (d *ℤ pos l +ℤ e *ℤ pos s) ≤ℤ (d *ℤ pos c) → unsigned_abs d * l + unsigned_abs e * s ≤ unsigned_abs d * c
natural_margin d e s l c one above h =
    let p : d *ℤ pos l ≡ pos (unsigned_abs d * l) = ap (λ t. t *ℤ pos l) (positive_is d one) in
    let q : e *ℤ pos s ≡ pos (unsigned_abs e * s) = ap (λ t. t *ℤ pos s) (positive_is e above) in
    let r : d *ℤ pos c ≡ pos (unsigned_abs d * c) = ap (λ t. t *ℤ pos c) (positive_is d one) in
    omega (arith, ints, p, q, r, h)

margin_at : (net : Network) → IsNetwork net → (cert : Cert) → Certifies net cert → (p : List ℕ) →
    unsigned_abs cert.d * load net (entry p) + unsigned_abs cert.e * (net.shares * net.per * sum_by (entry p) (movement_numbers net)) ≤ unsigned_abs cert.d * (net.per * capacity net (entry p))
margin_at net ok cert c p =
    natural_margin cert.d cert.e (net.shares * net.per * sum_by (entry p) (movement_numbers net)) (load net (entry p)) (net.per * capacity net (entry p)) c.rules.denominator c.excess
    (margin_of net ok cert c.rules (let x = c.excess in omega (arith, ints, x)) (entry p))

pub apart : ApartLaw
apart net ok = record {
  critical = λ c o. (let n = c.none o.0 o.1.vector in omega (arith, n, o.1.above));
  admitted = λ E D g o.
      (let cert = g.reached.0 in
      let c = g.reached.1 in
      let m = margin_numbers (unsigned_abs cert.d) (unsigned_abs cert.e) (net.shares * net.per * sum_by (entry o.0) (movement_numbers net)) (load net (entry o.0)) (net.per * capacity net (entry o.0)) (above_one cert.d c.rules.denominator) (margin_at net ok cert c o.0) in
      omega (arith, m, o.1.above));
  not_critical = λ E D g k.
      (let cert = g.reached.0 in
      let c = g.reached.1 in
      let p = k.tight.0 in
      tight_numbers (unsigned_abs cert.d) (unsigned_abs cert.e) (net.shares * net.per * sum_by (entry p) (movement_numbers net)) (load net (entry p)) (net.per * capacity net (entry p)) (above_one cert.e c.excess) (mul-le-mul (mul-le-mul ok.shares ok.per) k.tight.1.vector.some) (margin_at net ok cert c p) k.tight.1.equal);
}

no_vector : (net : Network) (p : List ℕ) → length net.movements ≡ 0 → ¬ IsVector net p
no_vector net p e v =
    let P : ℕ → Type 0 = λ n. 1 ≤ sum_by (entry p) (numbers_to n) in
    absurd (nothing (subst P e v.some))
  where
    nothing : 1 ≤ sum_by (entry p) (numbers_to 0) → ⊥
    nothing h = omega (arith, h)

pub exact : ExactLaw
exact net ok (Admitted cert vector slack) h =
    let a = apart net ok in
    let g = h.1.greatest in
    record {
      admitted = (λ s. (unsigned_abs slack.num, unsigned_abs slack.den, g), λ s. tt);
      critical = (λ s. absurd s, λ c. a.not_critical (unsigned_abs slack.num) (unsigned_abs slack.den) g c);
      overloaded = (λ s. absurd s, λ o. a.admitted (unsigned_abs slack.num) (unsigned_abs slack.den) g o);
    }
exact net ok (Critical vector) h =
    let a = apart net ok in
    record {
      admitted = (λ s. absurd s, λ g. a.not_critical g.0 g.1 g.2 h.2);
      critical = (λ s. h.2, λ c. tt);
      overloaded = (λ s. absurd s, λ o. a.critical h.2 o);
    }
exact net ok (Overloaded vector) h =
    let a = apart net ok in
    let o : IsOverloaded net = (map unsigned_abs vector, h.1) in
    record {
      admitted = (λ s. absurd s, λ g. a.admitted g.0 g.1 g.2 o);
      critical = (λ s. absurd s, λ c. a.critical c o);
      overloaded = (λ s. o, λ t. tt);
    }
exact net ok Motionless h = record {
  admitted = (λ s. absurd s, λ g. no_vector net g.2.shown.0 h g.2.shown.1.vector);
  critical = (λ s. absurd s, λ c. no_vector net c.tight.0 h c.tight.1.vector);
  overloaded = (λ s. absurd s, λ o. no_vector net o.0 h o.1.vector);
}
