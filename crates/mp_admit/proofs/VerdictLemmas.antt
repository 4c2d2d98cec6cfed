-- The verdict from its parts.
use Rattle.std.proofs.Common.{to_z-of_z, ◌≡◌, ℕ, zero, suc, ◌≤◌, List, length, ℤ, pos, negsuc, ◌≤ℤ◌, ◌<ℤ◌, Option, Some, None, Result, Ok, Err, inl, inr, refl, ap, sym, ◌∙◌, subst, arith}
use Rattle.std.specs.Prelude.{IfOk}
use Rattle.std.proofs.lemmas.Int.{ints}
use Rattle.mp_num.specs.Fraction.{Fraction}
use Rattle.mp_model.specs.Network.{Network}
use Rattle.mp_model.specs.NetworkRules.{IsNetwork, IsAcceptable}
use Rattle.mp_model.specs.Certificate.{Cert}
use Rattle.mp_flow.specs.Systems.{Flows, AreFlows, stated_flows}
use Rattle.mp_flow.specs.Calculating as flow
use Rattle.mp_flow.specs.Calculating.{flows_of}
use Rattle.mp_flow.specs.declared.network.Place.{Place}
use Rattle.mp_flow.specs.declared.network.CalcFault.{CalcFault}
use Rattle.mp_verdict.specs.Game.{Score, game}
use Rattle.mp_verdict.specs.Vector.{vector_of}
use Rattle.mp_verdict.specs.Mixes.{certificate_at}
use Rattle.mp_verdict.specs.Verdict.{Verdict, Admitted, Critical, Overloaded, judged, verdict_after, verdict}
use Rattle.mp_verdict.specs.Stated.{Reached, PassesAt, at_place, then, Gives}
use Rattle.mp_verdict.specs.Laws.{Holds, IsExact}
use Rattle.mp_verdict.proofs.VerdictProof as law
use Rattle.mp_verdict.proofs.ScoreLaw.{no_motion}
use Rattle.mp_admit.specs.declared.score.Score.{Score as Kept}
use Rattle.mp_admit.specs.declared.verdict.Verdict.{Verdict as KeptVerdict}
use Rattle.mp_admit.specs.Scores.{score_of, scores_of}
use Rattle.mp_admit.specs.Verdicts.{verdict_of}
use Rattle.mp_admit.proofs.FaultLemmas.{fault_then}

-- ---- the sign of the slack
pub judged_tight : (net : Network) (flows : Flows) (slack : Fraction) (vector : List ℤ) (num : ℤ) → num ≡ pos 0 → judged net flows slack vector num ≡ Reached (Critical vector)
unfolding judged
judged_tight net flows slack vector num e = rw e refl

pub judged_below : (net : Network) (flows : Flows) (slack : Fraction) (vector : List ℤ) (num : ℤ) → num <ℤ pos 0 → judged net flows slack vector num ≡ Reached (Overloaded vector)
unfolding judged
judged_below net flows slack vector (pos n) h = absurd (omega (arith, ints, h))
judged_below net flows slack vector (negsuc n) h = refl

judged_above : (net : Network) (flows : Flows) (slack : Fraction) (vector : List ℤ) (num : ℤ) → (num ≡ pos 0 → ⊥) → pos 0 ≤ℤ num → judged net flows slack vector num ≡ then (certificate_at net flows slack) (λ cert. Reached (Admitted cert vector slack))
unfolding judged
judged_above net flows slack vector (pos zero) n h = absurd (n refl)
judged_above net flows slack vector (pos (suc k)) n h = refl
judged_above net flows slack vector (negsuc k) n h = absurd (omega (arith, ints, h))

pub judged_admitted : (net : Network) (flows : Flows) (slack : Fraction) (vector : List ℤ) (num : ℤ) (cert : Cert) → (num ≡ pos 0 → ⊥) → pos 0 ≤ℤ num → certificate_at net flows slack ≡ Reached cert → judged net flows slack vector num ≡ Reached (Admitted cert vector slack)
judged_admitted net flows slack vector num cert n h e = judged_above net flows slack vector num n h ∙ rw e refl

pub judged_refused : {X X' : Type 0} (seen : X → Cert) (seen' : X' → Verdict) (net : Network) (flows : Flows) (slack : Fraction) (vector : List ℤ) (num : ℤ) (fault : CalcFault) → (num ≡ pos 0 → ⊥) → pos 0 ≤ℤ num → Gives seen (Err fault) (certificate_at net flows slack) → Gives seen' (Err fault) (judged net flows slack vector num)
judged_refused seen seen' net flows slack vector num fault n h g = fault_then seen seen' fault (certificate_at net flows slack) _ _ (judged_above net flows slack vector num n h) g

pub ruleset judging = (to_z-of_z, judged_tight, judged_below)

-- ---- after the game
pub after_no_vector : {X X' W : Type 0} (seen : X → List ℤ) (seen' : X' → Verdict) (net : Network) (weighed : List ℤ → Option W) (flows : Flows) (score : Score) (fault : CalcFault) → Gives seen (Err fault) (at_place Place.Adjoint (vector_of net score)) → Gives seen' (Err fault) (verdict_after net weighed flows (Some score))
unfolding verdict_after
after_no_vector seen seen' net weighed flows score fault g = fault_then seen seen' fault (at_place Place.Adjoint (vector_of net score)) _ _ refl g

pub after_no_sums : {W : Type 0} (net : Network) (weighed : List ℤ → Option W) (flows : Flows) (score : Score) (vector : List ℤ) → at_place Place.Adjoint (vector_of net score) ≡ Reached vector → weighed vector ≡ None → verdict_after net weighed flows (Some score) ≡ PassesAt Place.Vector
unfolding verdict_after
after_no_sums net weighed flows score vector e w = rw (e, w) refl

pub after_judged : {W : Type 0} (net : Network) (weighed : List ℤ → Option W) (flows : Flows) (score : Score) (vector : List ℤ) (sums : W) → at_place Place.Adjoint (vector_of net score) ≡ Reached vector → weighed vector ≡ Some sums →
    verdict_after net weighed flows (Some score) ≡ judged net flows score.slack vector score.slack.num
unfolding verdict_after
after_judged net weighed flows score vector sums e w = rw (e, w) refl

-- ---- the whole
pub verdict_no_flows : {W X : Type 0} (seen : X → Verdict) (net : Network) (weighed : List ℤ → Option W) (fault : CalcFault) → flow.Gives Place.Flow flows_of (Err fault) (stated_flows net) → Gives seen (Err fault) (verdict net weighed)
unfolding verdict
verdict_no_flows {X = X} seen net weighed fault (inl p) = subst (λ (f : CalcFault). Gives {X = X} seen (Err f) (verdict net weighed)) (sym p.0) (rw p.1 refl)
verdict_no_flows {X = X} seen net weighed fault (inr m) = subst (λ (f : CalcFault). Gives {X = X} seen (Err f) (verdict net weighed)) (sym m) tt

verdict_with : {W : Type 0} (net : Network) (weighed : List ℤ → Option W) (flows : Flows) → stated_flows net ≡ Some flows → verdict net weighed ≡ then (game net flows) (λ score. verdict_after net weighed flows score)
unfolding verdict
verdict_with net weighed flows e = rw e refl

pub verdict_no_game : {W X X' : Type 0} (seen : X → Option Score) (seen' : X' → Verdict) (net : Network) (weighed : List ℤ → Option W) (flows : Flows) (fault : CalcFault) → stated_flows net ≡ Some flows → Gives seen (Err fault) (game net flows) → Gives seen' (Err fault) (verdict net weighed)
verdict_no_game seen seen' net weighed flows fault e g = fault_then seen seen' fault (game net flows) _ (verdict net weighed) (verdict_with net weighed flows e) g

pub verdict_at : {W : Type 0} (net : Network) (weighed : List ℤ → Option W) (flows : Flows) (kept : Option Kept) (score : Kept) → stated_flows net ≡ Some flows → game net flows ≡ Reached (scores_of kept) → kept ≡ Some score → verdict net weighed ≡ verdict_after net weighed flows (Some (score_of score))
verdict_at net weighed flows kept score e g k = verdict_with net weighed flows e ∙ ap (λ t. then t (λ score. verdict_after net weighed flows score)) (g ∙ ap (λ t. Reached (scores_of t)) k)

pub some_movement : (net : Network) (flows : Flows) (kept : Option Kept) → IsAcceptable net → AreFlows net flows → game net flows ≡ Reached (scores_of kept) → kept ≡ None → ⊥
some_movement net flows kept ok are g n = let none = no_motion net ok.network flows are (g ∙ ap (λ t. Reached (scores_of t)) n) in let some = ok.range.movements in omega (arith, none, some)

pub verdict_holds : {W : Type 0} (net : Network) (weighed : List ℤ → Option W) (r : Result KeptVerdict CalcFault) → IsNetwork net → Gives verdict_of r (verdict net weighed) → IfOk r (λ v. Holds net (verdict_of v))
verdict_holds {W} net weighed (Ok v) ok g = law.holds W net ok weighed (verdict_of v) g
verdict_holds {W} net weighed (Err fault) ok g = tt

pub verdict_exact : {W : Type 0} (net : Network) (weighed : List ℤ → Option W) (r : Result KeptVerdict CalcFault) → IsNetwork net → Gives verdict_of r (verdict net weighed) → IfOk r (λ v. IsExact net (verdict_of v))
verdict_exact {W} net weighed (Ok v) ok g = law.exact net ok (verdict_of v) (law.holds W net ok weighed (verdict_of v) g)
verdict_exact {W} net weighed (Err fault) ok g = tt

pub ruleset admitting = (to_z-of_z)
