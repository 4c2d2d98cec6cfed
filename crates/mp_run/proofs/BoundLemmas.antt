-- What a session keeps, over one period and over a whole run.
use Rattle.std.proofs.Common.{◌≡◌, ◌≤◌, ◌<◌, ◌^◌, ℕ, ℤ, List, map, ap, sym, ◌∙◌, subst, pos, unsigned_abs}
use Rattle.std.specs.List.{All}
use Rattle.std.proofs.lemmas.Simd.{map-map}
use Rattle.std.proofs.lemmas.List.{map-id}
use Rattle.mp_model.specs.Network.{Network, entry}
use Rattle.mp_model.specs.Arrivals.{HasCounts, IsPermitted}
use Rattle.mp_model.specs.Run.{greatest_stages}
use Rattle.mp_model.specs.Step.{AreStages}
use Rattle.mp_laws.proofs.Bounds.{all_greatest}
use Rattle.mp_laws.proofs.Permitted.{bound_of_run}
use Rattle.mp_log.specs.Fitting.{FitsLine}
use Rattle.mp_press.specs.Queues.{naturals}
use Rattle.mp_press.proofs.Firsts.{greatest_are_stages}
use Rattle.mp_step.specs.Standing.{Standing, IsOn}
use Rattle.mp_drift.specs.Session.{Bounded, IsBounded}
use Rattle.mp_num.specs.Fraction.{numerator, denominator}
use Rattle.mp_run.specs.Running.{StaysWithin, kept_of}
use Rattle.mp_run.proofs.PeriodLemmas.{line_fits}

-- the numbers of signed bounds are the bounds
pub naturals_are : (bounds : List ℕ) → naturals (map pos bounds) ≡ bounds
naturals_are bounds = map-map unsigned_abs pos bounds ∙ map-id bounds

-- over permitted arrivals each queue is at most its bound
pub stays_within : (s : Bounded) → IsBounded s → (A : List (List ℕ)) → IsPermitted s.net A → StaysWithin s.net (naturals s.bounds) A
stays_within s b A permitted =
    subst (λ (bounds : List ℕ). StaysWithin s.net bounds A) (sym (ap naturals b.bounds.listed ∙ naturals_are b.bounds.bounds))
    (bound_of_run s.net b.acceptable.network b.certified.0 b.certified.1 (numerator s.slack) (denominator s.slack) b.certified.2 b.bounds.bounds b.bounds.are A permitted)

-- a session that stays the same twice stays the same
pub same_after : (old mid new : Bounded) → mid ≡ record old { at = mid.at; stages = mid.stages } → new ≡ record mid { at = new.at; stages = new.stages } → new ≡ record old { at = new.at; stages = new.stages }
same_after old mid new before after = after ∙ ap (λ (s : Bounded). record s { at = new.at; stages = new.stages }) before

pub net_same : (old new : Bounded) → new ≡ record old { at = new.at; stages = new.stages } → new.net ≡ old.net
net_same old new same = ap (λ (s : Bounded). s.net) same

-- the stages of greatest pressure are stages
pub stages_are : (s : Bounded) → IsBounded s → (q : List ℕ) → AreStages s.net.junctions (greatest_stages s.net (entry q))
stages_are s b q = greatest_are_stages s.net (entry q) s.net.junctions (greatest_stages s.net (entry q)) (all_greatest s.net (entry q) s.net.junctions b.acceptable.network.some_stage)

-- the line of the period that a session closed fits
pub closed_line_fits : (old new : Bounded) → IsBounded new → new ≡ record old { at = new.at; stages = new.stages } → new.stages ≡ greatest_stages old.net (entry old.at.queues)
    → (at : Standing) (period : ℕ) (counts shown : List ℕ) (queues : List ℤ) → at ≡ new.at → shown ≡ new.stages → HasCounts old.net counts → All (λ a. a < 10 ^ 9) counts → period ≤ 2 ^ 48 → queues ≡ map pos at.queues → All (λ q. q ≤ 2 ^ 85) at.queues
    → FitsLine period counts shown queues
closed_line_fits old new b same chosen at period counts shown queues at_is shown_is has digits low queues_are few =
    let net : new.net ≡ old.net = net_same old new same in
    let greatest : shown ≡ greatest_stages new.net (entry old.at.queues) = shown_is ∙ chosen ∙ ap (λ (n : Network). greatest_stages n (entry old.at.queues)) (sym net) in
    line_fits new.net period counts shown queues at b.acceptable.range (subst (λ (st : Standing). IsOn new.net st) (sym at_is) b.on) (subst (λ (n : Network). HasCounts n counts) (sym net) has)
    (subst (λ (stages : List ℕ). AreStages new.net.junctions stages) (sym greatest) (stages_are new b old.at.queues)) digits low queues_are few

-- what a session keeps tells what stays the same
pub same_of_kept : (old new : Bounded) → kept_of new ≡ kept_of old → new ≡ record old { at = new.at; stages = new.stages }
same_of_kept old new kept = ap (λ (s : Bounded). record s { at = new.at; stages = new.stages }) kept

pub kept_of_same : (old new : Bounded) → new ≡ record old { at = new.at; stages = new.stages } → kept_of new ≡ kept_of old
kept_of_same old new same = ap kept_of same
