-- What a session by frames keeps, over one period and over a whole run.
use Rattle.std.proofs.Common.{◌≡◌, ◌≤◌, ◌<◌, ◌^◌, ℕ, ℤ, List, length, map, ap, sym, ◌∙◌, subst, pos}
use Rattle.std.specs.List.{All}
use Rattle.std.proofs.lemmas.List.{length-map}
use Rattle.std.proofs.lemmas.List.FromFn.{length-range_with_len}
use Rattle.mp_framed.proofs.Runs.{frame_bound_of}
use Rattle.mp_log.specs.Fitting.{FitsLine}
use Rattle.mp_model.specs.Arrivals.{HasCounts, IsPermitted}
use Rattle.mp_model.specs.Frames.{frame_bound}
use Rattle.mp_model.specs.Network.{Network, movement_numbers}
use Rattle.mp_model.specs.Step.{AreStages}
use Rattle.mp_num.specs.Fraction.{numerator, denominator}
use Rattle.mp_press.specs.Queues.{naturals}
use Rattle.mp_run.proofs.BoundLemmas.{naturals_are}
use Rattle.mp_run.proofs.PeriodLemmas.{line_fits}
use Rattle.mp_step.specs.Standing.{Standing, IsOn}
use Rattle.mp_frame_run.specs.Framed.{Framed, IsFramed, FramesStayWithin}
use Rattle.mp_frame_run.specs.Running.{kept_of}

-- over permitted arrivals each queue is at most its bound
pub stays_within : (s : Framed) → IsFramed s → (A : List (List ℕ)) → IsPermitted s.net A → FramesStayWithin s.net s.periods (naturals s.bounds) A
stays_within s b A permitted =
    subst (λ (bounds : List ℕ). FramesStayWithin s.net s.periods bounds A) (sym (ap naturals b.bounds.listed ∙ naturals_are b.bounds.bounds))
    (frame_bound_of s.net b.acceptable.network s.periods b.periods.0 b.certified.0 b.certified.1 (numerator s.slack) (denominator s.slack) b.certified.2 b.bounds.bounds b.bounds.are A permitted)

-- a session that stays the same twice stays the same
pub same_after : (old mid new : Framed) → mid ≡ record old { at = mid.at; frame = mid.frame } → new ≡ record mid { at = new.at; frame = new.frame } → new ≡ record old { at = new.at; frame = new.frame }
same_after old mid new before after = after ∙ ap (λ (s : Framed). record s { at = new.at; frame = new.frame }) before

pub net_same : (old new : Framed) → new ≡ record old { at = new.at; frame = new.frame } → new.net ≡ old.net
net_same old new same = ap (λ (s : Framed). s.net) same

-- the line of the period that a session closed fits
pub closed_line_fits : (old new : Framed) → IsFramed new → new ≡ record old { at = new.at; frame = new.frame } → AreStages old.net.junctions new.frame.stages →
    (at : Standing) (period : ℕ) (counts stages : List ℕ) (queues : List ℤ) → at ≡ new.at → stages ≡ new.frame.stages → HasCounts old.net counts → All (λ a. a < 10 ^ 9) counts → period ≤ 2 ^ 48 → queues ≡ map pos at.queues → All (λ q. q ≤ 2 ^ 85) at.queues →
    FitsLine period counts stages queues
closed_line_fits old new b same are at period counts stages queues at_is stages_is has digits low queues_are few =
    let net : new.net ≡ old.net = net_same old new same in
    line_fits new.net period counts stages queues at b.acceptable.range (subst (λ (st : Standing). IsOn new.net st) (sym at_is) b.on) (subst (λ (n : Network). HasCounts n counts) (sym net) has)
    (subst (λ (ss : List ℕ). AreStages new.net.junctions ss) (sym stages_is) (subst (λ (n : Network). AreStages n.junctions new.frame.stages) (sym net) are)) digits low queues_are few

-- what a session keeps tells what stays the same
pub same_of_kept : (old new : Framed) → kept_of new ≡ kept_of old → new ≡ record old { at = new.at; frame = new.frame }
same_of_kept old new kept = ap (λ (s : Framed). record s { at = new.at; frame = new.frame }) kept

pub kept_of_same : (old new : Framed) → new ≡ record old { at = new.at; frame = new.frame } → kept_of new ≡ kept_of old
kept_of_same old new same = ap kept_of same

-- there is a bound for each movement
pub bounds_size : (s : Framed) → IsFramed s → length s.bounds ≡ length s.net.movements
bounds_size s b =
    ap length b.bounds.listed ∙ length-map b.bounds.bounds pos ∙ ap length b.bounds.are.are ∙ length-map (movement_numbers s.net) (frame_bound s.net s.periods b.bounds.are.root) ∙ length-range_with_len 1 (length s.net.movements)
