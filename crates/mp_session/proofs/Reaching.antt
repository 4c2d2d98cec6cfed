-- Events lead a session from the opening to where its round stands.
use Rattle.std.proofs.Common.{◌≡◌, ℕ, List, [], ◌∷◌, ◌++◌, sym, ◌∙◌, ap, subst}
use Rattle.std.specs.List.{AllByRecursion}
use Rattle.mp_model.specs.Arrivals.{HasCounts}
use Rattle.mp_model.specs.EventCore.{Answer, Core, Event, all_lacking, apply, arrivals_events, closed_by, closed_of, core_after, core_opening}
use Rattle.mp_model.specs.EventCore.Answer.{heard, not_adjacent, chose, stale, undecided, above_at, closed}
use Rattle.mp_model.specs.EventCore.Event.{hear, decide, close}
use Rattle.mp_model.specs.Network.{Network}
use Rattle.mp_model.specs.NetworkRules.{IsNetwork}
use Rattle.mp_laws.proofs.LineEvents.{after_append, closed_append, performs_line}
use Rattle.mp_round.specs.Events.{CanApply}
use Rattle.mp_round.specs.RoundView.{RoundView, core_of}
use Rattle.mp_session.specs.SessionView.{IsReached}

all_append : {X : Type 0} (P : X → Type 0) (xs ys : List X) → AllByRecursion P xs → AllByRecursion P ys → AllByRecursion P (xs ++ ys)
all_append P [] ys h more = more
all_append P (x ∷ xs) ys h more = (h.0, all_append P xs ys h.1 more)

-- at the opening nothing has happened
pub reached_first : (net : Network) (round : RoundView) → core_of round ≡ core_opening net → IsReached net round
reached_first net round opens = record { events = []; core = opens; counts = tt }

-- further events lead further
pub reached_then : (net : Network) (round next : RoundView) (es : List Event) → IsReached net round → AllByRecursion (HasCounts net) (closed_of net (core_of round) es) → core_of next ≡ core_after net (core_of round) es → IsReached net next
reached_then net round next es r counts is = record {
  events = r.events ++ es;
  core = is ∙ ap (λ core. core_after net core es) r.core ∙ sym (after_append net r.events es (core_opening net));
  counts = subst (AllByRecursion (HasCounts net)) (sym (closed_append net r.events es (core_opening net)))
      (all_append (HasCounts net) (closed_of net (core_opening net) r.events) (closed_of net (core_after net (core_opening net) r.events) es) r.counts
      (subst (λ (core : Core). AllByRecursion (HasCounts net) (closed_of net core es)) r.core counts));
}

-- an event closes nothing, or a period with its counts
counted_by : (net : Network) (core : Core) (a : Answer) (e : Event) → CanApply net core e → AllByRecursion (HasCounts net) (closed_by a e [])
counted_by net core closed (close counts) can = (can.fits, tt)
counted_by net core closed (hear j l) can = tt
counted_by net core closed (decide j) can = tt
counted_by net core heard e can = tt
counted_by net core (not_adjacent j l) e can = tt
counted_by net core (chose s) e can = tt
counted_by net core (stale j l) e can = tt
counted_by net core (undecided j) e can = tt
counted_by net core (above_at l) e can = tt

-- one more event
pub reached_more : (net : Network) (round next : RoundView) (e : Event) (answer : Answer) → IsReached net round → CanApply net (core_of round) e → (answer, core_of next) ≡ apply net (core_of round) e → IsReached net next
reached_more net round next e answer r can is =
    reached_then net round next (e ∷ []) r (counted_by net (core_of round) (apply net (core_of round) e).0 e can) (ap (λ (p : Answer × Core). p.1) is)

-- a line of arrivals closes nothing but its period
line_counted : (net : Network) → IsNetwork net → (round : RoundView) → IsReached net round → (counts : List ℕ) → HasCounts net counts → AllByRecursion (HasCounts net) (closed_of net (core_of round) (arrivals_events net (core_of round) counts))
line_counted net ok round r counts fits =
    let core : Core = core_after net (core_opening net) r.events in
    let ready : Core = core_after net core (all_lacking net core) in
    let closes : closed_of net core (arrivals_events net core counts) ≡ closed_by (apply net ready (close counts)).0 (close counts) [] =
    closed_append net (all_lacking net core) (close counts ∷ []) core ∙ ap (λ xs. xs ++ closed_of net ready (close counts ∷ [])) (performs_line net ok r.events counts).none in
    subst (λ (core : Core). AllByRecursion (HasCounts net) (closed_of net core (arrivals_events net core counts))) (sym r.core) (subst (AllByRecursion (HasCounts net)) (sym closes) (only (apply net ready (close counts)).0))
  where
    only : (a : Answer) → AllByRecursion (HasCounts net) (closed_by a (close counts) [])
    only closed = (fits, tt)
    only heard = tt
    only (not_adjacent j l) = tt
    only (chose s) = tt
    only (stale j l) = tt
    only (undecided j) = tt
    only (above_at l) = tt

-- a line of arrivals
pub reached_line : (net : Network) → IsNetwork net → (round next : RoundView) → IsReached net round → (counts : List ℕ) → HasCounts net counts → core_of next ≡ core_after net (core_of round) (arrivals_events net (core_of round) counts) → IsReached net next
reached_line net ok round next r counts fits is = reached_then net round next (arrivals_events net (core_of round) counts) r (line_counted net ok round r counts fits) is
