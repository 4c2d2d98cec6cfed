-- What is so of a session under a guard that was just opened.
use Rattle.std.proofs.Common.{◌≡◌, ◌∙◌, ap, ℕ, List, sym, subst}
use Rattle.mp_guard.specs.Bursts.{bounds_of, waits_of}
use Rattle.mp_guard.specs.GuardHeader.{guard_header}
use Rattle.mp_guard_control.specs.Kept.{StagesKeep}
use Rattle.mp_guard_run.specs.Running.{GuardKeepsWaits, GuardStaysWithin, IsAtOpening}
use Rattle.mp_guard_run.specs.Session.{Guarded, IsGuarding}
use Rattle.mp_guard_run.proofs.Bounded.{keeps_waits, stays_within}
use Rattle.mp_model.specs.Guard.{Guard}
use Rattle.mp_model.specs.Network.{Network}
use Rattle.mp_cli.specs.GuardRunning.{RunsUnder}
use Rattle.mp_cli.proofs.GuardStageLemmas.{stages_greatest}

-- its header is that of its guard
header_same : (s : Guarded) (start : IsAtOpening s)
    → guard_header s.net s.guard (bounds_of s.net s.guard start.bounds.rests.surpluses start.bounds.rests.bursts) (waits_of s.net s.guard) ≡ guard_header s.net s.guard s.bounds s.waits
header_same s start = ap (λ (bounds : List ℕ). guard_header s.net s.guard bounds (waits_of s.net s.guard)) (sym start.bounds.are) ∙ ap (λ (ws : List ℕ). guard_header s.net s.guard s.bounds ws) (sym start.waits)

-- the header stands for the bounds and waits that its runs keep
on_itself : (s : Guarded) → IsGuarding s → IsAtOpening s → StagesKeep s.net s.guard → RunsUnder s.net s.guard (λ header. header ≡ guard_header s.net s.guard s.bounds s.waits)
on_itself s guarding start keeps = record {
  guards = guarding.guards;
  rest = start.bounds.rests;
  stages = stages_greatest s.net guarding.acceptable.network s.guard guarding.guards;
  waits = λ A. subst (λ (ws : List ℕ). GuardKeepsWaits s.net s.guard ws A) start.waits (keeps_waits s guarding start.waits A);
  within = λ A permitted. subst (λ (bounds : List ℕ). GuardStaysWithin s.net s.guard bounds A) start.bounds.are (stays_within s guarding start.bounds A permitted);
  keeps = keeps;
  is = header_same s start;
}

pub under_session : (s : Guarded) (net : Network) (guard : Guard) → s.net ≡ net → s.guard ≡ guard → IsGuarding s → IsAtOpening s → StagesKeep s.net s.guard
    → RunsUnder net guard (λ header. header ≡ guard_header net guard s.bounds s.waits)
under_session s net guard on by guarding start keeps =
    subst (λ (n : Network). RunsUnder n guard (λ header. header ≡ guard_header n guard s.bounds s.waits)) on
    (subst (λ (g : Guard). RunsUnder s.net g (λ header. header ≡ guard_header s.net g s.bounds s.waits)) by (on_itself s guarding start keeps))

-- a fact of that header
pub runs_more : (net : Network) (guard : Guard) (header : List (List ℕ)) (P : List (List ℕ) → Type 0) → RunsUnder net guard (λ h. h ≡ header) → P header → RunsUnder net guard P
runs_more net guard header P runs is = record { guards = runs.guards; rest = runs.rest; stages = runs.stages; waits = runs.waits; within = runs.within; keeps = runs.keeps; is = subst P (sym runs.is) is }
