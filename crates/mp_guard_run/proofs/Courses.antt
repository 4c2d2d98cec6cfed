-- The course of a session under a guard, one line further.
use Rattle.std.proofs.Common.{◌≡◌, ◌<◌, ◌^◌, ℕ, ◌+◌, List, [], ◌∷◌, ◌++◌, length, refl, sym, ◌∙◌, ap, subst, arith}
use Rattle.std.specs.declared.option.Option.{Option}
use Rattle.std.proofs.lemmas.List.{append-nil}
use Rattle.mp_edge.proofs.Told.{Tells-same}
use Rattle.mp_model.specs.Arrivals.{IsPermitted}
use Rattle.mp_model.specs.Guard.{Guard}
use Rattle.mp_model.specs.GuardedChoice.{GuardedState, guarded_advance, guarded_opening}
use Rattle.mp_model.specs.Network.{Network}
use Rattle.mp_model.specs.Stream.{LineKind, arrivals_of_kinds}
use Rattle.mp_model.specs.Stream.LineKind.{skipped_line, arrivals_line}
use Rattle.mp_step.specs.Taken.{HasTaken}
use Rattle.mp_stream.specs.Taking.{HasRoom, Takes}
use Rattle.mp_stream.proofs.KindLemmas.{arrivals_there, arrivals_skipped, few_arrivals}
use Rattle.mp_guard_run.specs.Running.{guarded_after, guarded_course, guarded_line, guarded_lines_from, StandsBehind}
use Rattle.mp_guard_run.specs.Session.{Guarded, StandsAt}

-- one more period at the end of a run
pub after_more : (net : Network) (guard : Guard) (now : GuardedState) (A : List (List ℕ)) (counts : List ℕ) → guarded_after net guard now (A ++ counts ∷ []) ≡ guarded_advance net guard counts (guarded_after net guard now A)
after_more net guard now [] counts = refl
after_more net guard now (a ∷ A) counts = after_more net guard (guarded_advance net guard a now) A counts

pub lines_more : (net : Network) (guard : Guard) (now : GuardedState) (A : List (List ℕ)) (counts : List ℕ) →
    guarded_lines_from net guard now (A ++ counts ∷ []) ≡ guarded_lines_from net guard now A ++ guarded_line net guard (guarded_after net guard now A) counts ∷ []
lines_more net guard now [] counts = refl
lines_more net guard now (a ∷ A) counts = ap (λ ls. guarded_line net guard now a ∷ ls) (lines_more net guard (guarded_advance net guard a now) A counts)

-- the period counts the arrivals before
periods : (net : Network) (guard : Guard) (now : GuardedState) (A : List (List ℕ)) → (guarded_after net guard now A).state.period ≡ now.state.period + length A
periods net guard now [] = omega arith
periods net guard now (a ∷ A) =
    let rest : (guarded_after net guard (guarded_advance net guard a now) A).state.period ≡ now.state.period + 1 + length A = periods net guard (guarded_advance net guard a now) A in
    omega (arith, rest)

pub period_behind : (s : Guarded) (kinds : List LineKind) → StandsBehind s kinds → s.at.period ≡ length (arrivals_of_kinds kinds)
period_behind s kinds on = on.at.stands.period ∙ omega (arith, periods s.net s.guard (guarded_opening s.net s.guard) (arrivals_of_kinds kinds))

pub room_for_period : (s : Guarded) → HasRoom (StandsBehind s) → s.at.period < 2 ^ 48
room_for_period s room = let few = room.few in omega (arith, period_behind s room.kinds room.stands, few_arrivals room.kinds)

-- the run stands behind one more line of arrivals
pub stands_more : (old new : Guarded) → new.net ≡ old.net → new.guard ≡ old.guard → (counts : List ℕ) → ((A : List (List ℕ)) → HasTaken old.net old.at A → HasTaken old.net new.at (A ++ counts ∷ [])) →
    ((now : GuardedState) → StandsAt old now → StandsAt new (guarded_advance old.net old.guard counts now)) → (kinds : List LineKind) → StandsBehind old kinds → StandsBehind new (kinds ++ arrivals_line counts ∷ [])
stands_more old new net guard counts takes advances kinds on =
    let after : guarded_after old.net old.guard (guarded_opening old.net old.guard) (arrivals_of_kinds (kinds ++ arrivals_line counts ∷ [])) ≡ guarded_advance old.net old.guard counts (guarded_after old.net old.guard (guarded_opening old.net old.guard) (arrivals_of_kinds kinds)) =
    ap (guarded_after old.net old.guard (guarded_opening old.net old.guard)) (arrivals_there kinds [] counts) ∙ after_more old.net old.guard (guarded_opening old.net old.guard) (arrivals_of_kinds kinds) counts in
    record {
      at = subst (λ (n : Network). StandsAt new (guarded_after n new.guard (guarded_opening n new.guard) (arrivals_of_kinds (kinds ++ arrivals_line counts ∷ [])))) (sym net)
          (subst (λ (g : Guard). StandsAt new (guarded_after old.net g (guarded_opening old.net g) (arrivals_of_kinds (kinds ++ arrivals_line counts ∷ [])))) (sym guard)
          (subst (StandsAt new) (sym after) (advances _ on.at)));
      taken = subst (λ (n : Network). HasTaken n new.at (arrivals_of_kinds (kinds ++ arrivals_line counts ∷ []))) (sym net)
          (subst (HasTaken old.net new.at) (sym (arrivals_there kinds [] counts)) (takes (arrivals_of_kinds kinds) on.taken));
    }

-- and one more line of a period is written
pub period_more : (net : Network) (guard : Guard) (kinds : List LineKind) (counts : List ℕ) →
    guarded_lines_from net guard (guarded_opening net guard) (arrivals_of_kinds (kinds ++ arrivals_line counts ∷ []))
    ≡ guarded_lines_from net guard (guarded_opening net guard) (arrivals_of_kinds kinds) ++ guarded_line net guard (guarded_after net guard (guarded_opening net guard) (arrivals_of_kinds kinds)) counts ∷ []
period_more net guard kinds counts = ap (guarded_lines_from net guard (guarded_opening net guard)) (arrivals_there kinds [] counts) ∙ lines_more net guard (guarded_opening net guard) (arrivals_of_kinds kinds) counts

-- a skipped line changes nothing
pub takes_skipped : (s : Guarded) (was : Option (List ℕ)) → Takes (guarded_course s.net s.guard) (StandsBehind s) (StandsBehind s) skipped_line was was
takes_skipped s was = record {
  taken = tt;
  stands = λ kinds on. record {
    at = subst (λ A. StandsAt s (guarded_after s.net s.guard (guarded_opening s.net s.guard) A)) (sym (arrivals_skipped kinds)) on.at;
    taken = subst (HasTaken s.net s.at) (sym (arrivals_skipped kinds)) on.taken;
  };
  permitted = λ kinds on. subst (IsPermitted s.net) (sym (arrivals_skipped kinds)) on.taken.permitted;
  written = λ kinds on. (
    [],
    ap (guarded_lines_from s.net s.guard (guarded_opening s.net s.guard)) (arrivals_skipped kinds) ∙ sym (append-nil (guarded_lines_from s.net s.guard (guarded_opening s.net s.guard) (arrivals_of_kinds kinds))),
    Tells-same was _ (λ before. sym (append-nil before)),
  );
}
