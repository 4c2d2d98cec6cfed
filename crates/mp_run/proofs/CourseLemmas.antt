-- The course of a session, one line further.
use Rattle.std.proofs.Common.{◌≡◌, ◌≤◌, ◌<◌, ◌^◌, ℕ, ◌+◌, List, [], ◌∷◌, ◌++◌, length, refl, sym, ◌∙◌, ap, subst, arith}
use Rattle.std.specs.declared.option.Option.{Option}
use Rattle.std.proofs.lemmas.List.{append-nil}
use Rattle.mp_edge.specs.Outside.{Tells, GainsPrefix}
use Rattle.mp_edge.proofs.Told.{Tells-same}
use Rattle.mp_model.specs.Network.{Network}
use Rattle.mp_model.specs.Arrivals.{IsPermitted}
use Rattle.mp_model.specs.Step.{State}
use Rattle.mp_model.specs.Run.{opening, advance, state_after}
use Rattle.mp_model.specs.Log.{line_after, lines_from, period_lines}
use Rattle.mp_model.specs.Stream.{LineKind, arrivals_of_kinds}
use Rattle.mp_model.specs.Stream.LineKind.{skipped_line, arrivals_line, long_line, bad_line, hear_line, decide_line}
use Rattle.mp_step.specs.Standing.{Standing, Stands}
use Rattle.mp_step.specs.Taken.{HasTaken}
use Rattle.mp_stream.specs.Taking.{HasRoom, Takes}
use Rattle.mp_stream.proofs.HeadLemmas as head
use Rattle.mp_stream.proofs.KindLemmas.{arrivals_there, arrivals_skipped, few_arrivals}
use Rattle.mp_run.specs.Running.{course_of, StandsBehind, stream_end, EndsAs}
use Rattle.mp_run.specs.declared.run.RunEnd.{RunEnd}
use Rattle.mp_run.specs.declared.run.RunEnd.TheVariants.{Write}
use Rattle.mp_stream.proofs.BucketLemmas.{permitted_empty}

-- one more period at the end of a run
pub state_more : (net : Network) (state : State) (A : List (List ℕ)) (counts : List ℕ) → state_after net state (A ++ counts ∷ []) ≡ advance net counts (state_after net state A)
state_more net state [] counts = refl
state_more net state (a ∷ A) counts = state_more net (advance net a state) A counts

pub lines_more : (net : Network) (state : State) (A : List (List ℕ)) (counts : List ℕ) → lines_from net state (A ++ counts ∷ []) ≡ lines_from net state A ++ line_after net (state_after net state A) counts ∷ []
lines_more net state [] counts = refl
lines_more net state (a ∷ A) counts = ap (λ ls. line_after net state a ∷ ls) (lines_more net (advance net a state) A counts)

-- the period counts the arrivals before
periods : (net : Network) (state : State) (A : List (List ℕ)) → (state_after net state A).period ≡ state.period + length A
periods net state [] = omega arith
periods net state (a ∷ A) = let rest : (state_after net (advance net a state) A).period ≡ state.period + 1 + length A = periods net (advance net a state) A in omega arith

pub period_behind : (net : Network) (standing : Standing) (kinds : List LineKind) → StandsBehind net standing kinds → standing.period ≡ length (arrivals_of_kinds kinds)
period_behind net standing kinds on = on.stands.period ∙ omega (arith, periods net (opening net) (arrivals_of_kinds kinds))

pub room_for_period : (net : Network) (standing : Standing) → HasRoom (StandsBehind net standing) → standing.period < 2 ^ 48
room_for_period net standing room = let few = room.few in omega (arith, period_behind net standing room.kinds room.stands, few_arrivals room.kinds)

-- the run stands behind one more line of arrivals
pub stands_more : (net : Network) (counts : List ℕ) (old new : Standing) → ((A : List (List ℕ)) → HasTaken net old A → HasTaken net new (A ++ counts ∷ [])) → ((state : State) → Stands net old state → Stands net new (advance net counts state))
    → (kinds : List LineKind) → StandsBehind net old kinds → StandsBehind net new (kinds ++ arrivals_line counts ∷ [])
stands_more net counts old new takes advances kinds on = record {
  stands = subst (λ (s : State). Stands net new s) (sym (ap (state_after net (opening net)) (arrivals_there kinds [] counts) ∙ state_more net (opening net) (arrivals_of_kinds kinds) counts)) (advances _ on.stands);
  taken = subst (HasTaken net new) (sym (arrivals_there kinds [] counts)) (takes (arrivals_of_kinds kinds) on.taken);
}

-- and one more line of a period is written
pub period_more : (net : Network) (kinds : List LineKind) (counts : List ℕ)
    → period_lines net (arrivals_of_kinds (kinds ++ arrivals_line counts ∷ [])) ≡ period_lines net (arrivals_of_kinds kinds) ++ line_after net (state_after net (opening net) (arrivals_of_kinds kinds)) counts ∷ []
period_more net kinds counts = ap (period_lines net) (arrivals_there kinds [] counts) ∙ lines_more net (opening net) (arrivals_of_kinds kinds) counts

-- a skipped line changes nothing
pub takes_skipped : (net : Network) (standing : Standing) (was : Option (List ℕ)) → Takes (course_of net) (StandsBehind net standing) (StandsBehind net standing) skipped_line was was
takes_skipped net standing was = record {
  taken = tt;
  stands = λ kinds on. record {
    stands = subst (λ A. Stands net standing (state_after net (opening net) A)) (sym (arrivals_skipped kinds)) on.stands;
    taken = subst (HasTaken net standing) (sym (arrivals_skipped kinds)) on.taken;
  };
  permitted = λ kinds on. subst (IsPermitted net) (sym (arrivals_skipped kinds)) on.taken.permitted;
  written = λ kinds on. ([], ap (period_lines net) (arrivals_skipped kinds) ∙ sym (append-nil (period_lines net (arrivals_of_kinds kinds))), Tells-same was _ (λ before. sym (append-nil before)));
}

-- a head before the text of the run
pub with_head : (net : Network) (text : List ℕ) (how : RunEnd) (whole left was mid now : Option (List ℕ)) → Tells was mid (λ before after. after ≡ before ++ text) → EndsAs net [] how whole left mid now → EndsAs net text how whole left was now
with_head net text how whole left was mid now put ends = head.with_head (course_of net) text (stream_end how) whole left was mid now put ends

-- the head itself was cut short
pub head_cut : (net : Network) (text : List ℕ) (whole was now : Option (List ℕ)) → Tells was now (GainsPrefix text) → EndsAs net text Write whole whole was now
head_cut net text whole was now cut = head.head_cut (course_of net) text whole was now (permitted_empty net) cut
