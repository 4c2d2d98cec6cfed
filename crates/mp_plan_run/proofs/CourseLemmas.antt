-- The course of a run by a plan, one line further.
use Rattle.std.proofs.Common.{◌≡◌, ◌<◌, ◌^◌, ℕ, List, [], ◌∷◌, ◌++◌, length, sym, ◌∙◌, ap, subst, arith}
use Rattle.std.specs.declared.option.Option.{Option}
use Rattle.std.proofs.lemmas.List.{append-nil}
use Rattle.mp_edge.proofs.Told.{Tells-same}
use Rattle.mp_model.specs.Arrivals.{IsPermitted}
use Rattle.mp_model.specs.Network.{Network}
use Rattle.mp_model.specs.Plans.{Plan, planned_advance, planned_after, planned_line, planned_lines_from}
use Rattle.mp_model.specs.Run.{opening}
use Rattle.mp_model.specs.Step.{State}
use Rattle.mp_model.specs.Stream.{LineKind, arrivals_of_kinds}
use Rattle.mp_model.specs.Stream.LineKind.{skipped_line, arrivals_line}
use Rattle.mp_step.specs.Standing.{Standing, Stands}
use Rattle.mp_step.specs.Taken.{HasTaken}
use Rattle.mp_stream.specs.Taking.{HasRoom, Takes}
use Rattle.mp_stream.proofs.KindLemmas.{arrivals_there, arrivals_skipped, few_arrivals}
use Rattle.mp_plan_run.specs.Running.{plan_course, StandsBehind}
use Rattle.mp_plan_run.proofs.RunLemmas.{behind_more, lines_more, periods}

module _ (net : Network) (plan : Plan) where
  pub period_behind : (st : Standing) (kinds : List LineKind) → StandsBehind net plan st kinds → st.period ≡ length (arrivals_of_kinds kinds)
  period_behind st kinds on = on.stands.period ∙ omega (arith, periods net plan (opening net) (arrivals_of_kinds kinds))

  pub room_for_period : (st : Standing) → HasRoom (StandsBehind net plan st) → st.period < 2 ^ 48
  room_for_period st room = let few = room.few in omega (arith, period_behind st room.kinds room.stands, few_arrivals room.kinds)

  -- the run stands behind one more line of arrivals
  pub stands_more : (counts : List ℕ) (old new : Standing) → ((A : List (List ℕ)) → HasTaken net old A → HasTaken net new (A ++ counts ∷ [])) → ((state : State) → Stands net old state → Stands net new (planned_advance net plan counts state))
      → (kinds : List LineKind) → StandsBehind net plan old kinds → StandsBehind net plan new (kinds ++ arrivals_line counts ∷ [])
  stands_more counts old new takes advances kinds on = rw (arrivals_there kinds [] counts) (behind_more net plan counts old new takes advances (arrivals_of_kinds kinds) on)

  -- and one more line of a period is written
  pub period_more : (kinds : List LineKind) (counts : List ℕ)
      → planned_lines_from net plan (opening net) (arrivals_of_kinds (kinds ++ arrivals_line counts ∷ [])) ≡ planned_lines_from net plan (opening net) (arrivals_of_kinds kinds) ++ planned_line net plan (planned_after net plan (opening net) (arrivals_of_kinds kinds)) counts ∷ []
  period_more kinds counts = ap (planned_lines_from net plan (opening net)) (arrivals_there kinds [] counts) ∙ lines_more net plan (opening net) (arrivals_of_kinds kinds) counts

  -- a skipped line changes nothing
  pub takes_skipped : (st : Standing) (was : Option (List ℕ)) → Takes (plan_course net plan) (StandsBehind net plan st) (StandsBehind net plan st) skipped_line was was
  takes_skipped st was = record {
    taken = tt;
    stands = λ kinds on. record {
      stands = subst (λ A. Stands net st (planned_after net plan (opening net) A)) (sym (arrivals_skipped kinds)) on.stands;
      taken = subst (HasTaken net st) (sym (arrivals_skipped kinds)) on.taken;
    };
    permitted = λ kinds on. subst (IsPermitted net) (sym (arrivals_skipped kinds)) on.taken.permitted;
    written = λ kinds on. (
      [],
      ap (planned_lines_from net plan (opening net)) (arrivals_skipped kinds) ∙ sym (append-nil (planned_lines_from net plan (opening net) (arrivals_of_kinds kinds))),
      Tells-same was _ (λ before. sym (append-nil before)),
    );
  }
