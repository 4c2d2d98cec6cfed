-- The course of a session by frames, one line further.
use Rattle.std.proofs.Common.{◌≡◌, ◌<◌, ◌^◌, ℕ, ◌+◌, List, [], ◌∷◌, ◌++◌, length, refl, sym, ◌∙◌, ap, subst, arith}
use Rattle.std.specs.declared.option.Option.{Option}
use Rattle.std.proofs.lemmas.List.{append-nil}
use Rattle.mp_edge.proofs.Told.{Tells-same}
use Rattle.mp_model.specs.Arrivals.{IsPermitted}
use Rattle.mp_model.specs.Frames.{FramedState, framed_advance, framed_after, framed_line, framed_lines_from, framed_opening, in_frame}
use Rattle.mp_model.specs.Network.{Network}
use Rattle.mp_model.specs.Stream.{LineKind, arrivals_of_kinds}
use Rattle.mp_model.specs.Stream.LineKind.{skipped_line, arrivals_line}
use Rattle.mp_step.specs.Standing.{Standing}
use Rattle.mp_step.specs.Taken.{HasTaken}
use Rattle.mp_stream.specs.Taking.{HasRoom, Takes}
use Rattle.mp_stream.proofs.KindLemmas.{arrivals_there, arrivals_skipped, few_arrivals}
use Rattle.mp_frame_run.specs.FrameNow.{FrameNow, StandsFramed}
use Rattle.mp_frame_run.specs.Running.{framed_course, IsBehind}
use Rattle.mp_frame_run.proofs.Advances.{same_state}

-- one more period at the end of a run
pub after_more : (net : Network) (F : ℕ) (now : FramedState) (A : List (List ℕ)) (counts : List ℕ) → framed_after net F now (A ++ counts ∷ []) ≡ framed_advance net F counts (framed_after net F now A)
after_more net F now [] counts = refl
after_more net F now (a ∷ A) counts = after_more net F (framed_advance net F a now) A counts

pub lines_more : (net : Network) (F : ℕ) (now : FramedState) (A : List (List ℕ)) (counts : List ℕ) →
    framed_lines_from net F now (A ++ counts ∷ []) ≡ framed_lines_from net F now A ++ framed_line net F (framed_after net F now A) counts ∷ []
lines_more net F now [] counts = refl
lines_more net F now (a ∷ A) counts = ap (λ ls. framed_line net F now a ∷ ls) (lines_more net F (framed_advance net F a now) A counts)

-- the period counts the arrivals before
periods : (net : Network) (F : ℕ) (now : FramedState) (A : List (List ℕ)) → (framed_after net F now A).state.period ≡ now.state.period + length A
periods net F now [] = omega arith
periods net F now (a ∷ A) =
    let rest : (framed_after net F (framed_advance net F a now) A).state.period ≡ (in_frame net F now).state.period + 1 + length A = periods net F (framed_advance net F a now) A in
    omega (arith, rest, ap (λ s. s.period) (same_state net F now))

pub period_behind : (net : Network) (F : ℕ) (st : Standing) (frame : FrameNow) (kinds : List LineKind) → IsBehind net F st frame kinds → st.period ≡ length (arrivals_of_kinds kinds)
period_behind net F st frame kinds on = on.stands.stands.period ∙ omega (arith, periods net F (framed_opening net) (arrivals_of_kinds kinds))

pub room_for_period : (net : Network) (F : ℕ) (st : Standing) (frame : FrameNow) → HasRoom (IsBehind net F st frame) → st.period < 2 ^ 48
room_for_period net F st frame room = let few = room.few in omega (arith, period_behind net F st frame room.kinds room.stands, few_arrivals room.kinds)

-- the run stands behind one more line of arrivals
pub stands_more : (net : Network) (F : ℕ) (counts : List ℕ) (old new : Standing) (frame next : FrameNow) → ((A : List (List ℕ)) → HasTaken net old A → HasTaken net new (A ++ counts ∷ [])) →
    ((now : FramedState) → StandsFramed net F old frame now → StandsFramed net F new next (framed_advance net F counts now)) →
    (kinds : List LineKind) → IsBehind net F old frame kinds → IsBehind net F new next (kinds ++ arrivals_line counts ∷ [])
stands_more net F counts old new frame next takes advances kinds on = record {
  stands = subst (λ (now : FramedState). StandsFramed net F new next now) (sym (ap (framed_after net F (framed_opening net)) (arrivals_there kinds [] counts) ∙ after_more net F (framed_opening net) (arrivals_of_kinds kinds) counts)) (advances _ on.stands);
  taken = subst (HasTaken net new) (sym (arrivals_there kinds [] counts)) (takes (arrivals_of_kinds kinds) on.taken);
}

-- and one more line of a period is written
pub period_more : (net : Network) (F : ℕ) (kinds : List LineKind) (counts : List ℕ) →
    framed_lines_from net F (framed_opening net) (arrivals_of_kinds (kinds ++ arrivals_line counts ∷ []))
    ≡ framed_lines_from net F (framed_opening net) (arrivals_of_kinds kinds) ++ framed_line net F (framed_after net F (framed_opening net) (arrivals_of_kinds kinds)) counts ∷ []
period_more net F kinds counts = ap (framed_lines_from net F (framed_opening net)) (arrivals_there kinds [] counts) ∙ lines_more net F (framed_opening net) (arrivals_of_kinds kinds) counts

-- a skipped line changes nothing
pub takes_skipped : (net : Network) (F : ℕ) (st : Standing) (frame : FrameNow) (was : Option (List ℕ)) → Takes (framed_course net F) (IsBehind net F st frame) (IsBehind net F st frame) skipped_line was was
takes_skipped net F st frame was = record {
  taken = tt;
  stands = λ kinds on. record {
    stands = subst (λ A. StandsFramed net F st frame (framed_after net F (framed_opening net) A)) (sym (arrivals_skipped kinds)) on.stands;
    taken = subst (HasTaken net st) (sym (arrivals_skipped kinds)) on.taken;
  };
  permitted = λ kinds on. subst (IsPermitted net) (sym (arrivals_skipped kinds)) on.taken.permitted;
  written = λ kinds on. (
    [],
    ap (framed_lines_from net F (framed_opening net)) (arrivals_skipped kinds) ∙ sym (append-nil (framed_lines_from net F (framed_opening net) (arrivals_of_kinds kinds))),
    Tells-same was _ (λ before. sym (append-nil before)),
  );
}
