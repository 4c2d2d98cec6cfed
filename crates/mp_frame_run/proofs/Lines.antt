-- The lines of a session by frames, from what the calls say.
use Rattle.std.proofs.Common.{◌≡◌, ℕ, ◌+◌, ◌-◌, List, [], ◌∷◌, ◌++◌, sum, refl, sym, ◌∙◌, ap, subst, Result}
use Rattle.std.specs.declared.option.Option.{Option}
use Rattle.mp_edge.proofs.Told.{Tells-weaker}
use Rattle.mp_edge.specs.Outside.{Tells, Puts, GainsPrefix}
use Rattle.mp_laws.specs.Buckets.{IsFirstAbove}
use Rattle.mp_model.specs.Frames.{FramedState, framed_advance, framed_after, framed_line, framed_opening}
use Rattle.mp_model.specs.Log.{text_of, period_line, end_line, end_line_of}
use Rattle.mp_model.specs.Network.{Network}
use Rattle.mp_model.specs.Step.{State}
use Rattle.mp_model.specs.Stream.{LineKind, arrivals_of_kinds}
use Rattle.mp_model.specs.Stream.LineKind.{arrivals_line}
use Rattle.mp_run.proofs.PeriodLemmas.{end_line_is, one_line}
use Rattle.mp_step.specs.Standing.{Standing, IsOn}
use Rattle.mp_step.specs.Taken.{HasTaken}
use Rattle.mp_stream.specs.Arrivals.{IsAbove}
use Rattle.mp_stream.specs.Taking.{Takes, CutsShort}
use Rattle.mp_stream.specs.declared.arrivals.AboveBucket.{AboveBucket}
use Rattle.mp_frame_run.specs.FrameNow.{FrameNow, StandsFramed}
use Rattle.mp_frame_run.specs.Running.{framed_course, IsBehind}
use Rattle.mp_frame_run.proofs.Courses.{period_behind, period_more, stands_more}

-- what a framed run stands at after a period gives its line
line_is : (net : Network) (F period : ℕ) (counts stages : List ℕ) (new : Standing) (next : FrameNow) (now : FramedState) → StandsFramed net F new next (framed_advance net F counts now) → period ≡ new.period → stages ≡ next.stages →
    period_line period counts stages new.queues ++ 10 ∷ [] ≡ text_of (framed_line net F now counts ∷ [])
line_is net F period counts stages new next now on is shows =
    ap (λ p. period_line p counts stages new.queues ++ 10 ∷ []) (is ∙ on.stands.period)
    ∙ ap (λ ss. period_line (framed_advance net F counts now).state.period counts ss new.queues ++ 10 ∷ []) (shows ∙ on.stages)
    ∙ ap (λ qs. period_line (framed_advance net F counts now).state.period counts (framed_advance net F counts now).stages qs ++ 10 ∷ []) on.stands.queues
    ∙ sym (one_line (framed_line net F now counts))

module _ (net : Network) (F : ℕ) (counts stages : List ℕ) (old new : Standing) (frame next : FrameNow) (period : ℕ) (was now : Option (List ℕ)) (takes : (A : List (List ℕ)) → HasTaken net old A → HasTaken net new (A ++ counts ∷ []))
    (advances : (state : FramedState) → StandsFramed net F old frame state → StandsFramed net F new next (framed_advance net F counts state)) (is : period ≡ new.period) (shows : stages ≡ next.stages) where
  -- a put that succeeds closes the period
  pub closes_period : Tells was now (λ before after. after ≡ before ++ (period_line period counts stages new.queues ++ 10 ∷ [])) → Takes (framed_course net F) (IsBehind net F old frame) (IsBehind net F new next) (arrivals_line counts) was now
  closes_period told = record {
    taken = tt;
    stands = stands_more net F counts old new frame next takes advances;
    permitted = λ kinds on. (stands_more net F counts old new frame next takes advances kinds on).taken.permitted;
    written = λ kinds on.
        let state = framed_after net F (framed_opening net) (arrivals_of_kinds kinds) in (
          framed_line net F state counts ∷ [],
          period_more net F kinds counts,
          Tells-weaker _ _ _ _ (λ before after e. e ∙ ap (λ xs. before ++ xs) (line_is net F period counts stages new next state (advances state on.stands) is shows)) told,
        );
  }

  -- one that fails cuts its line short
  pub cuts_period : Tells was now (GainsPrefix (period_line period counts stages new.queues ++ 10 ∷ [])) → CutsShort (framed_course net F) (IsBehind net F old frame) (arrivals_line counts) was now
  cuts_period told = record {
    taken = tt;
    permitted = λ kinds on. (stands_more net F counts old new frame next takes advances kinds on).taken.permitted;
    written = λ kinds on.
        let state = framed_after net F (framed_opening net) (arrivals_of_kinds kinds) in
        (framed_line net F state counts ∷ [], period_more net F kinds counts, subst (λ (text : List ℕ). Tells was now (GainsPrefix text)) (line_is net F period counts stages new next state (advances state on.stands) is shows) told);
  }

-- arrivals above a bucket refuse their line
pub refuses_period : (net : Network) (F : ℕ) (counts : List ℕ) (old : Standing) (frame : FrameNow) (why : AboveBucket) → why.period ≡ old.period + 1 → ((A : List (List ℕ)) → HasTaken net old A → IsFirstAbove net A counts why.link) →
    (kinds : List LineKind) → IsBehind net F old frame kinds → IsAbove net kinds (arrivals_line counts) why
refuses_period net F counts old frame why next above kinds on = record {
  counts = counts;
  is = refl;
  period = next ∙ ap (λ p. p + 1) (period_behind net F old frame kinds on);
  first = above (arrivals_of_kinds kinds) on.taken;
}

-- the end line that is put
pub finishes : {T E : Type 0} (r : Result T E) (net : Network) (F : ℕ) (st : Standing) (frame : FrameNow) (period total_in total_out n : ℕ) (was now : Option (List ℕ)) → IsOn net st → period ≡ st.period → total_in ≡ st.total_in → total_out ≡ st.total_out →
    n ≡ total_in - total_out → st.total_in ≡ st.total_out + sum st.queues → Tells was now (Puts r (end_line_of period total_in total_out n ++ 10 ∷ [])) →
    (kinds : List LineKind) → IsBehind net F st frame kinds → Tells was now (Puts r (text_of ((framed_course net F).end_line kinds ∷ [])))
finishes r net F st frame period total_in total_out n was now on p i o is conserved told kinds behind =
    let state : State = (framed_after net F (framed_opening net) (arrivals_of_kinds kinds)).state in
    let same : end_line_of period total_in total_out n ++ 10 ∷ [] ≡ text_of (end_line net state ∷ []) =
    ap (λ line. line ++ 10 ∷ []) (end_line_is net st period total_in total_out n on p i o is conserved state behind.stands.stands) ∙ sym (one_line (end_line net state)) in
    subst (λ (text : List ℕ). Tells was now (Puts r text)) same told
