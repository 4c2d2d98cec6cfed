-- The lines of a session under a guard, from what the calls say.
use Rattle.std.proofs.Common.{◌≡◌, ℕ, ◌+◌, ◌-◌, List, [], ◌∷◌, ◌++◌, sum, refl, sym, ◌∙◌, ap, subst, Result}
use Rattle.std.specs.declared.option.Option.{Option}
use Rattle.mp_edge.proofs.Told.{Tells-weaker}
use Rattle.mp_edge.specs.Outside.{Tells, Puts, GainsPrefix}
use Rattle.mp_laws.specs.Buckets.{IsFirstAbove}
use Rattle.mp_model.specs.GuardedChoice.{GuardedState, guarded_advance, guarded_opening, guarded_stages}
use Rattle.mp_model.specs.Log.{text_of, period_line, end_line, end_line_of}
use Rattle.mp_model.specs.Network.{entry}
use Rattle.mp_model.specs.Step.{State, queue}
use Rattle.mp_model.specs.Stream.{LineKind, arrivals_of_kinds}
use Rattle.mp_model.specs.Stream.LineKind.{arrivals_line}
use Rattle.mp_run.proofs.PeriodLemmas.{end_line_is, one_line}
use Rattle.mp_step.specs.Standing.{IsOn}
use Rattle.mp_step.specs.Taken.{HasTaken}
use Rattle.mp_stream.specs.Arrivals.{IsAbove}
use Rattle.mp_stream.specs.Taking.{Takes, CutsShort}
use Rattle.mp_stream.specs.declared.arrivals.AboveBucket.{AboveBucket}
use Rattle.mp_guard_run.specs.Accounts.{stages_by}
use Rattle.mp_guard_run.specs.Running.{guarded_after, guarded_course, guarded_line, StandsBehind}
use Rattle.mp_guard_run.specs.Session.{Guarded, StandsAt}
use Rattle.mp_guard_run.proofs.Courses.{period_behind, period_more, stands_more}
use Rattle.mp_guard_run.proofs.Steps.{stages_are}

module _ (old new : Guarded) (same : new ≡ record old { at = new.at; accounts = new.accounts; stages = new.stages }) (counts shown : List ℕ) (period : ℕ) (was now : Option (List ℕ)) (takes : (A : List (List ℕ)) → HasTaken old.net old.at A → HasTaken old.net new.at (A ++ counts ∷ []))
    (advances : (state : GuardedState) → StandsAt old state → StandsAt new (guarded_advance old.net old.guard counts state)) (is : period ≡ new.at.period) (shows : shown ≡ stages_by old.net old.guard (entry old.at.queues) old.at.period old.accounts) where
  -- what a guarded run stands at after a period gives its line
  line_is : (state : GuardedState) → StandsAt old state → period_line period counts shown new.at.queues ++ 10 ∷ [] ≡ text_of (guarded_line old.net old.guard state counts ∷ [])
  line_is state on =
      let next : GuardedState = guarded_advance old.net old.guard counts state in
      let after : StandsAt new next = advances state on in
      ap (λ p. period_line p counts shown new.at.queues ++ 10 ∷ []) (is ∙ after.stands.period)
      ∙ ap (λ ss. period_line next.state.period counts ss new.at.queues ++ 10 ∷ []) (stages_are old.net old.guard old.at old.accounts state on.stands on.paid shown counts shows)
      ∙ ap (λ qs. period_line next.state.period counts (guarded_stages old.net old.guard (queue state.state) state) qs ++ 10 ∷ []) after.stands.queues
      ∙ sym (one_line (guarded_line old.net old.guard state counts))

  stands : (kinds : List LineKind) → StandsBehind old kinds → StandsBehind new (kinds ++ arrivals_line counts ∷ [])
  stands = stands_more old new (ap (λ (s : Guarded). s.net) same) (ap (λ (s : Guarded). s.guard) same) counts takes advances

  -- the arrivals stay permitted: those of the network before are those of the same network
  permits : (kinds : List LineKind) → StandsBehind old kinds → HasTaken old.net new.at (arrivals_of_kinds (kinds ++ arrivals_line counts ∷ []))
  permits kinds on = subst (λ n. HasTaken n new.at (arrivals_of_kinds (kinds ++ arrivals_line counts ∷ []))) (ap (λ (s : Guarded). s.net) same) (stands kinds on).taken

  -- a put that succeeds closes the period
  pub closes_period : Tells was now (λ before after. after ≡ before ++ (period_line period counts shown new.at.queues ++ 10 ∷ [])) → Takes (guarded_course old.net old.guard) (StandsBehind old) (StandsBehind new) (arrivals_line counts) was now
  closes_period told = record {
    taken = tt;
    stands = stands;
    permitted = λ kinds on. (permits kinds on).permitted;
    written = λ kinds on.
        let state = guarded_after old.net old.guard (guarded_opening old.net old.guard) (arrivals_of_kinds kinds) in (
          guarded_line old.net old.guard state counts ∷ [],
          period_more old.net old.guard kinds counts,
          Tells-weaker _ _ _ _ (λ before after e. e ∙ ap (λ xs. before ++ xs) (line_is state on.at)) told,
        );
  }

  -- one that fails cuts its line short
  pub cuts_period : Tells was now (GainsPrefix (period_line period counts shown new.at.queues ++ 10 ∷ [])) → CutsShort (guarded_course old.net old.guard) (StandsBehind old) (arrivals_line counts) was now
  cuts_period told = record {
    taken = tt;
    permitted = λ kinds on. (permits kinds on).permitted;
    written = λ kinds on.
        let state = guarded_after old.net old.guard (guarded_opening old.net old.guard) (arrivals_of_kinds kinds) in
        (guarded_line old.net old.guard state counts ∷ [], period_more old.net old.guard kinds counts, subst (λ (text : List ℕ). Tells was now (GainsPrefix text)) (line_is state on.at) told);
  }

-- arrivals above a bucket refuse their line
pub refuses_period : (old : Guarded) (counts : List ℕ) (why : AboveBucket) → why.period ≡ old.at.period + 1 → ((A : List (List ℕ)) → HasTaken old.net old.at A → IsFirstAbove old.net A counts why.link) →
    (kinds : List LineKind) → StandsBehind old kinds → IsAbove old.net kinds (arrivals_line counts) why
refuses_period old counts why next above kinds on = record {
  counts = counts;
  is = refl;
  period = next ∙ ap (λ p. p + 1) (period_behind old kinds on);
  first = above (arrivals_of_kinds kinds) on.taken;
}

-- the end line that is put
pub finishes : {T E : Type 0} (r : Result T E) (s : Guarded) (period total_in total_out n : ℕ) (was now : Option (List ℕ)) → IsOn s.net s.at → period ≡ s.at.period → total_in ≡ s.at.total_in → total_out ≡ s.at.total_out →
    n ≡ total_in - total_out → s.at.total_in ≡ s.at.total_out + sum s.at.queues → Tells was now (Puts r (end_line_of period total_in total_out n ++ 10 ∷ [])) →
    (kinds : List LineKind) → StandsBehind s kinds → Tells was now (Puts r (text_of ((guarded_course s.net s.guard).end_line kinds ∷ [])))
finishes r s period total_in total_out n was now on p i o is conserved told kinds behind =
    let state : State = (guarded_after s.net s.guard (guarded_opening s.net s.guard) (arrivals_of_kinds kinds)).state in
    let same : end_line_of period total_in total_out n ++ 10 ∷ [] ≡ text_of (end_line s.net state ∷ []) =
    ap (λ line. line ++ 10 ∷ []) (end_line_is s.net s.at period total_in total_out n on p i o is conserved state behind.at.stands) ∙ sym (one_line (end_line s.net state)) in
    subst (λ (text : List ℕ). Tells was now (Puts r text)) same told
