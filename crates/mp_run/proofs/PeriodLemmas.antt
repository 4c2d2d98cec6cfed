-- One period and the end, from what the calls say.
use Rattle.std.proofs.Common.{◌≡◌, ◌≤◌, ◌<◌, ◌^◌, ℕ, ℤ, pos, ◌+◌, ◌-◌, List, [], ◌∷◌, ◌++◌, length, map, sum, sum_by, refl, sym, ◌∙◌, ap, subst, arith, Result}
use Rattle.std.specs.declared.option.Option.{Option}
use Rattle.std.specs.List.{range_with_len, All, AllByRecursion}
use Rattle.std.proofs.lemmas.List.{append-nil, append_assoc, length-append, length-map, get_or_at}
use Rattle.std.proofs.lemmas.List.Sums.{sum_by-cons}
use Rattle.std.proofs.lemmas.List.Elements.{All-cons}
use Rattle.mp_model.specs.Network.{Network, Junction, movement_numbers, entry}
use Rattle.mp_model.specs.NetworkRules.{IsInRange}
use Rattle.mp_model.specs.Arrivals.{HasCounts}
use Rattle.mp_model.specs.Stream.{LineKind, arrivals_of_kinds}
use Rattle.mp_model.specs.Stream.LineKind.{arrivals_line}
use Rattle.mp_model.specs.Step.{State, AreStages, queue, queued}
use Rattle.mp_model.specs.Run.{opening, greatest_stages, advance, state_after}
use Rattle.mp_model.specs.Log.{text_of, period_line, line_after, end_line, end_line_of}
use Rattle.mp_edge.specs.Outside.{Tells, Puts, GainsPrefix}
use Rattle.mp_edge.proofs.Told.{Tells-weaker}
use Rattle.mp_step.specs.Taken.{HasTaken}
use Rattle.mp_laws.specs.Buckets.{IsFirstAbove}
use Rattle.mp_stream.specs.Taking.{Takes, CutsShort}
use Rattle.mp_run.specs.Running.{course_of, StandsBehind, IsAbove}
use Rattle.mp_run.specs.declared.run.AboveBucket.{AboveBucket}
use Rattle.mp_run.proofs.CourseLemmas.{stands_more, period_more, period_behind}
use Rattle.mp_log.specs.Fitting.{FitsLine}
use Rattle.mp_log.proofs.FedLemmas.{fed_few}
use Rattle.mp_press.specs.Queues.{naturals, NoneNegative}
use Rattle.mp_step.specs.Standing.{Standing, IsOn, Stands}

-- one line alone
pub one_line : (line : List ℕ) → text_of (line ∷ []) ≡ line ++ 10 ∷ []
one_line line = append-nil (line ++ 10 ∷ [])

-- the line of a period is that of the run
pub line_after_is : (net : Network) (stages counts : List ℕ) (old new : Standing) → stages ≡ greatest_stages net (entry old.queues)
    → (state : State) → Stands net old state → Stands net new (advance net counts state) → period_line new.period counts stages new.queues ≡ line_after net state counts
line_after_is net stages counts old new chosen state stands after =
    let same : stages ≡ greatest_stages net (queue state) = chosen ∙ ap (λ q. greatest_stages net (entry q)) stands.queues in
    ap (λ p. period_line p counts stages new.queues) after.period
    ∙ ap (λ s. period_line (advance net counts state).period counts s new.queues) same
    ∙ ap (λ q. period_line (advance net counts state).period counts (greatest_stages net (queue state)) q) after.queues

pub line_is : (net : Network) (stages counts : List ℕ) (old new : Standing) → stages ≡ greatest_stages net (entry old.queues)
    → (state : State) → Stands net old state → Stands net new (advance net counts state) → period_line new.period counts stages new.queues ++ 10 ∷ [] ≡ text_of (line_after net state counts ∷ [])
line_is net stages counts old new chosen state stands after =
    ap (λ line. line ++ 10 ∷ []) (line_after_is net stages counts old new chosen state stands after) ∙ sym (one_line (line_after net state counts))

-- the entries of a list, by their numbers
sum_by_numbers : (q front : List ℕ) (n : ℕ) → n ≡ length front + 1 → sum_by (entry (front ++ q)) (range_with_len n (length q)) ≡ sum q
sum_by_numbers [] front n is = refl
sum_by_numbers (x ∷ q) front n is =
    let here : entry (front ++ x ∷ q) n ≡ x = get_or_at front x q 0 (n - 1) (omega arith) in
    let rest : sum_by (entry ((front ++ x ∷ []) ++ q)) (range_with_len (n + 1) (length q)) ≡ sum q =
    sum_by_numbers q (front ++ x ∷ []) (n + 1) (omega (arith, length-append front (x ∷ []))) in
    let same : (front ++ x ∷ []) ++ q ≡ front ++ x ∷ q = append_assoc front (x ∷ []) q in
    let later : sum_by (entry (front ++ x ∷ q)) (range_with_len (n + 1) (length q)) ≡ sum q = subst (λ xs. sum_by (entry xs) (range_with_len (n + 1) (length q)) ≡ sum q) same rest in
    sum_by-cons (entry (front ++ x ∷ q)) n (range_with_len (n + 1) (length q)) ∙ ap (λ a. a + sum_by (entry (front ++ x ∷ q)) (range_with_len (n + 1) (length q))) here ∙ ap (λ b. x + b) later ∙ sym (sum_by-cons (λ y. y) x q)

-- what is queued is the sum of the queues
pub queued_is : (net : Network) (st : Standing) (state : State) → IsOn net st → Stands net st state → queued net state ≡ sum st.queues
queued_is net st state on stands =
    ap (λ q. sum_by (entry q) (movement_numbers net)) (sym stands.queues)
    ∙ ap (λ n. sum_by (entry st.queues) (range_with_len 1 n)) (sym on.queues) ∙ sum_by_numbers st.queues [] 1 refl

-- the end line is that of the run
pub end_line_is : (net : Network) (st : Standing) (period total_in total_out n : ℕ) → IsOn net st → period ≡ st.period → total_in ≡ st.total_in → total_out ≡ st.total_out → n ≡ total_in - total_out
    → st.total_in ≡ st.total_out + sum st.queues → (state : State) → Stands net st state → end_line_of period total_in total_out n ≡ end_line net state
end_line_is net st period total_in total_out n on p i o is conserved state stands =
    let left : n ≡ sum st.queues = omega arith in
    ap (λ m. end_line_of m total_in total_out n) (p ∙ stands.period) ∙ ap (λ m. end_line_of state.period m total_out n) (i ∙ stands.total_in)
    ∙ ap (λ m. end_line_of state.period state.total_in m n) (o ∙ stands.total_out) ∙ ap (end_line_of state.period state.total_in state.total_out) (left ∙ sym (queued_is net st state on stands))

-- stages are as many as the junctions, and none is above the most stages of a junction
pub stages_count : (js : List Junction) (ss : List ℕ) → AreStages js ss → length ss ≡ length js
stages_count [] [] are = refl
stages_count (j ∷ js) (s ∷ ss) are = let rest = stages_count js ss are.1 in omega arith
stages_count [] (s ∷ ss) are = absurd are
stages_count (j ∷ js) [] are = absurd are

pub stages_small : (js : List Junction) (ss : List ℕ) → AreStages js ss → AllByRecursion (λ j. length j.stages ≤ 16) js → All (λ s. s ≤ 16) ss
stages_small [] [] are most = λ k d low. absurd (omega arith)
stages_small (j ∷ js) (s ∷ ss) are most = All-cons (λ m. m ≤ 16) s ss (omega (arith, are.0, most.0)) (stages_small js ss are.1 most.1)
stages_small [] (s ∷ ss) are most = absurd are
stages_small (j ∷ js) [] are most = absurd are

-- the line of a period fits
pub line_fits : (net : Network) (period : ℕ) (counts stages : List ℕ) (queues : List ℤ) (st : Standing) → IsInRange net → IsOn net st → HasCounts net counts → AreStages net.junctions stages
    → All (λ a. a < 10 ^ 9) counts → period ≤ 2 ^ 48 → queues ≡ map pos st.queues → All (λ q. q ≤ 2 ^ 85) st.queues → FitsLine period counts stages queues
line_fits net period counts stages queues st range on has are digits low same few = record {
  counts = st.queues;
  none_negative = same;
  period_in = low;
  few_arrivals = let links = range.links in omega (arith, has, fed_few net, links.1);
  few_stages = let junctions = range.junctions in omega (arith, stages_count net.junctions stages are, junctions.1);
  few_queues = let movements = range.movements in omega (arith, ap length same, length-map st.queues pos, on.queues, movements.1);
  arrivals_in = digits;
  stages_in = stages_small net.junctions stages are range.stages;
  queues_in = few;
}

-- signed counts are those of their numbers
pub signed_is : (zs : List ℤ) (ns : List ℕ) → NoneNegative zs → naturals zs ≡ ns → zs ≡ map pos ns
signed_is zs ns none same = sym none ∙ ap (map pos) same

-- the line that is put is that of the run
put_line : (net : Network) (counts stages : List ℕ) (old new : Standing) (period : ℕ) → stages ≡ greatest_stages net (entry old.queues) → ((state : State) → Stands net old state → Stands net new (advance net counts state)) → period ≡ new.period
    → (state : State) → Stands net old state → period_line period counts stages new.queues ++ 10 ∷ [] ≡ text_of (line_after net state counts ∷ [])
put_line net counts stages old new period chosen advances is state stands =
    ap (λ p. period_line p counts stages new.queues ++ 10 ∷ []) is ∙ line_is net stages counts old new chosen state stands (advances state stands)

-- a put that succeeds closes the period
pub closes_period : (net : Network) (counts stages : List ℕ) (old new : Standing) (period : ℕ) (was now : Option (List ℕ)) → stages ≡ greatest_stages net (entry old.queues) → ((A : List (List ℕ)) → HasTaken net old A → HasTaken net new (A ++ counts ∷ []))
    → ((state : State) → Stands net old state → Stands net new (advance net counts state)) → period ≡ new.period → Tells was now (λ before after. after ≡ before ++ (period_line period counts stages new.queues ++ 10 ∷ []))
    → Takes (course_of net) (StandsBehind net old) (StandsBehind net new) (arrivals_line counts) was now
closes_period net counts stages old new period was now chosen takes advances is told = record {
  taken = tt;
  stands = stands_more net counts old new takes advances;
  permitted = λ kinds on. (stands_more net counts old new takes advances kinds on).taken.permitted;
  written = λ kinds on.
      let state = state_after net (opening net) (arrivals_of_kinds kinds) in (
        line_after net state counts ∷ [],
        period_more net kinds counts,
        Tells-weaker _ _ _ _ (λ before after e. e ∙ ap (λ xs. before ++ xs) (put_line net counts stages old new period chosen advances is state on.stands)) told,
      );
}

-- one that fails cuts its line short
pub cuts_period : (net : Network) (counts stages : List ℕ) (old new : Standing) (period : ℕ) (was now : Option (List ℕ)) → stages ≡ greatest_stages net (entry old.queues) → ((A : List (List ℕ)) → HasTaken net old A → HasTaken net new (A ++ counts ∷ []))
    → ((state : State) → Stands net old state → Stands net new (advance net counts state)) → period ≡ new.period → Tells was now (GainsPrefix (period_line period counts stages new.queues ++ 10 ∷ []))
    → CutsShort (course_of net) (StandsBehind net old) (arrivals_line counts) was now
cuts_period net counts stages old new period was now chosen takes advances is told = record {
  taken = tt;
  permitted = λ kinds on. (stands_more net counts old new takes advances kinds on).taken.permitted;
  written = λ kinds on.
      let state = state_after net (opening net) (arrivals_of_kinds kinds) in
      (line_after net state counts ∷ [], period_more net kinds counts, subst (λ (text : List ℕ). Tells was now (GainsPrefix text)) (put_line net counts stages old new period chosen advances is state on.stands) told);
}

-- arrivals above a bucket refuse their line
pub refuses_period : (net : Network) (counts : List ℕ) (old : Standing) (why : AboveBucket) → why.period ≡ old.period + 1 → ((A : List (List ℕ)) → HasTaken net old A → IsFirstAbove net A counts why.link)
    → (kinds : List LineKind) → StandsBehind net old kinds → IsAbove net kinds (arrivals_line counts) why
refuses_period net counts old why next above kinds on = record {
  counts = counts;
  is = refl;
  period = next ∙ ap (λ p. p + 1) (period_behind net old kinds on);
  first = above (arrivals_of_kinds kinds) on.taken;
}

put_end_is : (net : Network) (st : Standing) (period total_in total_out n : ℕ) → IsOn net st → period ≡ st.period → total_in ≡ st.total_in → total_out ≡ st.total_out → n ≡ total_in - total_out
    → st.total_in ≡ st.total_out + sum st.queues → (state : State) → Stands net st state → end_line_of period total_in total_out n ++ 10 ∷ [] ≡ text_of (end_line net state ∷ [])
put_end_is net st period total_in total_out n on p i o is conserved state stands =
    ap (λ line. line ++ 10 ∷ []) (end_line_is net st period total_in total_out n on p i o is conserved state stands) ∙ sym (one_line (end_line net state))

-- the end line that is put
pub finishes : {T E : Type 0} (r : Result T E) (net : Network) (st : Standing) (period total_in total_out n : ℕ) (was now : Option (List ℕ)) → IsOn net st → period ≡ st.period → total_in ≡ st.total_in → total_out ≡ st.total_out
    → n ≡ total_in - total_out → st.total_in ≡ st.total_out + sum st.queues → Tells was now (Puts r (end_line_of period total_in total_out n ++ 10 ∷ []))
    → (kinds : List LineKind) → StandsBehind net st kinds → Tells was now (Puts r (text_of ((course_of net).end_line kinds ∷ [])))
finishes r net st period total_in total_out n was now on p i o is conserved told kinds behind =
    subst (λ (text : List ℕ). Tells was now (Puts r text)) (put_end_is net st period total_in total_out n on p i o is conserved _ behind.stands) told
