-- One period and the end, from what the calls say.
use Rattle.std.proofs.Common.{◌≡◌, ◌≤◌, ◌<◌, ◌^◌, ℕ, ℤ, pos, ◌+◌, ◌-◌, List, [], ◌∷◌, ◌++◌, length, map, sum, sum_by, refl, sym, ◌∙◌, ap, ap₂, subst, arith, Result}
use Rattle.std.specs.declared.option.Option.{Option}
use Rattle.std.specs.List.{range_with_len, All}
use Rattle.std.proofs.lemmas.List.{append-nil, append_assoc, length-append, length-map, get_or_at}
use Rattle.std.proofs.lemmas.List.FromFn.{length-map-range_with_len}
use Rattle.std.proofs.lemmas.List.Elements.{All-cons}
use Rattle.std.proofs.lemmas.List.Sums.{sum_by-cons}
use Rattle.mp_edge.specs.Outside.{Tells, Puts, GainsPrefix}
use Rattle.mp_edge.proofs.Told.{Tells-weaker}
use Rattle.mp_laws.proofs.Lists.{at_index}
use Rattle.mp_laws.specs.Buckets.{IsFirstAbove}
use Rattle.mp_log.proofs.FedLemmas.{fed_few}
use Rattle.mp_log.specs.Fitting.{FitsLine}
use Rattle.mp_model.specs.Arrivals.{HasCounts}
use Rattle.mp_model.specs.Log.{text_of, period_line, end_line, end_line_of}
use Rattle.mp_model.specs.Network.{Network, movement_numbers, junction_numbers, entry, no_junction}
use Rattle.mp_model.specs.Plans.{Plan, planned_advance, planned_after, planned_line, running}
use Rattle.mp_model.specs.Run.{opening}
use Rattle.mp_model.specs.Step.{State, queued}
use Rattle.mp_model.specs.Stream.{LineKind, arrivals_of_kinds}
use Rattle.mp_model.specs.Stream.LineKind.{arrivals_line}
use Rattle.mp_press.specs.Queues.{naturals, NoneNegative}
use Rattle.mp_step.specs.Standing.{Standing, IsOn, Stands}
use Rattle.mp_step.specs.Taken.{HasTaken}
use Rattle.mp_stream.specs.Arrivals.{IsAbove}
use Rattle.mp_stream.specs.Taking.{Takes, CutsShort}
use Rattle.mp_stream.specs.declared.arrivals.AboveBucket.{AboveBucket}
use Rattle.mp_plan_run.specs.Green.{running_stages}
use Rattle.mp_plan_run.specs.Planned.{IsPlanned, Planned}
use Rattle.mp_plan_run.specs.Running.{plan_course, StandsBehind}
use Rattle.mp_plan_run.proofs.CourseLemmas.{stands_more, period_more, period_behind}
use Rattle.mp_plan_run.proofs.GreenLemmas.{running_known}

-- one line alone
one_line : (line : List ℕ) → text_of (line ∷ []) ≡ line ++ 10 ∷ []
one_line line = append-nil (line ++ 10 ∷ [])

-- signed counts are those of their numbers
pub signed_is : (zs : List ℤ) (ns : List ℕ) → NoneNegative zs → naturals zs ≡ ns → zs ≡ map pos ns
signed_is zs ns none same = sym none ∙ ap (map pos) same

-- the entries of a list, by their numbers
sum_by_numbers : (q front : List ℕ) (n : ℕ) → n ≡ length front + 1 → sum_by (entry (front ++ q)) (range_with_len n (length q)) ≡ sum q
sum_by_numbers [] front n is = refl
sum_by_numbers (x ∷ q) front n is =
    let here : entry (front ++ x ∷ q) n ≡ x = get_or_at front x q 0 (n - 1) (omega arith) in
    let rest : sum_by (entry ((front ++ x ∷ []) ++ q)) (range_with_len (n + 1) (length q)) ≡ sum q =
    sum_by_numbers q (front ++ x ∷ []) (n + 1) (omega (arith, length-append front (x ∷ []))) in
    let same : (front ++ x ∷ []) ++ q ≡ front ++ x ∷ q = append_assoc front (x ∷ []) q in
    let later : sum_by (entry (front ++ x ∷ q)) (range_with_len (n + 1) (length q)) ≡ sum q = subst (λ xs. sum_by (entry xs) (range_with_len (n + 1) (length q)) ≡ sum q) same rest in
    sum_by-cons (entry (front ++ x ∷ q)) n (range_with_len (n + 1) (length q)) ∙ ap (λ a. a + sum_by (entry (front ++ x ∷ q)) (range_with_len (n + 1) (length q))) here ∙ ap (λ b. x + b) later ∙ sym (sum_by-cons (λ y. y) x q)

-- what is queued is the sum of the queues
queued_is : (net : Network) (st : Standing) (state : State) → IsOn net st → Stands net st state → queued net state ≡ sum st.queues
queued_is net st state on stands =
    ap (λ q. sum_by (entry q) (movement_numbers net)) (sym stands.queues)
    ∙ ap (λ n. sum_by (entry st.queues) (range_with_len 1 n)) (sym on.queues) ∙ sum_by_numbers st.queues [] 1 refl

-- the end line is that of the run
end_line_is : (net : Network) (st : Standing) (period total_in total_out n : ℕ) → IsOn net st → period ≡ st.period → total_in ≡ st.total_in → total_out ≡ st.total_out → n ≡ total_in - total_out
    → st.total_in ≡ st.total_out + sum st.queues → (state : State) → Stands net st state → end_line_of period total_in total_out n ≡ end_line net state
end_line_is net st period total_in total_out n on p i o is conserved state stands =
    let left : n ≡ sum st.queues = omega arith in
    ap (λ m. end_line_of m total_in total_out n) (p ∙ stands.period) ∙ ap (λ m. end_line_of state.period m total_out n) (i ∙ stands.total_in)
    ∙ ap (λ m. end_line_of state.period state.total_in m n) (o ∙ stands.total_out) ∙ ap (end_line_of state.period state.total_in state.total_out) (left ∙ sym (queued_is net st state on stands))

-- the stages that run are at most 16
all_small : (f : ℕ → ℕ) → ((j : ℕ) → f j ≤ 16) → (js : List ℕ) → All (λ m. m ≤ 16) (map f js)
all_small f each [] = λ k d low. absurd (omega arith)
all_small f each (j ∷ js) = All-cons (λ m. m ≤ 16) (f j) (map f js) (each j) (all_small f each js)

stages_small : (s : Planned) → IsPlanned s → (t : ℕ) → All (λ m. m ≤ 16) (running_stages s.net s.plan t)
stages_small s p t = all_small (λ j. running s.plan j t)
    (λ j. omega (arith, running_known s.net s.plan p.plan j t, at_index (λ j. length j.stages ≤ 16) no_junction s.net.junctions (j - 1) p.acceptable.range.stages (omega arith))) (junction_numbers s.net)

-- the line of a period fits
line_fits : (s : Planned) → IsPlanned s → (t period : ℕ) (counts shown : List ℕ) (queues : List ℤ) (at : Standing) → at ≡ s.at → shown ≡ running_stages s.net s.plan t → HasCounts s.net counts
    → All (λ a. a < 10 ^ 9) counts → period ≤ 2 ^ 48 → queues ≡ map pos at.queues → All (λ q. q ≤ 2 ^ 85) at.queues → FitsLine period counts shown queues
line_fits s p t period counts shown queues at at_is shown_is has digits low same few = record {
  counts = at.queues;
  none_negative = same;
  period_in = low;
  few_arrivals = let links = p.acceptable.range.links in omega (arith, has, fed_few s.net, links.1);
  few_stages =
      let junctions = p.acceptable.range.junctions in
      omega (arith, ap (λ (ss : List ℕ). length ss) shown_is, length-map-range_with_len (λ j. running s.plan j t) 1 (length s.net.junctions), junctions.1);
  few_queues =
      let movements = p.acceptable.range.movements in
      omega (arith, ap (λ (zs : List ℤ). length zs) same, length-map at.queues pos, ap (λ (st : Standing). length st.queues) at_is, p.on.queues, movements.1);
  arrivals_in = digits;
  stages_in = subst (λ (ss : List ℕ). All (λ m. m ≤ 16) ss) (sym shown_is) (stages_small s p t);
  queues_in = few;
}

pub closed_line_fits : (old new : Planned) → IsPlanned new → new ≡ record old { at = new.at; stages = new.stages } → new.stages ≡ running_stages old.net old.plan old.at.period
    → (at : Standing) (period : ℕ) (counts shown : List ℕ) (queues : List ℤ) → at ≡ new.at → shown ≡ new.stages → HasCounts old.net counts → All (λ a. a < 10 ^ 9) counts → period ≤ 2 ^ 48 → queues ≡ map pos at.queues → All (λ q. q ≤ 2 ^ 85) at.queues
    → FitsLine period counts shown queues
closed_line_fits old new p same ran at period counts shown queues at_is shown_is has digits low queues_are few =
    let net : old.net ≡ new.net = sym (ap (λ (s : Planned). s.net) same) in
    let plan : old.plan ≡ new.plan = sym (ap (λ (s : Planned). s.plan) same) in
    let shows : shown ≡ running_stages new.net new.plan old.at.period = shown_is ∙ ran ∙ ap₂ (λ (n : Network) (pl : Plan). running_stages n pl old.at.period) net plan in
    line_fits new p old.at.period period counts shown queues at at_is shows (subst (λ (n : Network). HasCounts n counts) net has) digits low queues_are few

-- the line that is put is that of the run
module _ (net : Network) (plan : Plan) (counts shown : List ℕ) (old new : Standing) (period : ℕ) (ran : shown ≡ running_stages net plan old.period) (takes : (A : List (List ℕ)) → HasTaken net old A → HasTaken net new (A ++ counts ∷ [])) (advances : (state : State) → Stands net old state → Stands net new (planned_advance net plan counts state)) (is : period ≡ new.period) where
  line_is : (state : State) → Stands net old state → period_line period counts shown new.queues ++ 10 ∷ [] ≡ text_of (planned_line net plan state counts ∷ [])
  line_is state stands =
      let next : State = planned_advance net plan counts state in
      let after : Stands net new next = advances state stands in
      let shows : shown ≡ running_stages net plan state.period = ran ∙ ap (running_stages net plan) stands.period in
      ap (λ p. period_line p counts shown new.queues ++ 10 ∷ []) (is ∙ after.period)
      ∙ ap (λ ss. period_line next.period counts ss new.queues ++ 10 ∷ []) shows
      ∙ ap (λ q. period_line next.period counts (running_stages net plan state.period) q ++ 10 ∷ []) after.queues ∙ sym (one_line (planned_line net plan state counts))

  -- a put that succeeds closes the period
  pub closes_period : (was now : Option (List ℕ)) → Tells was now (λ before after. after ≡ before ++ (period_line period counts shown new.queues ++ 10 ∷ []))
      → Takes (plan_course net plan) (StandsBehind net plan old) (StandsBehind net plan new) (arrivals_line counts) was now
  closes_period was now told = record {
    taken = tt;
    stands = stands_more net plan counts old new takes advances;
    permitted = λ kinds on. (stands_more net plan counts old new takes advances kinds on).taken.permitted;
    written = λ kinds on.
        let state = planned_after net plan (opening net) (arrivals_of_kinds kinds) in (
          planned_line net plan state counts ∷ [],
          period_more net plan kinds counts,
          Tells-weaker _ _ _ _ (λ before after e. e ∙ ap (λ xs. before ++ xs) (line_is state on.stands)) told,
        );
  }

  -- one that fails cuts its line short
  pub cuts_period : (was now : Option (List ℕ)) → Tells was now (GainsPrefix (period_line period counts shown new.queues ++ 10 ∷ [])) → CutsShort (plan_course net plan) (StandsBehind net plan old) (arrivals_line counts) was now
  cuts_period was now told = record {
    taken = tt;
    permitted = λ kinds on. (stands_more net plan counts old new takes advances kinds on).taken.permitted;
    written = λ kinds on.
        let state = planned_after net plan (opening net) (arrivals_of_kinds kinds) in
        (planned_line net plan state counts ∷ [], period_more net plan kinds counts, subst (λ (text : List ℕ). Tells was now (GainsPrefix text)) (line_is state on.stands) told);
  }

-- arrivals above a bucket refuse their line
pub refuses_period : (net : Network) (plan : Plan) (counts : List ℕ) (old : Standing) (why : AboveBucket) → why.period ≡ old.period + 1 → ((A : List (List ℕ)) → HasTaken net old A → IsFirstAbove net A counts why.link)
    → (kinds : List LineKind) → StandsBehind net plan old kinds → IsAbove net kinds (arrivals_line counts) why
refuses_period net plan counts old why next above kinds on = record {
  counts = counts;
  is = refl;
  period = next ∙ ap (λ p. p + 1) (period_behind net plan old kinds on);
  first = above (arrivals_of_kinds kinds) on.taken;
}

-- the end line that is put
pub finishes : {T E : Type 0} (r : Result T E) (net : Network) (plan : Plan) (st : Standing) (period total_in total_out n : ℕ) (was now : Option (List ℕ)) → IsOn net st → period ≡ st.period → total_in ≡ st.total_in → total_out ≡ st.total_out
    → n ≡ total_in - total_out → st.total_in ≡ st.total_out + sum st.queues → Tells was now (Puts r (end_line_of period total_in total_out n ++ 10 ∷ []))
    → (kinds : List LineKind) → StandsBehind net plan st kinds → Tells was now (Puts r (text_of ((plan_course net plan).end_line kinds ∷ [])))
finishes r net plan st period total_in total_out n was now on p i o is conserved told kinds behind =
    let state = planned_after net plan (opening net) (arrivals_of_kinds kinds) in
    let line = ap (λ line. line ++ 10 ∷ []) (end_line_is net st period total_in total_out n on p i o is conserved state behind.stands) ∙ sym (one_line (end_line net state)) in
    subst (λ (text : List ℕ). Tells was now (Puts r text)) line told
