-- What a session under a guard keeps, over one period and over a whole run.
use Rattle.std.proofs.Common.{◌≡◌, ◌≤◌, ◌<◌, ◌^◌, ◌+◌, ◌-◌, ◌*◌, ℕ, ℤ, pos, List, length, map, get_or, arith, ap, sym, ◌∙◌, subst}
use Rattle.std.specs.List.{All, AllByRecursion}
use Rattle.std.proofs.lemmas.List.{get_or_default, length-map}
use Rattle.std.proofs.lemmas.List.FromFn.{length-map-range_with_len}
use Rattle.mp_guard.proofs.RuleLemmas.{stages_few}
use Rattle.mp_guard.specs.Bursts.{waits_of}
use Rattle.mp_guarded.proofs.Runs.{run_bounded}
use Rattle.mp_guarded.proofs.Sweeps.{sweeps_least}
use Rattle.mp_guarded.proofs.Waits.{run_waits}
use Rattle.mp_guarded.specs.Runs.{IsBounded}
use Rattle.mp_guarded.specs.Waits.{IsServedWithin, wait_of}
use Rattle.mp_laws.proofs.Lists.{AllOf-map, at_in, each_in, numbered}
use Rattle.mp_log.proofs.FedLemmas.{fed_few}
use Rattle.mp_log.specs.Fitting.{FitsLine}
use Rattle.mp_model.specs.Arrivals.{HasCounts, IsPermitted}
use Rattle.mp_model.specs.Guard.{IsGuardedBound, IsSurplus, Holds, red}
use Rattle.mp_model.specs.GuardedBursts.{AreAtRest, guarded_bound, swept}
use Rattle.mp_model.specs.GuardedChoice.{guarded_run, guarded_stage}
use Rattle.mp_model.specs.Lights.{HasSurplus}
use Rattle.mp_model.specs.Network.{Network, entry, junction_at, movement_numbers}
use Rattle.mp_model.specs.NetworkRules.{IsAcceptable}
use Rattle.mp_model.specs.Step.{queue}
use Rattle.mp_step.specs.Standing.{Standing}
use Rattle.mp_guard_run.specs.Accounts.{AreKnown, account_among, stages_by}
use Rattle.mp_guard_run.specs.Running.{GuardKeepsWaits, GuardStaysWithin, HoldsBounds}
use Rattle.mp_guard_run.specs.Session.{Guarded, IsGuarding}
use Rattle.mp_guard_run.proofs.Places.{known_at}

-- over permitted arrivals each queue is at most its bound
pub stays_within : (s : Guarded) → IsGuarding s → HoldsBounds s → (A : List (List ℕ)) → IsPermitted s.net A → GuardStaysWithin s.net s.guard s.bounds A
stays_within s guarding holds A permitted =
    let net = s.net in
    let guard = s.guard in
    let found = holds.rests.found in
    let surplus : ℕ → ℕ = entry holds.rests.surpluses in
    let bursts : List ℕ = swept net guard surplus found.sweeps in
    let surpluses = AllOf-map (λ k. IsSurplus net k (surplus k)) (λ k. HasSurplus net k (surplus k)) (λ k h. h.holds) (movement_numbers net) holds.rests.are.each in
    let rest : AreAtRest net guard surplus bursts = subst (AreAtRest net guard surplus) found.found found.rest in
    let least = sweeps_least net guarding.acceptable.network guard guarding.guards surplus surpluses found.sweeps rest in
    AllOf-map (IsBounded net guard surplus bursts) (λ now. AllByRecursion (λ k. queue now.state k ≤ entry s.bounds k) (movement_numbers net))
    (λ now bounded. each_in (λ k. queue now.state k ≤ entry s.bounds k) (movement_numbers net) (λ k there.
    let below = at_in (λ k. (bound : ℕ) → Holds net guard (surplus k) bursts k (1 + 2 * red net guard k) bound → queue now.state k ≤ bound) k (movement_numbers net) there bounded in
    let enough = (at_in (λ k. IsGuardedBound net guard surplus bursts k (guarded_bound net guard surplus bursts k)) k (movement_numbers net) there least.bounds).holds in
    let read : entry s.bounds k ≡ guarded_bound net guard surplus bursts k =
    ap (λ bs. entry bs k) holds.are ∙ numbered (guarded_bound net guard surplus holds.rests.bursts) (length net.movements) k there ∙ ap (λ bs. guarded_bound net guard surplus bs k) found.found in
    subst (λ n. queue now.state k ≤ n) (sym read) (below (guarded_bound net guard surplus bursts k) enough)))
    (guarded_run net guard A) (run_bounded net guarding.acceptable.network guard guarding.guards surplus bursts least.carry A permitted)

-- over any arrivals no movement with somebody waiting is without green longer than its wait
pub keeps_waits : (s : Guarded) → IsGuarding s → s.waits ≡ waits_of s.net s.guard → (A : List (List ℕ)) → GuardKeepsWaits s.net s.guard s.waits A
keeps_waits s guarding are A =
    let net = s.net in
    let guard = s.guard in
    let kept = run_waits net guarding.acceptable.network guard guarding.guards A in
    each_in (λ k. IsServedWithin net guard k (entry s.waits k) (guarded_run net guard A)) (movement_numbers net) (λ k there.
    let read : entry s.waits k ≡ wait_of net guard k = ap (λ ws. entry ws k) are ∙ numbered (wait_of net guard) (length net.movements) k there in
    subst (λ n. IsServedWithin net guard k n (guarded_run net guard A)) (sym read) (at_in (λ k. IsServedWithin net guard k (wait_of net guard k) (guarded_run net guard A)) k (movement_numbers net) there kept))

-- known stages have at most two digits
stages_small : (net : Network) → IsAcceptable net → (stages : List ℕ) → length stages ≡ length net.junctions → AreKnown net stages → All (λ s. s ≤ 16) stages
stages_small net ok stages size known k d low =
    let back : k ≡ (k + 1) - 1 = omega arith in
    let at = known_at net stages known (k + 1) (omega arith) (omega arith) in
    let few = stages_few net ok (k + 1) in
    let small : entry stages (k + 1) ≤ 16 = omega (arith, at.1) in
    subst (λ n. n ≤ 16) (sym (get_or_default stages k d 0 low ∙ ap (λ n. get_or stages n 0) back)) small

-- the line of the period that a session closed fits
pub closed_line_fits : (old new : Guarded) → IsGuarding new → new ≡ record old { at = new.at; accounts = new.accounts; stages = new.stages } → new.stages ≡ stages_by old.net old.guard (entry old.at.queues) old.at.period old.accounts → AreKnown old.net new.stages →
    (at : Standing) (period : ℕ) (counts shown : List ℕ) (queues : List ℤ) → at ≡ new.at → shown ≡ new.stages → HasCounts old.net counts → All (λ a. a < 10 ^ 9) counts → period ≤ 2 ^ 48 → queues ≡ map pos at.queues → All (λ q. q ≤ 2 ^ 85) at.queues →
    FitsLine period counts shown queues
closed_line_fits old new guarding same ran known at period counts shown queues at_is shown_is has digits low queues_are few =
    let net : new.net ≡ old.net = ap (λ (s : Guarded). s.net) same in
    let size : length new.stages ≡ length new.net.junctions =
    ap length ran ∙ length-map-range_with_len (λ j. guarded_stage old.net old.guard (junction_at old.net j) (entry old.at.queues) old.at.period (account_among old.accounts j)) 1 (length old.net.junctions) ∙ ap (λ (n : Network). length n.junctions) (sym net) in
    let here : AreKnown new.net new.stages = subst (λ (n : Network). AreKnown n new.stages) (sym net) known in
    let there : HasCounts new.net counts = subst (λ (n : Network). HasCounts n counts) (sym net) has in
    record {
      counts = at.queues;
      none_negative = queues_are;
      period_in = low;
      few_arrivals = let links = guarding.acceptable.range.links in omega (arith, there, fed_few new.net, links.1);
      few_stages = let junctions = guarding.acceptable.range.junctions in omega (arith, ap (λ (ss : List ℕ). length ss) shown_is, size, junctions.1);
      few_queues =
          let movements = guarding.acceptable.range.movements in
          omega (arith, ap (λ (zs : List ℤ). length zs) queues_are, length-map at.queues pos, ap (λ (st : Standing). length st.queues) at_is, guarding.on.queues, movements.1);
      arrivals_in = digits;
      stages_in = subst (λ (ss : List ℕ). All (λ m. m ≤ 16) ss) (sym shown_is) (stages_small new.net guarding.acceptable new.stages size here);
      queues_in = few;
    }
