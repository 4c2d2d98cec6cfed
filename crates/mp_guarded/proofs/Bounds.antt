-- Under a guard the lights serve its demand, whatever candidates are chosen by whatever counts.
use Rattle.std.proofs.Common.{◌≡◌, ℕ, ◌+◌, ◌*◌, ◌≤◌, ◌<◌, true, List, arith, ⊎_elim}
use Rattle.std.proofs.lemmas.Bool.{cases_lt}
use Rattle.std.specs.List.{AllByRecursion}
use Rattle.mp_laws.proofs.Lists.{at_in, each_in}
use Rattle.mp_model.specs.Guard.{Guard, Guards, GuardedServeRule, CarryBursts, Holds, FlowRule, demand_of, guarded_rate, greens_at, red}
use Rattle.mp_model.specs.GuardedRun.{Play, stage_of, green_in, guarded_state, lights_of}
use Rattle.mp_model.specs.Lights.{IsWaiting, ServeDemand, ServesRate, greens_in}
use Rattle.mp_model.specs.Network.{Network, movement_numbers, junction_at, junction_of_movement, flow_of, has, entry}
use Rattle.mp_model.specs.NetworkRules.{IsNetwork}
use Rattle.mp_model.specs.Step.{queue}
use Rattle.mp_served.specs.Bounds.{total, passes_at}
use Rattle.mp_served.proofs.Bounds.{passing_bounded, queues_bounded}
use Rattle.mp_served.proofs.Flows.{queue_at}
use Rattle.mp_guarded.specs.Greens.{IsCounted}
use Rattle.mp_guarded.specs.Bounds.{IsGuarded}
use Rattle.mp_guarded.proofs.Greens.{greens_hold}
use Rattle.mp_guarded.proofs.Plays.{greens_kept}
use Rattle.mp_served.proofs.Places.{junction_in}

module _ (net : Network) (ok : IsNetwork net) (guard : Guard) (guards : Guards net guard) (play : Play) (T : ℕ) (guarded : IsGuarded net guard play T) where
  -- who waits is counted
  counted : (k a n : ℕ) → has (movement_numbers net) k ≡ true → a + n ≤ T → IsWaiting (queue_at net ok (lights_of net guard play) k) a n → IsCounted play.counts k a n
  counted k a n in' le waits u low high = ⊎_elim
      (λ (some : 0 < play.counts u k). some)
      (λ (none : play.counts u k ≤ 0).
      let zero_queue : queue_at net ok (lights_of net guard play) k u ≡ 0 = at_in (λ k. play.counts u k ≡ 0 → queue (guarded_state net guard play u) k ≡ 0) k (movement_numbers net) in' (guarded.keeps u (omega arith)).zeros (omega arith) in
      let some = waits u low high in
      absurd (omega arith))
      (cases_lt 0 (play.counts u k))

  greens_serve : (k : ℕ) → has (movement_numbers net) k ≡ true → (a n : ℕ) → a + n ≤ T → IsWaiting (queue_at net ok (lights_of net guard play) k) a n →
      n * guarded_rate guard k ≤ guard.denominator * flow_of net k * greens_in (λ t. green_in net guard play t k) a n + guarded_rate guard k * (2 * red net guard k)
  greens_serve k in' a n le waits =
      let j = junction_of_movement net k in
      let low : guarded_rate guard k ≤ flow_of net k * guard.denominator = at_in (FlowRule net guard) k (movement_numbers net) in' guards.flows in
      let serve = at_in (GuardedServeRule net guard) k (movement_numbers net) in' guards.serves in
      let held = greens_hold guard (greens_at guard j) (junction_at net j) play.counts (stage_of play j) T (greens_kept net guard guards play T (λ t lt. (guarded.keeps t lt).candidates) j (junction_in net ok k in')) k a n le (counted k a n in' le waits)
      (guarded_rate guard k) (guard.denominator * flow_of net k) (omega arith) serve.serves in
      omega (arith, held)

  serve_demand : ServeDemand net (lights_of net guard play) (demand_of net guard) T
  serve_demand = record {
    some = guards.denominator.0;
    permitted = guarded.permitted;
    carries = guards.balances;
    serves = each_in (ServesRate net (lights_of net guard play) (demand_of net guard) T) (movement_numbers net) greens_serve;
  }

pub passing_guarded : (net : Network) → IsNetwork net → (guard : Guard) → Guards net guard → (surplus : ℕ → ℕ) (bursts : List ℕ) → CarryBursts net guard surplus bursts → (play : Play) (T : ℕ) → IsGuarded net guard play T →
    (a n : ℕ) → a + n ≤ T → AllByRecursion (λ k. guard.denominator * total (passes_at net (lights_of net guard play) k) a n ≤ guard.denominator * entry bursts k + n * guarded_rate guard k) (movement_numbers net)
passing_guarded net ok guard guards surplus bursts carry play T guarded a n le = passing_bounded net ok (lights_of net guard play) (demand_of net guard) T (serve_demand net ok guard guards play T guarded) surplus bursts carry a n le

pub queues_guarded : (net : Network) → IsNetwork net → (guard : Guard) → Guards net guard → (surplus : ℕ → ℕ) (bursts : List ℕ) → CarryBursts net guard surplus bursts → (play : Play) (T : ℕ) → IsGuarded net guard play T →
    (t : ℕ) → t ≤ T → AllByRecursion (λ k. (bound : ℕ) → Holds net guard (surplus k) bursts k (1 + 2 * red net guard k) bound → queue (guarded_state net guard play t) k ≤ bound) (movement_numbers net)
queues_guarded net ok guard guards surplus bursts carry play T guarded t in_time = queues_bounded net ok (lights_of net guard play) (demand_of net guard) T (serve_demand net ok guard guards play T guarded) surplus bursts carry t in_time
