-- The stages of the controller are candidates in every period, and so the laws of guarded greens hold of them.
use Rattle.std.proofs.Common.{◌≡◌, ◌≤◌, ◌<◌, ℕ, zero, suc, ◌+◌, ◌-◌, ◌*◌, true, List, [], length, Some, None, arith, sym, ◌∙◌, ap, ap₂, subst, ⊎_elim, add-one, le_refl}
use Rattle.std.specs.List.{AllByRecursion}
use Rattle.std.proofs.lemmas.Bool.{cases_lt}
use Rattle.std.proofs.lemmas.List.FromFn.{get_or-map-range_with_len}
use Rattle.mp_guarded.specs.Bounds.{IsGuarded}
use Rattle.mp_guarded.specs.Greens.{IsCounted}
use Rattle.mp_guarded.specs.Waits.{IsGreenWhereCounted, PlaysCandidates, wait_of}
use Rattle.mp_guarded.proofs.Bounds.{queues_guarded}
use Rattle.mp_guarded.proofs.Waits.{play_waits, same_greens}
use Rattle.mp_laws.proofs.Lists.{at_in, each_in, in_numbers, numbered}
use Rattle.mp_model.specs.Arrivals.{IsPermitted}
use Rattle.mp_model.specs.Guard.{Guard, Guards, CarryBursts, Holds, greens_at, red}
use Rattle.mp_model.specs.GuardedChoice.{guarded_stage, no_account}
use Rattle.mp_model.specs.GuardedRun.{Account, IsCandidate, KeepsGuard, Play, account_of, green_in, guarded_state, is_green, lights_of, owed_in, paid, stage_of}
use Rattle.mp_model.specs.Lights.{IsWaiting, greens_in, lit_arrivals}
use Rattle.mp_model.specs.Network.{Network, entry, has, junction_at, junction_numbers, junction_of_movement, movement_numbers}
use Rattle.mp_model.specs.NetworkRules.{IsNetwork}
use Rattle.mp_model.specs.Step.{queue}
use Rattle.mp_press.proofs.Known.{some_stage}
use Rattle.mp_served.proofs.Places.{junction_in}
use Rattle.mp_guard_run.specs.Accounts.{AreCandidates, AreInOrder, account_after, account_among, stages_by}
use Rattle.mp_guard_run.proofs.Orders.{takes_candidate}
use Rattle.mp_guard_run.proofs.Places.{opening_order, order_at}
use Rattle.mp_guard_run.proofs.Settled.{orders_after}
use Rattle.mp_guard_control.specs.Accounts.{AreLeft, accounts_before, counts_in, stages_in}
use Rattle.mp_guard_control.specs.Kept.{controlled_play, AreZerosTrue, CountsKeepWaits, IsGreenInTime, IsKeptBelow, StagesKeep, green_by, queue_in}

module _ (net : Network) (ok : IsNetwork net) (guard : Guard) (guards : Guards net guard) where
  candidates_of : (counts : ℕ → ℕ) (t : ℕ) (accounts : List Account) → AreInOrder net guard t accounts → AreCandidates net guard counts t accounts (stages_by net guard counts t accounts)
  candidates_of counts t accounts order = each_in (λ j. IsCandidate guard (junction_at net j) counts t (account_among accounts j) (entry (stages_by net guard counts t accounts) j)) (junction_numbers net) (λ j h.
      let i = in_numbers (length net.junctions) j h in
      subst (IsCandidate guard (junction_at net j) counts t (account_among accounts j)) (sym (numbered (λ j. guarded_stage net guard (junction_at net j) counts t (account_among accounts j)) (length net.junctions) j h))
      (takes_candidate guard guards.cycle.0 (junction_at net j) t (account_among accounts j) (order_at net guard t accounts order j i.0 (omega (arith, i.1))) net counts (some_stage net ok j i.0 (omega (arith, i.1)))))

  -- before each period the accounts are in order
  pub in_order : (counts : ℕ → ℕ → ℕ) (t : ℕ) → AreInOrder net guard t (accounts_before net guard counts t)
  in_order counts zero = opening_order net guard guards
  in_order counts (suc t) =
      let accounts = accounts_before net guard counts t in
      let order = in_order counts t in
      subst (λ n. AreInOrder net guard n (accounts_before net guard counts (suc t))) (add-one t) (orders_after net guard guards t accounts order (counts t) (stages_by net guard (counts t) t accounts) (candidates_of (counts t) t accounts order))

  pub order_left : (accounts : List Account) (counted : List (List ℕ)) (n : ℕ) → length counted ≡ n → AreLeft net guard accounts counted → AreInOrder net guard n accounts
  order_left accounts counted n size left = subst (λ m. AreInOrder net guard m accounts) size (subst (AreInOrder net guard (length counted)) (sym left) (in_order (counts_in counted) (length counted)))

  module _ (counts : ℕ → ℕ → ℕ) (arrivals : ℕ → List ℕ) where
    abbrev play : Play
    play = controlled_play net guard counts arrivals

    account_is : (t j : ℕ) → has (junction_numbers net) j ≡ true → account_among (accounts_before net guard counts t) j ≡ account_of net guard play j t
    account_is zero j h =
        let i = in_numbers (length net.junctions) j h in
        get_or-map-range_with_len (λ j. record { owed = greens_at guard j; before = None }) 1 (length net.junctions) (j - 1) j no_account (omega (arith, i)) (omega (arith, i))
    account_is (suc t) j h =
        let i = in_numbers (length net.junctions) j h in
        get_or-map-range_with_len (account_after net guard (counts t) t (accounts_before net guard counts t) (stages_in net guard counts t)) 1 (length net.junctions) (j - 1) j no_account (omega (arith, i)) (omega (arith, i))
        ∙ ap₂ (λ n account. record { owed = owed_in guard.cycle (greens_at guard j) n (paid guard.lost (junction_at net j) (counts t) account (stage_of play j t)); before = Some (stage_of play j t) }) (add-one t) (account_is t j h)

    candidate_in : (t j : ℕ) → has (junction_numbers net) j ≡ true → IsCandidate guard (junction_at net j) (counts t) t (account_of net guard play j t) (stage_of play j t)
    candidate_in t j h =
        subst (λ account. IsCandidate guard (junction_at net j) (counts t) t account (stage_of play j t)) (account_is t j h)
        (at_in (λ j. IsCandidate guard (junction_at net j) (counts t) t (account_among (accounts_before net guard counts t) j) (entry (stages_in net guard counts t) j)) j (junction_numbers net) h
        (candidates_of (counts t) t (accounts_before net guard counts t) (in_order counts t)))

    candidates_in : (t : ℕ) → PlaysCandidates net guard play t
    candidates_in t = each_in (λ j. IsCandidate guard (junction_at net j) (play.counts t) t (account_of net guard play j t) (stage_of play j t)) (junction_numbers net) (candidate_in t)

    green_is : (k : ℕ) → has (movement_numbers net) k ≡ true → (t : ℕ) → green_by net guard counts k t ≡ green_in net guard play t k
    green_is k h t =
        let j = junction_of_movement net k in
        ap (λ account. is_green guard.lost (junction_at net j) account.before (stage_of play j t) k) (account_is t j (junction_in net ok k h))

    module _ (T : ℕ) (permitted : IsPermitted net (lit_arrivals (lights_of net guard play) T)) (zeros : AreZerosTrue net guard play T) where
      keeps : (t : ℕ) → t < T → KeepsGuard net guard play t
      keeps t lt = record {
        candidates = candidates_in t;
        zeros = zeros t lt;
      }

      guarded : IsGuarded net guard play T
      guarded = record { permitted = permitted; keeps = keeps }

      below : (surplus : ℕ → ℕ) (bursts : List ℕ) → CarryBursts net guard surplus bursts → AllByRecursion (IsKeptBelow net guard play T surplus bursts) (movement_numbers net)
      below surplus bursts carry = each_in (IsKeptBelow net guard play T surplus bursts) (movement_numbers net) (λ k h bound holds t le.
          at_in (λ k. (bound : ℕ) → Holds net guard (surplus k) bursts k (1 + 2 * red net guard k) bound → queue (guarded_state net guard play t) k ≤ bound) k (movement_numbers net) h
          (queues_guarded net ok guard guards surplus bursts carry play T guarded t le) bound holds)

      -- who waits is counted
      counted : (k a n : ℕ) → has (movement_numbers net) k ≡ true → a + n ≤ T → IsWaiting (queue_in net guard play k) a n → IsCounted play.counts k a n
      counted k a n h le waits u low high = ⊎_elim
          (λ (some : 0 < play.counts u k). some)
          (λ (none : play.counts u k ≤ 0).
          let zero_queue : queue_in net guard play k u ≡ 0 = at_in (λ k. play.counts u k ≡ 0 → queue (guarded_state net guard play u) k ≡ 0) k (movement_numbers net) h (zeros u (omega arith)) (omega arith) in
          let some = waits u low high in
          absurd (omega arith))
          (cases_lt 0 (play.counts u k))

      in_time : AllByRecursion (IsGreenInTime net guard play T) (movement_numbers net)
      in_time = each_in (IsGreenInTime net guard play T) (movement_numbers net) (λ k h a le waits.
          at_in (IsGreenWhereCounted net guard play T) k (movement_numbers net) h (play_waits net ok guard guards play T (λ t lt. candidates_in t)) a le (counted k a (wait_of net guard k + 1) h le waits))

pub stages_keep : (net : Network) → IsNetwork net → (guard : Guard) → Guards net guard → StagesKeep net guard
stages_keep net ok guard guards counts arrivals T permitted zeros = record {
  keeps = keeps net ok guard guards counts arrivals T permitted zeros;
  bounds = below net ok guard guards counts arrivals T permitted zeros;
  waits = in_time net ok guard guards counts arrivals T permitted zeros;
}

-- whatever is counted: the arrivals have no part in the stages
pub counts_keep : (net : Network) → IsNetwork net → (guard : Guard) → Guards net guard → CountsKeepWaits net guard
counts_keep net ok guard guards counts =
    let nothing : ℕ → List ℕ = λ t. [] in
    let told : Play = controlled_play net guard counts nothing in
    each_in (λ k. (a : ℕ) → IsCounted counts k a (wait_of net guard k + 1) → 1 ≤ greens_in (green_by net guard counts k) a (wait_of net guard k + 1)) (movement_numbers net) (λ k h a counted.
    let n = wait_of net guard k + 1 in
    let some : 1 ≤ greens_in (λ t. green_in net guard told t k) a n =
    at_in (IsGreenWhereCounted net guard told (a + n)) k (movement_numbers net) h (play_waits net ok guard guards told (a + n) (λ t lt. candidates_in net ok guard guards counts nothing t)) a (le_refl (a + n)) counted in
    subst (λ m. 1 ≤ m) (sym (same_greens (green_by net guard counts k) (λ t. green_in net guard told t k) a n (green_is net ok guard guards counts nothing k h))) some)
