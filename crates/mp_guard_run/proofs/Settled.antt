-- Where each junction takes a candidate, all accounts stay in order.
use Rattle.std.proofs.Common.{◌≡◌, ℕ, ◌+◌, ◌-◌, ◌≤◌, List, length, arith, subst, sym}
use Rattle.std.specs.Prelude.{IfSome}
use Rattle.std.proofs.lemmas.List.FromFn.{get_or-map-range_with_len, length-map-range_with_len}
use Rattle.mp_laws.proofs.Lists.{at_in, each_in, in_numbers}
use Rattle.mp_model.specs.Guard.{Guard, Guards, GreensFit, greens_at}
use Rattle.mp_model.specs.GuardedChoice.{no_account}
use Rattle.mp_model.specs.GuardedRun.{Account, IsCandidate}
use Rattle.mp_model.specs.Network.{Network, junction_at, junction_numbers, entry}
use Rattle.mp_guard_run.specs.Accounts.{AreBefore, AreCandidates, AreInOrder, AreKnown, IsInOrder, account_after, account_among, accounts_after}
use Rattle.mp_guard_run.proofs.Orders.{order_after}
use Rattle.mp_guard_run.proofs.Places.{order_at}

pub orders_after : (net : Network) (guard : Guard) → Guards net guard → (t : ℕ) (accounts : List Account) → AreInOrder net guard t accounts → (counts : ℕ → ℕ) (stages : List ℕ) → AreCandidates net guard counts t accounts stages →
    AreInOrder net guard (t + 1) (accounts_after net guard counts t accounts stages)
orders_after net guard guards t accounts order counts stages candidates = record {
  size = length-map-range_with_len (account_after net guard counts t accounts stages) 1 (length net.junctions);
  each = each_in (λ j. IsInOrder guard (junction_at net j) (t + 1) (account_among (accounts_after net guard counts t accounts stages) j)) (junction_numbers net) (λ j h.
      let i = in_numbers (length net.junctions) j h in
      subst (IsInOrder guard (junction_at net j) (t + 1)) (sym (get_or-map-range_with_len (account_after net guard counts t accounts stages) 1 (length net.junctions) (j - 1) j no_account (omega (arith, i)) (omega (arith, i))))
      (order_after guard guards.cycle.0 (junction_at net j) t (account_among accounts j) (order_at net guard t accounts order j i.0 (omega (arith, i.1))) (greens_at guard j)
      (at_in (λ j. length (greens_at guard j) ≡ length (junction_at net j).stages) j (junction_numbers net) h guards.lengths.greens) (at_in (λ j. GreensFit guard (greens_at guard j)) j (junction_numbers net) h guards.masses) counts (entry stages j)
      (at_in (λ j. IsCandidate guard (junction_at net j) counts t (account_among accounts j) (entry stages j)) j (junction_numbers net) h candidates)));
}

-- what is in order has known stages before, and candidates are known stages
pub before_of : (net : Network) (guard : Guard) (t : ℕ) (accounts : List Account) → AreInOrder net guard t accounts → AreBefore net accounts
before_of net guard t accounts order = each_in (λ j. IfSome (account_among accounts j).before (λ r. (1 ≤ r) × (r ≤ length (junction_at net j).stages))) (junction_numbers net)
    (λ j h. let i = in_numbers (length net.junctions) j h in (order_at net guard t accounts order j i.0 (omega (arith, i.1))).known)

pub known_of : (net : Network) (guard : Guard) (counts : ℕ → ℕ) (t : ℕ) (accounts : List Account) (stages : List ℕ) → AreCandidates net guard counts t accounts stages → AreKnown net stages
known_of net guard counts t accounts stages candidates = each_in (λ j. (1 ≤ entry stages j) × (entry stages j ≤ length (junction_at net j).stages)) (junction_numbers net)
    (λ j h. (at_in (λ j. IsCandidate guard (junction_at net j) counts t (account_among accounts j) (entry stages j)) j (junction_numbers net) h candidates).is_stage)
