-- What holds at one junction of those that it holds of.
use Rattle.std.proofs.Common.{◌≡◌, ℕ, zero, suc, ◌+◌, ◌-◌, ◌<◌, ◌≤◌, List, ◌∷◌, None, length, map, get_or, arith, refl, ap, subst, sym, ◌∙◌}
use Rattle.std.specs.Prelude.{IfSome}
use Rattle.std.specs.List.{All, AllByRecursion, range_with_len}
use Rattle.std.proofs.Math.Nat.{zero-mod}
use Rattle.std.proofs.lemmas.List.{get_or_default}
use Rattle.std.proofs.lemmas.List.FromFn.{fill_by_all, get_or-map-range_with_len, length-map-range_with_len}
use Rattle.std.proofs.lemmas.List.Elements.{All-from_recursion}
use Rattle.mp_cert.proofs.PlaceLemmas.{in_list}
use Rattle.mp_guard.proofs.RuleLemmas.{greens_count, stages_few}
use Rattle.mp_laws.proofs.Lists.{AllOf-map, at_in, each_in, in_numbers}
use Rattle.mp_model.specs.Guard.{Guard, Guards, GreensFit, greens_at}
use Rattle.mp_model.specs.GuardedChoice.{no_account}
use Rattle.mp_model.specs.GuardedRun.{Account}
use Rattle.mp_model.specs.Network.{Network, junction_at, junction_numbers, numbers_to, entry}
use Rattle.mp_model.specs.NetworkRules.{IsAcceptable}
use Rattle.mp_guard_run.specs.Accounts.{AreBefore, AreInOrder, AreKnown, IsInOrder, account_among}

pub few_greens : (net : Network) → IsAcceptable net → (guard : Guard) → Guards net guard → (j : ℕ) → 1 ≤ j → j ≤ length net.junctions → (greens : List ℕ) → greens ≡ greens_at guard j → length greens ≤ 16
few_greens net ok guard guards j low high greens is = omega (arith, ap length is, greens_count net guard guards.lengths j low high, stages_few net ok j)

pub small_greens : (net : Network) (guard : Guard) → Guards net guard → (j : ℕ) → 1 ≤ j → j ≤ length net.junctions → (greens : List ℕ) → greens ≡ greens_at guard j → All (λ n. n ≤ 3600) greens
small_greens net guard guards j low high greens is =
    subst (All (λ n. n ≤ 3600)) (sym is)
    (All-from_recursion (λ n. n ≤ 3600) (greens_at guard j) (AllOf-map (λ n. n ≤ guard.cycle) (λ n. n ≤ 3600) (λ n le. omega (arith, le, guards.cycle.1)) (greens_at guard j)
    (at_in (λ j. AllByRecursion (λ n. n ≤ guard.cycle) (greens_at guard j)) j (junction_numbers net) (in_list (length net.junctions) j low high) guards.greens)))

pub order_at : (net : Network) (guard : Guard) (t : ℕ) (accounts : List Account) → AreInOrder net guard t accounts → (j : ℕ) → 1 ≤ j → j ≤ length net.junctions → IsInOrder guard (junction_at net j) t (account_among accounts j)
order_at net guard t accounts order j low high = at_in (λ j. IsInOrder guard (junction_at net j) t (account_among accounts j)) j (junction_numbers net) (in_list (length net.junctions) j low high) order.each

pub known_at : (net : Network) (stages : List ℕ) → AreKnown net stages → (j : ℕ) → 1 ≤ j → j ≤ length net.junctions → (1 ≤ entry stages j) × (entry stages j ≤ length (junction_at net j).stages)
known_at net stages known j low high = at_in (λ j. (1 ≤ entry stages j) × (entry stages j ≤ length (junction_at net j).stages)) j (junction_numbers net) (in_list (length net.junctions) j low high) known

pub before_at : (net : Network) (accounts : List Account) → AreBefore net accounts → (j : ℕ) → 1 ≤ j → j ≤ length net.junctions → IfSome (account_among accounts j).before (λ r. (1 ≤ r) × (r ≤ length (junction_at net j).stages))
before_at net accounts before j low high = at_in (λ j. IfSome (account_among accounts j).before (λ r. (1 ≤ r) × (r ≤ length (junction_at net j).stages))) j (junction_numbers net) (in_list (length net.junctions) j low high) before

-- what is read at a place is the account of its junction
pub account_read : (accounts : List Account) (i place : ℕ) (account : Account) → account ≡ get_or accounts place account → place ≡ i → i < length accounts → account ≡ account_among accounts (i + 1)
account_read accounts i place account is at within =
    let back : i ≡ (i + 1) - 1 = omega arith in
    is ∙ get_or_default accounts place account no_account (omega arith) ∙ ap (λ n. get_or accounts n no_account) (at ∙ back)

map_shift : {X : Type 0} (f : ℕ → X) (a n : ℕ) → map (λ i. f (i + 1)) (range_with_len a n) ≡ map f (range_with_len (a + 1) n)
map_shift f a zero = refl
map_shift f a (suc n) = ap (λ t. f (a + 1) ∷ t) (map_shift f (a + 1) n)

-- a list that has f at each number
pub each_number : {X : Type 0} (f : ℕ → X) (xs : List X) (n : ℕ) (d : X) → length xs ≡ n → ((m : ℕ) → m < n → get_or xs m d ≡ f (m + 1)) → xs ≡ map f (numbers_to n)
each_number f xs n d size each = fill_by_all (λ m. f (m + 1)) xs n d size each ∙ map_shift f 0 n

-- at the opening all accounts are in order
pub opening_order : (net : Network) (guard : Guard) → Guards net guard → AreInOrder net guard 0 (map (λ j. record { owed = greens_at guard j; before = None }) (junction_numbers net))
opening_order net guard guards = record {
  size = length-map-range_with_len (λ j. record { owed = greens_at guard j; before = None }) 1 (length net.junctions);
  each = each_in (λ j. IsInOrder guard (junction_at net j) 0 (account_among (map (λ j. record { owed = greens_at guard j; before = None }) (junction_numbers net)) j)) (junction_numbers net) (λ j h.
      let i = in_numbers (length net.junctions) j h in
      subst (IsInOrder guard (junction_at net j) 0) (sym (get_or-map-range_with_len (λ j. record { owed = greens_at guard j; before = None }) 1 (length net.junctions) (j - 1) j no_account (omega (arith, i)) (omega (arith, i))))
      (record {
        one_each = at_in (λ j. length (greens_at guard j) ≡ length (junction_at net j).stages) j (junction_numbers net) h guards.lengths.greens;
        known = tt;
        fits = (let fit = at_in (λ j. GreensFit guard (greens_at guard j)) j (junction_numbers net) h guards.masses in let e = zero-mod guard.cycle in omega arith);
      }));
}
