-- Sweeps rise to the least bursts.
use Rattle.std.proofs.Common.{◌≡◌, ℕ, zero, suc, ◌+◌, ◌-◌, ◌*◌, ◌≤◌, true, List, length, arith, sym, ◌∙◌, ap, subst, mul-le-mul_left}
use Rattle.std.proofs.Math.Nat.{le_of_mul-le-mul_left}
use Rattle.std.specs.List.{AllByRecursion}
use Rattle.mp_laws.proofs.Lists.{at_in, each_in, filter_sub, numbered}
use Rattle.mp_laws.proofs.Sums.{sum_by-le_at}
use Rattle.mp_model.specs.Guard.{Guard, Guards, CarryBursts, Holds, IsGuardedBound, crowd, demand_of, guarded_rate, red}
use Rattle.mp_model.specs.Lights.{HasSurplus, HoldsUnserved}
use Rattle.mp_model.specs.GuardedBursts.{least_holding, sweep, swept, AreAtRest, guarded_bound}
use Rattle.mp_model.specs.Network.{Network, movement_numbers, entry, from_of, goes_to, has, into_link, share_of, start_of, to_of}
use Rattle.mp_model.specs.NetworkRules.{IsNetwork}
use Rattle.mp_served.proofs.Quotients.{quotient_holds, quotient_least}
use Rattle.mp_guarded.specs.Sweeps.{AreLeastBursts}

module _ (net : Network) (ok : IsNetwork net) (guard : Guard) (guards : Guards net guard) where
  unit_some : 1 ≤ net.shares * guard.denominator
  unit_some = let a = ok.shares in let b : net.shares * 1 ≤ net.shares * guard.denominator = mul-le-mul_left net.shares guards.denominator.0 in omega arith

  holding : (surplus : ℕ) (bursts : List ℕ) (k periods : ℕ) → Holds net guard surplus bursts k periods (least_holding net guard surplus bursts k periods)
  holding surplus bursts k periods =
      let x : ℕ = crowd net guard surplus bursts k + net.shares * guarded_rate guard k * periods in
      let h = quotient_holds x (net.shares * guard.denominator) unit_some in
      omega arith

  holding_least : (surplus : ℕ) (bursts : List ℕ) (k periods n : ℕ) → Holds net guard surplus bursts k periods n → least_holding net guard surplus bursts k periods ≤ n
  holding_least surplus bursts k periods n holds =
      let x : ℕ = crowd net guard surplus bursts k + net.shares * guarded_rate guard k * periods in
      let y : ℕ = net.shares * guard.denominator in
      let start_fits : start_of net k ≤ n = le_of_mul-le-mul_left {k = y} (omega arith) unit_some in
      let parts : n ≡ start_of net k + (n - start_of net k) = omega arith in
      let e : y * n ≡ y * start_of net k + y * (n - start_of net k) = ap (λ m. y * m) parts ∙ omega arith in
      let q = quotient_least x y (n - start_of net k) unit_some (omega arith) in
      omega arith

  -- what holds a larger crowd holds a smaller one
  crowd_grows : (surplus : ℕ) (b c : List ℕ) (k : ℕ) → AllByRecursion (λ j. entry b j ≤ entry c j) (movement_numbers net) → crowd net guard surplus b k ≤ crowd net guard surplus c k
  crowd_grows surplus b c k le =
      let l = from_of net k in
      let each = each_in (λ j. entry b j ≤ entry c j) (into_link net l) (λ j in'. at_in (λ j. entry b j ≤ entry c j) j (movement_numbers net) (filter_sub (λ k. goes_to (to_of net k) l) (movement_numbers net) j in') le) in
      let s = sum_by-le_at (entry b) (entry c) (into_link net l) each in
      let w = mul-le-mul_left (share_of net k) s in
      mul-le-mul_left guard.denominator (omega arith)

  module _ (surplus : ℕ → ℕ) where
    sweep_at : (b : List ℕ) (k : ℕ) → has (movement_numbers net) k ≡ true → entry (sweep net guard surplus b) k ≡ least_holding net guard (surplus k) b k (2 * red net guard k)
    sweep_at b k in' = numbered (λ k. least_holding net guard (surplus k) b k (2 * red net guard k)) (length net.movements) k in'

    below : (c : List ℕ) → CarryBursts net guard surplus c → (n : ℕ) → AllByRecursion (λ k. entry (swept net guard surplus n) k ≤ entry c k) (movement_numbers net)
    below c carry zero = each_in (λ k. entry (swept net guard surplus 0) k ≤ entry c k) (movement_numbers net) (λ k in'. let e : entry (swept net guard surplus 0) k ≡ 0 = numbered (λ k. 0) (length net.movements) k in' in omega arith)
    below c carry (suc n) = each_in (λ k. entry (swept net guard surplus (suc n)) k ≤ entry c k) (movement_numbers net) (λ k in'.
        let e = sweep_at (swept net guard surplus n) k in' in
        let grows = crowd_grows (surplus k) (swept net guard surplus n) c k (below c carry n) in
        let holds = at_in (HoldsUnserved net (demand_of net guard) surplus c) k (movement_numbers net) in' carry.bursts in
        let least = holding_least (surplus k) (swept net guard surplus n) k (2 * red net guard k) (entry c k) (omega arith) in
        omega arith)

    at_rest : AllByRecursion (λ k. HasSurplus net k (surplus k)) (movement_numbers net) → (b : List ℕ) → AreAtRest net guard surplus b → CarryBursts net guard surplus b
    at_rest surpluses b rest = record {
      surpluses = surpluses;
      bursts = each_in (HoldsUnserved net (demand_of net guard) surplus b) (movement_numbers net) (λ k in'.
          let e : entry b k ≡ least_holding net guard (surplus k) b k (2 * red net guard k) = ap (λ bs. entry bs k) (sym rest) ∙ sweep_at b k in' in
          subst (λ n. Holds net guard (surplus k) b k (2 * red net guard k) n) (sym e) (holding (surplus k) b k (2 * red net guard k)));
    }

pub sweeps_least : (net : Network) → IsNetwork net → (guard : Guard) → Guards net guard → (surplus : ℕ → ℕ) → AllByRecursion (λ k. HasSurplus net k (surplus k)) (movement_numbers net) → (n : ℕ) →
    AreAtRest net guard surplus (swept net guard surplus n) → AreLeastBursts net guard surplus (swept net guard surplus n)
sweeps_least net ok guard guards surplus surpluses n rest = record {
  carry = at_rest net ok guard guards surplus surpluses (swept net guard surplus n) rest;
  least = λ c carry. below net ok guard guards surplus c carry n;
  bounds = each_in (λ k. IsGuardedBound net guard surplus (swept net guard surplus n) k (guarded_bound net guard surplus (swept net guard surplus n) k)) (movement_numbers net) (λ k in'. record {
    holds = holding net ok guard guards (surplus k) (swept net guard surplus n) k (1 + 2 * red net guard k);
    least = λ m holds. holding_least net ok guard guards (surplus k) (swept net guard surplus n) k (1 + 2 * red net guard k) m holds;
  });
}
