-- What entered has departed or is queued after a period, whatever passes.
use Rattle.std.proofs.Common.{◌≡◌, ◌==◌, ℕ, ◌+◌, ◌-◌, ◌≤◌, true, cond, List, sum_by, Option, Some, None, IfSome, is_none, arith, refl, sym, ◌∙◌, ap, le_antisymm, length}
use Rattle.std.specs.List.{IsDistinct}
use Rattle.mp_model.specs.Network.{Network, movement_numbers, link_numbers, from_of, to_of, share_of, out_of, into_link, has, goes_to, goes_out}
use Rattle.mp_model.specs.NetworkRules.{IsNetwork}
use Rattle.mp_model.specs.Step.{State, queue, received_by, queued, got_by, joined, new_queue, step_by}
use Rattle.mp_laws.proofs.Sums.{sum_by-same, sum_by-same_at, sum_by-add, sum_by-swap, sum_by-filter, sum_by-zero, there}
use Rattle.mp_laws.proofs.Distinct.{one_at, range_distinct, distinct_filter}
use Rattle.mp_laws.proofs.Lists.{eqb-flip, at_in, each_in, numbered}
use Rattle.mp_laws.proofs.Credits.{counted, grows}
use Rattle.mp_step.specs.OpenStep.{ArePasses}

pub exact_at : (x : ℕ) (g : ℕ → ℕ) (ls : List ℕ) → IsDistinct ◌==◌ ls → has ls x ≡ true → sum_by (λ l. cond (x == l) (g l) 0) ls ≡ g x
exact_at x g ls d h = le_antisymm (one_at x g ls d) (there g x ls h)

-- a sum over the movements, link by link
by_link : (net : Network) → IsNetwork net → (f : ℕ → ℕ → ℕ) → sum_by (λ k. f (from_of net k) k) (movement_numbers net) ≡ sum_by (λ l. sum_by (f l) (out_of net l)) (link_numbers net)
by_link net ok f =
    sum_by-same_at (λ k. f (from_of net k) k) (λ k. sum_by (λ l. cond (from_of net k == l) (f l k) 0) (link_numbers net)) (movement_numbers net)
    (each_in _ (movement_numbers net) (λ k h. sym (exact_at (from_of net k) (λ l. f l k) (link_numbers net) (range_distinct 1 _) (at_in (λ k. has (link_numbers net) (from_of net k) ≡ true) k (movement_numbers net) h ok.from))))
    ∙ sum_by-swap (λ k l. cond (from_of net k == l) (f l k) 0) (movement_numbers net) (link_numbers net)
    ∙ sum_by-same (λ l. sum_by (λ k. cond (from_of net k == l) (f l k) 0) (movement_numbers net)) (λ l. sum_by (f l) (out_of net l)) (λ l. sym (sum_by-filter (λ k. from_of net k == l) (f l) (movement_numbers net))) (link_numbers net)

-- all vehicles of all links have joined some movement
joined_sum : (net : Network) → IsNetwork net → (n : ℕ → ℕ) → sum_by (λ k. joined net (from_of net k) (n (from_of net k)) k) (movement_numbers net) ≡ sum_by n (link_numbers net)
joined_sum net ok n =
    by_link net ok (λ l k. joined net l (n l) k)
    ∙ sum_by-same_at (λ l. sum_by (λ k. joined net l (n l) k) (out_of net l)) n (link_numbers net)
    (each_in _ (link_numbers net) (λ l h. counted net.shares (share_of net) (out_of net l) (at_in (λ l. sum_by (share_of net) (out_of net l) ≡ net.shares) l (link_numbers net) h ok.split) ok.shares (distinct_filter (λ k. from_of net k == l) (movement_numbers net) (range_distinct 1 _)) (n l)))

target_sum : (ls : List ℕ) → IsDistinct ◌==◌ ls → (to : Option ℕ) → IfSome to (λ l. has ls l ≡ true) → (v : ℕ) → sum_by (λ l. cond (goes_to to l) v 0) ls + cond (is_none to) v 0 ≡ v
target_sum ls d None t v = omega (arith, sum_by-zero ls)
target_sum ls d (Some m) t v =
    let flip = sum_by-same (λ l. cond (l == m) v 0) (λ l. cond (m == l) v 0) (λ l. ap (λ b. cond b v 0) (eqb-flip m l (m == l) refl)) ls in
    omega (arith, flip, exact_at m (λ l. v) ls d t)

-- what passes goes into a link or out of the network
into_sum : (net : Network) → IsNetwork net → (y : ℕ → ℕ) → sum_by (λ l. sum_by y (into_link net l)) (link_numbers net) + sum_by (λ k. cond (goes_out net k) (y k) 0) (movement_numbers net) ≡ sum_by y (movement_numbers net)
into_sum net ok y =
    let tests = sum_by-same (λ l. sum_by y (into_link net l)) (λ l. sum_by (λ k. cond (goes_to (to_of net k) l) (y k) 0) (movement_numbers net)) (λ l. sum_by-filter (λ k. goes_to (to_of net k) l) y (movement_numbers net)) (link_numbers net) in
    let swap = sum_by-swap (λ l k. cond (goes_to (to_of net k) l) (y k) 0) (link_numbers net) (movement_numbers net) in
    let both = sum_by-add (λ k. sum_by (λ l. cond (goes_to (to_of net k) l) (y k) 0) (link_numbers net)) (λ k. cond (goes_out net k) (y k) 0) (movement_numbers net) in
    let each = sum_by-same_at (λ k. sum_by (λ l. cond (goes_to (to_of net k) l) (y k) 0) (link_numbers net) + cond (goes_out net k) (y k) 0) y (movement_numbers net)
    (each_in _ (movement_numbers net) (λ k h. target_sum (link_numbers net) (range_distinct 1 _) (to_of net k) (at_in (λ k. IfSome (to_of net k) (λ l. has (link_numbers net) l ≡ true)) k (movement_numbers net) h ok.to) (y k))) in
    omega (arith, tests, swap, both, each)

balanced : (q y s t : ℕ) → y ≤ q → s ≤ t → (q - y + (t - s)) + y + s ≡ q + t
balanced q y s t a b = omega arith

-- a period keeps the balance of what entered, departed and is queued
pub passing_conserves : (net : Network) → IsNetwork net → (y arrivals : ℕ → ℕ) (state : State) → ArePasses net (queue state) y → state.total_in ≡ state.total_out + queued net state →
    (step_by net y arrivals state).total_in ≡ (step_by net y arrivals state).total_out + queued net (step_by net y arrivals state)
passing_conserves net ok y arrivals state passes before =
    let ks = movement_numbers net in
    let ls = link_numbers net in
    let q : ℕ → ℕ = queue state in
    let r : ℕ → ℕ = got_by net y arrivals in
    let n : ℕ → ℕ = received_by state in
    let new : ℕ → ℕ = λ k. new_queue net (q k) (y k) (n (from_of net k)) (r (from_of net k)) k in
    let s : ℕ → ℕ = λ k. joined net (from_of net k) (n (from_of net k)) k in
    let t : ℕ → ℕ = λ k. joined net (from_of net k) (n (from_of net k) + r (from_of net k)) k in
    let read : queued net (step_by net y arrivals state) ≡ sum_by new ks = sum_by-same_at (queue (step_by net y arrivals state)) new ks (each_in _ ks (λ k h. numbered new (length net.movements) k h)) in
    let each : sum_by (λ k. new k + y k + s k) ks ≡ sum_by (λ k. q k + t k) ks =
    sum_by-same_at (λ k. new k + y k + s k) (λ k. q k + t k) ks (each_in _ ks (λ k h.
    let l = from_of net k in
    let link_in : has ls l ≡ true = at_in (λ k. has (link_numbers net) (from_of net k) ≡ true) k ks h ok.from in
    let more = grows net.shares (share_of net) (out_of net l) (at_in (λ l. sum_by (share_of net) (out_of net l) ≡ net.shares) l ls link_in ok.split) ok.shares (distinct_filter (λ k. from_of net k == l) ks (range_distinct 1 _)) (n l) (r l) k in
    balanced (q k) (y k) (s k) (t k) (at_in (λ k. y k ≤ q k) k ks h passes) more)) in
    let e1 = sum_by-add (λ k. new k + y k) s ks in
    let e2 = sum_by-add new y ks in
    let e3 = sum_by-add q t ks in
    let e4 = joined_sum net ok n in
    let e5 = joined_sum net ok (λ l. n l + r l) in
    let e6 = sum_by-add n r ls in
    let e7 = sum_by-add arrivals (λ l. sum_by y (into_link net l)) ls in
    let e8 = into_sum net ok y in
    omega (arith, before, read, each, e1, e2, e3, e4, e5, e6, e7, e8)
