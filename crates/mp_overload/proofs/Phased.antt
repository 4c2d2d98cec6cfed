-- A run that keeps of what each link received only its rest modulo the share total has the same queues and totals, so long runs can be computed.
use Rattle.std.proofs.Common.{◌≡◌, ◌==◌, ℕ, ◌+◌, ◌-◌, ◌%◌, List, [], ◌∷◌, map, sum_by, true, eq-eqb, refl, sym, ◌∙◌, ap, ap₂}
use Rattle.std.specs.List.{AllByRecursion, IsDistinct}
use Rattle.std.proofs.Math.Nat.{mod-add-mod}
use Rattle.mp_laws.proofs.Credits.{phases}
use Rattle.mp_laws.proofs.Distinct.{range_distinct, distinct_filter}
use Rattle.mp_laws.proofs.Lists.{at_in, each_in, has_filter, numbered}
use Rattle.mp_model.specs.Arrivals.{arrivals_of}
use Rattle.mp_model.specs.Network.{Network, movement_numbers, link_numbers, from_of, share_of, out_of, has, entry}
use Rattle.mp_model.specs.NetworkRules.{IsNetwork}
use Rattle.mp_model.specs.Run.{advance, greatest_stages, state_after}
use Rattle.mp_model.specs.Step.{State, queue, received_by, passed, got, joined, new_queue}

-- the state with these numbers for what the links received
abbrev pub with_received : State → List ℕ → State
with_received state r = record { period = state.period; queues = state.queues; received = r; total_in = state.total_in; total_out = state.total_out }

-- each of these numbers is what the link received, modulo the share total
abbrev pub ArePhases : Network → State → List ℕ → Type 0
ArePhases net state r = AllByRecursion (λ l. entry r l ≡ received_by state l % net.shares) (link_numbers net)

-- a period, after which the phases are kept alone
abbrev pub phased_period : Network → List ℕ → State → State
phased_period net counts state = with_received (advance net counts state) (map (λ l. received_by (advance net counts state) l % net.shares) (link_numbers net))

-- a run of such periods
abbrev pub phased_from : Network → State → List (List ℕ) → State
phased_from net state [] = state
phased_from net state (counts ∷ A) = phased_from net (phased_period net counts state) A

map_same : {X Y : Type 0} (f g : X → Y) (xs : List X) → AllByRecursion (λ x. f x ≡ g x) xs → map f xs ≡ map g xs
map_same f g [] h = refl
map_same f g (x ∷ xs) h = ap₂ (λ y ys. y ∷ ys) h.0 (map_same f g xs h.1)

-- by the phases a period has the same queues
queue_same : (net : Network) → IsNetwork net → (counts : List ℕ) (state : State) (r : List ℕ) → ArePhases net state r → (k : ℕ) → has (movement_numbers net) k ≡ true →
    let stages = greatest_stages net (queue state) in
    let R : ℕ → ℕ = got net stages (queue state) (arrivals_of net counts) in
    new_queue net (queue state k) (passed net stages (queue state) k) (entry r (from_of net k)) (R (from_of net k)) k
    ≡ new_queue net (queue state k) (passed net stages (queue state) k) (received_by state (from_of net k)) (R (from_of net k)) k
queue_same net ok counts state r are k here =
    let l = from_of net k in
    let ks = out_of net l in
    let stages = greatest_stages net (queue state) in
    let R = got net stages (queue state) (arrivals_of net counts) l in
    let n = received_by state l in
    let link_in : has (link_numbers net) l ≡ true = at_in (λ k. has (link_numbers net) (from_of net k) ≡ true) k (movement_numbers net) here ok.from in
    let sums : sum_by (share_of net) ks ≡ net.shares = at_in (λ l. sum_by (share_of net) (out_of net l) ≡ net.shares) l (link_numbers net) link_in ok.split in
    let dist : IsDistinct ◌==◌ ks = distinct_filter (λ k. from_of net k == l) (movement_numbers net) (range_distinct 1 _) in
    let there : has ks k ≡ true = has_filter (λ k. from_of net k == l) k (movement_numbers net) here (eq-eqb l l refl) in
    let gained = at_in (λ k. joined net l (n + R) k - joined net l n k ≡ joined net l (n % net.shares + R) k - joined net l (n % net.shares) k) k ks there (phases net.shares (share_of net) ks sums ok.shares dist n R) in
    let phase : entry r l ≡ n % net.shares = at_in (λ l. entry r l ≡ received_by state l % net.shares) l (link_numbers net) link_in are in
    ap (λ m. queue state k - passed net stages (queue state) k + (joined net l (m + R) k - joined net l m k)) phase ∙ ap (λ m. queue state k - passed net stages (queue state) k + m) (sym gained)

-- a run by the phases is the run, but for what the links received
pub record IsPhased (net : Network) (phased state : State) : Type 0 where
  pub phases : List ℕ
  pub are : ArePhases net state phases
  pub same : phased ≡ with_received state phases

period_same : (net : Network) → IsNetwork net → (counts : List ℕ) (state : State) (r : List ℕ) → ArePhases net state r → IsPhased net (phased_period net counts (with_received state r)) (advance net counts state)
period_same net ok counts state r are =
    let stages = greatest_stages net (queue state) in
    let R : ℕ → ℕ = got net stages (queue state) (arrivals_of net counts) in
    let after = advance net counts state in
    let r' : List ℕ = map (λ l. received_by (advance net counts (with_received state r)) l % net.shares) (link_numbers net) in
    let queues : (advance net counts (with_received state r)).queues ≡ after.queues = map_same _ _ (movement_numbers net) (each_in _ (movement_numbers net) (queue_same net ok counts state r are)) in
    record {
      phases = r';
      are = each_in _ (link_numbers net) (λ l here.
          let read : entry r' l ≡ received_by (advance net counts (with_received state r)) l % net.shares = numbered (λ l. received_by (advance net counts (with_received state r)) l % net.shares) _ l here in
          let fast : received_by (advance net counts (with_received state r)) l ≡ entry r l + R l = numbered (λ l. entry r l + R l) _ l here in
          let slow : received_by after l ≡ received_by state l + R l = numbered (λ l. received_by state l + R l) _ l here in
          let phase : entry r l ≡ received_by state l % net.shares = at_in (λ l. entry r l ≡ received_by state l % net.shares) l (link_numbers net) here are in
          read ∙ ap (λ n. n % net.shares) fast ∙ ap (λ n. (n + R l) % net.shares) phase ∙ mod-add-mod (received_by state l) net.shares (R l) ∙ ap (λ n. n % net.shares) (sym slow));
      same = ap (λ qs. record { period = after.period; queues = qs; received = r'; total_in = after.total_in; total_out = after.total_out }) queues;
    }

pub run_same : (net : Network) → IsNetwork net → (A : List (List ℕ)) (phased state : State) → IsPhased net phased state → IsPhased net (phased_from net phased A) (state_after net state A)
run_same net ok [] phased state is = is
run_same net ok (counts ∷ A) phased state is =
    let one = period_same net ok counts state is.phases is.are in
    run_same net ok A (phased_period net counts phased) (advance net counts state)
    (record { phases = one.phases; are = one.are; same = ap (phased_period net counts) is.same ∙ one.same })
