-- The two linear systems of a network: one gives the flows of its links, and its transpose what a vehicle on each link is worth.
use Rattle.std.specs.Prelude.{All, ◌≡◌, ◌==◌, ℕ, ◌*◌, cond, List, [], ◌∷◌, ◌++◌, length, map, sum_by, Option, Some, None, ℤ, pos, ◌+ℤ◌, ◌-ℤ◌, ◌*ℤ◌, ◌≤ℤ◌, take, drop}
use Rattle.std.specs.List.{AllByRecursion}
use Rattle.mp_model.specs.Sums.{int_sum_by}
use Rattle.mp_model.specs.Network.{Network, link_numbers, link_at, from_of, to_of, share_of, into_link, out_of, goes_to}
use Rattle.mp_model.specs.Certificate.{int_entry}
use Rattle.mp_flow.specs.Answers.{Outcome, Answer, Kernel, Passes, solved}

-- This is the sum of the shares of the movements into link l that leave link m.
abbrev pub share_from : Network → ℕ → ℕ → ℕ
share_from net l m = sum_by (λ j. cond (from_of net j == m) (share_of net j) 0) (into_link net l)

-- This is the sum of the shares of the movements out of link l that go to link m.
abbrev pub share_to : Network → ℕ → ℕ → ℕ
share_to net l m = sum_by (λ k. cond (goes_to (to_of net k) m) (share_of net k) 0) (out_of net l)

-- This is the number of the row of link l at the column of link m in the system of the flows: the share total at l itself, less the shares of the movements into l at the columns of the links that they leave.
unfoldable pub flow_cell : Network → ℕ → ℕ → ℤ
flow_cell net l m = pos (cond (l == m) net.shares 0) -ℤ pos (share_from net l m)

-- This is the row of link l in the system of the flows, with two right sides: the share total times the rate of the link, and times the number of movements into it.
unfoldable pub flow_row : Network → ℕ → List ℤ
flow_row net l = map (flow_cell net l) (link_numbers net) ++ pos (net.shares * (link_at net l).rate) ∷ pos (net.shares * length (into_link net l)) ∷ []

-- These are the rows of the system of the flows.
unfoldable pub flow_rows : Network → List (List ℤ)
flow_rows net = map (flow_row net) (link_numbers net)

-- This is the number of the row of link l at the column of link m in the system of the worths: the share total at l itself, less the shares of the movements out of l at the columns of the links that they go to.
unfoldable pub worth_cell : Network → ℕ → ℕ → ℤ
worth_cell net l m = pos (cond (l == m) net.shares 0) -ℤ pos (share_to net l m)

-- This is the row of link l in the system of the worths, with the number of the link in u as its right side.
unfoldable pub worth_row : Network → List ℤ → ℕ → List ℤ
worth_row net u l = map (worth_cell net l) (link_numbers net) ++ int_entry u l ∷ []

-- These are the rows of the system of the worths.
unfoldable pub worth_rows : Network → List ℤ → List (List ℤ)
worth_rows net u = map (worth_row net u) (link_numbers net)

-- The flows of a network are two lists over one denominator: what the rates bring to each link, and what one unit of slack on every movement adds.
pub record Flows : Type 0 where
  pub rate : List ℤ
  pub unit : List ℤ
  pub d : ℤ

-- These are the flows that the outcome of their system gives, with n links, and nothing where it has exceeded 128 bits.
abbrev pub flows_from : ℕ → Outcome → Option Flows
flows_from n (Answer x d) = Some (record { rate = take n x; unit = drop n x; d = d })
flows_from n (Kernel x) = None
flows_from n (Passes column) = None

-- These are the flows by the stated calculation, and nothing where it exceeds 128 bits.
unfoldable pub stated_flows : Network → Option Flows
stated_flows net = flows_from (length net.links) (solved (length net.links) 2 (flow_rows net))

-- The worths of a network are a list over a denominator.
pub record Worths : Type 0 where
  pub x : List ℤ
  pub d : ℤ

-- These are the worths that the outcome of their system gives, and nothing where it has exceeded 128 bits.
abbrev pub worths_from : Outcome → Option Worths
worths_from (Answer x d) = Some (record { x = x; d = d })
worths_from (Kernel x) = None
worths_from (Passes column) = None

-- These are the worths by the stated calculation, and nothing where it exceeds 128 bits.
unfoldable pub stated_worths : Network → List ℤ → Option Worths
stated_worths net u = worths_from (solved (length net.links) 1 (worth_rows net u))

-- The flows f over d are balanced at link l where the share total times the flow of l is what the movements into l bring by their shares, and d times what comes from elsewhere.
abbrev pub IsBalancedFlow : Network → List ℤ → ℤ → ℕ → ℕ → Type 0
IsBalancedFlow net f d elsewhere l =
    pos net.shares *ℤ int_entry f l ≡ int_sum_by (λ j. pos (share_of net j) *ℤ int_entry f (from_of net j)) (into_link net l) +ℤ d *ℤ pos elsewhere

-- Numbers are the flows of a network where there is one of at least 0 per link, over a denominator of at least 1, and all are balanced: the rates with the rate of the link from elsewhere, the units with the number of movements into it, both times the share total.
pub record AreFlows (net : Network) (flows : Flows) : Type 0 where
  pub denominator : pos 1 ≤ℤ flows.d
  pub rates : length flows.rate ≡ length net.links
  pub units : length flows.unit ≡ length net.links
  pub rate_balance : AllByRecursion (λ l. IsBalancedFlow net flows.rate flows.d (net.shares * (link_at net l).rate) l) (link_numbers net)
  pub unit_balance : AllByRecursion (λ l. IsBalancedFlow net flows.unit flows.d (net.shares * length (into_link net l)) l) (link_numbers net)
  pub rate_sign : All (λ v. pos 0 ≤ℤ v) flows.rate
  pub unit_sign : All (λ v. pos 0 ≤ℤ v) flows.unit

-- Flows are the only ones where all other numbers that are balanced in the same way, over any denominator, are the same fractions.
pub record AreOnlyFlows (net : Network) (flows : Flows) : Type 0 where
  pub rates : (f : List ℤ) (d : ℤ) → AllByRecursion (λ l. IsBalancedFlow net f d (net.shares * (link_at net l).rate) l) (link_numbers net) → AllByRecursion (λ l. flows.d *ℤ int_entry f l ≡ d *ℤ int_entry flows.rate l) (link_numbers net)
  pub units : (f : List ℤ) (d : ℤ) → AllByRecursion (λ l. IsBalancedFlow net f d (net.shares * length (into_link net l)) l) (link_numbers net) → AllByRecursion (λ l. flows.d *ℤ int_entry f l ≡ d *ℤ int_entry flows.unit l) (link_numbers net)

-- This is the number at the link that a movement goes to, and 0 where it leaves the network.
abbrev pub onward : List ℤ → Option ℕ → ℤ
onward x None = pos 0
onward x (Some l) = int_entry x l

-- The worths x over d are balanced at link l where the share total times the worth of l is what the links behind its movements are worth by their shares, and d times the number of l in u.
abbrev pub IsBalancedWorth : Network → List ℤ → List ℤ → ℤ → ℕ → Type 0
IsBalancedWorth net u x d l =
    pos net.shares *ℤ int_entry x l ≡ int_sum_by (λ k. pos (share_of net k) *ℤ onward x (to_of net k)) (out_of net l) +ℤ d *ℤ int_entry u l

-- Numbers are the worths of a network where there is one of at least 0 per link, over a denominator of at least 1, and all are balanced.
pub record AreWorths (net : Network) (u : List ℤ) (worths : Worths) : Type 0 where
  pub denominator : pos 1 ≤ℤ worths.d
  pub values : length worths.x ≡ length net.links
  pub balance : AllByRecursion (IsBalancedWorth net u worths.x worths.d) (link_numbers net)
  pub sign : All (λ v. pos 0 ≤ℤ v) worths.x

-- Worths are the only ones where all other numbers that are balanced in the same way, over any denominator, are the same fractions.
pub record AreOnlyWorths (net : Network) (u : List ℤ) (worths : Worths) : Type 0 where
  pub values : (x : List ℤ) (d : ℤ) → AllByRecursion (IsBalancedWorth net u x d) (link_numbers net) → AllByRecursion (λ l. worths.d *ℤ int_entry x l ≡ d *ℤ int_entry worths.x l) (link_numbers net)
