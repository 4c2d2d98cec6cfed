-- The laws of the vector: its five facts, and that it shows the slack of the worst junction.
use Rattle.std.specs.Prelude.{◌≡◌, ◌≤◌, ℕ, zero, suc, ◌*◌, true, false, List, length, sum_by, ℤ, pos, negsuc}
use Rattle.std.specs.List.{AllByRecursion}
use Rattle.mp_model.specs.Network.{Network, link_numbers, movement_numbers, junction_at, share_of, out_of, stands_in, has, entry}
use Rattle.mp_model.specs.NetworkRules.{IsNetwork}
use Rattle.mp_model.specs.Pressure.{weight}
use Rattle.mp_model.specs.Load.{load, capacity, ShowsOverload, IsTight}
use Rattle.mp_model.specs.Slack.{ShowsSlack}
use Rattle.mp_verdict.specs.Worst.{IsFlow, IsWorth, against, rate_weight, unit_weight, stage_top, IsWorst, ShowsSigned, IsDivided}

-- The five facts of a vector: what is queued on a link, its weights, its load, its sum, and its capacity where the values are 0 outside one junction.
pub record HasFacts (net : Network) (c d : ℕ) (f g Z x : ℕ → ℕ) : Type 0 where
  pub queued : AllByRecursion (λ l. sum_by (λ k. share_of net k * against net d Z x k) (out_of net l) ≡ net.shares * x l) (link_numbers net)
  pub weights : AllByRecursion (λ k. weight net (against net d Z x) k ≡ pos (net.shares * d * Z k)) (movement_numbers net)
  pub loaded : c * load net (against net d Z x) ≡ d * rate_weight net f Z
  pub summed : net.shares * c * sum_by (against net d Z x) (movement_numbers net) ≡ d * unit_weight net c g Z
  pub passed : (j : ℕ) → 1 ≤ j → j ≤ length net.junctions → ((k : ℕ) → has (movement_numbers net) k ≡ true → stands_in (junction_at net j) k ≡ false → Z k ≡ 0) →
      capacity net (against net d Z x) ≡ net.shares * d * stage_top net Z (junction_at net j)

-- The vector of values has the five facts, with the flows of the network over c and the worths of the values over d.
abbrev pub FactsLaw : Type 0
FactsLaw = (net : Network) → IsNetwork net → (c d : ℕ) (f g Z x : ℕ → ℕ) → IsFlow net c f g → IsWorth net d Z x → HasFacts net c d f g Z x

-- The vector of a worst junction, divided by any number, shows the junction's slack.
abbrev pub VectorLaw : Type 0
VectorLaw = (net : Network) → IsNetwork net → (c d : ℕ) (f g Z x : ℕ → ℕ) (j z : ℕ) (e : ℤ) (q : ℕ) → IsFlow net c f g → IsWorth net d Z x → IsWorst net c f g j Z z e q →
    (p : ℕ → ℕ) → IsDivided net (against net d Z x) p → ShowsSigned net p e q

-- What a vector shows by the sign of the slack: with 0 it is tight, above 0 it shows the slack, and below 0 it shows an overload.
abbrev pub ShowsBySign : Network → List ℕ → ℤ → ℕ → Type 0
ShowsBySign net p (pos zero) q = IsTight net p
ShowsBySign net p (pos (suc n)) q = ShowsSlack net p (suc n) q
ShowsBySign net p (negsuc n) q = ShowsOverload net p

-- A vector that shows a slack, of whatever sign, shows by the sign what the model has words for.
abbrev pub SignLaw : Type 0
SignLaw = (net : Network) → IsNetwork net → (p : List ℕ) → length p ≡ length net.movements → (e : ℤ) (q : ℕ) → 1 ≤ q → ShowsSigned net (entry p) e q → ShowsBySign net p e q
