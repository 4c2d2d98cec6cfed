-- What the rows of neighbours hold.
use Rattle.std.specs.Prelude.{◌≡◌, ◌==◌, ◌≤◌, ◌-◌, ◌++◌, ℕ, List, Option, length, map, take, drop, position, slice_index_or}
use Rattle.std.specs.List.{AllByRecursion}
use Rattle.mp_model.specs.Network.{Network, Junction, fed, out_of, into_link, junction_of_link, own, targets, next, from_of, to_of, share_of, flow_of}
use Rattle.mp_net.specs.declared.tables.LinkRow.{LinkRow}
use Rattle.mp_net.specs.declared.tables.JunctionRow.{JunctionRow}
use Rattle.mp_net.specs.declared.tables.Turn.{Turn}
use Rattle.mp_net.specs.declared.greens.StageSpan.{StageSpan}

-- This is the place of link l among the fed links, from 0, or none where it is not fed.
abbrev pub fed_place : Network → ℕ → Option ℕ
fed_place net l = position (λ f. f == l) (fed net)

-- A row of link l holds the movements out of it and into it, its junction, and its place among the fed links.
pub record IsLinkRow (net : Network) (l : ℕ) (row : LinkRow) : Type 0 where
  pub outs_are : row.outs.items ≡ out_of net l
  pub intos_are : row.intos.items ≡ into_link net l
  pub junction_is : row.junction ≡ junction_of_link net l
  pub fed_place_is : row.fed_place ≡ fed_place net l

-- A row of a junction holds its movements, the links that they go to, and the movements out of those.
pub record IsJunctionRow (net : Network) (j : Junction) (row : JunctionRow) : Type 0 where
  pub own_are : row.own.items ≡ own net j
  pub targets_are : row.targets.items ≡ targets net j
  pub next_are : row.next.items ≡ next net j

-- A row of movement k holds the links that it goes from and to, its share and its flow.
pub record IsTurn (net : Network) (k : ℕ) (row : Turn) : Type 0 where
  pub from_is : row.from ≡ from_of net k
  pub to_is : row.to ≡ to_of net k
  pub share_is : row.share ≡ share_of net k
  pub flow_is : row.flow ≡ flow_of net k

-- A list begins with another.
abbrev pub Extends : List ℕ → List ℕ → Type 0
Extends before now = (more : List ℕ) × (now ≡ before ++ more)

-- These are the movements of a flat list that lie in a span.
abbrev pub lying_in : List ℕ → StageSpan → List ℕ
lying_in greens span = drop span.start (take span.end greens)

-- The spans of a junction lie in a flat list, and hold its stages in their order.
pub record AreSpans (greens : List ℕ) (stages : List (List ℕ)) (spans : List StageSpan) : Type 0 where
  pub within : AllByRecursion (λ span. (span.start ≤ span.end) × (span.end ≤ length greens)) spans
  pub hold : map (lying_in greens) spans ≡ stages

-- A table has a row for each number from 1 to n.
pub record IsTable {X : Type 0} (IsRow : ℕ → X → Type 0) (n : ℕ) (rows : List X) : Type 0 where
  pub count : length rows ≡ n
  pub each : (i : ℕ) → 1 ≤ i → i ≤ n → (other : X) → IsRow i (slice_index_or rows (i - 1) other)
