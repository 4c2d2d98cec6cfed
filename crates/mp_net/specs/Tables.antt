-- The tables of neighbours that a network keeps beside its parts.
use Rattle.std.specs.Prelude.{◌≡◌, None, length}
use Rattle.mp_model.specs.Network.{Network, junction_at, fed}
use Rattle.mp_model.specs.NetworkRules.{IsAcceptable}
use Rattle.mp_net.specs.Parts.{network_of}
use Rattle.mp_net.specs.Spots.{first_broken}
use Rattle.mp_net.specs.Rules.{part_rules}
use Rattle.mp_net.specs.Rows.{IsTable, IsLinkRow, IsJunctionRow, IsTurn, AreSpans}
use Rattle.mp_net.specs.declared.net.Net.TheInside.{Inside}

-- A caller sees the network of the parts.
abbrev pub seen_of : Inside → Network
seen_of n = network_of n.parts

-- The network can be accepted and breaks no rule, and the tables have a row per link, per junction and per movement, and a span per stage.
pub record HasTables (n : Inside) : Type 0 where
  pub acceptable : IsAcceptable (seen_of n)
  pub sound : first_broken (part_rules (seen_of n)) ≡ None
  pub fed_are : n.fed.items ≡ fed (seen_of n)
  pub by_link : IsTable (IsLinkRow (seen_of n)) (length (seen_of n).links) n.by_link.items
  pub by_junction : IsTable (λ j. IsJunctionRow (seen_of n) (junction_at (seen_of n) j)) (length (seen_of n).junctions) n.by_junction.items
  pub turns : IsTable (IsTurn (seen_of n)) (length (seen_of n).movements) n.turns.items
  pub by_stage : IsTable (λ j spans. AreSpans n.greens.items (junction_at (seen_of n) j).stages spans.items) (length (seen_of n).junctions) n.by_stage.items
