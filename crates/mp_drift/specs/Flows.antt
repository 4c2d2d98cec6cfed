-- What flows into a link.
use Rattle.std.specs.Prelude.{ℕ, sum_by}
use Rattle.mp_model.specs.Network.{Network, flow_of, into_link}

-- This is the sum of the flows of the movements into link l.
abbrev pub flow_into : Network → ℕ → ℕ
flow_into net l = sum_by (flow_of net) (into_link net l)
