-- A sharper form of the law that the movements out of a link make a split, which does not hold.
use Rattle.std.specs.Prelude.{◌+◌}
use Rattle.std.specs.List.{AllByRecursion}
use Rattle.mp_model.specs.Network.{link_numbers, Network, share_of, out_of}
use Rattle.mp_model.specs.NetworkRules.{IsNetwork}
use Rattle.mp_model.specs.Split.{IsSplit}

-- At each link of a network the shares of the movements out of it make a split of a total that is one more.
abbrev pub LinkSplitOneMore : Type 0
LinkSplitOneMore = (net : Network) → IsNetwork net → AllByRecursion (λ l. IsSplit (net.shares + 1) (share_of net) (out_of net l)) (link_numbers net)

-- They do not: at two approaches each share is 1, of a total of 1.
abbrev pub NotLinkSplitOneMore : Type 0
NotLinkSplitOneMore = ¬ LinkSplitOneMore
