-- The movements out of each link of a network make a split.
use Rattle.std.proofs.Common.{◌≡◌, ◌==◌, sum_by}
use Rattle.std.specs.List.{AllByRecursion}
use Rattle.mp_model.specs.Network.{Network, movement_numbers, link_numbers, from_of, share_of, out_of}
use Rattle.mp_model.specs.NetworkRules.{IsNetwork}
use Rattle.mp_model.specs.Split.{IsSplit}
use Rattle.mp_laws.proofs.Distinct.{range_distinct, distinct_filter}
use Rattle.mp_laws.proofs.Lists.{AllOf-map}

pub link_splits : (net : Network) → IsNetwork net → AllByRecursion (λ l. IsSplit net.shares (share_of net) (out_of net l)) (link_numbers net)
link_splits net ok = AllOf-map (λ l. sum_by (share_of net) (out_of net l) ≡ net.shares) (λ l. IsSplit net.shares (share_of net) (out_of net l))
    (λ l sums. record { sums = sums; some = ok.shares; distinct = distinct_filter (λ k. from_of net k == l) (movement_numbers net) (range_distinct 1 _) })
    (link_numbers net) ok.split
