-- How many links are fed.
use Rattle.std.proofs.Common.{◌≤◌, ℕ, length, arith}
use Rattle.std.specs.List.{range_with_len}
use Rattle.std.proofs.lemmas.List.Sums.{length-filter, count_by-le-length}
use Rattle.std.proofs.lemmas.List.FromFn.{length-range_with_len}
use Rattle.mp_model.specs.Network.{Network, link_at, is_fed, fed}

pub fed_few : (net : Network) → length (fed net) ≤ length net.links
fed_few net =
    let fed_links = λ (l : ℕ). is_fed (link_at net l) in
    let numbers = range_with_len 1 (length net.links) in
    omega (arith, length-filter fed_links numbers, count_by-le-length fed_links numbers, length-range_with_len 1 (length net.links))
