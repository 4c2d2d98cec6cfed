use Rattle.std.proofs.Common.{length, ap, arith}
use Rattle.std.proofs.lemmas.List.Sums.{length-filter, count_by-le-length}
use Rattle.std.proofs.lemmas.List.FromFn.{length-range_with_len}
use Rattle.mp_model.specs.Network.{goes_to, movement_numbers, to_of}
use Rattle.mp_plan.proofs.bounds.bounds_into.Goals as goal

pub returns-clause-few : goal.returns-clause-few
returns-clause-few c =
    let net = c.args.net.now in
    let size = ap length c.into_link-k-items.ensures in
    let few = length-filter (λ k. goes_to (to_of net k) c.args.l) (movement_numbers net) in
    let all = count_by-le-length (λ k. goes_to (to_of net k) c.args.l) (movement_numbers net) in
    let small = c.loop-k.invariant.small in
    omega (arith, size, few, all, length-range_with_len 1 (length net.movements), c.movements-movements.ensures, small, c.loop-k.auto.k-index-end)
