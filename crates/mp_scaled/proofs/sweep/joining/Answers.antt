use Rattle.std.proofs.Common.{◌≤◌, ◌<◌, ◌-◌, sym, arith, length}
use Rattle.mp_press.proofs.Known.{all_known, few_kept}
use Rattle.mp_model.specs.Network.{goes_to, to_of}
use Rattle.mp_scaled.proofs.sweep.joining.Goals as goal

pub overflow_sub-sum : goal.overflow_sub-sum
overflow_sub-sum c =
    let known = rw (sym c.into_link-k-items.ensures) at (all_known (λ k. goes_to (to_of c.args.net.now k) c.args.l) (length c.args.net.now.movements)) in
    omega (arith, known c.loop-k.k-index 0 c.loop-k-test.true)

pub bounds-rates-from : goal.bounds-rates-from
bounds-rates-from c =
    let known = rw (sym c.into_link-k-items.ensures) at (all_known (λ k. goes_to (to_of c.args.net.now k) c.args.l) (length c.args.net.now.movements)) in
    omega (arith, known c.loop-k.k-index 0 c.loop-k-test.true)

pub overflow_add-sum : goal.overflow_add-sum
overflow_add-sum c =
    let known = rw (sym c.into_link-k-items.ensures) at (all_known (λ k. goes_to (to_of c.args.net.now k) c.args.l) (length c.args.net.now.movements)) in
    let here : c.from.result - 1 < length c.args.rates.now = omega (arith, known c.loop-k.k-index 0 c.loop-k-test.true) in
    let few : length c.into_link-k-items.result.now ≤ length c.args.net.now.movements = rw c.into_link-k-items.ensures (few_kept (λ k. goes_to (to_of c.args.net.now k) c.args.l) (length c.args.net.now.movements)) in
    omega (arith, c.requires.acceptable.range.movements, c.requires.each (c.from.result - 1) 0 here)

pub returns-clause-few : goal.returns-clause-few
returns-clause-few c =
    let few : length c.into_link-k-items.result.now ≤ length c.args.net.now.movements = rw c.into_link-k-items.ensures (few_kept (λ k. goes_to (to_of c.args.net.now k) c.args.l) (length c.args.net.now.movements)) in
    omega (arith, c.requires.acceptable.range.movements)
