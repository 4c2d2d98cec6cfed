use Rattle.std.proofs.Common.{◌≡◌, ◌≤◌, ◌+◌, ◌-◌, ◌∙◌, ℕ, ap, ap₂, arith, cond, length, set, slice_index, sum_by}
use Rattle.std.proofs.lemmas.List.Edits.{fill_by_more}
use Rattle.std.proofs.lemmas.List.Elements.{All-from_recursion}
use Rattle.mp_laws.proofs.Lists.{each_in}
use Rattle.mp_model.specs.Network.{entry, numbers_to, movement_numbers, goes_out}
use Rattle.mp_press.proofs.Known.{flow_few}
use Rattle.mp_press.proofs.Sums.{numbers_step}
use Rattle.mp_press.proofs.Writes.{numbers_by_all}
use Rattle.mp_press.specs.Queues.{naturals}
use Rattle.mp_step.specs.OpenStep.{passed_open}
use Rattle.mp_step.proofs.Moves.{cond-few, map_each, open_few}
use Rattle.mp_step.proofs.SamePasses.{left_same}
use Rattle.mp_step.proofs.passing.serve_open.Goals as goal

pub loop-i-preserved : goal.loop-i-preserved
loop-i-preserved c =
    let net = c.args.net.now in
    let i = c.loop-i.i in
    let inv = c.loop-i.invariant in
    let f : ℕ → ℕ = passed_open net c.args.passing.now (entry (naturals c.args.queues.now)) in
    let g : ℕ → ℕ = λ k. cond (goes_out net k) (f k) 0 in
    let is : c.leaving-left.result ≡ g (i + 1) = c.leaving-left.ensures ∙ ap (λ y. cond (goes_out net (i + 1)) y 0) c.passing_by-pass.ensures in
    let few : c.leaving-left.result ≤ 1000 = omega (arith, is, cond-few (goes_out net (i + 1)) (f (i + 1)) 1000 (open_few net c.args.passing.now (entry (naturals c.args.queues.now)) (i + 1) (flow_few net c.shares.ensures.acceptable.range (i + 1)))) in
    let sums = numbers_step g i c.loop-i.left c.leaving-left.result 1000 is few inv.so_far inv.small in
    record {
      value = λ j h. ap₂ (λ n v. slice_index (set c.loop-i.passes n v) j) c.from.ensures c.passing_by-pass.ensures ∙ fill_by_more (λ j. f (j + 1)) c.loop-i.passes i 0 (omega (arith, c.loop-i.auto.passes, c.requires.size)) inv.value j h;
      so_far = sums.so_far;
      small = sums.small;
    }

pub returns-clause-value : goal.returns-clause-value
returns-clause-value c =
    let net = c.args.net.now in
    let f : ℕ → ℕ = passed_open net c.args.passing.now (entry (naturals c.args.queues.now)) in
    numbers_by_all f c.loop-i.passes (length net.movements) (omega (arith, c.loop-i.auto.passes, c.requires.size))
    (λ k h l. let back : (k - 1) + 1 ≡ k = omega arith in c.loop-i.invariant.value (k - 1) (omega arith) ∙ ap f back)

pub returns-clause-each : goal.returns-clause-each
returns-clause-each c =
    let net = c.args.net.now in
    let q = entry (naturals c.args.queues.now) in
    rw (returns-clause-value c) (All-from_recursion (λ y. y ≤ 1000) _ (map_each (λ y. y ≤ 1000) (passed_open net c.args.passing.now q) (movement_numbers net)
    (each_in _ (movement_numbers net) (λ k h. open_few net c.args.passing.now q k (flow_few net c.shares.ensures.acceptable.range k)))))

pub returns-clause-left : goal.returns-clause-left
returns-clause-left c =
    let net = c.args.net.now in
    let f : ℕ → ℕ = passed_open net c.args.passing.now (entry (naturals c.args.queues.now)) in
    let end : c.loop-i.i ≡ length net.movements = omega arith in
    c.loop-i.invariant.so_far ∙ ap (λ n. sum_by (λ k. cond (goes_out net k) (f k) 0) (numbers_to n)) end ∙ left_same net f c.loop-i.passes (returns-clause-value c)
