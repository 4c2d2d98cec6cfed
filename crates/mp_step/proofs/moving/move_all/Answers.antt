use Rattle.std.proofs.Common.{◌≡◌, ◌≤◌, ◌+◌, ◌-◌, ◌%◌, ◌^◌, ◌∙◌, sym, ap, ap₂, arith, get_or, set, length, ℕ, sum_by, refl, slice_index, ◌==◌}
use Rattle.std.specs.Prelude.{unsigned_abs}
use Rattle.std.proofs.lemmas.List.{length-map}
use Rattle.std.proofs.lemmas.List.Edits.{fill_by_more}
use Rattle.mp_model.specs.Arrivals.{arrivals_of}
use Rattle.mp_model.specs.Network.{out_of, into_link, from_of, entry}
use Rattle.mp_model.specs.Step.{joined}
use Rattle.mp_step.proofs.Moves.{came_few, rows_count, row_at}
use Rattle.mp_press.proofs.Known.{from_known, kept_known}
use Rattle.mp_press.proofs.Sums.{numbers_step}
use Rattle.mp_press.proofs.Writes.{entry-written, numbers_by_all}
use Rattle.mp_press.specs.Queues.{naturals}
use Rattle.mp_press.specs.Written.{written}
use Rattle.mp_step.proofs.Moves.{entry_moved}
use Rattle.mp_step.specs.Standing.{shares_in, moved, received}
use Rattle.mp_step.proofs.moving.move_all.Goals as goal

pub loop-i-init : goal.loop-i-init
loop-i-init c = record {
  so_far = refl;
  small = omega arith;
  some = λ h. h;
  queues = λ k h l e. absurd (omega (arith, from_known c.args.net.now c.requires.acceptable.network k (h, l)));
  phases = λ j h. absurd (omega arith);
}

pub overflow_add-sum : goal.overflow_add-sum
overflow_add-sum c = let few = came_few c.args.net.now c.args.arrivals.now (c.loop-i.i + 1) c.requires.digits in omega arith

pub bounds-splits-at : goal.bounds-splits-at
bounds-splits-at c = let size = rows_count (λ split. split.shares) c.args.splits.now (shares_in c.args.net.now) (length c.args.net.now.links) c.requires.splits in omega arith

pub move_link-after-requires-clause-split : goal.move_link-after-requires-clause-split
move_link-after-requires-clause-split c =
    let net = c.args.net.now in
    let i = c.loop-i.i in
    let at : c.from-at.result ≡ i = c.from-at.ensures in
    ap (λ s. s.shares) (c.index-splits-at.is ∙ ap (λ n. get_or c.args.splits.now n c.index-splits-at.result) at)
    ∙ row_at (λ split. split.shares) c.args.splits.now (shares_in net) (length net.links) c.requires.splits i (omega arith) c.index-splits-at.result

pub move_link-after-requires-clause-digits : goal.move_link-after-requires-clause-digits
move_link-after-requires-clause-digits c = omega (arith, c.arrivals_on-came.ensures, came_few c.args.net.now c.args.arrivals.now (c.loop-i.i + 1) c.requires.digits)

pub loop-i-preserved : goal.loop-i-preserved
loop-i-preserved c =
    let net = c.args.net.now in
    let counts = c.args.arrivals.now in
    let i = c.loop-i.i in
    let l = i + 1 in
    let m = length net.movements in
    let q = entry (naturals c.args.queues.now) in
    let y = entry c.args.passes.now in
    let phase = entry (naturals c.args.phases.now) in
    let came = c.arrivals_on-came.result in
    let inv = c.loop-i.invariant in
    let few : came ≤ 10 ^ 9 = omega (arith, c.arrivals_on-came.ensures, came_few net counts l c.requires.digits) in
    let sums = numbers_step (arrivals_of net counts) i c.loop-i.sum came (10 ^ 9) c.arrivals_on-came.ensures few inv.so_far inv.small in
    let read : c.phase_of-phase.result ≡ phase l = c.phase_of-phase.ensures in
    let there : i + 1 - 1 ≡ i = omega arith in
    let phases = naturals c.loop-i.next_phases in
    let count : length phases ≡ length net.links = length-map c.loop-i.next_phases unsigned_abs ∙ c.loop-i.auto.next_phases ∙ c.requires.next_phases_size in
    let size : length (naturals c.loop-i.next) ≡ m = length-map c.loop-i.next unsigned_abs ∙ c.loop-i.auto.next ∙ c.requires.next_size in
    let g : ℕ → ℕ → ℕ → ℕ = λ p a k. q k - y k + (joined net l (p + (a + sum_by y (into_link net l))) k - joined net l p k) in
    record {
      so_far = sums.so_far;
      small = sums.small;
      some = λ h. c.move_link-after.ensures.some (inv.some h);
      queues = λ k h n le. entry_moved net i k (h, n) le (entry (naturals c.move_link-after.new.next) k) (entry (naturals c.loop-i.next) k) (g (phase l) (arrivals_of net counts l) k) (moved net counts phase q y k)
          (ap (λ xs. entry xs k) c.move_link-after.ensures.value ∙ ap₂ (λ p a. entry (written (g p a) (out_of net l) (naturals c.loop-i.next)) k) read c.arrivals_on-came.ensures
          ∙ entry-written (g (phase l) (arrivals_of net counts l)) (out_of net l) (naturals c.loop-i.next) m k size (kept_known (λ k. from_of net k == l) m) h n)
          (λ e. ap (λ j. q k - y k + (joined net j (phase j + received net counts y j) k - joined net j (phase j) k)) (sym e))
          (λ e. inv.queues k h n e);
      phases = λ j h.
          ap (λ xs. slice_index xs j) c.put_number.ensures.value ∙ ap₂ (λ n v. slice_index (set phases n v) j) there (c.from.ensures ∙ c.move_link-after.ensures.phase ∙ ap₂ (λ p a. (p + (a + sum_by y (into_link net l))) % net.shares) read c.arrivals_on-came.ensures)
          ∙ fill_by_more (λ j. (phase (j + 1) + received net counts y (j + 1)) % net.shares) phases i 0 (omega (arith, count)) inv.phases j h;
    }

pub returns-clause-queues : goal.returns-clause-queues
returns-clause-queues c =
    let net = c.args.net.now in
    numbers_by_all (moved net c.args.arrivals.now (entry (naturals c.args.phases.now)) (entry (naturals c.args.queues.now)) (entry c.args.passes.now)) (naturals c.loop-i.next) (length net.movements)
    (length-map c.loop-i.next unsigned_abs ∙ c.loop-i.auto.next ∙ c.requires.next_size)
    (λ k h l. c.loop-i.invariant.queues k h l (omega (arith, from_known net c.requires.acceptable.network k (h, l))))

pub returns-clause-phases : goal.returns-clause-phases
returns-clause-phases c =
    let net = c.args.net.now in
    let f : ℕ → ℕ = λ l. (entry (naturals c.args.phases.now) l + received net c.args.arrivals.now (entry c.args.passes.now) l) % net.shares in
    numbers_by_all f (naturals c.loop-i.next_phases) (length net.links) (length-map c.loop-i.next_phases unsigned_abs ∙ c.loop-i.auto.next_phases ∙ c.requires.next_phases_size)
    (λ l h k. let back : (l - 1) + 1 ≡ l = omega arith in c.loop-i.invariant.phases (l - 1) (omega arith) ∙ ap f back)
