use Rattle.std.proofs.Common.{◌≡◌, ◌<◌, ◌^◌, ◌∙◌, ap, arith, rules, length, pos, sum, sym, subst}
use Rattle.std.specs.List.{All}
use Rattle.std.proofs.lemmas.List.{length-map}
use Rattle.std.proofs.lemmas.List.FromFn.{length-range_with_len}
use Rattle.std.proofs.lemmas.List.Sums.{sum-map}
use Rattle.mp_model.specs.Network.{movement_numbers, start_of}
use Rattle.mp_press.specs.Queues.{naturals, NoneNegative}
use Rattle.mp_step.specs.Held.{Held, opening_cells}
use Rattle.mp_step.proofs.Above.{opening_within}
use Rattle.mp_step.proofs.Following.{opens, no_entries, start_naturals, start_positive, zeros_positive, zeros_naturals, zeros_few}
use Rattle.mp_step.proofs.Taking.{taken_none}
use Rattle.mp_step.proofs.state.State.empty.Goals as goal

pub invariant_of-result : goal.invariant_of-result
invariant_of-result c =
    let net = c.args.net.now in
    let n = length net.links in
    let m = c.from-movements.result in
    let held = c.in_ok-open.field-0 in
    let e : held ≡ opening_cells net = c.in_ok-open.ensures in
    let count : m ≡ length net.movements = c.from-movements.ensures ∙ c.movements.ensures.count in
    let size : length held.queues ≡ m =
    ap (λ (h : Held). length h.queues) e ∙ length-map (movement_numbers net) (λ k. pos (start_of net k)) ∙ length-range_with_len 1 (length net.movements) ∙ sym count in
    let total : c.started.result ≡ sum (naturals held.queues) = c.started.ensures.value ∙ sym (sum-map (start_of net) (movement_numbers net)) ∙ ap sum (sym (ap (λ (h : Held). naturals h.queues) e ∙ start_naturals (start_of net) (movement_numbers net))) in
    let y : length c.in_ok-passes.passes.items ≡ m = search rules in
    let z : length c.in_ok-vec.field-0.items ≡ m = search rules in
    record {
      traffic = record {
        some = subst (λ (h : Held). NoneNegative h.queues) (sym e) (start_positive (start_of net) (movement_numbers net));
        next_some = subst (λ (h : Held). NoneNegative h.next_queues) (sym e) (zeros_positive (length net.movements));
        period = omega arith;
        few = omega (arith, c.started.ensures.few);
        conserved = omega (arith, total);
        within = rw (c.in_ok-make_buckets.ensures, ap (λ (h : Held). naturals h.levels) e, zeros_naturals n) (opening_within net 1 n);
        next_within = rw (c.in_ok-make_buckets.ensures, ap (λ (h : Held). naturals h.next_levels) e, zeros_naturals n) (opening_within net 1 n);
        phase_fits = subst (All (λ x. x < 2 ^ 32)) (sym (ap (λ (h : Held). naturals h.phases) e ∙ zeros_naturals n)) (zeros_few (2 ^ 32) n (omega arith));
        level_fits = subst (All (λ x. x < 2 ^ 64)) (sym (ap (λ (h : Held). naturals h.levels) e ∙ zeros_naturals n)) (zeros_few (2 ^ 64) n (omega arith));
        parts = z ∙ sym size;
      };
      passes = y ∙ sym size;
    }

pub returns-clause-on : goal.returns-clause-on
returns-clause-on c =
    let net = c.args.net.now in
    let held = c.in_ok-open.field-0 in
    let e : held ≡ opening_cells net = c.in_ok-open.ensures in
    (opens net c.shares.ensures.acceptable.network (naturals held.queues) (naturals held.phases) (naturals held.levels) c.started.result _ _
    (ap (λ (h : Held). naturals h.queues) e ∙ start_naturals (start_of net) (movement_numbers net)) c.started.ensures.value
    (ap (λ (h : Held). naturals h.phases) e ∙ zeros_naturals (length net.links)) (ap (λ (h : Held). naturals h.levels) e ∙ zeros_naturals (length net.links)) c.in_ok-make_splits.ensures c.in_ok-make_buckets.ensures).0

pub returns-clause-opening : goal.returns-clause-opening
returns-clause-opening c =
    let net = c.args.net.now in
    let held = c.in_ok-open.field-0 in
    let e : held ≡ opening_cells net = c.in_ok-open.ensures in
    (opens net c.shares.ensures.acceptable.network (naturals held.queues) (naturals held.phases) (naturals held.levels) c.started.result _ _
    (ap (λ (h : Held). naturals h.queues) e ∙ start_naturals (start_of net) (movement_numbers net)) c.started.ensures.value
    (ap (λ (h : Held). naturals h.phases) e ∙ zeros_naturals (length net.links)) (ap (λ (h : Held). naturals h.levels) e ∙ zeros_naturals (length net.links)) c.in_ok-make_splits.ensures c.in_ok-make_buckets.ensures).1

pub returns-clause-taken : goal.returns-clause-taken
returns-clause-taken c =
    taken_none c.args.net.now _ (no_entries (naturals c.in_ok-open.field-0.levels) (length c.args.net.now.links) (ap (λ (h : Held). naturals h.levels) c.in_ok-open.ensures ∙ zeros_naturals (length c.args.net.now.links)))
