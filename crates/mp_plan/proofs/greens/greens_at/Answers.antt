use Rattle.std.proofs.Common.{◌≡◌, ◌∙◌, Some, option_map, sum, vec_items, refl, sym, ap, arith}
use Rattle.mp_model.specs.Network.{junction_at, stage_numbers}
use Rattle.mp_num.specs.Passing.{each}
use Rattle.mp_plan.specs.Ends.{over, rates}
use Rattle.mp_plan.specs.Stated.{stated_green, stated_sum}
use Rattle.mp_plan.proofs.Greening.{greens_found, greens_pass, sum_is, sum_passes}
use Rattle.mp_plan.proofs.greens.greens_at.Goals as goal

pub returns-in_default : goal.returns-in_default
returns-in_default c =
    greens_pass c.args.net.now (rates c.args.flows.now) (over c.args.flows.now) c.args.c (junction_at c.args.net.now c.args.j) (sym c.in_ok-greens.ensures.value ∙ ap (option_map vec_items) c.in_default.is)

pub returns-in_default-total : goal.returns-in_default-total
returns-in_default-total c =
    sum_passes c.args.net.now (rates c.args.flows.now) (over c.args.flows.now) c.args.c (junction_at c.args.net.now c.args.j) c.in-Some.greens.items (sym c.in_ok-greens.ensures.value ∙ ap (option_map vec_items) c.in-Some.is)
    (ap stated_sum (sym c.deref.ensures.value) ∙ sym c.total.ensures.value ∙ c.in_default-total.is)

pub returns-then-all-from : goal.returns-then-all-from
returns-then-all-from c =
    let found : each (stated_green c.args.net.now (rates c.args.flows.now) (over c.args.flows.now) c.args.c (junction_at c.args.net.now c.args.j)) (stage_numbers (junction_at c.args.net.now c.args.j)) ≡ Some c.in-Some.greens.items =
    sym c.in_ok-greens.ensures.value ∙ ap (option_map vec_items) c.in-Some.is in
    let summed : stated_sum c.in-Some.greens.items ≡ Some c.in-Some-total.all = ap stated_sum (sym c.deref.ensures.value) ∙ sym c.total.ensures.value ∙ c.in-Some-total.is in (
      refl,
      record {
        greens = c.in-Some.greens.items;
        stated = greens_found c.args.net.now (rates c.args.flows.now) (over c.args.flows.now) c.args.c (junction_at c.args.net.now c.args.j) c.in-Some.greens.items c.in-Some-total.all found summed;
        above = omega (arith, sum_is c.in-Some.greens.items c.in-Some-total.all summed, c.if-all-from.true, c.from.ensures);
      },
    )

pub small-requires : goal.small-requires
small-requires c =
    let summed : stated_sum c.in-Some.greens.items ≡ Some c.in-Some-total.all = ap stated_sum (sym c.deref.ensures.value) ∙ sym c.total.ensures.value ∙ c.in-Some-total.is in
    let same : sum c.deref-2.result.now ≡ sum c.in-Some.greens.items = ap sum c.deref-2.ensures.value in
    record { fit = omega (arith, same, sum_is c.in-Some.greens.items c.in-Some-total.all summed, c.if-all-from.false, c.from.ensures) }

pub returns : goal.returns
returns c =
    let found : each (stated_green c.args.net.now (rates c.args.flows.now) (over c.args.flows.now) c.args.c (junction_at c.args.net.now c.args.j)) (stage_numbers (junction_at c.args.net.now c.args.j)) ≡ Some c.in-Some.greens.items =
    sym c.in_ok-greens.ensures.value ∙ ap (option_map vec_items) c.in-Some.is in
    let summed : stated_sum c.in-Some.greens.items ≡ Some c.in-Some-total.all = ap stated_sum (sym c.deref.ensures.value) ∙ sym c.total.ensures.value ∙ c.in-Some-total.is in
    let same : c.in_ok-small.field-0.items ≡ c.in-Some.greens.items = c.in_ok-small.ensures ∙ c.deref-2.ensures.value in
    let sums : sum c.in_ok-small.field-0.items ≡ sum c.in-Some.greens.items = ap sum same in (
      greens_found c.args.net.now (rates c.args.flows.now) (over c.args.flows.now) c.args.c (junction_at c.args.net.now c.args.j) c.in-Some.greens.items c.in-Some-total.all found summed ∙ ap Some (sym same),
      omega (arith, sums, sum_is c.in-Some.greens.items c.in-Some-total.all summed, c.if-all-from.false, c.from.ensures),
    )
