use Rattle.std.proofs.Common.{◌≡◌, ◌+◌, ◌-◌, ◌∙◌, ap, ap₂, arith, ℕ, sym, [], ◌∷◌, ◌++◌, map, get_or}
use Rattle.std.proofs.lemmas.List.{take_all}
use Rattle.mp_model.specs.Network.{entry, no_junction}
use Rattle.mp_model.specs.Pressure.{greatest_stage}
use Rattle.mp_press.specs.Queues.{naturals}
use Rattle.mp_press.proofs.Firsts.{junctions_more}
use Rattle.mp_press.proofs.small.choose_all_small.Goals as goal

pub loop-i-preserved : goal.loop-i-preserved
loop-i-preserved c =
    let net = c.args.net.now in
    let q : ℕ → ℕ = entry (naturals c.args.queues.now) in
    let i = c.loop-i.i in
    let back : (i + 1) - 1 ≡ i = omega arith in
    record {
      value = c.push.ensures.items
          ∙ ap₂ (λ xs s. xs ++ s ∷ []) c.loop-i.invariant.value (c.choose_small.ensures.value ∙ ap (λ n. greatest_stage net q (get_or net.junctions n no_junction)) back)
          ∙ sym (junctions_more (greatest_stage net q) net.junctions i (omega arith));
      few = c.choose_small.ensures.few;
    }

pub returns-clause-value : goal.returns-clause-value
returns-clause-value c =
    let net = c.args.net.now in
    c.loop-i.invariant.value ∙ ap (map (greatest_stage net (entry (naturals c.args.queues.now)))) (take_all c.loop-i.i net.junctions (omega arith))
