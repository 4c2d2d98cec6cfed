use Rattle.std.proofs.Common.{◌++◌, ◌∙◌, ap, arith, length, map, refl, subst}
use Rattle.std.proofs.lemmas.List.{take_all}
use Rattle.mp_net.specs.Rows.{AreSpans}
use Rattle.mp_net.proofs.Spans.{Extends-start, Extends-more, spans_start, stages_more}
use Rattle.mp_net.proofs.greens.put_stages.Goals as goal

pub loop-stage-init : goal.loop-stage-init
loop-stage-init c = record {
  grown = Extends-start c.args.greens.now.items c.args.greens.now.items refl;
  so_far = spans_start c.args.greens.now.items c.new-spans.result.items c.new-spans.ensures.items;
}

pub loop-stage-preserved : goal.loop-stage-preserved
loop-stage-preserved c =
    let grown = c.in_ok-put_stage.ensures.grown ∙ ap (λ xs. c.loop-stage.greens.items ++ xs) c.deref.ensures.value in
    let size = ap length c.deref.ensures.value in
    record {
      grown = Extends-more c.args.greens.now.items c.loop-stage.greens.items c.stage-item.result.items c.put_stage.new.greens.items c.loop-stage.invariant.grown grown;
      so_far = stages_more (λ stage. stage.items) c.args.stages.now c.stage-item.result c.loop-stage.stage-index c.loop-stage.greens.items c.put_stage.new.greens.items c.loop-stage.spans.items c.push.new.self.items c.in_ok-put_stage.field-0 c.loop-stage-test.true c.stage-item.is c.loop-stage.invariant.so_far grown
          c.in_ok-put_stage.ensures.start (omega (arith, c.in_ok-put_stage.ensures.end, size)) c.in_ok-push.ensures.items;
    }

pub returns-clause-grown : goal.returns-clause-grown
returns-clause-grown c = c.loop-stage.invariant.grown

pub returns-clause-spans : goal.returns-clause-spans
returns-clause-spans c = subst (λ xs. AreSpans c.loop-stage.greens.items (map (λ stage. stage.items) xs) c.loop-stage.spans.items) (take_all c.loop-stage.stage-index c.args.stages.now c.loop-stage-test.false) c.loop-stage.invariant.so_far
