use Rattle.std.proofs.Common.{◌∙◌, ◌++◌, arith, ap, sym}
use Rattle.std.proofs.lemmas.List.{append-nil, take_all}
use Rattle.mp_model.specs.Log.{spaced}
use Rattle.mp_plan_run.proofs.HeadingLemmas.{spaced_more}
use Rattle.mp_plan_run.proofs.header.push_greens.Goals as goal

pub loop-green-init : goal.loop-green-init
loop-green-init c = record { held = sym (append-nil c.args.line.now.held); len = omega (arith, c.requires.room) }

pub push_next-requires : goal.push_next-requires
push_next-requires c = omega (arith, c.loop-green.invariant.len, c.requires.few, c.loop-green-test.true)

pub loop-green-preserved : goal.loop-green-preserved
loop-green-preserved c = record {
  held = spaced_more c.args.line.now.held c.loop-green.line.held c.push_next.new.line.held c.args.greens.now c.loop-green.green-index c.loop-green-test.true c.loop-green.invariant.held c.push_next.ensures.held;
  len = omega (arith, c.loop-green.invariant.len, c.push_next.ensures.len);
}

pub returns-clause-held : goal.returns-clause-held
returns-clause-held c =
    c.loop-green.invariant.held ∙ ap (λ ns. c.args.line.now.held ++ spaced ns) (take_all c.loop-green.green-index c.args.greens.now (omega (arith, c.loop-green-test.false)))

pub returns-clause-len : goal.returns-clause-len
returns-clause-len c = omega (arith, c.loop-green.invariant.len, c.requires.few)
