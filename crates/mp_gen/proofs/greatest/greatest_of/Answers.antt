use Rattle.std.proofs.Common.{◌∙◌, arith}
use Rattle.std.specs.Prelude.{unsigned_abs}
use Rattle.std.proofs.lemmas.List.{length-map}
use Rattle.mp_press.specs.Queues.{naturals}
use Rattle.mp_gen.proofs.Greatests.{greatest_more}
use Rattle.mp_gen.proofs.greatest.greatest_of.Goals as goal

pub loop-i-preserved : goal.loop-i-preserved
loop-i-preserved c =
    let numbers = c.args.numbers.now in
    c.max-greatest.ensures
    ∙ greatest_more (naturals numbers) c.loop-i.i c.number_at.result c.loop-i.greatest (omega (arith, c.loop-i-test.true, length-map numbers unsigned_abs)) c.number_at.ensures c.loop-i.invariant
