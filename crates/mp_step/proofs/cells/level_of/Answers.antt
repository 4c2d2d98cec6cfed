use Rattle.std.proofs.Common.{◌-◌, ◌<◌, arith, length}
use Rattle.std.specs.Prelude.{unsigned_abs}
use Rattle.std.proofs.lemmas.List.{length-map}
use Rattle.mp_press.specs.Queues.{naturals}
use Rattle.mp_step.proofs.cells.level_of.Goals as goal

pub overflow_cast-result : goal.overflow_cast-result
overflow_cast-result c =
    let count = length-map c.args.levels.now unsigned_abs in
    let few : c.args.l - 1 < length (naturals c.args.levels.now) = omega (arith, count, c.requires.known) in
    let fits = c.requires.fits (c.args.l - 1) 0 few in
    omega (arith, c.queue_of.ensures, fits)
