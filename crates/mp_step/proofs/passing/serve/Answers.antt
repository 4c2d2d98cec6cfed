use Rattle.std.proofs.Common.{◌∙◌, sym}
use Rattle.mp_model.specs.Network.{entry}
use Rattle.mp_press.specs.Queues.{naturals}
use Rattle.mp_step.proofs.Moves.{none_served}
use Rattle.mp_step.proofs.passing.serve.Goals as goal

pub returns-then-queue-eq0 : goal.returns-then-queue-eq0
returns-then-queue-eq0 c = sym (none_served c.args.net.now (entry (naturals c.args.queues.now)) c.args.k (sym c.queue_of-queue.ensures ∙ c.if-queue-eq0.true))
