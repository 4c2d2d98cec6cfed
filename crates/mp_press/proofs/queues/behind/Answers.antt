use Rattle.std.proofs.Common.{◌∙◌, sym}
use Rattle.mp_press.proofs.Known.{to_known}
use Rattle.mp_press.proofs.queues.behind.Goals as goal

pub queued_on-requires-clause-known : goal.queued_on-requires-clause-known
queued_on-requires-clause-known c = to_known c.args.net.now c.requires.acceptable.network c.args.k c.in-Some.l c.requires.known (sym c.turn.ensures.to ∙ c.in-Some.is)
