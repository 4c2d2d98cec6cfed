use Rattle.std.proofs.Common.{length, arith, sym, ◌∙◌, ap}
use Rattle.mp_model.specs.Stream.{count_of}
use Rattle.mp_log.specs.Kinds.{number_to}
use Rattle.mp_log.proofs.KindLemmas.{numbered, decided, decides}
use Rattle.mp_log.proofs.event_line.read_decision.Goals as goal

pub returns-in-Some-clause-kind : goal.returns-in-Some-clause-kind
returns-in-Some-clause-kind c =
    decides c.args.net.now (count_of c.args.junction.now)
    ∙ ap decided (sym (ap (λ m. number_to m (count_of c.args.junction.now)) c.junctions.ensures.count) ∙ sym c.number_to.ensures.value ∙ c.in-Some.is)

pub returns-in-Some-clause-network : goal.returns-in-Some-clause-network
returns-in-Some-clause-network c =
    let within = c.in-Some.ensures.within in numbered (length c.args.net.now.junctions) c.in-Some.junction within.0 (omega (arith, within.1, c.junctions.ensures.count))

pub returns-in-None-clause-kind : goal.returns-in-None-clause-kind
returns-in-None-clause-kind c =
    decides c.args.net.now (count_of c.args.junction.now)
    ∙ ap decided (sym (ap (λ m. number_to m (count_of c.args.junction.now)) c.junctions.ensures.count) ∙ sym c.number_to.ensures.value ∙ c.in-None.is)
