use Rattle.std.proofs.Common.{Some, length, arith, sym, ◌∙◌, ap}
use Rattle.mp_model.specs.Stream.{count_of}
use Rattle.mp_log.specs.Kinds.{number_to}
use Rattle.mp_log.proofs.KindLemmas.{numbered, heard, heard_none, hears}
use Rattle.mp_log.proofs.event_line.read_hearing.Goals as goal

pub returns-in_default-clause-kind : goal.returns-in_default-clause-kind
returns-in_default-clause-kind c =
    hears c.args.net.now (count_of c.args.junction.now) (count_of c.args.link.now)
    ∙ ap (λ j. heard j (number_to (length c.args.net.now.links) (count_of c.args.link.now)))
    (sym (ap (λ m. number_to m (count_of c.args.junction.now)) c.junctions.ensures.count) ∙ sym c.number_to.ensures.value ∙ c.in_default.is)

pub returns-in-Some-number_to-clause-kind : goal.returns-in-Some-number_to-clause-kind
returns-in-Some-number_to-clause-kind c =
    hears c.args.net.now (count_of c.args.junction.now) (count_of c.args.link.now)
    ∙ ap (λ j. heard j (number_to (length c.args.net.now.links) (count_of c.args.link.now)))
    (sym (ap (λ m. number_to m (count_of c.args.junction.now)) c.junctions.ensures.count) ∙ sym c.number_to.ensures.value ∙ c.in-Some.is)
    ∙ ap (heard (Some c.in-Some.junction)) (sym (ap (λ m. number_to m (count_of c.args.link.now)) c.links.ensures.count) ∙ sym c.number_to-2.ensures.value ∙ c.in-Some-number_to.is)

pub returns-in-Some-number_to-clause-network : goal.returns-in-Some-number_to-clause-network
returns-in-Some-number_to-clause-network c =
    let junction = c.in-Some.ensures.within in
    let link = c.in-Some-number_to.ensures.within in (
      numbered (length c.args.net.now.junctions) c.in-Some.junction junction.0 (omega (arith, junction.1, c.junctions.ensures.count)),
      numbered (length c.args.net.now.links) c.in-Some-number_to.link link.0 (omega (arith, link.1, c.links.ensures.count)),
    )

pub returns-in-None-clause-kind : goal.returns-in-None-clause-kind
returns-in-None-clause-kind c =
    hears c.args.net.now (count_of c.args.junction.now) (count_of c.args.link.now)
    ∙ ap (heard (number_to (length c.args.net.now.junctions) (count_of c.args.junction.now)))
    (sym (ap (λ m. number_to m (count_of c.args.link.now)) c.links.ensures.count) ∙ sym c.number_to-2.ensures.value ∙ c.in-None.is)
    ∙ heard_none (number_to (length c.args.net.now.junctions) (count_of c.args.junction.now))
