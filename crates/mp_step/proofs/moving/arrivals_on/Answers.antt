use Rattle.std.proofs.Common.{◌==◌, ◌∙◌, sym, ap, get_or}
use Rattle.mp_model.specs.Network.{fed}
use Rattle.mp_step.proofs.Moves.{count_at, place_some, place_none}
use Rattle.mp_step.proofs.moving.arrivals_on.Goals as goal

pub returns-in-Some : goal.returns-in-Some
returns-in-Some c =
    let net = c.args.net.now in
    ap (λ i. get_or c.args.arrivals.now i 0) (sym (place_some (λ f. f == c.args.l) (fed net) c.in-Some.i (sym c.fed_place.ensures ∙ c.in-Some.is)))
    ∙ sym (count_at (fed net) c.args.arrivals.now c.args.l c.requires.counts)

pub returns-in-None : goal.returns-in-None
returns-in-None c =
    let net = c.args.net.now in
    sym (count_at (fed net) c.args.arrivals.now c.args.l c.requires.counts ∙ place_none (λ f. f == c.args.l) (fed net) c.args.arrivals.now c.requires.counts (sym c.fed_place.ensures ∙ c.in-None.is))
