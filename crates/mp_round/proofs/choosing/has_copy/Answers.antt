use Rattle.std.proofs.Common.{◌≡◌, ◌∙◌, ap, ap₂, sym, arith, None, Option, not, is_none, get_or, ◌-◌, []}
use Rattle.std.proofs.lemmas.List.{get_or_default}
use Rattle.mp_model.specs.EventCore.{Copy, accepted}
use Rattle.mp_model.specs.Network.{junction_at, targets}
use Rattle.mp_round.proofs.Finding.{IsAt, beside_absent, beside_found, found_at, not_found}
use Rattle.mp_round.proofs.Placing.{row_places}
use Rattle.mp_round.proofs.choosing.has_copy.Goals as goal

at : (c : goal.In-Some) → IsAt (targets c.args.net.now (junction_at c.args.net.now c.args.j)) c.args.l c.in-Some.place
at c = found_at _ c.args.l c.in-Some.place (sym c.place_of.ensures ∙ c.in-Some.is)

pub at-requires-clause-place : goal.at-requires-clause-place
at-requires-clause-place c = omega (arith, (at c).within, row_places c.args.net.now c.args.copies.now c.args.j c.requires.places c.requires.junction)

pub returns-in-Some : goal.returns-in-Some
returns-in-Some c =
    let net = c.args.net.now in
    let row = get_or c.args.copies.now (c.args.j - 1) [] in
    let ts = targets net (junction_at net c.args.j) in
    let here : IsAt ts c.args.l c.in-Some.place = found_at ts c.args.l c.in-Some.place (sym c.place_of.ensures ∙ c.in-Some.is) in
    let lt = row_places net c.args.copies.now c.args.j c.requires.places c.requires.junction in
    let read : c.at.result.now ≡ get_or row c.in-Some.place None = c.at.ensures ∙ get_or_default row c.in-Some.place c.at.result.now None (omega (arith, here.within)) in
    c.is_accepted.ensures
    ∙ ap₂ (λ delay (copy : Option Copy). not (is_none (accepted delay c.args.period copy))) c.delay.ensures (read ∙ sym (beside_found ts row c.args.l c.in-Some.place here))

pub returns-in-None : goal.returns-in-None
returns-in-None c =
    let net = c.args.net.now in
    let ts = targets net (junction_at net c.args.j) in
    sym (ap (λ (copy : Option Copy). not (is_none (accepted net.delay c.args.period copy))) (beside_absent ts (get_or c.args.copies.now (c.args.j - 1) []) c.args.l (not_found ts c.args.l (sym c.place_of.ensures ∙ c.in-None.is))))
