use Rattle.std.proofs.Common.{◌≡◌, ◌∙◌, ap, ap₂, sym, arith, None, Option, pos, get_or, ◌-◌, [], ◌==◌, rules, FitsSigned, to_z-of_z}
use Rattle.std.specs.Int.{w128}
use Rattle.std.specs.List.{position}
use Rattle.std.proofs.lemmas.List.{get_or_default}
use Rattle.mp_model.specs.Arrivals.{count_in}
use Rattle.mp_model.specs.EventCore.{Copy, copy_beside, counts_in}
use Rattle.mp_model.specs.Network.{from_of, junction_at, out_of, targets}
use Rattle.mp_press.proofs.Known.{from_known}
use Rattle.mp_round.specs.Deciding.{seen_in}
use Rattle.mp_round.proofs.Counting.{count_nothing}
use Rattle.mp_round.proofs.Finding.{IsAt, beside_absent, beside_found, found_at, not_found}
use Rattle.mp_round.proofs.Placing.{row_places}
use Rattle.mp_round.proofs.choosing.seen.Goals as goal

at : (c : goal.In-Some) → IsAt (targets c.args.net.now (junction_at c.args.net.now c.args.j)) c.turn.result.now.from c.in-Some.place
at c = found_at _ c.turn.result.now.from c.in-Some.place (sym c.place_of.ensures ∙ c.in-Some.is)

pub at-requires-clause-place : goal.at-requires-clause-place
at-requires-clause-place c = omega (arith, (at c).within, row_places c.args.net.now c.args.copies.now c.args.j c.requires.places c.requires.junction)

pub out_of-requires : goal.out_of-requires
out_of-requires c = let k = from_known c.args.net.now c.shares.ensures.acceptable.network c.args.k c.requires.movement in omega (arith, k, c.turn.ensures.from)

same : (c : goal.After-count_by) → count_in c.out_of.result.now (counts_in c.at.result.now) c.args.k ≡ seen_in c.args.net.now c.args.copies.now c.args.j c.args.k
same c =
    let net = c.args.net.now in
    let row = get_or c.args.copies.now (c.args.j - 1) [] in
    let ts = targets net (junction_at net c.args.j) in
    let here : IsAt ts c.turn.result.now.from c.in-Some.place = found_at ts c.turn.result.now.from c.in-Some.place (sym c.place_of.ensures ∙ c.in-Some.is) in
    let lt = row_places net c.args.copies.now c.args.j c.requires.places c.requires.junction in
    let read : c.at.result.now ≡ get_or row c.in-Some.place None = c.at.ensures ∙ get_or_default row c.in-Some.place c.at.result.now None (omega (arith, here.within)) in
    ap₂ (λ ks (copy : Option Copy). count_in ks (counts_in copy) c.args.k) c.out_of.ensures (read ∙ sym (beside_found ts row c.turn.result.now.from c.in-Some.place here))
    ∙ ap (λ l. count_in (out_of net l) (counts_in (copy_beside ts row l)) c.args.k) c.turn.ensures.from

pub returns-in-Some-clause-value : goal.returns-in-Some-clause-value
returns-in-Some-clause-value c = let fits : FitsSigned w128 c.count_by.result = search rules in simp to_z-of_z (c.count_by.ensures.value ∙ ap pos (same c))

pub returns-in-Some-clause-few : goal.returns-in-Some-clause-few
returns-in-Some-clause-few c = omega (arith, same c, c.count_by.ensures.few)

nothing : (c : goal.In-None) → seen_in c.args.net.now c.args.copies.now c.args.j c.args.k ≡ 0
nothing c =
    let net = c.args.net.now in
    let ts = targets net (junction_at net c.args.j) in
    let l = from_of net c.args.k in
    let none = not_found ts l (ap (λ l. position (λ t. t == l) ts) (sym c.turn.ensures.from) ∙ sym c.place_of.ensures ∙ c.in-None.is) in
    ap (λ (copy : Option Copy). count_in (out_of net l) (counts_in copy) c.args.k) (beside_absent ts (get_or c.args.copies.now (c.args.j - 1) []) l none) ∙ count_nothing (out_of net l) c.args.k

pub returns-in-None-clause-value : goal.returns-in-None-clause-value
returns-in-None-clause-value c = ap pos (sym (nothing c))

pub returns-in-None-clause-few : goal.returns-in-None-clause-few
returns-in-None-clause-few c = omega (arith, nothing c)
