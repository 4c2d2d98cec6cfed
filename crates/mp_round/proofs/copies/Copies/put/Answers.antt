use Rattle.std.proofs.Common.{◌≡◌, ◌<◌, ◌-◌, ◌∙◌, ap, get_or, length, map, set, sym, List, [], Option, Some, arith, subst, Vec, Global}
use Rattle.std.proofs.lemmas.List.{length-map}
use Rattle.mp_model.specs.EventCore.{Copy}
use Rattle.mp_round.proofs.Placing.{put_row}
use Rattle.mp_round.proofs.copies.Copies.put.Goals as goal

abbrev row_of : Vec (Option Copy) Global → List (Option Copy)
row_of row = row.items

pub returns : goal.returns
returns c =
    let vs = c.self.inside.rows.items in
    let j = c.args.j - 1 in
    let row = c.index_mut.result.now in
    let new = c.put_in.new.row in
    let size : length c.args.self.now ≡ length vs = ap (λ (xs : List (List (Option Copy))). length xs) (sym c.self.view_is) ∙ length-map vs row_of in
    let there : j < length vs = omega (arith, c.requires.junction) in
    subst (λ (view : List (List (Option Copy))). map row_of (set vs (c.from.result - 1) new) ≡ set view j (set (get_or view j []) c.args.place (Some c.args.report))) c.self.view_is
    (ap (λ n. map row_of (set vs (n - 1) new)) c.from.ensures ∙ put_row row_of vs j c.args.place row new (Some c.args.report) there (c.index_mut.ensures.value ∙ ap (λ n. get_or vs (n - 1) row) c.from.ensures) c.put_in.ensures)
