use Rattle.std.proofs.Common.{◌≡◌, ◌≤◌, ◌+◌, ◌∙◌, [], ap, arith, get_or, length, map, subst, sym, List, Option, None}
use Rattle.std.proofs.lemmas.List.{get_or-map, length-map}
use Rattle.mp_model.specs.EventCore.{Copy}
use Rattle.mp_round.specs.Copying.{copies_in}
use Rattle.mp_round.specs.declared.copies.Copies.TheInside.{Inside}
use Rattle.mp_round.proofs.Idling.{IdleBefore, idle_more, idle_rows}
use Rattle.mp_round.proofs.copies.Copies.is_empty.Goals as goal

size : (copies : Inside) → length (copies_in copies) ≡ length copies.rows.items
size copies = length-map copies.rows.items (λ row. row.items)

pub loop-i-preserved : goal.loop-i-preserved
loop-i-preserved c =
    let rows = c.self.inside.rows.items in
    let i = c.loop-i.i in
    let row = c.index.result.now in
    let read : get_or (copies_in c.self.inside) i [] ≡ row.items = get_or-map (λ row. row.items) rows i row [] (omega (arith, c.loop-i-test.true)) ∙ ap (λ row. row.items) (sym c.index.ensures) in
    let empty : row.items ≡ map (λ copy. None) row.items = subst (λ (xs : List (Option Copy)). xs ≡ map (λ copy. None) xs) c.deref.ensures.value (c.has_no_report.ensures c.if-not-has_no_report.false) in
    let here : get_or (copies_in c.self.inside) i [] ≡ map (λ copy. None) (get_or (copies_in c.self.inside) i []) = read ∙ empty ∙ sym (ap (map (λ copy. None)) read) in
    subst (λ (rows : List (List (Option Copy))). IdleBefore rows (i + 1)) c.self.view_is (idle_more (copies_in c.self.inside) i (subst (λ (rows : List (List (Option Copy))). IdleBefore rows i) (sym c.self.view_is) c.loop-i.invariant) here)

pub returns : goal.returns
returns c = λ e.
    idle_rows c.args.self.now c.loop-i.i c.loop-i.invariant
    (subst (λ (rows : List (List (Option Copy))). length rows ≤ c.loop-i.i) c.self.view_is (omega (arith, size c.self.inside, c.loop-i-test.false)))
