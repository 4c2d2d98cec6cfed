use Rattle.std.proofs.Common.{◌≡◌, ◌+◌, ◌*◌, ◌++◌, ◌∙◌, ℕ, ℤ, List, arith, ap, ap₂, refl, length, map, pos, replicate, drop}
use Rattle.std.proofs.lemmas.List.{length-append, length-replicate}
use Rattle.mp_model.specs.Network.{movement_numbers, start_of}
use Rattle.mp_region.proofs.Parts.{refilled}
use Rattle.mp_region.specs.Cells.{Cells}
use Rattle.mp_step.specs.Halves.{half_of}
use Rattle.mp_step.specs.SpansView.{span_at, AreAt}
use Rattle.mp_step.specs.declared.spans.Spans.TheInside.{Inside}
use Rattle.mp_step.proofs.Sides.{held, held_first, opening_halves, opening_held}
use Rattle.mp_step.proofs.spans.Spans.open.Goals as goal

pub returns : goal.returns
returns c =
    let net = c.args.net.now in
    let m : ℕ = c.from-movements.result in
    let l : ℕ = c.from-links.result in
    let z : ℕ → List ℤ = λ n. replicate n (pos 0) in
    let n : ℕ = 2 * m + 4 * l in
    let starts : List ℤ = c.start_queues.new.queues in
    let high : List ℤ = c.split_at_mut-queues.result.1.now in
    let made : c.in-Ok.region.cells ≡ z n = ap (λ (r : Cells). r.cells) c.in-Ok.ensures in
    let none : c.in-Ok.region.used ≡ 0 = ap (λ (r : Cells). r.used) c.in-Ok.ensures in
    let many : length c.in-Ok.region.cells ≡ n = ap length made ∙ length-replicate n (pos 0) in
    let some : length starts ≡ m = c.start_queues.auto.queues ∙ c.split_at_mut-queues.ensures.front_len in
    let all : length (starts ++ high) ≡ length c.in-Ok.region.cells = omega (arith, length-append starts high, some, c.split_at_mut-queues.ensures.back_len, c.cells_mut.ensures.len) in
    let zeros : high ≡ drop m (z n) = c.split_at_mut-queues.ensures.back ∙ ap (drop m) (c.cells_mut.ensures.cells ∙ made) in
    let kept : c.carve-6.new.region.cells ≡ starts ++ high =
    ap (λ (r : Cells). r.cells) c.carve-6.ensures.used ∙ ap (λ (r : Cells). r.cells) c.carve-5.ensures.used ∙ ap (λ (r : Cells). r.cells) c.carve-4.ensures.used
    ∙ ap (λ (r : Cells). r.cells) c.carve-3.ensures.used ∙ ap (λ (r : Cells). r.cells) c.carve-2.ensures.used ∙ ap (λ (r : Cells). r.cells) c.carve.ensures.used
    ∙ refilled (length c.in-Ok.region.cells) c.in-Ok.region.cells (starts ++ high) all refl in
    let u1 : c.carve.new.region.used ≡ m = omega (arith, none, ap (λ (r : Cells). r.used) c.carve.ensures.used) in
    let u2 : c.carve-2.new.region.used ≡ m + l = omega (arith, u1, ap (λ (r : Cells). r.used) c.carve-2.ensures.used) in
    let u3 : c.carve-3.new.region.used ≡ half_of m l = omega (arith, u2, ap (λ (r : Cells). r.used) c.carve-3.ensures.used) in
    let u4 : c.carve-4.new.region.used ≡ half_of m l + m = omega (arith, u3, ap (λ (r : Cells). r.used) c.carve-4.ensures.used) in
    let u5 : c.carve-5.new.region.used ≡ half_of m l + (m + l) = omega (arith, u4, ap (λ (r : Cells). r.used) c.carve-5.ensures.used) in
    let z2 : m ≡ 0 + m = omega arith in
    let z3 : m + l ≡ 0 + (m + l) = omega arith in
    let s : Inside = record { region = c.carve-6.new.region; queues = c.carve.result; phases = c.carve-2.result; levels = c.carve-3.result; next_queues = c.carve-4.result; next_phases = c.carve-5.result; next_levels = c.carve-6.result } in
    let now : AreAt 0 m l s.queues s.phases s.levels = record { first = c.carve.ensures.span ∙ ap (λ a. span_at a m) none; second = c.carve-2.ensures.span ∙ ap (λ a. span_at a l) (u1 ∙ z2); third = c.carve-3.ensures.span ∙ ap (λ a. span_at a l) (u2 ∙ z3) } in
    let next : AreAt (half_of m l) m l s.next_queues s.next_phases s.next_levels = record { first = c.carve-4.ensures.span ∙ ap (λ a. span_at a m) u3; second = c.carve-5.ensures.span ∙ ap (λ a. span_at a l) u4; third = c.carve-6.ensures.span ∙ ap (λ a. span_at a l) u5 } in
    let twice : n ≡ 2 * half_of m l = omega arith in
    let low : length (starts ++ z (2 * l)) ≡ half_of m l = omega (arith, length-append starts (z (2 * l)), length-replicate (2 * l) (pos 0), some) in
    held_first s m l (starts ++ z (2 * l)) (z (half_of m l)) (kept ∙ ap (λ xs. starts ++ xs) zeros ∙ opening_halves m l n starts twice some) low (length-replicate (half_of m l) (pos 0)) now next
    ∙ opening_held m l starts some
    ∙ ap (λ xs. held xs (z l) (z l) (z m) (z l) (z l)) c.start_queues.ensures
    ∙ ap₂ (λ m l. held (map (λ k. pos (start_of net k)) (movement_numbers net)) (z l) (z l) (z m) (z l) (z l)) (c.from-movements.ensures ∙ c.movements.ensures.count) (c.from-links.ensures ∙ c.links.ensures.count)
