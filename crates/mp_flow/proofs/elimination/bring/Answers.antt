use Rattle.std.proofs.Common.{arith, ◌≡◌, ◌∙◌, sym, ap, ◌+◌, ◌-◌, ◌*◌, ◌<◌, ◌≤◌, length, length-take-le, ◌++◌, take, drop}
use Rattle.std.proofs.lemmas.Nat.{rows}
use Rattle.mp_flow.proofs.TableLemmas.{chosen_brought}
use Rattle.mp_flow.proofs.elimination.bring.Goals as goal

pub returns-clause-chosen : goal.returns-clause-chosen
returns-clause-chosen c =
    let inside : c.in-Some.k < c.args.count = c.in-Some.ensures.within in
    let size : length c.args.free.now ≡ c.args.count * c.args.width = c.requires.size in
    let fits : (c.in-Some.k + 1) * c.args.width ≤ length c.args.free.now = grind (arith, rows) in
    let cut : length (take ((c.in-Some.k + 1) * c.args.width) c.args.free.now) - c.args.width ≡ c.in-Some.k * c.args.width = omega (arith, length-take-le ((c.in-Some.k + 1) * c.args.width) c.args.free.now fits) in
    let part = take ((c.in-Some.k + 1) * c.args.width) c.args.free.now in
    chosen_brought _ _ _ c.in-Some.k c.args.free.now _ size inside (sym c.in-Some.ensures.place)
    (ap (λ s. s ++ drop ((c.in-Some.k + 1) * c.args.width) c.args.free.now) (c.rotate_right.ensures.after ∙ ap (λ n. drop n part ++ take n part) cut))
