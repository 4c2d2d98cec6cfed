use Rattle.std.proofs.Common.{◌≡◌, ◌∙◌, sym, ap, pos, ◌≤ℤ◌, Some}
use Rattle.std.proofs.lemmas.List.Elements.{recursion_from_All}
use Rattle.mp_cert.specs.Weighing.{weighed}
use Rattle.mp_cert.proofs.WeighLaw.{sums_are}
use Rattle.mp_cert.proofs.weighing.weigh.Goals as goal

pub returns-in-Some-clause-load : goal.returns-in-Some-clause-load
returns-in-Some-clause-load c =
    let net = c.args.net.now in
    let p = c.args.against.now.p in
    let is : weighed net p ≡ Some c.in-Some.sums = ap (weighed net) (sym c.as_slice.ensures) ∙ sym c.sums.ensures ∙ c.in-Some.is in
    (sums_are net p (recursion_from_All (λ x. pos 0 ≤ℤ x) p c.requires.signs) c.in-Some.sums is).0

pub returns-in-Some-clause-served : goal.returns-in-Some-clause-served
returns-in-Some-clause-served c =
    let net = c.args.net.now in
    let p = c.args.against.now.p in
    let is : weighed net p ≡ Some c.in-Some.sums = ap (weighed net) (sym c.as_slice.ensures) ∙ sym c.sums.ensures ∙ c.in-Some.is in
    (sums_are net p (recursion_from_All (λ x. pos 0 ≤ℤ x) p c.requires.signs) c.in-Some.sums is).1
