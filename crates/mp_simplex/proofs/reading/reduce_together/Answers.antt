use Rattle.std.proofs.Common.{rules, ◌≡◌, ◌∙◌, ap, ◌++◌, ◌∷◌, [], length, FitsSigned, to_z-of_z}
use Rattle.std.specs.Int.{w128}
use Rattle.mp_num.specs.Divisor.{reduced}
use Rattle.mp_simplex.proofs.ReadingLemmas.{denominator_cut}
use Rattle.mp_simplex.proofs.reading.reduce_together.Goals as goal

pub returns-clause-denominator : goal.returns-clause-denominator
returns-clause-denominator c =
    let fq : FitsSigned w128 c.args.q = c.ranges.q in
    let fd : FitsSigned w128 c.index-denominator.result.now = search rules in
    let n : c.len-n.result ≡ length c.args.x.items = search rules in
    let all : c.push.new.self.items ≡ c.args.x.items ++ c.args.q ∷ [] = simp to_z-of_z at c.in_ok-push.ensures.items in
    let whole : c.reduce-numbers.result.items ≡ reduced (c.args.x.items ++ c.args.q ∷ []) = c.reduce-numbers.ensures ∙ ap reduced all in
    simp to_z-of_z (denominator_cut c.args.x.items c.reduce-numbers.result.items c.args.q c.index-denominator.result.now c.len-n.result whole n c.index-denominator.ensures)
