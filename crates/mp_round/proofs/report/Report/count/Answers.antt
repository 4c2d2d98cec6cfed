use Rattle.std.proofs.Common.{◌≡◌, ◌≤◌, ◌^◌, ◌∙◌, ap, sym, pos, get_or, rules, subst, FitsSigned, to_z-of_z}
use Rattle.std.specs.Int.{w128}
use Rattle.std.specs.List.{All}
use Rattle.mp_model.specs.Arrivals.{count_in}
use Rattle.mp_model.specs.EventCore.{Copy}
use Rattle.mp_press.specs.Queues.{naturals}
use Rattle.mp_press.proofs.Among.{count_absent, count_few}
use Rattle.mp_round.proofs.Counting.{read_back}
use Rattle.mp_round.proofs.Finding.{count_found, found_at, not_found}
use Rattle.mp_round.proofs.report.Report.count.Goals as goal

pub returns-in-Some-clause-value : goal.returns-in-Some-clause-value
returns-in-Some-clause-value c =
    let zs = c.self.inside.counts.items in
    let i = c.in-Some.i in
    let fits : FitsSigned w128 c.count_at.result = search rules in
    let read : c.count_at.result ≡ get_or zs i (pos 0) = c.count_at.ensures ∙ ap (λ ys. get_or ys i (pos 0)) c.deref.ensures.0 in
    simp to_z-of_z (read ∙ read_back zs i c.self.invariant ∙ ap pos (sym (count_found c.args.ks.now (naturals zs) c.args.k i (found_at c.args.ks.now c.args.k i (sym c.place_in.ensures ∙ c.in-Some.is))))
    ∙ ap (λ (copy : Copy). pos (count_in c.args.ks.now copy.counts c.args.k)) c.self.view_is)

pub returns-in-Some-clause-few : goal.returns-in-Some-clause-few
returns-in-Some-clause-few c = count_few c.args.ks.now c.args.self.now.counts c.args.k (2 ^ 90) (subst (λ (copy : Copy). All (λ n. n ≤ 2 ^ 90) copy.counts) c.self.view_is c.self.invariant.few)

pub returns-in-None-clause-value : goal.returns-in-None-clause-value
returns-in-None-clause-value c =
    ap pos (sym (count_absent c.args.ks.now c.args.self.now.counts c.args.k (not_found c.args.ks.now c.args.k (sym c.place_in.ensures ∙ c.in-None.is))))

pub returns-in-None-clause-few : goal.returns-in-None-clause-few
returns-in-None-clause-few c = count_few c.args.ks.now c.args.self.now.counts c.args.k (2 ^ 90) (subst (λ (copy : Copy). All (λ n. n ≤ 2 ^ 90) copy.counts) c.self.view_is c.self.invariant.few)
