use Rattle.std.proofs.Common.{◌∙◌, sym, ap, subst, eqb-true, get_or}
use Rattle.mp_model.specs.EventCore.Answer.{heard}
use Rattle.mp_model.specs.Network.{junction_at, targets}
use Rattle.mp_round.specs.RoundView.{IsRoundOn, core_of, with_report}
use Rattle.mp_round.proofs.Finding.{IsAt, found_at, not_found}
use Rattle.mp_round.proofs.Hearing.{hears, not_heard, report_now}
use Rattle.mp_round.proofs.Placing.{on_report}
use Rattle.mp_round.proofs.round.Round.hear.Goals as goal

pub returns-in-Some-clause-applied : goal.returns-in-Some-clause-applied
returns-in-Some-clause-applied c =
    let net = c.args.net.now in
    let first = c.args.self.now in
    let i = c.in-Some.place in
    let ts = targets net (junction_at net c.args.j) in
    let at : IsAt ts c.args.l i = found_at ts c.args.l i (sym c.place_of.ensures ∙ c.in-Some.is) in
    ap (λ round. (heard, core_of round)) (c.put_report.ensures ∙ ap (λ l. with_report first c.args.j i (report_now net first l)) (eqb-true (get_or ts i 0) c.args.l at.here)) ∙ hears net first c.args.j c.args.l i at

pub returns-in-Some-clause-on : goal.returns-in-Some-clause-on
returns-in-Some-clause-on c = subst (IsRoundOn c.args.net.now) (sym c.put_report.ensures) (on_report c.args.net.now c.args.self.now c.args.j c.in-Some.place _ c.requires.on)

pub returns-in-None-clause-applied : goal.returns-in-None-clause-applied
returns-in-None-clause-applied c =
    let net = c.args.net.now in
    not_heard net c.args.self.now c.args.j c.args.l (not_found (targets net (junction_at net c.args.j)) c.args.l (sym c.place_of.ensures ∙ c.in-None.is))
