use Rattle.std.proofs.Common.{◌≡◌, ◌-◌, ◌∙◌, List, [], Option, Some, ap, arith, get_or, set, subst, sym}
use Rattle.mp_model.specs.EventCore.{Copy}
use Rattle.mp_model.specs.Network.{junction_at, targets}
use Rattle.mp_round.specs.RoundView.{IsRoundOn, RoundView, with_report}
use Rattle.mp_round.specs.Showing.{shown_of}
use Rattle.mp_round.proofs.Hearing.{report_now}
use Rattle.mp_round.proofs.Placing.{row_places, target_known}
use Rattle.mp_round.proofs.round.Round.put_report.Goals as goal

pub of-report-requires-clause-known : goal.of-report-requires-clause-known
of-report-requires-clause-known c = rw c.targets.ensures (target_known c.args.net.now (junction_at c.args.net.now c.args.j) c.args.place c.requires.place)

pub put-requires-clause-place : goal.put-requires-clause-place
put-requires-clause-place c =
    let on = subst (IsRoundOn c.args.net.now) (sym c.self.view_is) c.requires.on in
    omega (arith, row_places c.args.net.now c.self.inside.copies c.args.j on.places c.requires.junction, c.requires.place)

pub returns : goal.returns
returns c =
    let net = c.args.net.now in
    let s = c.self.inside in
    let first : RoundView = shown_of s in
    let row = get_or s.copies (c.args.j - 1) [] in
    let ts = targets net (junction_at net c.args.j) in
    subst (λ (view : RoundView). record first { copies = c.put.new.self } ≡ with_report view c.args.j c.args.place (report_now net view (get_or ts c.args.place 0))) c.self.view_is
    (ap (λ (copies : List (List (Option Copy))). record first { copies = copies }) (c.put.ensures ∙ ap (λ copy. set s.copies (c.args.j - 1) (set row c.args.place (Some copy))) (c.of-report.ensures ∙ ap (λ ts. report_now net first (get_or ts c.args.place 0)) c.targets.ensures)))
