use Rattle.std.proofs.Common.{◌≡◌, ◌-◌, ◌∙◌, None, Some, ap, arith, get_or, subst, sym}
use Rattle.std.proofs.lemmas.List.{get_or_default}
use Rattle.mp_round.specs.RoundView.{IsRoundOn, RoundView}
use Rattle.mp_round.proofs.Deciding.{chose_before}
use Rattle.mp_round.proofs.Placing.{decided_count, on_stage}
use Rattle.mp_round.proofs.round.Round.decide.Goals as goal

pub index-requires : goal.index-requires
index-requires c =
    let on = subst (IsRoundOn c.args.net.now) (sym c.self.view_is) c.requires.on in
    omega (arith, decided_count c.args.net.now.junctions c.self.inside.decided.items on.decided, c.self.inside.decided.ok.0)

pub returns-in-Some-clause-applied : goal.returns-in-Some-clause-applied
returns-in-Some-clause-applied c =
    let on = subst (IsRoundOn c.args.net.now) (sym c.self.view_is) c.requires.on in
    let ds = c.self.inside.decided.items in
    let size = decided_count c.args.net.now.junctions ds on.decided in
    chose_before c.args.net.now c.args.self.now c.args.j c.in-Some.stage
    (subst (λ (round : RoundView). get_or round.decided (c.args.j - 1) None ≡ Some c.in-Some.stage) c.self.view_is
    (get_or_default ds (c.args.j - 1) None c.index.result.now (omega (arith, c.requires.junction)) ∙ ap (λ n. get_or ds (n - 1) c.index.result.now) (sym c.from.ensures) ∙ sym c.index.ensures ∙ c.in-Some.is))

pub returns-clause-on : goal.returns-clause-on
returns-clause-on c = subst (IsRoundOn c.args.net.now) (sym c.fix_stage-stage.ensures.fixed) (on_stage c.args.net.now c.args.self.now c.args.j c.fix_stage-stage.result c.fix_stage-stage.ensures.stage c.requires.on)
