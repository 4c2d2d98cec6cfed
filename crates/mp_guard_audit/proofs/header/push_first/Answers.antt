use Rattle.std.proofs.Common.{◌≡◌, ◌<◌, ◌^◌, ◌∙◌, ap, sym, subst}
use Rattle.std.specs.List.{All}
use Rattle.mp_model.specs.Guard.{Guard}
use Rattle.mp_guard_audit.proofs.HeadingLemmas.{rates_small}
use Rattle.mp_guard_audit.proofs.header.push_first.Goals as goal

pub push_line-requires-in_default-clause-small : goal.push_line-requires-in_default-clause-small
push_line-requires-in_default-clause-small c =
    let s = c.args.session.now in
    let is : c.rates.result.now ≡ s.guard.rates = c.rates.ensures ∙ ap (λ (x : Guard). x.rates) c.guard-guard.ensures in
    subst (All (λ n. n < 10 ^ 13)) (sym is) (rates_small s.net c.state.ensures.guarding.acceptable s.guard c.state.ensures.guarding.guards)
