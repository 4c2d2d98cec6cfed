use Rattle.std.proofs.Common.{◌≡◌, ◌+◌, ◌∙◌, ℕ, List, ap, subst, sym}
use Rattle.std.proofs.lemmas.List.{with_items_is}
use Rattle.mp_model.specs.GuardedRun.{Account}
use Rattle.mp_model.specs.Network.{entry}
use Rattle.mp_press.specs.Queues.{naturals}
use Rattle.mp_guard_run.specs.Accounts.{AreInOrder, accounts_after}
use Rattle.mp_guard_run.proofs.Settled.{before_of, orders_after}
use Rattle.mp_guard_run.proofs.owed.Owed.pay.Goals as goal

pub returns-clause-order : goal.returns-clause-order
returns-clause-order c =
    let net = c.args.net.now in
    let guard = c.args.guard.now in
    let q : ℕ → ℕ = entry (naturals c.args.counts.now) in
    let then : c.settle_all.new.accounts ≡ accounts_after net guard q c.args.period c.args.self.now c.args.stages.now =
    c.settle_all.ensures ∙ ap (λ (xs : List Account). accounts_after net guard q c.args.period xs c.args.stages.now) (c.deref_mut.ensures.value ∙ c.self.view_is) in
    subst (AreInOrder net guard (c.args.period + 1)) (sym (with_items_is c.self.inside.accounts c.settle_all.new.accounts (c.settle_all.auto.accounts ∙ c.deref_mut.ensures.len) ∙ then))
    (orders_after net guard c.requires.guards c.args.period c.args.self.now c.requires.order q c.args.stages.now c.requires.candidates)

pub returns-clause-before : goal.returns-clause-before
returns-clause-before c = before_of c.args.net.now c.args.guard.now (c.args.period + 1) _ (returns-clause-order c)
