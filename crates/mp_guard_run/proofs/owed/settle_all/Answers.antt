use Rattle.std.proofs.Common.{◌≡◌, ◌≤◌, ◌+◌, ◌-◌, ◌∙◌, ap, arith, get_or, length, subst, sym}
use Rattle.std.specs.Prelude.{slice_index_or}
use Rattle.std.proofs.lemmas.List.{get_or_default}
use Rattle.mp_model.specs.GuardedChoice.{no_account}
use Rattle.mp_model.specs.GuardedRun.{Account}
use Rattle.mp_model.specs.Network.{junction_at, entry}
use Rattle.mp_press.specs.Queues.{naturals}
use Rattle.mp_guard_run.specs.Accounts.{account_after, account_among}
use Rattle.mp_guard_run.proofs.Places.{each_number, known_at, order_at}
use Rattle.mp_guard_run.proofs.owed.settle_all.Goals as goal

pub settle-requires-clause-one_each : goal.settle-requires-clause-one_each
settle-requires-clause-one_each c =
    let net = c.args.net.now in
    let i = c.loop-i.i in
    let back : i ≡ (i + 1) - 1 = omega arith in
    let account : get_or c.loop-i.accounts c.from-at.result c.index-accounts-at.result ≡ account_among c.args.accounts.now (i + 1) =
    get_or_default c.loop-i.accounts c.from-at.result c.index-accounts-at.result no_account (omega (arith, c.loop-i.auto.accounts, c.requires.order.size)) ∙ ap (λ n. get_or c.loop-i.accounts n no_account) c.from-at.ensures ∙ c.loop-i.invariant.rest i (omega arith)
    ∙ ap (λ n. get_or c.args.accounts.now n no_account) back in
    ap (λ (a : Account). length a.owed) account ∙ (order_at net c.args.guard.now c.args.period c.args.accounts.now c.requires.order (i + 1) (omega arith) (omega arith)).one_each

pub settle-requires-clause-stage : goal.settle-requires-clause-stage
settle-requires-clause-stage c =
    let net = c.args.net.now in
    let i = c.loop-i.i in
    let at : c.from-at.result ≡ (i + 1) - 1 = omega arith in
    subst (λ n. (1 ≤ slice_index_or c.args.stages.now n 0) × (slice_index_or c.args.stages.now n 0 ≤ length (junction_at net (i + 1)).stages)) (sym at) (known_at net c.args.stages.now c.requires.known (i + 1) (omega arith) (omega arith))

pub returns : goal.returns
returns c =
    let net = c.args.net.now in
    each_number (account_after net c.args.guard.now (entry (naturals c.args.counts.now)) c.args.period c.args.accounts.now c.args.stages.now) c.loop-i.accounts (length net.junctions) no_account (omega (arith, c.loop-i.auto.accounts, c.requires.order.size))
    (λ m lt. c.loop-i.invariant.done m (omega arith))
