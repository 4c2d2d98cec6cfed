use Rattle.std.proofs.Common.{◌≡◌, ◌≤◌, ◌-◌, ◌∙◌, ℕ, Option, ap, arith, get_or, length, subst, sym}
use Rattle.std.specs.Prelude.{IfSome, slice_index_or}
use Rattle.std.proofs.lemmas.List.{get_or_default}
use Rattle.mp_model.specs.GuardedChoice.{no_account}
use Rattle.mp_model.specs.GuardedRun.{Account}
use Rattle.mp_model.specs.Network.{junction_at}
use Rattle.mp_guard_run.specs.Accounts.{account_among}
use Rattle.mp_guard_run.proofs.Places.{before_at, known_at}
use Rattle.mp_guard_run.proofs.owed.is_green_in.Goals as goal

pub is_green-requires-clause-known : goal.is_green-requires-clause-known
is_green-requires-clause-known c =
    let net = c.args.net.now in
    let j = c.junction_of-j.result in
    let known = c.junction_of-j.ensures.known in
    let at : c.from-at.result - 1 ≡ j - 1 = ap (λ n. n - 1) c.from-at.ensures in
    let account : c.index-accounts-at.result ≡ account_among c.args.accounts.now j =
    c.index-accounts-at.is ∙ get_or_default c.args.accounts.now (c.from-at.result - 1) c.index-accounts-at.result no_account (omega (arith, known, at, c.requires.accounts)) ∙ ap (λ n. get_or c.args.accounts.now n no_account) at in
    subst (λ (b : Option ℕ). IfSome b (λ r. (1 ≤ r) × (r ≤ length (junction_at net j).stages))) (sym (c.before-2.ensures ∙ ap (λ (a : Account). a.before) account)) (before_at net c.args.accounts.now c.requires.before j known.0 known.1)

pub is_green-requires-clause-stage : goal.is_green-requires-clause-stage
is_green-requires-clause-stage c =
    let net = c.args.net.now in
    let j = c.junction_of-j.result in
    let known = c.junction_of-j.ensures.known in
    let at : c.from-at.result - 1 ≡ j - 1 = ap (λ n. n - 1) c.from-at.ensures in
    subst (λ n. (1 ≤ slice_index_or c.args.stages.now n 0) × (slice_index_or c.args.stages.now n 0 ≤ length (junction_at net j).stages)) (sym at) (known_at net c.args.stages.now c.requires.known j known.0 known.1)
