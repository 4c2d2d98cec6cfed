use Rattle.std.proofs.Common.{◌∙◌, ap, ℕ, length, sym, subst}
use Rattle.std.proofs.lemmas.List.FromFn.{length-map-range_with_len}
use Rattle.mp_cli.specs.declared.outcome.Outcome.{Outcome}
use Rattle.mp_cli.specs.Guarding.{HasNoBursts}
use Rattle.mp_cli.proofs.GuardLemmas.{no_bursts}
use Rattle.mp_cli.proofs.GuardRunLemmas.{under_session}
use Rattle.mp_cli.proofs.guard_session.open_guard_session.Goals as goal

pub returns-in-Err-clause-refused : goal.returns-in-Err-clause-refused
returns-in-Err-clause-refused c =
    subst (λ (outcome : Outcome). HasNoBursts outcome c.args.net.now c.args.guard.now) (sym c.outcome_of_bursts.ensures)
    (no_bursts c.in-Err.fault c.args.net.now c.args.guard.now c.in-Ok.surpluses.items c.in-Ok.ensures (λ same. rw c.deref.ensures.value at c.in-Err.ensures.sweeps same))

pub returns-clause-bounds : goal.returns-clause-bounds
returns-clause-bounds c = ap (length {A = ℕ}) c.in-Ok-open.ensures.bounds ∙ length-map-range_with_len _ 1 (length c.args.net.now.movements)

pub returns-clause-waits : goal.returns-clause-waits
returns-clause-waits c = ap (length {A = ℕ}) c.in-Ok-open.ensures.waits ∙ length-map-range_with_len _ 1 (length c.args.net.now.movements)

pub returns-clause-runs : goal.returns-clause-runs
returns-clause-runs c =
    let s = c.in-Ok-open.session in
    let guarding = c.state.ensures.guarding in
    under_session s c.args.net.now c.args.guard.now c.in-Ok-open.ensures.net c.in-Ok-open.ensures.guard guarding c.in-Ok-open.ensures.start (c.controlled_law.ensures s.net guarding.acceptable.network s.guard guarding.guards)
