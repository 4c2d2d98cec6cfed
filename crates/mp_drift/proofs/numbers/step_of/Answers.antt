use Rattle.std.proofs.Common.{length, pos, ap, ◌∙◌, arith, unsigned_abs}
use Rattle.mp_model.specs.Bounds.{step_term}
use Rattle.mp_drift.proofs.Limits.{limits, step_few}
use Rattle.mp_drift.proofs.Loops.{value_at, value_count}
use Rattle.mp_drift.proofs.numbers.step_of.Goals as goal

pub term_at-requires : goal.term_at-requires
term_at-requires c = let size = value_count (λ k. pos (step_term c.args.net.now k)) (length c.args.net.now.movements) c.args.m.now c.requires.steps in let known = c.requires.known in (known.0, omega arith)

pub returns-clause-value : goal.returns-clause-value
returns-clause-value c =
    let net = c.args.net.now in
    c.term_at.ensures ∙ ap unsigned_abs (value_at (λ k. pos (step_term net k)) (length net.movements) c.args.number (pos 0) c.args.m.now c.requires.steps c.requires.known.0 c.requires.known.1)

pub returns-clause-few : goal.returns-clause-few
returns-clause-few c = omega (arith, returns-clause-value c, step_few c.args.net.now c.args.number (limits c.args.net.now c.args.number c.shares-shares.ensures.acceptable c.requires.known.0 c.requires.known.1))
