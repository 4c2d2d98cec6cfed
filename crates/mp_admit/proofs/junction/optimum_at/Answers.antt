use Rattle.std.proofs.Common.{◌∙◌, ap, sym, drop}
use Rattle.mp_simplex.specs.declared.Lp.{Lp}
use Rattle.mp_simplex.specs.Outcome.{maximised}
use Rattle.mp_verdict.proofs.ScoreLaw.{never_endless}
use Rattle.mp_admit.proofs.junction.optimum_at.Goals as goal

pub unreachable-requires : goal.unreachable-requires
unreachable-requires c =
    let ray = rw c.in-Err-Unbounded.field-0-is at c.in-Err-Unbounded.ensures.calculation in
    never_endless c.args.net.now c.shares-shares.ensures.acceptable.network c.args.j c.requires.junction.0 c.requires.junction.1 (drop 2 c.args.rates.now) c.args.limit _
    (ap (λ (lp : Lp). maximised lp c.args.limit) (sym c.in-Ok.ensures) ∙ ray)
