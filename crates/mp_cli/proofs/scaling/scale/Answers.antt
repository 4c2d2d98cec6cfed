use Rattle.std.proofs.Common.{ℕ, refl, sym, subst, inl, inr, Err}
use Rattle.mp_netfile.specs.Meaning.{file_meaning}
use Rattle.mp_cli.proofs.OpeningLemmas.{reads_more}
use Rattle.mp_cert.specs.Views.{cert_of}
use Rattle.mp_model.specs.Network.{Network}
use Rattle.mp_trial.specs.Search.{scaled}
use Rattle.mp_scaled.specs.Giving.{GivesScaled}
use Rattle.mp_scaled.specs.declared.fault.ScaleFault.{ScaleFault}
use Rattle.mp_scaled.specs.declared.fault.ScaleFault.TheVariants as fault
use Rattle.mp_cli.specs.declared.outcome.Outcome.{Outcome}
use Rattle.mp_cli.specs.Outcomes.{outcome_of_scaling}
use Rattle.mp_cli.specs.Scaling.{IsUnscaled}
use Rattle.mp_cli.proofs.scaling.scale.Goals as goal

search_so : (broken : ScaleFault) (net : Network) (d : ℕ) → GivesScaled (Err broken) (scaled net d) → IsUnscaled (outcome_of_scaling broken) net d
search_so (fault.Sweeps e) net d gives = gives
search_so (fault.Overflow j) net d gives = gives
search_so (fault.PivotLimit j) net d gives = gives
search_so fault.NoMemory net d gives = tt

pub returns-in-Err-clause-means : goal.returns-in-Err-clause-means
returns-in-Err-clause-means g c = λ left. inl (c.in-Err.ensures.refused, record { input = refl; output = refl })

pub returns-in-Ok-None-clause-means : goal.returns-in-Ok-None-clause-means
returns-in-Ok-None-clause-means g c = λ left. inr (reads_more file_meaning _ _ c.in-Ok.net _ c.in-Ok.ensures.net (c.in-Ok.ensures.acceptable, inl ((rw c.in-Ok-None.field-0-is at c.in-Ok-None.ensures.calculation, rw c.in-Ok-None.field-0-is at c.in-Ok-None.ensures.none), record { input = refl; output = refl })))

pub returns-in-Err-greatest-clause-means : goal.returns-in-Err-greatest-clause-means
returns-in-Err-greatest-clause-means g c = λ left. inr (reads_more file_meaning _ _ c.in-Ok.net _ c.in-Ok.ensures.net (c.in-Ok.ensures.acceptable, inl (subst (λ (outcome : Outcome). IsUnscaled outcome c.in-Ok.net c.args.d) (sym c.outcome_of_scaling.ensures) (search_so c.in-Err-greatest.fault c.in-Ok.net c.args.d c.in-Err-greatest.ensures.calculation), record { input = refl; output = refl })))

pub returns-in-Ok-print_cert-clause-means : goal.returns-in-Ok-print_cert-clause-means
returns-in-Ok-print_cert-clause-means g c = λ left. inr (reads_more file_meaning _ _ c.in-Ok.net _ c.in-Ok.ensures.net (c.in-Ok.ensures.acceptable, inr (record { cert = cert_of c.in-Ok-Some.cert; reached = rw c.in-Ok-Some.field-0-is at c.in-Ok-Some.ensures.calculation; is = record { greatest = rw c.in-Ok-Some.field-0-is at c.in-Ok-Some.ensures.found; answers = (refl, c.in-Ok-print_cert.ensures.bytes) } })))

pub returns-clause-means : goal.returns-clause-means
returns-clause-means g c = λ left. inr (reads_more file_meaning _ _ c.in-Ok.net _ c.in-Ok.ensures.net (c.in-Ok.ensures.acceptable, inr (record { cert = cert_of c.in-Ok-Some.cert; reached = rw c.in-Ok-Some.field-0-is at c.in-Ok-Some.ensures.calculation; is = record { greatest = rw c.in-Ok-Some.field-0-is at c.in-Ok-Some.ensures.found; answers = (refl, c.in-Err-print_cert.ensures.bytes) } })))
