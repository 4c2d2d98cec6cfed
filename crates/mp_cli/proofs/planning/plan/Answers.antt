use Rattle.std.proofs.Common.{refl, sym, subst, inl, inr}
use Rattle.mp_netfile.specs.Meaning.{file_meaning}
use Rattle.mp_cli.specs.declared.outcome.Outcome.{Outcome}
use Rattle.mp_cli.specs.Planning.{IsUnplanned}
use Rattle.mp_cli.proofs.OpeningLemmas.{reads_more}
use Rattle.mp_cli.proofs.PlanLemmas.{unplanned_so, plan_so}
use Rattle.mp_cli.proofs.planning.plan.Goals as goal

pub returns-in-Err-clause-means : goal.returns-in-Err-clause-means
returns-in-Err-clause-means g c = inl (c.in-Err.ensures.refused, record { input = refl; output = refl })

pub returns-in-Ok-make-clause-means : goal.returns-in-Ok-make-clause-means
returns-in-Ok-make-clause-means g c =
    inr (reads_more file_meaning _ _ c.in-Ok.net _ c.in-Ok.ensures.net (
      c.in-Ok.ensures.acceptable,
      plan_so c.in-Ok.net c.args.c c.in-Ok-make.plan c.stream_plan.result _ c.in-Ok.ensures.acceptable.network c.in-Ok-make.ensures.stated c.in-Ok-make.ensures.plan (c.stream_plan.ensures.so (g.St.Store.files c.args.store.now)),
    ))

pub returns-clause-means : goal.returns-clause-means
returns-clause-means g c =
    inr (reads_more file_meaning _ _ c.in-Ok.net _ c.in-Ok.ensures.net (
      c.in-Ok.ensures.acceptable,
      inl (subst (λ (outcome : Outcome). IsUnplanned outcome c.in-Ok.net c.args.c) (sym c.outcome_of_plan.ensures) (unplanned_so c.in-Err-make.fault c.in-Ok.net c.args.c c.in-Err-make.ensures.refused), record { input = refl; output = refl }),
    ))
