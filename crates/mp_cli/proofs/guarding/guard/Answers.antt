use Rattle.std.proofs.Common.{refl, sym, subst, inl, inr}
use Rattle.mp_netfile.specs.Meaning.{file_meaning}
use Rattle.mp_cli.proofs.OpeningLemmas.{reads_more}
use Rattle.mp_cli.proofs.GuardLemmas.{search_so, writes_guard}
use Rattle.mp_cli.specs.declared.outcome.Outcome.{Outcome}
use Rattle.mp_cli.specs.Guarding.{IsUnguarded}
use Rattle.mp_cli.proofs.guarding.guard.Goals as goal

pub returns-in-Err-find-clause-means : goal.returns-in-Err-find-clause-means
returns-in-Err-find-clause-means g c = λ left.
    inr (reads_more file_meaning _ _ c.in-Ok.net _ c.in-Ok.ensures.net (
      c.in-Ok.ensures.acceptable,
      inl (
        subst (λ (outcome : Outcome). IsUnguarded outcome c.in-Ok.net c.args.cycle c.args.lost c.args.d) (sym c.outcome_of_finding.ensures) (search_so c.in-Err-find.fault c.in-Ok.net c.args.cycle c.args.lost c.args.d c.in-Err-find.ensures.calculation c.in-Err-find.ensures.none),
        record { input = refl; output = refl },
      ),
    ))

pub returns-in-Ok-put_guard-clause-means : goal.returns-in-Ok-put_guard-clause-means
returns-in-Ok-put_guard-clause-means g c = λ left.
    inr (reads_more file_meaning _ _ c.in-Ok.net _ c.in-Ok.ensures.net (
      c.in-Ok.ensures.acceptable,
      inr (record {
        guard = c.in-Ok-find.guard;
        reached = c.in-Ok-find.ensures.calculation;
        is = inr (
          c.in-Ok-try_bursts.ensures.rest,
          writes_guard _ c.in-Ok.net c.args.cycle c.args.lost c.args.d _ c.in-Ok-find.guard c.in-Ok.ensures.acceptable.network c.in-Ok-find.ensures.numbers c.in-Ok-find.ensures.guards c.in-Ok-find.ensures.least c.in-Ok-try_bursts.ensures.rest (refl, c.in-Ok-put_guard.ensures.bytes),
        );
      }),
    ))

pub returns-clause-means : goal.returns-clause-means
returns-clause-means g c = λ left.
    inr (reads_more file_meaning _ _ c.in-Ok.net _ c.in-Ok.ensures.net (
      c.in-Ok.ensures.acceptable,
      inr (record {
        guard = c.in-Ok-find.guard;
        reached = c.in-Ok-find.ensures.calculation;
        is = inr (
          c.in-Ok-try_bursts.ensures.rest,
          writes_guard _ c.in-Ok.net c.args.cycle c.args.lost c.args.d _ c.in-Ok-find.guard c.in-Ok.ensures.acceptable.network c.in-Ok-find.ensures.numbers c.in-Ok-find.ensures.guards c.in-Ok-find.ensures.least c.in-Ok-try_bursts.ensures.rest (refl, c.in-Err-Failed.ensures.bytes),
        );
      }),
    ))
