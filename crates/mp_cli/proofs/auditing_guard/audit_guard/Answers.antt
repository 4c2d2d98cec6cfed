use Rattle.std.proofs.Common.{refl, inl, inr}
use Rattle.mp_guard.specs.GuardText.{guard_meaning}
use Rattle.mp_netfile.specs.Meaning.{file_meaning}
use Rattle.mp_cli.proofs.OpeningLemmas.{reads_more, reads_before, text_before}
use Rattle.mp_cli.proofs.auditing_guard.audit_guard.Goals as goal

pub returns-in-Err-clause-means : goal.returns-in-Err-clause-means
returns-in-Err-clause-means g c = inl (c.in-Err.ensures.refused, record { input = refl; output = refl })

pub returns-in-Err-open_guard-clause-means : goal.returns-in-Err-open_guard-clause-means
returns-in-Err-open_guard-clause-means g c = inr (reads_more file_meaning _ _ c.in-Ok.net _ c.in-Ok.ensures.net (c.in-Ok.ensures.acceptable, inl (text_before _ _ (guard_meaning c.in-Ok.net) _ _ _ c.in-Ok.ensures.same c.in-Err-open_guard.ensures.refused, record { input = refl; output = refl })))

pub returns-in-Ok-check-clause-means : goal.returns-in-Ok-check-clause-means
returns-in-Ok-check-clause-means g c =
    inr (reads_more file_meaning _ _ c.in-Ok.net _ c.in-Ok.ensures.net (
      c.in-Ok.ensures.acceptable,
      inr (reads_before (guard_meaning c.in-Ok.net) _ _ _ _ c.in-Ok.ensures.same (reads_more (guard_meaning c.in-Ok.net) _ _ c.in-Ok-open_guard.guard _ c.in-Ok-open_guard.ensures.ok (inr (c.in-Ok-check.ensures.accepts.0 refl, c.audit_by.ensures.so (g.St.Store.files c.args.store.now))))),
    ))

pub returns-clause-means : goal.returns-clause-means
returns-clause-means g c =
    inr (reads_more file_meaning _ _ c.in-Ok.net _ c.in-Ok.ensures.net (
      c.in-Ok.ensures.acceptable,
      inr (reads_before (guard_meaning c.in-Ok.net) _ _ _ _ c.in-Ok.ensures.same (reads_more (guard_meaning c.in-Ok.net) _ _ c.in-Ok-open_guard.guard _ c.in-Ok-open_guard.ensures.ok (inl (c.in-Err-check.ensures.first, record { input = refl; output = refl })))),
    ))
