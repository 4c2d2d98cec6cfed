use Rattle.std.proofs.Common.{refl, inl, inr}
use Rattle.mp_netfile.specs.Meaning.{file_meaning}
use Rattle.mp_cli.proofs.OpeningLemmas.{reads_more}
use Rattle.mp_cli.proofs.GrowthLemmas.{writes_growth}
use Rattle.mp_cli.proofs.overloading.overload.Goals as goal

pub returns-in-Err-clause-means : goal.returns-in-Err-clause-means
returns-in-Err-clause-means g c = λ left. inl (c.in-Err.ensures.refused, record { input = refl; output = refl })

pub returns-in-Err-overloaded-clause-means : goal.returns-in-Err-overloaded-clause-means
returns-in-Err-overloaded-clause-means g c = λ left. inr (reads_more file_meaning _ _ c.in-Ok.net _ c.in-Ok.ensures.net (c.in-Ok.ensures.acceptable, inl (c.in-Err-overloaded.ensures.refused, record { input = refl; output = refl })))

pub returns-in-Err-tell-clause-means : goal.returns-in-Err-tell-clause-means
returns-in-Err-tell-clause-means g c = λ left.
    inr (reads_more file_meaning _ _ c.in-Ok.net _ c.in-Ok.ensures.net (
      c.in-Ok.ensures.acceptable,
      inr (record {
        vector = c.in-Ok-overloaded.against.p;
        shown = c.in-Ok-overloaded.ensures.shown;
        is = inl (c.in-Err-tell.ensures.refused, record { input = refl; output = refl });
      }),
    ))

pub returns-in-Ok-put_told-clause-means : goal.returns-in-Ok-put_told-clause-means
returns-in-Ok-put_told-clause-means g c = λ left.
    inr (reads_more file_meaning _ _ c.in-Ok.net _ c.in-Ok.ensures.net (
      c.in-Ok.ensures.acceptable,
      inr (record {
        vector = c.in-Ok-overloaded.against.p;
        shown = c.in-Ok-overloaded.ensures.shown;
        is = inr (c.in-Ok-tell.ensures.even, (c.in-Ok-tell.told, c.in-Ok-tell.ensures.told), writes_growth c.in-Ok.net c.in-Ok-overloaded.against.p c.in-Ok-tell.told _ _ c.in-Ok.ensures.acceptable.network c.in-Ok-overloaded.ensures.shown c.in-Ok-tell.ensures.so (refl, c.in-Ok-put_told.ensures.bytes));
      }),
    ))

pub returns-clause-means : goal.returns-clause-means
returns-clause-means g c = λ left.
    inr (reads_more file_meaning _ _ c.in-Ok.net _ c.in-Ok.ensures.net (
      c.in-Ok.ensures.acceptable,
      inr (record {
        vector = c.in-Ok-overloaded.against.p;
        shown = c.in-Ok-overloaded.ensures.shown;
        is = inr (c.in-Ok-tell.ensures.even, (c.in-Ok-tell.told, c.in-Ok-tell.ensures.told), writes_growth c.in-Ok.net c.in-Ok-overloaded.against.p c.in-Ok-tell.told _ _ c.in-Ok.ensures.acceptable.network c.in-Ok-overloaded.ensures.shown c.in-Ok-tell.ensures.so (refl, c.in-Err-put_told.ensures.bytes));
      }),
    ))
