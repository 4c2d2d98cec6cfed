use Rattle.std.proofs.Common.{◌∙◌, ap, refl, inl, inr}
use Rattle.mp_netfile.specs.Meaning.{file_meaning, text_meaning}
use Rattle.mp_cli.proofs.OpeningLemmas.{reads_more}
use Rattle.mp_cli.proofs.showing.show.Goals as goal

pub returns-in-Err-clause-means : goal.returns-in-Err-clause-means
returns-in-Err-clause-means g c = λ left. inl (c.in-Err.ensures.refused, record { input = refl; output = refl })

pub returns-in_default-clause-means : goal.returns-in_default-clause-means
returns-in_default-clause-means g c = λ left. inr (reads_more file_meaning _ _ c.in-Ok.net _ c.in-Ok.ensures.net (c.in-Ok.ensures.acceptable, inl (refl, record { input = refl; output = refl })))

pub returns-in-Ok-put-clause-means : goal.returns-in-Ok-put-clause-means
returns-in-Ok-put-clause-means g c = λ left. inr (reads_more file_meaning _ _ c.in-Ok.net _ c.in-Ok.ensures.net (c.in-Ok.ensures.acceptable, inr (record { text = c.as_bytes.result.now; means = ap text_meaning c.as_bytes.ensures.value ∙ c.in-Ok-print_net.ensures.means; answers = (refl, c.in-Ok-put.ensures.bytes) })))

pub returns-clause-means : goal.returns-clause-means
returns-clause-means g c = λ left. inr (reads_more file_meaning _ _ c.in-Ok.net _ c.in-Ok.ensures.net (c.in-Ok.ensures.acceptable, inr (record { text = c.as_bytes.result.now; means = ap text_meaning c.as_bytes.ensures.value ∙ c.in-Ok-print_net.ensures.means; answers = (refl, c.in-Err-put.ensures.bytes) })))
