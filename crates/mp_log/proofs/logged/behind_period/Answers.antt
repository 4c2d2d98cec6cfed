use Rattle.std.proofs.Common.{◌∙◌}
use Rattle.mp_log.proofs.LoggedLemmas.{behind_letter}
use Rattle.mp_log.proofs.logged.behind_period.Goals as goal

pub returns : goal.returns
returns c = behind_letter c.args.line.now c.in-Some.number.now c.in-Some-behind.letter.now c.as_bytes.result.now c.args.period c.behind-3.result c.in-Some.ensures (c.as_bytes.ensures.value ∙ c.format.ensures.text) c.in-Some-behind.ensures c.behind-3.ensures
