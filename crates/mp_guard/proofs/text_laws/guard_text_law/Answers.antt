use Rattle.mp_guard.proofs.TextLemmas.{guard_read_back}
use Rattle.mp_guard.proofs.text_laws.guard_text_law.Goals as goal

pub returns : goal.returns
returns c = guard_read_back
