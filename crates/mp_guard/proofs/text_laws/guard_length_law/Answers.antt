use Rattle.mp_guard.proofs.TextLemmas.{guard_length}
use Rattle.mp_guard.proofs.text_laws.guard_length_law.Goals as goal

pub returns : goal.returns
returns c = guard_length
