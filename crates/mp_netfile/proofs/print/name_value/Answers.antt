use Rattle.mp_netfile.proofs.NameText.{name-utf8}
use Rattle.mp_netfile.proofs.print.name_value.Goals as goal

pub unreachable-requires : goal.unreachable-requires
unreachable-requires c = c.in-Err.ensures.cases.0 (name-utf8 c.bytes.result.now (rw c.bytes.ensures.value c.bytes.ensures.name))
