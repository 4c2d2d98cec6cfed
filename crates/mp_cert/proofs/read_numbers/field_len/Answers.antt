use Rattle.std.proofs.Common.{sym}
use Rattle.mp_cert.proofs.FieldLemmas.{space_at, no_space}
use Rattle.mp_cert.proofs.read_numbers.field_len.Goals as goal

pub returns-in-Some : goal.returns-in-Some
returns-in-Some c = space_at c.args.bytes.now c.in-Some.at (sym c.in-Some.ensures)

pub returns-in-None : goal.returns-in-None
returns-in-None c = no_space c.args.bytes.now (sym c.in-None.ensures)
