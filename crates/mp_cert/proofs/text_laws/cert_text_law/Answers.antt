use Rattle.std.proofs.Common.{arith}
use Rattle.mp_cert.proofs.WrittenLemmas.{cert_read_back}
use Rattle.mp_cert.proofs.text_laws.cert_text_law.Goals as goal

pub returns : goal.returns
returns c = λ net cert range lengths writable. cert_read_back net cert (omega (arith, range.junctions.1, lengths.mixes)) lengths writable
