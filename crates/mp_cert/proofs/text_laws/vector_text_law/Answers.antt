use Rattle.mp_cert.proofs.WrittenLemmas.{vector_read_back}
use Rattle.mp_cert.proofs.text_laws.vector_text_law.Goals as goal

pub returns : goal.returns
returns c = vector_read_back
