use Rattle.mp_cert.proofs.TextLengthLemmas.{vector_length}
use Rattle.mp_cert.proofs.text_laws.vector_length_law.Goals as goal

pub returns : goal.returns
returns c = vector_length
