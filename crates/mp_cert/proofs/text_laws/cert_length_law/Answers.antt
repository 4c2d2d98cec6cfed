use Rattle.mp_cert.proofs.TextLengthLemmas.{cert_length}
use Rattle.mp_cert.proofs.text_laws.cert_length_law.Goals as goal

pub returns : goal.returns
returns c = cert_length
