-- Certificates and vectors as the model has them.
use Rattle.std.specs.Prelude.{ℕ, List, map, unsigned_abs}
use Rattle.mp_model.specs.Certificate as model
use Rattle.mp_cert.specs.declared.types.Mix.{Mix}
use Rattle.mp_cert.specs.declared.types.Cert.{Cert}
use Rattle.mp_cert.specs.declared.types.Against.{Against}

-- This is the mix of the model.
abbrev pub mix_of : Mix → model.Mix
mix_of mix = record { whole = mix.whole; parts = mix.parts }

-- This is the certificate of the model.
abbrev pub cert_of : Cert → model.Cert
cert_of cert = record { d = cert.d; e = cert.e; h = cert.h; mixes = map mix_of cert.mix }

-- This is the vector of the model: its numbers are at least 0.
abbrev pub vector_of : Against → List ℕ
vector_of against = map unsigned_abs against.p
