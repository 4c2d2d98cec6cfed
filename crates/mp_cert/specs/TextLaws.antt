-- What is printed is read back.
use Rattle.std.specs.Prelude.{◌≡◌, ◌<◌, ◌^◌, ℤ, pos, ◌≤ℤ◌, ◌<ℤ◌, List, length, Ok}
use Rattle.std.specs.List.{AllByRecursion}
use Rattle.mp_model.specs.Certificate.{Cert, HasLengths}
use Rattle.mp_model.specs.Network.{Network}
use Rattle.mp_model.specs.NetworkRules.{IsInRange}
use Rattle.mp_cert.specs.Texts.{cert_text, vector_text}
use Rattle.mp_cert.specs.TextMeaning.{cert_meaning, vector_meaning}

-- A number of a text is a whole number from 0 to 2^127 - 1.
abbrev pub IsNumber : ℤ → Type 0
IsNumber n = (pos 0 ≤ℤ n) × (n <ℤ pos (2 ^ 127))

-- A certificate is one of a text where all its numbers are.
pub record IsWritable (cert : Cert) : Type 0 where
  pub denominator : IsNumber cert.d
  pub excess : IsNumber cert.e
  pub rates : AllByRecursion IsNumber cert.h
  pub mixes : AllByRecursion (λ mix. IsNumber mix.whole × AllByRecursion IsNumber mix.parts) cert.mixes

-- The text of a certificate with the lengths of a network in range means that certificate.
abbrev pub CertTextLaw : Type 0
CertTextLaw = (net : Network) (cert : Cert) → IsInRange net → HasLengths net cert → IsWritable cert → cert_meaning net (cert_text cert) ≡ Ok cert

-- The text of such a certificate has fewer than 100,000 bytes.
abbrev pub CertLengthLaw : Type 0
CertLengthLaw = (net : Network) (cert : Cert) → IsInRange net → HasLengths net cert → IsWritable cert → length (cert_text cert) < 100000

-- The text of a vector with a number per movement means that vector.
abbrev pub VectorTextLaw : Type 0
VectorTextLaw = (net : Network) (p : List ℤ) → length p ≡ length net.movements → AllByRecursion IsNumber p → vector_meaning net (vector_text p) ≡ Ok p

-- The text of such a vector has fewer than 100,000 bytes where the network is in range.
abbrev pub VectorLengthLaw : Type 0
VectorLengthLaw = (net : Network) (p : List ℤ) → IsInRange net → length p ≡ length net.movements → AllByRecursion IsNumber p → length (vector_text p) < 100000
