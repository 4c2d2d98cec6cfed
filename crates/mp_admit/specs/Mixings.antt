-- The certificate of some rates.
use Rattle.mp_model.specs.Network.{Network}
use Rattle.mp_model.specs.Certificate.{Cert}
use Rattle.mp_verdict.specs.Rates.{Rates}
use Rattle.mp_verdict.specs.Mixes.{mixes, certificate_of}
use Rattle.mp_verdict.specs.Stated.{Stated, Reached, then}

-- This is the certificate of some rates, with the mixes of all junctions.
abbrev pub certified_with : Network → Rates → Stated Cert
certified_with net rates = then (mixes net rates) (λ list. Reached (certificate_of rates list))
