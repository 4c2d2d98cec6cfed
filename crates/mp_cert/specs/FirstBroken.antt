-- What a fault of a certificate says.
use Rattle.std.specs.Prelude.{◌≡◌, ◌⊎◌, ◌++◌, ◌∷◌, List, None}
use Rattle.std.specs.List.{AllByRecursion}
use Rattle.mp_model.specs.Network.{Network}
use Rattle.mp_model.specs.Certificate.{Cert, DenominatorRule, ExcessRule, RateRule, WholeRule, PartRule, MassRule, ServeRule, BalanceRule}
use Rattle.mp_cert.specs.Rules.{holds}
use Rattle.mp_cert.specs.Checking.{rules_of}
use Rattle.mp_cert.specs.declared.types.CertFault.{CertFault}
use Rattle.mp_cert.specs.declared.types.CertFault.TheVariants.{D, E, H, Whole, Part, Mass, Serve, Balance, Overflow}

-- A certificate keeps the rule that a fault names. Overflow names no rule.
abbrev pub Keeps : Network → Cert → CertFault → Type 0
Keeps net cert D = DenominatorRule cert
Keeps net cert E = ExcessRule cert
Keeps net cert (H k) = RateRule cert k
Keeps net cert (Whole j) = WholeRule cert j
Keeps net cert (Part j s) = PartRule cert j s
Keeps net cert (Mass j) = MassRule cert j
Keeps net cert (Serve k) = ServeRule net cert k
Keeps net cert (Balance k) = BalanceRule net cert k
Keeps net cert Overflow = Unit {0}

-- A calculation of a rule exceeds 128 bits.
abbrev pub Passes : Network → Cert → CertFault → Type 0
Passes net cert rule = holds net cert rule ≡ None

-- A rule is reported as a fault: as itself where the certificate breaks it, and as an overflow where a calculation of it exceeds 128 bits.
abbrev pub IsToldAs : Network → Cert → CertFault → CertFault → Type 0
IsToldAs net cert rule fault = (¬ Keeps net cert rule × (fault ≡ rule)) ⊎ (Passes net cert rule × (fault ≡ Overflow))

-- A fault is reported of a rule of the certificate, and each rule before it is kept.
pub record IsFirstFault (net : Network) (cert : Cert) (fault : CertFault) : Type 0 where
  pub earlier : List CertFault
  pub rule : CertFault
  pub later : List CertFault
  pub order : rules_of net ≡ earlier ++ rule ∷ later
  pub kept : AllByRecursion (Keeps net cert) earlier
  pub told : IsToldAs net cert rule fault

-- No calculation of a rule exceeds 128 bits.
abbrev pub IsFormed : Network → Cert → CertFault → Type 0
IsFormed net cert rule = ¬ Passes net cert rule
