-- What the code's results say of trials and of the search.
use Rattle.std.specs.Prelude.{◌≡◌, ℕ, ℤ, List, drop, Option, Some, None, Result, Ok, Err}
use Rattle.mp_model.specs.Certificate as model
use Rattle.mp_num.specs.Row.{entry}
use Rattle.mp_simplex.specs.Outcome.{Outcome}
use Rattle.mp_cert.specs.declared.types.Cert.{Cert}
use Rattle.mp_cert.specs.declared.types.Mix.{Mix}
use Rattle.mp_cert.specs.Views.{cert_of, mix_of}
use Rattle.mp_trial.specs.Trials.{Trial, Fits, Unfit, Endless, PassesIn, LimitIn, by_outcome}
use Rattle.mp_trial.specs.Search.{Scaled, Found, NoneAt, SweepsAt, PassesAt, LimitAt}
use Rattle.mp_scaled.specs.declared.fault.ScaleFault.{ScaleFault}
use Rattle.mp_scaled.specs.declared.fault.ScaleFault.TheVariants as fault

-- A result gives what a search states: its certificate, none, or the trial or junction that ends it; out of memory says nothing.
abbrev pub GivesScaled : Result (Option Cert) ScaleFault → Scaled → Type 0
GivesScaled (Ok (Some cert)) stated = stated ≡ Found (cert_of cert)
GivesScaled (Ok None) stated = stated ≡ NoneAt
GivesScaled (Err (fault.Sweeps e)) stated = stated ≡ SweepsAt e
GivesScaled (Err (fault.Overflow j)) stated = stated ≡ PassesAt j
GivesScaled (Err (fault.PivotLimit j)) stated = stated ≡ LimitAt j
GivesScaled (Err fault.NoMemory) stated = Unit {0}

-- A result gives what the trial of e states.
abbrev pub GivesTrial : ℕ → Result (Option Cert) ScaleFault → Trial → Type 0
GivesTrial e (Ok (Some cert)) stated = stated ≡ Fits (cert_of cert)
GivesTrial e (Ok None) stated = stated ≡ Unfit
GivesTrial e (Err (fault.Sweeps tried)) stated = (stated ≡ Endless) × (tried ≡ e)
GivesTrial e (Err (fault.Overflow j)) stated = stated ≡ PassesIn j
GivesTrial e (Err (fault.PivotLimit j)) stated = stated ≡ LimitIn j
GivesTrial e (Err fault.NoMemory) stated = Unit {0}

-- A result gives how a trial goes on by the outcome of the program of junction j: with a mix, or as the junction ends it.
abbrev pub GivesMix : ℕ → ℕ → Outcome → Result (Option Mix) ScaleFault → Type 0
GivesMix D j outcome (Ok (Some mix)) = (go : model.Mix → Trial) → by_outcome D j outcome go ≡ go (mix_of mix)
GivesMix D j outcome (Ok None) = (go : model.Mix → Trial) → by_outcome D j outcome go ≡ Unfit
GivesMix D j outcome (Err (fault.Sweeps e)) = ⊥
GivesMix D j outcome (Err (fault.Overflow i)) = (go : model.Mix → Trial) → by_outcome D j outcome go ≡ PassesIn i
GivesMix D j outcome (Err (fault.PivotLimit i)) = (go : model.Mix → Trial) → by_outcome D j outcome go ≡ LimitIn i
GivesMix D j outcome (Err fault.NoMemory) = Unit {0}

-- A result gives what the rest of a search states, once some trial fits.
abbrev pub GivesFound : Result Cert ScaleFault → Scaled → Type 0
GivesFound (Ok cert) stated = stated ≡ Found (cert_of cert)
GivesFound (Err (fault.Sweeps e)) stated = stated ≡ SweepsAt e
GivesFound (Err (fault.Overflow j)) stated = stated ≡ PassesAt j
GivesFound (Err (fault.PivotLimit j)) stated = stated ≡ LimitAt j
GivesFound (Err fault.NoMemory) stated = Unit {0}

-- This is the certificate of a row, which has the denominator, the excess and then the rates, and of some mixes.
abbrev pub certificate_in : List ℤ → List model.Mix → model.Cert
certificate_in row mixes = record { d = entry row 0; e = entry row 1; h = drop 2 row; mixes = mixes }
