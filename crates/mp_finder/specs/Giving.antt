-- What the code's results say of the finder.
use Rattle.std.specs.Prelude.{◌≡◌, ◌≤ℤ◌, ◌*ℤ◌, ℕ, pos, List, Result, Ok, Err, Option}
use Rattle.std.specs.List.{AllByRecursion}
use Rattle.std.specs.declared.vec.Vec.{Vec}
use Rattle.mp_model.specs.Certificate.{Mix}
use Rattle.mp_model.specs.Guard.{Guard}
use Rattle.mp_finder.specs.Finding.{Finding, Guarded, NoRates, EndlessSweeps, PassesAt, LimitAt, FullAt, by_greens}
use Rattle.mp_finder.specs.declared.fault.FindFault.{FindFault}
use Rattle.mp_finder.specs.declared.fault.FindFault.TheVariants as fault

-- A result gives what the finder states: its guard, or the fault that ends it; out of memory says nothing.
abbrev pub GivesFinding : Result Guard FindFault → Finding → Type 0
GivesFinding (Ok guard) stated = stated ≡ Guarded guard
GivesFinding (Err fault.NoRates) stated = stated ≡ NoRates
GivesFinding (Err fault.Sweeps) stated = stated ≡ EndlessSweeps
GivesFinding (Err (fault.Overflow j)) stated = stated ≡ PassesAt j
GivesFinding (Err (fault.PivotLimit j)) stated = stated ≡ LimitAt j
GivesFinding (Err (fault.Full j)) stated = stated ≡ FullAt j
GivesFinding (Err fault.NoMemory) stated = Unit {0}

-- A result gives how the finder goes on at junction j: with its greens, or as the junction ends it.
abbrev pub GivesGreens : {A : Type 0} → ℕ → ℕ → ℕ → Option (List ℕ) → Result (Vec ℕ A) FindFault → Type 0
GivesGreens cycle lost j stated (Ok greens) = (go : List ℕ → Finding) → by_greens cycle lost j stated go ≡ go greens.items
GivesGreens cycle lost j stated (Err fault.NoRates) = ⊥
GivesGreens cycle lost j stated (Err fault.Sweeps) = ⊥
GivesGreens cycle lost j stated (Err (fault.Overflow i)) = (go : List ℕ → Finding) → by_greens cycle lost j stated go ≡ PassesAt i
GivesGreens cycle lost j stated (Err (fault.PivotLimit i)) = ⊥
GivesGreens cycle lost j stated (Err (fault.Full i)) = (go : List ℕ → Finding) → by_greens cycle lost j stated go ≡ FullAt i
GivesGreens cycle lost j stated (Err fault.NoMemory) = Unit {0}

-- A mix is one over the denominator D where its whole is at least 1, and each part at least 0 and at most the whole times D.
pub record IsMixOver (D : ℕ) (mix : Mix) : Type 0 where
  pub whole : pos 1 ≤ℤ mix.whole
  pub parts : AllByRecursion (λ part. (pos 0 ≤ℤ part) × (part ≤ℤ (mix.whole *ℤ pos D))) mix.parts
