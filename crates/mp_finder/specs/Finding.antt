-- The finder of a guard, as a stated calculation: the trial of the excess 0, and then the greens of each junction.
use Rattle.std.specs.Prelude.{◌≡◌, ◌≤◌, ℕ, ◌+◌, ◌*◌, cond, nat_le, true, List, [], ◌∷◌, ◌++◌, map, sum, unsigned_abs, Option, Some, None}
use Rattle.mp_model.specs.Certificate.{Cert, mix_at}
use Rattle.mp_model.specs.Guard.{Guard, Guards, guarded_rate, owing}
use Rattle.mp_model.specs.Network.{Network, movement_numbers, junction_numbers, has, entry}
use Rattle.mp_trial.specs.Trials.{Trial, Fits, Unfit, Endless, PassesIn, LimitIn, trial}
use Rattle.mp_finder.specs.Greens.{all_wanted, greens_by}

-- A finder finds a guard, finds that no rates fit, or ends: with a trial that doesn't end within the limit of sweeps, or at junction j, where a calculation exceeds 128 bits or comes to its limit of turns, or whose greens don't fit into the cycle.
pub data Finding : Type 0 where
  Guarded : Guard → Finding
  NoRates : Finding
  EndlessSweeps : Finding
  PassesAt : ℕ → Finding
  LimitAt : ℕ → Finding
  FullAt : ℕ → Finding

-- This is what the greens of a junction take of a cycle: their sum, and a lost period for each stage with a green.
abbrev pub taken : ℕ → List ℕ → ℕ
taken lost greens = sum greens + lost * owing greens

-- The finder goes on with the greens of junction j where they fit into the cycle, and ends there otherwise.
abbrev pub by_greens : ℕ → ℕ → ℕ → Option (List ℕ) → (List ℕ → Finding) → Finding
by_greens cycle lost j None go = PassesAt j
by_greens cycle lost j (Some greens) go = cond (nat_le (taken lost greens) cycle) (go greens) (FullAt j)

-- This is the guard of these numbers.
abbrev pub guard_with : ℕ → ℕ → ℕ → List ℕ → List (List ℕ) → Guard
guard_with cycle lost D h greens = record { cycle = cycle; lost = lost; denominator = D; rates = h; greens = greens }

-- This is the finder at the rates h from some junctions on, in order; the greens are those of the junctions before.
unfoldable pub found_by : Network → ℕ → ℕ → ℕ → Cert → List ℕ → List (List ℕ) → List ℕ → Finding
found_by net cycle lost D cert h greens [] = Guarded (guard_with cycle lost D h greens)
found_by net cycle lost D cert h greens (j ∷ js) =
    by_greens cycle lost j (greens_by net cycle D (all_wanted net cycle D h) j (mix_at cert j)) (λ own. found_by net cycle lost D cert h (greens ++ own ∷ []) js)

-- The finder goes on with the rates and the mixes of a trial that fits, and ends with any other.
abbrev pub by_trial : Network → ℕ → ℕ → ℕ → Trial → Finding
by_trial net cycle lost D (Fits cert) = found_by net cycle lost D cert (map unsigned_abs cert.h) [] (junction_numbers net)
by_trial net cycle lost D Unfit = NoRates
by_trial net cycle lost D Endless = EndlessSweeps
by_trial net cycle lost D (PassesIn j) = PassesAt j
by_trial net cycle lost D (LimitIn j) = LimitAt j

-- This is the finder of a guard with this cycle, these lost periods and the denominator D.
abbrev pub finding : Network → ℕ → ℕ → ℕ → Finding
finding net cycle lost D = by_trial net cycle lost D (trial net D 0)

-- A guard has the cycle, the lost periods of a change and the denominator that were asked for.
pub record IsAsked (C L D : ℕ) (guard : Guard) : Type 0 where
  pub cycle : guard.cycle ≡ C
  pub lost : guard.lost ≡ L
  pub denominator : guard.denominator ≡ D

-- No guard of the network has the denominator D.
abbrev pub HasNoGuard : Network → ℕ → Type 0
HasNoGuard net D = (guard : Guard) → Guards net guard → ¬ (guard.denominator ≡ D)

-- These rates are the least of all guards of the network with the denominator D.
abbrev pub AreLeast : Network → ℕ → List ℕ → Type 0
AreLeast net D rates = (guard : Guard) → Guards net guard → guard.denominator ≡ D → (k : ℕ) → has (movement_numbers net) k ≡ true → entry rates k ≤ guarded_rate guard k
