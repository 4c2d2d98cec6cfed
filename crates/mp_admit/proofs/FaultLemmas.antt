-- Faults that are passed on.
use Rattle.std.proofs.Common.{◌≡◌, Option, Some, None, Err, refl, ap, ◌∙◌}
use Rattle.mp_flow.specs.declared.network.Place.{Place}
use Rattle.mp_flow.specs.declared.network.CalcFault.{CalcFault}
use Rattle.mp_flow.specs.declared.network.CalcFault.TheVariants as Calculating
use Rattle.mp_verdict.specs.Stated.{Stated, PassesAt, at_place, then, Gives}

-- a fault of a part at a place is one of the whole at the place
pub fault_kept : {X X' Y Y' : Type 0} (seen : X → Y) (seen' : X' → Y') (place : Place) (fault : CalcFault) (o : Option Y) (p : Option Y') → (o ≡ None → p ≡ None) → Gives seen (Err fault) (at_place place o) → Gives seen' (Err fault) (at_place place p)
fault_kept seen seen' place (Calculating.Overflow q) None p h g = let e : p ≡ None = h refl in let same : place ≡ q = cc in rw e (ap PassesAt same)
fault_kept seen seen' place (Calculating.Overflow q) (Some y) p h g = cc
fault_kept seen seen' place (Calculating.PivotLimit j) None p h g = cc
fault_kept seen seen' place (Calculating.PivotLimit j) (Some y) p h g = cc
fault_kept seen seen' place Calculating.NoMemory o p h g = tt

-- a fault of the first part is one of the whole
pub fault_then : {X X' Y Y' : Type 0} (seen : X → Y) (seen' : X' → Y') (fault : CalcFault) (a : Stated Y) (go : Y → Stated Y') (whole : Stated Y') → whole ≡ then a go → Gives seen (Err fault) a → Gives seen' (Err fault) whole
fault_then seen seen' (Calculating.Overflow q) a go whole w g = w ∙ rw g refl
fault_then seen seen' (Calculating.PivotLimit j) a go whole w g = w ∙ rw g refl
fault_then seen seen' Calculating.NoMemory a go whole w g = tt

-- a fault is one of an equal calculation
pub fault_same : {X X' Y : Type 0} (seen : X → Y) (seen' : X' → Y) (fault : CalcFault) (a b : Stated Y) → b ≡ a → Gives seen (Err fault) a → Gives seen' (Err fault) b
fault_same seen seen' (Calculating.Overflow q) a b w g = w ∙ g
fault_same seen seen' (Calculating.PivotLimit j) a b w g = w ∙ g
fault_same seen seen' Calculating.NoMemory a b w g = tt
