-- What a trail shows, and what its type keeps.
use Rattle.mp_model.specs.Network.{Network}
use Rattle.mp_step.specs.Standing.{Standing}
use Rattle.mp_growth.specs.OnTrail.{IsTrail}
use Rattle.mp_growth.specs.declared.trail.Trail.TheInside.{Inside}

-- A trail shows where its run stands.
abbrev pub standing_of : Inside → Standing
standing_of t = t.state

-- The run of a trail stands on a trail of some network.
abbrev pub IsKept : Inside → Type 0
IsKept t = (net : Network) × IsTrail net t.state
