-- Where there is no frame network.
use Rattle.std.specs.Prelude.{◌≡◌, ℕ, ◌-◌, ◌*◌, Bool, cond, nat_lt, Option, Some, option_map}
use Rattle.std.specs.List.{find}
use Rattle.mp_model.specs.Network.{Network, link_at, link_numbers}
use Rattle.mp_frame.specs.declared.fault.FrameFault.{FrameFault}
use Rattle.mp_frame.specs.declared.fault.FrameFault.TheVariants.{Per, Rate, NoMemory}

-- The rate length of the frame network is above 3,600.
abbrev pub is_long : Network → ℕ → Bool
is_long net F = nat_lt 3600 ((F - 1) * net.per)

-- The rate of link l in the frame network is above 1,000 vehicles a period.
abbrev pub is_fast : Network → ℕ → ℕ → Bool
is_fast net F l = nat_lt (1000 * ((F - 1) * net.per)) (F * (link_at net l).rate)

-- There is no frame network where its rate length is too long, and then where the rate of a link is too high, of which the least is named.
abbrev pub frame_fault : Network → ℕ → Option FrameFault
frame_fault net F = cond (is_long net F) (Some Per) (option_map Rate (find (is_fast net F) (link_numbers net)))

-- The fault is this one, or memory ran out.
abbrev pub IsRefused : Network → ℕ → FrameFault → Type 0
IsRefused net F NoMemory = Unit {0}
IsRefused net F fault = frame_fault net F ≡ Some fault
