-- The bounds of worked frames, each computed from the definitions, and what exceeds 128 bits or has no room.
use Rattle.std.proofs.Common.{◌≡◌, ◌≤◌, ◌+◌, ◌*◌, ◌^◌, arith, [], ◌∷◌, codes, None, refl, lit≤, lit<}
use Rattle.mp_model.specs.Frames.{frame_constant, frame_threshold, greatest_frame_drift, AreFrameBounds}
use Rattle.mp_model.specs.Network.{Network}
use Rattle.mp_model.specs.Worked.{two_approaches}
use Rattle.mp_drift.specs.Stated.{fitting, threshold_from, greatest_from}
use Rattle.mp_frame.specs.FrameBounds.{FindsFrameGreatest, PassesFrameBound, HasNoFrameRoom}

-- one approach alone, with one vehicle a period
abbrev lone : Network
lone = record {
  shares = 1;
  per = 1;
  delay = 0;
  links = record { name = codes "a"; burst = 0; rate = 1 } ∷ [];
  movements = record { name = codes "ao"; from = 1; to = None; share = 1; flow = 2; start = 0 } ∷ [];
  junctions = record { name = codes "j"; stages = (1 ∷ []) ∷ [] } ∷ [];
}

no_room : HasNoFrameRoom lone 2 1 (10 ^ 18)
unfolding fitting threshold_from greatest_from
no_room = record {
  found = refl;
  bounds = (9 * 10 ^ 18 + 2) ∷ [];
  are = record { root = 9 * 10 ^ 18; is_root = record { within = lit≤ tt; most = lit< tt }; are = refl };
  no_room = λ h. not_below h.0;
}
  where
    not_below : 9 * 10 ^ 18 + 2 ≤ 2 ^ 62 → ⊥
    not_below h = omega arith

record AreWorkedFrames : Type 0 where
  constant : frame_constant two_approaches 3 ≡ 2176
  threshold : frame_threshold two_approaches 3 5 8 ≡ 54
  greatest : greatest_frame_drift two_approaches 3 5 8 ≡ 56000
  bounds : AreFrameBounds two_approaches 3 5 8 (65 ∷ 65 ∷ [])
  found : FindsFrameGreatest two_approaches 3 5 8
  dividend_passes : PassesFrameBound two_approaches 3 1 (10 ^ 36)
  divisor_passes : PassesFrameBound two_approaches 3 (3 * 10 ^ 36) 1
  square_passes : PassesFrameBound lone 2 1 1449313091703642469

worked_frames : AreWorkedFrames
unfolding fitting threshold_from greatest_from
worked_frames = record {
  constant = refl;
  threshold = refl;
  greatest = refl;
  bounds = record { root = 236; is_root = record { within = lit≤ tt; most = lit< tt }; are = refl };
  found = refl;
  dividend_passes = refl;
  divisor_passes = refl;
  square_passes = refl;
}
