-- A worked run by frames of three periods, and its bounds, each computed from the definitions.
use Rattle.std.proofs.Common.{◌≡◌, ℕ, List, [], ◌∷◌, map, codes, refl, lit≤, lit<}
use Rattle.std.specs.Fmt.{digits}
use Rattle.mp_model.specs.Frames.{frame_network, framed_log, frame_constant, frame_threshold, greatest_frame_drift, AreFrameBounds}
use Rattle.mp_model.specs.Worked.{two_approaches}

-- two approaches by frames of three periods
frame_per : (frame_network two_approaches 3).per ≡ 8
frame_per = refl

frame_rates : map (λ link. link.rate) (frame_network two_approaches 3).links ≡ 3 ∷ 3 ∷ []
frame_rates = refl

constant : frame_constant two_approaches 3 ≡ 2176
constant = refl

threshold : frame_threshold two_approaches 3 5 8 ≡ 54
threshold = refl

greatest : greatest_frame_drift two_approaches 3 5 8 ≡ 56000
greatest = refl

pub framed_bounds : AreFrameBounds two_approaches 3 5 8 (65 ∷ 65 ∷ [])
framed_bounds = record { root = 236; is_root = record { within = lit≤ tt; most = lit< tt }; are = refl }

abbrev rest : List (List ℕ)
rest = (0 ∷ 0 ∷ []) ∷ (0 ∷ 0 ∷ []) ∷ (0 ∷ 0 ∷ []) ∷ (0 ∷ 0 ∷ []) ∷ (0 ∷ 0 ∷ []) ∷ (0 ∷ 0 ∷ []) ∷ (0 ∷ 0 ∷ []) ∷ []

-- the first period is lost, the fourth is not, and the seventh is
log : framed_log two_approaches 3 5 8 (65 ∷ 65 ∷ []) ((2 ∷ 1 ∷ []) ∷ rest)
    ≡ codes "maxpressure 1\nslack 5/8\nbound 1 ao 65\nbound 2 bo 65\np 1 a 2 1 s 1 q 2 1\np 2 a 0 0 s 1 q 2 1\np 3 a 0 0 s 1 q 2 1\np 4 a 0 0 s 1 q 0 1\np 5 a 0 0 s 1 q 0 1\np 6 a 0 0 s 1 q 0 1\np 7 a 0 0 s 2 q 0 1\np 8 a 0 0 s 2 q 0 0\nend 8 in 3 out 3 queued 0\n"
unfolding digits
log = refl
