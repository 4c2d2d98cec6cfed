-- What the stated calculation of frames finds, and what the bounds from it are.
use Rattle.std.proofs.Common.{◌≡◌, ℕ, ◌+◌, ◌*◌, ◌/◌, ◌<◌, ◌≤◌, max, ℤ, pos, List, map, Some, ap, ◌∙◌, subst, refl, arith}
use Rattle.std.proofs.lemmas.Nat.{mul-le}
use Rattle.mp_model.specs.Network.{Network, movement_numbers}
use Rattle.mp_model.specs.Bounds.{start_drift, IsRoot}
use Rattle.mp_model.specs.Frames.{frame_constant, frame_threshold, greatest_frame_drift, frame_bound, AreFrameBounds}
use Rattle.mp_drift.specs.Stated.{unit_of, credit_sum}
use Rattle.mp_drift.specs.Bounded.{IsReached}
use Rattle.mp_drift.proofs.Finding.{map_pos}
use Rattle.mp_frame.specs.FrameBounds.{frame_factor, IsFrameFound}

-- the quarter of the square of what a flow passes in at most 59 periods
pub quarter_few : (n : ℕ) → n ≤ 59000 → n * n / 4 ≤ 870250000
quarter_few n h = omega (arith, mul-le n n 59000 59000 h h)

-- what was reached is the threshold and the greatest drift value of the model
pub found : (net : Network) (F E D total vmax : ℕ) → IsReached net (frame_factor net F) (frame_constant net F) E D total vmax → IsFrameFound net F E D total vmax
found net F E D total vmax r =
    let total_is : total ≡ frame_threshold net F E D = r.total_is in
    let vmax_is : vmax ≡ greatest_frame_drift net F E D =
    r.vmax_is
    ∙ ap (λ n. max ((unit_of net * n + credit_sum net) * (unit_of net * n + credit_sum net) + frame_constant net F) (start_drift net)) total_is in
    record {
      total_is = total_is;
      vmax_is = vmax_is;
      stated = r.stated ∙ ap (λ n. Some n) vmax_is;
    }

-- the listed numbers are the bounds
pub record Listed (net : Network) (F E D : ℕ) (numbers : List ℤ) : Type 0 where
  pub bounds : List ℕ
  pub listed : numbers ≡ map pos bounds
  pub are : AreFrameBounds net F E D bounds

pub listed : (net : Network) (F E D vmax root : ℕ) (numbers : List ℤ) → numbers ≡ map (λ k. pos (frame_bound net F root k)) (movement_numbers net) → vmax ≡ greatest_frame_drift net F E D → root * root ≤ vmax → vmax < (root + 1) * (root + 1) → Listed net F E D numbers
listed net F E D vmax root numbers e v low high = record {
  bounds = map (frame_bound net F root) (movement_numbers net);
  listed = e ∙ map_pos (frame_bound net F root) (movement_numbers net);
  are = record {
    root = root;
    is_root = let P : ℕ → Type 0 = IsRoot root in subst P v (record { within = low; most = high });
    are = refl;
  };
}
