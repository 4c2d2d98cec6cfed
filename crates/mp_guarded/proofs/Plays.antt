-- What the junctions of a play keep where they take candidates.
use Rattle.std.proofs.Common.{◌≡◌, ℕ, ◌<◌, true, length}
use Rattle.mp_laws.proofs.Lists.{at_in}
use Rattle.mp_model.specs.Guard.{Guard, Guards, GreensFit, greens_at}
use Rattle.mp_model.specs.GuardedRun.{Play, IsCandidate, account_of, stage_of}
use Rattle.mp_model.specs.Network.{Network, has, junction_at, junction_numbers}
use Rattle.mp_guarded.specs.Greens.{KeepsGreens}
use Rattle.mp_guarded.specs.Waits.{PlaysCandidates}

pub greens_kept : (net : Network) (guard : Guard) → Guards net guard → (play : Play) (T : ℕ) → ((t : ℕ) → t < T → PlaysCandidates net guard play t) → (j : ℕ) → has (junction_numbers net) j ≡ true → KeepsGreens guard (greens_at guard j) (junction_at net j) play.counts (stage_of play j) T
greens_kept net guard guards play T candidates j in' = record {
  some = guards.cycle.0;
  one_each = at_in (λ j. length (greens_at guard j) ≡ length (junction_at net j).stages) j (junction_numbers net) in' guards.lengths.greens;
  fit = at_in (λ j. GreensFit guard (greens_at guard j)) j (junction_numbers net) in' guards.masses;
  candidates = λ t lt. at_in (λ j. IsCandidate guard (junction_at net j) (play.counts t) t (account_of net guard play j t) (stage_of play j t)) j (junction_numbers net) in' (candidates t lt);
}
