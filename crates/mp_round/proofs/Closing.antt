-- A close.
use Rattle.std.proofs.Common.{◌≡◌, ℕ, ◌+◌, ◌%◌, List, map, Some, None, unwrap_or, sym, ◌∙◌, ap, ap₂}
use Rattle.std.specs.Prelude.{find}
use Rattle.std.proofs.lemmas.Simd.{map-map}
use Rattle.mp_model.specs.Arrivals.{arrivals_of}
use Rattle.mp_model.specs.EventCore.{accepted, apply, close_at, closed_core, first_undecided, is_above}
use Rattle.mp_model.specs.EventCore.Answer.{above_at, closed, undecided}
use Rattle.mp_model.specs.EventCore.Event.{close}
use Rattle.mp_model.specs.Network.{Network, entry, fed, link_numbers}
use Rattle.mp_model.specs.Step.{got}
use Rattle.mp_press.specs.Weighed.{Weighed}
use Rattle.mp_round.specs.RoundView.{RoundView, core_of}
use Rattle.mp_step.specs.BucketLevels.{first_above}
use Rattle.mp_step.specs.Standing as standing

-- a round after a period with these stages and arrivals
abbrev pub closed_round : Network → RoundView → Weighed → List ℕ → List ℕ → RoundView
closed_round net round weighed stages counts = record {
  standing = standing.closed net round.standing stages counts;
  weighed = weighed;
  copies = map (map (accepted net.delay (round.standing.period + 1))) round.copies;
  decided = map (λ j. None) net.junctions;
  last = stages;
}

-- shows the closed core
pub shows_closed : (net : Network) (round : RoundView) (weighed : Weighed) (stages counts : List ℕ) → core_of (closed_round net round weighed stages counts) ≡ closed_core net (core_of round) stages counts
shows_closed net round weighed stages counts =
    ap (λ (phases : List ℕ). record (closed_core net (core_of round) stages counts) { phases = phases })
    (map-map (λ n. n % net.shares) (λ l. entry round.standing.phases l + got net stages (entry round.standing.queues) (arrivals_of net counts) l) (link_numbers net))

pub not_decided : (net : Network) (round : RoundView) (counts : List ℕ) (j : ℕ) → first_undecided 1 round.decided ≡ Some j → (undecided j, core_of round) ≡ apply net (core_of round) (close counts)
not_decided net round counts j e = sym (ap (λ d. close_at net (core_of round) counts d (find (is_above net (core_of round) counts) (fed net))) e)

pub is_above_bucket : (net : Network) (round : RoundView) (counts : List ℕ) (l : ℕ) → first_undecided 1 round.decided ≡ None → first_above net (entry round.standing.levels) counts ≡ Some l → (above_at l, core_of round) ≡ apply net (core_of round) (close counts)
is_above_bucket net round counts l e a = sym (ap₂ (close_at net (core_of round) counts) e a)

pub closes : (net : Network) (round : RoundView) (weighed : Weighed) (counts : List ℕ) → first_undecided 1 round.decided ≡ None → first_above net (entry round.standing.levels) counts ≡ None →
    (closed, core_of (closed_round net round weighed (map (λ d. unwrap_or d 0) round.decided) counts)) ≡ apply net (core_of round) (close counts)
closes net round weighed counts e a = ap (λ core. (closed, core)) (shows_closed net round weighed (map (λ d. unwrap_or d 0) round.decided) counts) ∙ sym (ap₂ (close_at net (core_of round) counts) e a)
