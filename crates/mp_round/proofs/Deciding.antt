-- A decision.
use Rattle.std.proofs.Common.{◌≡◌, ◌<◌, ℕ, suc, ◌+◌, ◌-◌, false, List, [], ◌∷◌, length, get_or, drop, Option, Some, None, is_none, arith, refl, sym, ◌∙◌, ap, ap₂, add-one, drop-cons}
use Rattle.std.specs.Prelude.{find}
use Rattle.mp_model.specs.EventCore.{apply, decide_at, first_undecided, is_stale, seen}
use Rattle.mp_model.specs.EventCore.Answer.{chose, stale}
use Rattle.mp_model.specs.EventCore.Event.{decide}
use Rattle.mp_model.specs.Network.{Network, junction_at, entry, targets}
use Rattle.mp_model.specs.Pressure.{greatest_stage_by}
use Rattle.mp_round.specs.RoundView.{RoundView, core_of, with_stage}

-- a second decision gives the stage of the first
pub chose_before : (net : Network) (round : RoundView) (j s : ℕ) → get_or round.decided (j - 1) None ≡ Some s → (chose s, core_of round) ≡ apply net (core_of round) (decide j)
chose_before net round j s e = sym (ap (λ d. decide_at net (core_of round) j d (find (is_stale net (core_of round) j) (targets net (junction_at net j)))) e)

-- a junction that lacks a copy doesn't decide
pub is_refused : (net : Network) (round : RoundView) (j l : ℕ) → get_or round.decided (j - 1) None ≡ None → find (is_stale net (core_of round) j) (targets net (junction_at net j)) ≡ Some l → (stale j l, core_of round) ≡ apply net (core_of round) (decide j)
is_refused net round j l e m = sym (ap₂ (decide_at net (core_of round) j) e m)

-- any other fixes the greatest stage
pub chooses : (net : Network) (round : RoundView) (j s : ℕ) → get_or round.decided (j - 1) None ≡ None → find (is_stale net (core_of round) j) (targets net (junction_at net j)) ≡ None → s ≡ greatest_stage_by net (entry round.standing.queues) (seen net (core_of round) j) (junction_at net j) →
    (chose s, core_of (with_stage round j s)) ≡ apply net (core_of round) (decide j)
chooses net round j s e m is = ap (λ s. (chose s, core_of (with_stage round j s))) is ∙ sym (ap₂ (decide_at net (core_of round) j) e m)

-- the search for an undecided junction
pub undecided_here : (ds : List (Option ℕ)) (n i : ℕ) → i < length ds → get_or ds i None ≡ None → first_undecided n (drop i ds) ≡ Some n
undecided_here ds n i lt e = ap (first_undecided n) (drop-cons ds i None lt) ∙ ap (λ d. first_undecided n (d ∷ drop (suc i) ds)) e

pub undecided_later : (ds : List (Option ℕ)) (n i : ℕ) → i < length ds → is_none (get_or ds i None) ≡ false → first_undecided (n + 1) (drop (i + 1) ds) ≡ first_undecided n (drop i ds)
undecided_later ds n i lt e = ap (λ m. first_undecided (n + 1) (drop m ds)) (add-one i) ∙ sym (ap (first_undecided n) (drop-cons ds i None lt) ∙ go (get_or ds i None) e)
  where
    go : (d : Option ℕ) → is_none d ≡ false → first_undecided n (d ∷ drop (suc i) ds) ≡ first_undecided (n + 1) (drop (suc i) ds)
    go None e = cc
    go (Some s) e = refl

-- where each has decided none is found
pub none_undecided : (n : ℕ) (ds : List (Option ℕ)) → ((m : ℕ) → m < length ds → is_none (get_or ds m None) ≡ false) → first_undecided n ds ≡ None
none_undecided n [] h = refl
none_undecided n (None ∷ ds) h = let e : is_none (let none : Option ℕ = None in none) ≡ false = h 0 (omega arith) in cc
none_undecided n (Some s ∷ ds) h = none_undecided (n + 1) ds (λ m lt. h (suc m) (omega arith))
