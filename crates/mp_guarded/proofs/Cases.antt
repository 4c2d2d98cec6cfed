-- The worked guard.
use Rattle.std.proofs.Common.{◌≡◌, ℕ, ◌+◌, ◌*◌, ◌≤◌, ◌<◌, List, [], ◌∷◌, take, drop, refl, arith, ap, lit≤, zero-le}
use Rattle.std.proofs.lemmas.Bool.{false≢true}
use Rattle.mp_laws.proofs.Cases.{two_network}
use Rattle.mp_laws.proofs.Lists.{at_range}
use Rattle.mp_laws.proofs.Windows.{keeps_to}
use Rattle.mp_model.specs.GuardedChoice.{GuardedState, guarded_run}
use Rattle.mp_model.specs.GuardedRun.{KeepsGuard, IsCandidate, account_of, stage_of}
use Rattle.mp_model.specs.Network.{junction_at, from_of, share_of}
use Rattle.mp_model.specs.Step.{joined}
use Rattle.mp_model.specs.Worked.{two_approaches}
use Rattle.mp_guarded.specs.Cases.{two_guard, miscounted_play, unseen_play, crowded_approaches, crowd_arrivals, MiscountedCase, UnseenCase, LongestWaitCase}
use Rattle.mp_served.specs.Surplus.{HasRoundSurplus}
use Rattle.mp_served.proofs.Surplus.{surpluses}

-- each period of the worked plays
KeepsAt : ℕ → Type 0
KeepsAt t = KeepsGuard two_approaches two_guard miscounted_play t

keeps_at : (t : ℕ) → IsCandidate two_guard (junction_at two_approaches 1) (miscounted_play.counts t) t (account_of two_approaches two_guard miscounted_play 1 t) (stage_of miscounted_play 1 t) → KeepsAt t
unfolding KeepsAt
keeps_at t candidate = record { candidates = (candidate, tt); zeros = (λ e. cc, (λ e. cc, tt)) }

keeps_miscounted : (t : ℕ) → t < 4 → KeepsGuard two_approaches two_guard miscounted_play t
unfolding KeepsAt
keeps_miscounted t lt = at_range KeepsAt 0 4 t zero-le (omega arith) (
  keeps_at 0 (record { is_stage = (lit≤ tt, lit≤ tt); fits = lit≤ tt }),
  (
    keeps_at 1 (record { is_stage = (lit≤ tt, lit≤ tt); fits = lit≤ tt }),
    (
      keeps_at 2 (record { is_stage = (lit≤ tt, lit≤ tt); fits = lit≤ tt }),
      (keeps_at 3 (record { is_stage = (lit≤ tt, lit≤ tt); fits = lit≤ tt }), tt),
    ),
  ),
)

pub miscounted_case : MiscountedCase
miscounted_case = record {
  guards = record {
    lengths = record { rates = refl; junctions = refl; greens = (refl, tt) };
    cycle = (lit≤ tt, lit≤ tt);
    lost = lit≤ tt;
    denominator = (lit≤ tt, lit≤ tt);
    flows = (lit≤ tt, (lit≤ tt, tt));
    greens = ((lit≤ tt, (lit≤ tt, tt)), tt);
    masses = (lit≤ tt, tt);
    balances = (lit≤ tt, (lit≤ tt, tt));
    serves = (record { some = lit≤ tt; serves = lit≤ tt }, (record { some = lit≤ tt; serves = lit≤ tt }, tt));
  };
  carry = record {
    surpluses = let s = surpluses two_approaches (two_network 1) in (s.0 0 (no_round 1), (s.1.0 0 (no_round 2), tt));
    bursts = (lit≤ tt, (lit≤ tt, tt));
  };
  first = record { holds = lit≤ tt; least = λ n h. omega arith };
  second = record { holds = lit≤ tt; least = λ n h. omega arith };
  guarded = record {
    permitted = record {
      counts = (refl, (refl, (refl, (refl, tt))));
      windows = (keeps_to 4 2 1 (2 ∷ 0 ∷ 0 ∷ 0 ∷ []) (lit≤ tt, (lit≤ tt, (lit≤ tt, (lit≤ tt, tt)))), (keeps_to 4 2 1 (1 ∷ 0 ∷ 0 ∷ 0 ∷ []) (lit≤ tt, (lit≤ tt, (lit≤ tt, (lit≤ tt, tt)))), tt));
    };
    keeps = keeps_miscounted;
  };
}
  where
    no_round : (k : ℕ) → HasRoundSurplus two_approaches k 0
    no_round k n r a b = let x : n ≡ 0 = omega arith in let y : r ≡ 0 = omega arith in at n r x y
      where
        at : (n r : ℕ) → n ≡ 0 → r ≡ 0 → 1 * joined two_approaches (from_of two_approaches k) (n + r) k ≤ 1 * joined two_approaches (from_of two_approaches k) n k + share_of two_approaches k * r + 0
        at n r x y = let e : joined two_approaches (from_of two_approaches k) (n + r) k ≡ joined two_approaches (from_of two_approaches k) n k = ap (λ m. joined two_approaches (from_of two_approaches k) m k) (omega arith) in omega arith

-- where somebody waiting is not counted
UnseenAt : ℕ → Type 0
UnseenAt t = IsCandidate two_guard (junction_at two_approaches 1) (unseen_play.counts t) t (account_of two_approaches two_guard unseen_play 1 t) 2

unseen_at : (t : ℕ) → t < 12 → UnseenAt t
unfolding UnseenAt
unseen_at t lt = at_range UnseenAt 0 12 t zero-le (omega arith) (
  (record { is_stage = (lit≤ tt, lit≤ tt); fits = lit≤ tt }),
  (
    (record { is_stage = (lit≤ tt, lit≤ tt); fits = lit≤ tt }),
    (
      (record { is_stage = (lit≤ tt, lit≤ tt); fits = lit≤ tt }),
      (
        (record { is_stage = (lit≤ tt, lit≤ tt); fits = lit≤ tt }),
        (
          (record { is_stage = (lit≤ tt, lit≤ tt); fits = lit≤ tt }),
          (
            (record { is_stage = (lit≤ tt, lit≤ tt); fits = lit≤ tt }),
            (
              (record { is_stage = (lit≤ tt, lit≤ tt); fits = lit≤ tt }),
              (
                (record { is_stage = (lit≤ tt, lit≤ tt); fits = lit≤ tt }),
                (
                  (record { is_stage = (lit≤ tt, lit≤ tt); fits = lit≤ tt }),
                  (
                    (record { is_stage = (lit≤ tt, lit≤ tt); fits = lit≤ tt }),
                    (
                      (record { is_stage = (lit≤ tt, lit≤ tt); fits = lit≤ tt }),
                      ((record { is_stage = (lit≤ tt, lit≤ tt); fits = lit≤ tt }), tt),
                    ),
                  ),
                ),
              ),
            ),
          ),
        ),
      ),
    ),
  ),
)

pub unseen_case : UnseenCase
unfolding UnseenAt
unseen_case = record {
  permitted = record {
    counts = (refl, (refl, (refl, (refl, (refl, (refl, (refl, (refl, (refl, (refl, (refl, (refl, tt))))))))))));
    windows = (
      keeps_to 4 2 1 (2 ∷ 0 ∷ 0 ∷ 1 ∷ 0 ∷ 0 ∷ 0 ∷ 1 ∷ 0 ∷ 0 ∷ 0 ∷ 1 ∷ [])
          (lit≤ tt, (lit≤ tt, (lit≤ tt, (lit≤ tt, (lit≤ tt, (lit≤ tt, (lit≤ tt, (lit≤ tt, (lit≤ tt, (lit≤ tt, (lit≤ tt, (lit≤ tt, tt)))))))))))),
      (
        keeps_to 4 2 1 (0 ∷ 0 ∷ 0 ∷ 0 ∷ 0 ∷ 0 ∷ 0 ∷ 0 ∷ 0 ∷ 0 ∷ 0 ∷ 0 ∷ [])
            (lit≤ tt, (lit≤ tt, (lit≤ tt, (lit≤ tt, (lit≤ tt, (lit≤ tt, (lit≤ tt, (lit≤ tt, (lit≤ tt, (lit≤ tt, (lit≤ tt, (lit≤ tt, tt)))))))))))),
        tt,
      ),
    );
  };
  candidates = λ t lt. (unseen_at t lt, tt);
  above = refl;
}

-- the one at the first approach waits for the crowd at the second
abbrev crowd_states : List GuardedState
crowd_states = guarded_run crowded_approaches two_guard crowd_arrivals

pub longest_wait_case : LongestWaitCase
longest_wait_case = record {
  guards = record {
    lengths = record { rates = refl; junctions = refl; greens = (refl, tt) };
    cycle = (lit≤ tt, lit≤ tt);
    lost = lit≤ tt;
    denominator = (lit≤ tt, lit≤ tt);
    flows = (lit≤ tt, (lit≤ tt, tt));
    greens = ((lit≤ tt, (lit≤ tt, tt)), tt);
    masses = (lit≤ tt, tt);
    balances = (lit≤ tt, (lit≤ tt, tt));
    serves = (record { some = lit≤ tt; serves = lit≤ tt }, (record { some = lit≤ tt; serves = lit≤ tt }, tt));
  };
  permitted = record {
    counts = (refl, (refl, (refl, (refl, (refl, (refl, (refl, tt)))))));
    windows = (
      keeps_to 4 2 1 (1 ∷ 0 ∷ 0 ∷ 0 ∷ 0 ∷ 0 ∷ 0 ∷ []) (lit≤ tt, (lit≤ tt, (lit≤ tt, (lit≤ tt, (lit≤ tt, (lit≤ tt, (lit≤ tt, tt))))))),
      (keeps_to 4 14 1 (14 ∷ 0 ∷ 0 ∷ 0 ∷ 0 ∷ 0 ∷ 0 ∷ []) (lit≤ tt, (lit≤ tt, (lit≤ tt, (lit≤ tt, (lit≤ tt, (lit≤ tt, (lit≤ tt, tt))))))), tt),
    );
  };
  wait = refl;
  longest = λ served. false≢true (served (take 1 crowd_states) (take 6 (drop 1 crowd_states)) (drop 7 crowd_states) refl refl (lit≤ tt, (lit≤ tt, (lit≤ tt, (lit≤ tt, (lit≤ tt, (lit≤ tt, tt)))))));
}
