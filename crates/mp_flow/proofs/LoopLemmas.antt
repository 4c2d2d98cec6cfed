use Rattle.std.proofs.Common.{◌≡◌, ℕ, suc, ◌+◌, ◌-◌, ◌<◌, ◌≤◌, List, ℤ, refl, ap, ◌∙◌, arith}
use Rattle.mp_flow.specs.Elimination.{turn, Stuck, Passed, Turned, Through, StuckAt, PassedAt, eliminated, after}

-- the columns that are left give what the whole gives
pub record Pending (count : ℕ) (old : List (List ℤ)) (j : ℕ) (now : List (List ℤ)) : Type 0 where
  pub rest : eliminated count 0 old ≡ eliminated (count - j) j now

pub pending_start : (count : ℕ) (old : List (List ℤ)) → Pending count old 0 old
pending_start count old = record { rest = ap (λ n. eliminated n 0 old) (omega arith) }

next_step : (count j : ℕ) (now : List (List ℤ)) → j < count → eliminated (count - j) j now ≡ after (turn j now) j now (eliminated (count - (j + 1)) (j + 1))
unfolding eliminated
next_step count j now h = let e : count - j ≡ suc (count - (j + 1)) = omega arith in rw e refl

pub pending_more : (count : ℕ) (old : List (List ℤ)) (j : ℕ) (now next : List (List ℤ)) → Pending count old j now → j < count → turn j now ≡ Turned next → Pending count old (j + 1) next
pending_more count old j now next p h e = record { rest = p.rest ∙ next_step count j now h ∙ rw e refl }

pub pending_stuck : (count : ℕ) (old : List (List ℤ)) (j : ℕ) (now : List (List ℤ)) → Pending count old j now → j < count → turn j now ≡ Stuck → eliminated count 0 old ≡ StuckAt j now
pending_stuck count old j now p h e = p.rest ∙ next_step count j now h ∙ rw e refl

pub pending_passes : (count : ℕ) (old : List (List ℤ)) (j : ℕ) (now : List (List ℤ)) → Pending count old j now → j < count → turn j now ≡ Passed → eliminated count 0 old ≡ PassedAt j
pending_passes count old j now p h e = p.rest ∙ next_step count j now h ∙ rw e refl

pub pending_end : (count : ℕ) (old : List (List ℤ)) (j : ℕ) (now : List (List ℤ)) → Pending count old j now → count ≤ j → eliminated count 0 old ≡ Through now
unfolding eliminated
pending_end count old j now p h = let e : count - j ≡ 0 = omega arith in p.rest ∙ rw e refl

pub ruleset loops = (pending_start, pending_more, pending_stuck, pending_passes, pending_end)
