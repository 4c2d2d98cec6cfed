-- The room of a bucket is the greatest count that it accepts.
use Rattle.std.proofs.Common.{◌≡◌, ◌≤◌, ℕ, ◌*◌, min, List, [], ◌∷◌, ◌++◌, arith, sym, subst, true, ◌↔◌}
use Rattle.std.proofs.Math.Nat.{mul-le-mul_left}
use Rattle.mp_model.specs.Network.{Network, has, link_numbers, link_at, entry}
use Rattle.mp_model.specs.Arrivals.{KeepsTo, StaysWithin, next_level, level_after, counts_of}
use Rattle.mp_laws.proofs.Lists.{at_in}
use Rattle.mp_laws.proofs.Windows.{stays_within, keeps_to}
use Rattle.mp_laws.proofs.Permitted.{stays}
use Rattle.mp_step.specs.BucketLevels.{IsRoom}
use Rattle.mp_step.specs.Standing.{Standing}
use Rattle.mp_step.specs.Taken.{HasTaken}
use Rattle.mp_gen.specs.DemoArrivals.{IsMost, IsArrival, wish}

-- one more period
stays_last : (per burst rate b : ℕ) (cs : List ℕ) (c : ℕ) → StaysWithin per burst rate b (cs ++ c ∷ []) → next_level per rate (level_after per rate b cs) c ≤ per * burst
stays_last per burst rate b [] c s = s.0
stays_last per burst rate b (x ∷ cs) c s = stays_last per burst rate (next_level per rate b x) cs c s.1

stays_before : (per burst rate b : ℕ) (cs : List ℕ) (c : ℕ) → StaysWithin per burst rate b (cs ++ c ∷ []) → StaysWithin per burst rate b cs
stays_before per burst rate b [] c s = tt
stays_before per burst rate b (x ∷ cs) c s = (s.0, stays_before per burst rate (next_level per rate b x) cs c s.1)

stays_more : (per burst rate b : ℕ) (cs : List ℕ) (c : ℕ) → StaysWithin per burst rate b cs → next_level per rate (level_after per rate b cs) c ≤ per * burst → StaysWithin per burst rate b (cs ++ c ∷ [])
stays_more per burst rate b [] c s h = (h, tt)
stays_more per burst rate b (x ∷ cs) c s h = (s.0, stays_more per burst rate (next_level per rate b x) cs c s.1 h)

-- with a lesser count a link still keeps to its bucket
pub lesser_keeps : (per burst rate : ℕ) (cs : List ℕ) (most c : ℕ) → c ≤ most → KeepsTo per burst rate (cs ++ most ∷ []) → KeepsTo per burst rate (cs ++ c ∷ [])
lesser_keeps per burst rate cs most c less keeps =
    let s : StaysWithin per burst rate 0 (cs ++ most ∷ []) = stays_within per burst rate (cs ++ most ∷ []) keeps in
    let last = stays_last per burst rate 0 cs most s in
    keeps_to per burst rate (cs ++ c ∷ []) (stays_more per burst rate 0 cs c (stays_before per burst rate 0 cs most s) (omega (arith, last, mul-le-mul_left per less)))

-- the room of the next period is the greatest count that the bucket accepts
most_from : (per burst rate : ℕ) (cs : List ℕ) (level room : ℕ) → StaysWithin per burst rate 0 cs → level ≡ level_after per rate 0 cs → ((count : ℕ) → (next_level per rate level count ≤ per * burst) ↔ (count ≤ room)) → IsMost per burst rate cs room
most_from per burst rate cs level room s is takes = record {
  keeps = keeps_to per burst rate (cs ++ room ∷ []) (stays_more per burst rate 0 cs room s (subst (λ b. next_level per rate b room ≤ per * burst) is ((takes room).1 (omega arith))));
  greatest = λ count keeps. (takes count).0 (subst (λ b. next_level per rate b count ≤ per * burst) (sym is) (stays_last per burst rate 0 cs count (stays_within per burst rate (cs ++ count ∷ []) keeps)));
}

pub arrival_is : (net : Network) (st : Standing) (l word room count : ℕ) → has (link_numbers net) l ≡ true → IsRoom net (entry st.levels) l room → count ≡ min (wish l word) room
    → (A : List (List ℕ)) → HasTaken net st A → IsArrival net A l word count
arrival_is net st l word room count known takes lesser A taken = record {
  most = room;
  is_most = most_from net.per (link_at net l).burst (link_at net l).rate (counts_of net A l) (entry st.levels l) room
      (at_in (λ l. StaysWithin net.per (link_at net l).burst (link_at net l).rate 0 (counts_of net A l)) l (link_numbers net) known (stays net A taken.permitted))
      (at_in (λ l. entry st.levels l ≡ level_after net.per (link_at net l).rate 0 (counts_of net A l)) l (link_numbers net) known taken.levels) takes;
  lesser = lesser;
}
