-- The arrivals that a run has taken, and one more period.
use Rattle.std.proofs.Common.{◌≡◌, ◌≤◌, ◌<◌, ℕ, ◌*◌, true, false, List, [], ◌∷◌, ◌++◌, length, None, Some, refl, sym, ◌∙◌, ap, subst, map}
use Rattle.std.specs.List.{AllByRecursion}
use Rattle.std.proofs.lemmas.Bool.{true≢false}
use Rattle.mp_model.specs.Network.{Network, has, link_numbers, link_at, is_fed, fed, entry}
use Rattle.mp_model.specs.Arrivals.{arrivals_of, counts_of, next_level, level_after, StaysWithin, KeepsTo, HasCounts}
use Rattle.mp_laws.specs.Buckets.{IsFirstAbove}
use Rattle.mp_laws.proofs.Lists.{each_in, at_in, filter_sub, find_none, numbered}
use Rattle.mp_laws.proofs.Levels.{stays_last, stays_more, counts_more, range_ascends, filter_ascends, found}
use Rattle.mp_laws.proofs.Windows.{stays_within, keeps_to}
use Rattle.mp_step.specs.BucketLevels.{level_then, is_above, first_above}
use Rattle.mp_step.specs.Standing.{Standing}
use Rattle.mp_step.specs.Taken.{HasTaken}
use Rattle.mp_step.proofs.Above.{above_no, not_above}

-- one more period
level_more : (per rate b : ℕ) (cs : List ℕ) (c : ℕ) → level_after per rate b (cs ++ c ∷ []) ≡ next_level per rate (level_after per rate b cs) c
level_more per rate b [] c = refl
level_more per rate b (x ∷ cs) c = level_more per rate (next_level per rate b x) cs c

all_more : (P : List ℕ → Type 0) (A : List (List ℕ)) (counts : List ℕ) → AllByRecursion P A → P counts → AllByRecursion P (A ++ counts ∷ [])
all_more P [] counts h p = (p, tt)
all_more P (a ∷ A) counts h p = (h.0, all_more P A counts h.1 p)

-- a run has taken nothing at its opening
pub taken_none : (net : Network) (st : Standing) → ((l : ℕ) → entry st.levels l ≡ 0) → HasTaken net st []
taken_none net st zeros = record {
  permitted = record { counts = tt; windows = each_in _ (fed net) (λ l h. keeps_to net.per (link_at net l).burst (link_at net l).rate [] tt) };
  levels = each_in _ (link_numbers net) (λ l h. zeros l);
}

module _ (net : Network) (st : Standing) (A : List (List ℕ)) (counts : List ℕ) (taken : HasTaken net st A) where
  fed_link : (l : ℕ) → has (fed net) l ≡ true → has (link_numbers net) l ≡ true
  fed_link l f = filter_sub (λ l. is_fed (link_at net l)) (link_numbers net) l f

  next_is : (l : ℕ) → has (link_numbers net) l ≡ true → level_then net (entry st.levels) counts l ≡ next_level net.per (link_at net l).rate (level_after net.per (link_at net l).rate 0 (counts_of net A l)) (arrivals_of net counts l)
  next_is l h = ap (λ b. next_level net.per (link_at net l).rate b (arrivals_of net counts l)) (at_in (λ l. entry st.levels l ≡ level_after net.per (link_at net l).rate 0 (counts_of net A l)) l (link_numbers net) h taken.levels)

  stays_now : (l : ℕ) → has (fed net) l ≡ true → StaysWithin net.per (link_at net l).burst (link_at net l).rate 0 (counts_of net A l)
  stays_now l f = stays_within net.per (link_at net l).burst (link_at net l).rate _ (at_in (λ l. KeepsTo net.per (link_at net l).burst (link_at net l).rate (counts_of net A l)) l (fed net) f taken.permitted.windows)

  not_kept : (l : ℕ) → has (link_numbers net) l ≡ true → is_above net (entry st.levels) counts l ≡ true → ¬ KeepsTo net.per (link_at net l).burst (link_at net l).rate (counts_of net (A ++ counts ∷ []) l)
  not_kept l h above keeps =
      let kept = subst (KeepsTo net.per (link_at net l).burst (link_at net l).rate) (counts_more net A counts l) keeps in
      let last = stays_last net.per (link_at net l).burst (link_at net l).rate 0 (counts_of net A l) (arrivals_of net counts l) (stays_within net.per (link_at net l).burst (link_at net l).rate _ kept) in
      let within : level_then net (entry st.levels) counts l ≤ net.per * (link_at net l).burst = subst (λ n. n ≤ net.per * (link_at net l).burst) (sym (next_is l h)) last in
      true≢false (sym above ∙ above_no (level_then net (entry st.levels) counts l) (net.per * (link_at net l).burst) within)

  still_kept : (l : ℕ) → has (fed net) l ≡ true → is_above net (entry st.levels) counts l ≡ false → KeepsTo net.per (link_at net l).burst (link_at net l).rate (counts_of net (A ++ counts ∷ []) l)
  still_kept l f below =
      let within = subst (λ n. n ≤ net.per * (link_at net l).burst) (next_is l (fed_link l f)) (not_above (level_then net (entry st.levels) counts l) (net.per * (link_at net l).burst) below) in
      subst (KeepsTo net.per (link_at net l).burst (link_at net l).rate) (sym (counts_more net A counts l))
      (keeps_to net.per (link_at net l).burst (link_at net l).rate _ (stays_more net.per (link_at net l).burst (link_at net l).rate 0 (counts_of net A l) (arrivals_of net counts l) (stays_now l f) within))

  -- a refused period names the least link that doesn't keep to its bucket
  pub excess_first : (l : ℕ) → first_above net (entry st.levels) counts ≡ Some l → IsFirstAbove net A counts l
  excess_first l e =
      let is = found (is_above net (entry st.levels) counts) (fed net) l (filter_ascends (λ l. is_fed (link_at net l)) (link_numbers net) (range_ascends 1 _)) e in
      record {
        of_fed = is.there;
        above = not_kept l (fed_link l is.there) is.passes;
        first = each_in _ (fed net) (λ x h lt. still_kept x h (at_in (λ x. x < l → is_above net (entry st.levels) counts x ≡ false) x (fed net) h is.least lt));
      }

  -- a period that isn't refused is taken
  pub taken_more : HasCounts net counts → first_above net (entry st.levels) counts ≡ None → (new : Standing) → new.levels ≡ map (level_then net (entry st.levels) counts) (link_numbers net) → HasTaken net new (A ++ counts ∷ [])
  taken_more size none new is =
      let below = find_none (is_above net (entry st.levels) counts) (fed net) none in
      record {
        permitted = record {
          counts = all_more (HasCounts net) A counts taken.permitted.counts size;
          windows = each_in _ (fed net) (λ l h. still_kept l h (at_in (λ l. is_above net (entry st.levels) counts l ≡ false) l (fed net) h below));
        };
        levels = each_in _ (link_numbers net) (λ l h.
            ap (λ ls. entry ls l) is ∙ numbered (level_then net (entry st.levels) counts) (length net.links) l h ∙ next_is l h
            ∙ sym (level_more net.per (link_at net l).rate 0 (counts_of net A l) (arrivals_of net counts l))
            ∙ ap (level_after net.per (link_at net l).rate 0) (sym (counts_more net A counts l)));
      }
