-- The accounts before each period, and the answers by them.
use Rattle.std.proofs.Common.{◌≡◌, ℕ, zero, suc, ◌+◌, ◌<◌, List, [], ◌∷◌, ◌++◌, length, refl, sym, ◌∙◌, ap, ap₂, arith}
use Rattle.std.proofs.lemmas.List.{get_or_append_left, length-append}
use Rattle.std.proofs.Math.Seq.{get_or-append_seam}
use Rattle.mp_model.specs.ControlLog.{InputLine, answer_of}
use Rattle.mp_model.specs.ControlLog.InputLine.{counts_line, skipped_line}
use Rattle.mp_model.specs.Guard.{Guard}
use Rattle.mp_model.specs.GuardedRun.{Account}
use Rattle.mp_model.specs.Network.{Network, entry}
use Rattle.mp_guard_run.specs.Accounts.{stages_by}
use Rattle.mp_guard_control.specs.Accounts.{AreLeft, accounts_by, accounts_next, accounts_before, counts_in, guarded_answer, answer_by}

-- the accounts hang on the counts of the periods before alone
agree : (net : Network) (guard : Guard) (f g : ℕ → ℕ → ℕ) (n : ℕ) → ((t : ℕ) → t < n → f t ≡ g t) → accounts_before net guard f n ≡ accounts_before net guard g n
agree net guard f g zero same = refl
agree net guard f g (suc n) same = ap₂ (λ (q : ℕ → ℕ) (accounts : List Account). accounts_next net guard q n accounts) (same n (omega arith)) (agree net guard f g n (λ t lt. same t (omega arith)))

counts_first : (counted : List (List ℕ)) (counts : List ℕ) (t : ℕ) → t < length counted → counts_in (counted ++ counts ∷ []) t ≡ counts_in counted t
counts_first counted counts t within = ap entry (get_or_append_left counted (counts ∷ []) [] t within)

counts_last : (counted : List (List ℕ)) (counts : List ℕ) → counts_in (counted ++ counts ∷ []) (length counted) ≡ entry counts
counts_last counted counts = ap entry (get_or-append_seam counted counts [] [])

module _ (net : Network) (guard : Guard) (counted : List (List ℕ)) (counts : List ℕ) (n : ℕ) (owed : List Account) (size : length counted ≡ n) (kept : owed ≡ accounts_before net guard (counts_in counted) (length counted)) where
  before_is : owed ≡ accounts_before net guard (counts_in (counted ++ counts ∷ [])) (length counted)
  before_is = kept ∙ sym (agree net guard (counts_in (counted ++ counts ∷ [])) (counts_in counted) (length counted) (counts_first counted counts))

  pub answer_is : answer_by net guard n owed counts ≡ guarded_answer net guard counted counts
  answer_is =
      ap (λ m. answer_of (m + 1) counts (stages_by net guard (entry counts) m owed)) (sym size)
      ∙ ap₂ (λ (q : ℕ → ℕ) (accounts : List Account). answer_of (length counted + 1) counts (stages_by net guard q (length counted) accounts)) (sym (counts_last counted counts)) before_is

  one_more : length (counted ++ counts ∷ []) ≡ suc (length counted)
  one_more = omega (arith, length-append counted (counts ∷ []))

  pub kept_more : (next : List Account) → next ≡ accounts_next net guard (entry counts) n owed → next ≡ accounts_before net guard (counts_in (counted ++ counts ∷ [])) (length (counted ++ counts ∷ []))
  kept_more next is =
      is ∙ ap (λ m. accounts_next net guard (entry counts) m owed) (sym size)
      ∙ ap₂ (λ (q : ℕ → ℕ) (accounts : List Account). accounts_next net guard q (length counted) accounts) (sym (counts_last counted counts)) before_is
      ∙ ap (accounts_before net guard (counts_in (counted ++ counts ∷ []))) (sym one_more)

-- a line and the accounts that it leaves
module _ (net : Network) (guard : Guard) (n : ℕ) (owed next : List Account) (line : InputLine) (is : next ≡ accounts_by net guard n owed line) where
  pub left_skipped : line ≡ skipped_line → (counted : List (List ℕ)) → AreLeft net guard owed counted → AreLeft net guard next counted
  left_skipped same counted kept = is ∙ ap (accounts_by net guard n owed) same ∙ kept

  pub left_counts : (counted : List (List ℕ)) (counts : List ℕ) → line ≡ counts_line counts → length counted ≡ n → AreLeft net guard owed counted → AreLeft net guard next (counted ++ counts ∷ [])
  left_counts counted counts same size kept = kept_more net guard counted counts n owed size kept next (is ∙ ap (accounts_by net guard n owed) same)
