-- The lines of a log say the arrivals of its periods, and what may follow them.
use Rattle.std.proofs.Common.{◌≡◌, ◌≢◌, ◌≤◌, ◌<◌, ◌^◌, ℕ, ◌+◌, List, [], ◌∷◌, ◌++◌, length, take, drop, get_or, refl, sym, ◌∙◌, ap, subst, arith, inl, inr}
use Rattle.std.specs.List.{AllByRecursion}
use Rattle.std.proofs.lemmas.List.{append_assoc, append-nil, append_cancel_left, length-append, get_or_at, get_or_append_left, length-take-le}
use Rattle.mp_model.specs.Arrivals.{IsPermitted}
use Rattle.mp_model.specs.Log.{end_line, header_lines}
use Rattle.mp_model.specs.Network.{Network, fed}
use Rattle.mp_model.specs.NetworkRules.{IsAcceptable}
use Rattle.mp_model.specs.ReportedLog.{reported_line, reported_lines_from, reported_run_lines}
use Rattle.mp_model.specs.Reports.{History, Period, advance_by, first_history, history_after, renewed_ages, renewed_periods, reported_stages}
use Rattle.mp_model.specs.Step.{State}
use Rattle.mp_log.specs.Logged.{BeginsPeriod}
use Rattle.mp_log.proofs.LoggedLemmas.{one_period, period_begins}
use Rattle.mp_run.proofs.LogLemmas.{IsSmall, permitted_first, small_at}
use Rattle.mp_event_audit.specs.Behind.{end_behind, history_behind, lines_behind}
use Rattle.mp_event_audit.specs.RenewedLog.{BeginsRenewedLog, renewed_log_lines}
use Rattle.mp_event_audit.specs.Auditing.{IsNext}

-- a period with these counts and renewed reports, after so many periods
abbrev period_at : Network → ℕ → List ℕ → Period
period_at net n counts = record { counts = counts; ages = renewed_ages net n }

abbrev next_at : Network → History → ℕ → List ℕ → History
next_at net history n counts = advance_by net (period_at net n counts) history

abbrev line_at : Network → History → ℕ → List ℕ → List ℕ
line_at net history n counts = reported_line net history (period_at net n counts)

abbrev lines_at : Network → History → ℕ → List (List ℕ) → List (List ℕ)
lines_at net history n A = reported_lines_from net history (renewed_periods net n A)

abbrev history_at : Network → History → ℕ → List (List ℕ) → History
history_at net history n A = history_after net history (renewed_periods net n A)

all_small : (net : Network) → IsAcceptable net → (before A : List (List ℕ)) → IsPermitted net (before ++ A) → AllByRecursion (IsSmall net) A
all_small net ok before [] permitted = tt
all_small net ok before (counts ∷ A) permitted = (small_at net ok before A counts permitted, all_small net ok (before ++ counts ∷ []) A (subst (IsPermitted net) (sym (append_assoc before (counts ∷ []) A)) permitted))

-- the line of a period says its counts
pub line_begins : (net : Network) (history : History) (n : ℕ) (counts : List ℕ) → IsSmall net counts → BeginsPeriod (line_at net history n counts) (history.now.period + 1) (length (fed net)) counts
line_begins net history n counts small =
    subst (λ m. BeginsPeriod (line_at net history n counts) (history.now.period + 1) m counts) small.0 (period_begins (history.now.period + 1) counts (reported_stages net history (renewed_ages net n)) (next_at net history n counts).now.queues small.1)

same_counts : (net : Network) (history : History) (n : ℕ) (a b : List ℕ) → IsSmall net a → IsSmall net b → line_at net history n a ≡ line_at net history n b → a ≡ b
same_counts net history n a b x y e =
    one_period (line_at net history n a) (history.now.period + 1) (length (fed net)) a b (line_begins net history n a x) (subst (λ (line : List ℕ). BeginsPeriod line (history.now.period + 1) (length (fed net)) b) (sym e) (line_begins net history n b y))

-- a period line and an end line differ in their first byte
not_end : (net : Network) (history : History) (n : ℕ) (st : State) (counts : List ℕ) → line_at net history n counts ≢ end_line net st
not_end net history n st counts e = let first : 112 ≡ 101 = ap (λ (xs : List ℕ). get_or xs 0 0) e in absurd (omega (arith, first))

-- lines that follow those of the first periods are those of the other periods, and the end line
record Follows (net : Network) (history : History) (n : ℕ) (all A : List (List ℕ)) (rest : List (List ℕ)) : Type 0 where
  more : List (List ℕ)
  same : all ≡ A ++ more
  place : ℕ
  place_is : place ≡ n + length A
  left : rest ≡ lines_at net (history_at net history n A) place more ++ end_line net (history_at net history n all).now ∷ []

first_of : (x y : List ℕ) (xs ys : List (List ℕ)) → x ∷ xs ≡ y ∷ ys → x ≡ y
first_of x y xs ys e = ap (λ ls. get_or ls 0 []) e

rest_of : (x y : List ℕ) (xs ys : List (List ℕ)) → x ∷ xs ≡ y ∷ ys → xs ≡ ys
rest_of x y xs ys e = ap (drop 1) e

follows : (net : Network) (all A : List (List ℕ)) (history : History) (n : ℕ) (rest : List (List ℕ)) → AllByRecursion (IsSmall net) all → AllByRecursion (IsSmall net) A
    → lines_at net history n all ++ end_line net (history_at net history n all).now ∷ [] ≡ lines_at net history n A ++ rest → Follows net history n all A rest
follows net all [] history n rest smalls small e = record { more = all; same = refl; place = n; place_is = omega arith; left = sym e }
follows net [] (c ∷ A) history n rest smalls small e = absurd (not_end net history n history.now c (sym (first_of (end_line net history.now) (line_at net history n c) [] (lines_at net (next_at net history n c) (n + 1) A ++ rest) e)))
follows net (b ∷ all) (c ∷ A) history n rest smalls small e =
    let others : List (List ℕ) = lines_at net (next_at net history n b) (n + 1) all ++ end_line net (history_at net (next_at net history n b) (n + 1) all).now ∷ [] in
    let later : List (List ℕ) = lines_at net (next_at net history n c) (n + 1) A ++ rest in
    let same : b ≡ c = same_counts net history n b c smalls.0 small.0 (first_of (line_at net history n b) (line_at net history n c) others later e) in
    let tails : others ≡ later = rest_of (line_at net history n b) (line_at net history n c) others later e in
    let f = follows net all A (next_at net history n c) (n + 1) rest smalls.1 small.1
    (subst (λ (x : List ℕ). lines_at net (next_at net history n x) (n + 1) all ++ end_line net (history_at net (next_at net history n x) (n + 1) all).now ∷ [] ≡ lines_at net (next_at net history n c) (n + 1) A ++ rest) same tails) in
    record {
      more = f.more;
      same = ap (λ x. x ∷ all) same ∙ ap (λ xs. c ∷ xs) f.same;
      place = f.place;
      place_is = let is = f.place_is in omega (arith, is);
      left = subst (λ (x : List ℕ). rest ≡ lines_at net (history_at net (next_at net history n c) (n + 1) A) f.place f.more ++ end_line net (history_at net (next_at net history n x) (n + 1) all).now ∷ []) (sym same) f.left;
    }

module _ (net : Network) (ok : IsAcceptable net) (E D : ℕ) (bounds : List ℕ) where
  -- what stands before more lines of a log
  abbrev header : List (List ℕ)
  header = header_lines net E D bounds

  log_left : (A more : List (List ℕ)) → IsPermitted net A → (b : BeginsRenewedLog net E D bounds ((header ++ lines_behind net A) ++ more)) → Follows net (first_history net) 0 b.arrivals A (more ++ b.rest)
  log_left A more permitted b =
      follows net b.arrivals A (first_history net) 0 (more ++ b.rest) (all_small net ok [] b.arrivals b.permitted) (all_small net ok [] A permitted)
      (append_cancel_left header (reported_run_lines net (renewed_periods net 0 b.arrivals)) (lines_behind net A ++ (more ++ b.rest)) (b.begins ∙ ap (λ xs. xs ++ b.rest) (append_assoc header (lines_behind net A) more) ∙ append_assoc header (lines_behind net A ++ more) b.rest
      ∙ ap (λ xs. header ++ xs) (append_assoc (lines_behind net A) more b.rest)))

  next_of : (A all : List (List ℕ)) (line : List ℕ) (rest more : List (List ℕ)) (place : ℕ) → place ≡ length A → IsPermitted net all → length all ≤ 2 ^ 48 → all ≡ A ++ more → line ∷ rest ≡ lines_at net (history_behind net A) place more ++ end_behind net all ∷ []
      → IsNext net A line
  next_of A all line rest [] place at permitted few same is =
      let whole : all ≡ A = same ∙ append-nil A in
      inl (first_of line (end_behind net all) rest [] is ∙ ap (λ (xs : List (List ℕ)). end_behind net xs) whole)
  next_of A all line rest (c ∷ more) place at permitted few same is =
      let size : length all ≡ length A + length (c ∷ more) = ap (length {A = List ℕ}) same ∙ length-append A (c ∷ more) in
      inr (
        c,
        omega arith,
        permitted_first net (A ++ c ∷ []) more (subst (IsPermitted net) (same ∙ sym (append_assoc A (c ∷ []) more)) permitted),
        first_of line (line_at net (history_behind net A) place c) rest (lines_at net (next_at net (history_behind net A) place c) (place + 1) more ++ end_behind net all ∷ []) is ∙ ap (λ n. line_at net (history_behind net A) n c) at,
      )

  -- the next line of a log behind those of some periods may follow them
  pub next_line : (A : List (List ℕ)) (line : List ℕ) → IsPermitted net A → BeginsRenewedLog net E D bounds ((header ++ lines_behind net A) ++ line ∷ []) → IsNext net A line
  next_line A line permitted b =
      let f = log_left A (line ∷ []) permitted b in
      let at : f.place ≡ length A = let is = f.place_is in omega (arith, is) in
      next_of A b.arrivals line b.rest f.more f.place at b.permitted b.few f.same f.left

  -- a log is not over with the line of a period
  pub not_over : (A : List (List ℕ)) → IsPermitted net A → (b : BeginsRenewedLog net E D bounds ((header ++ lines_behind net A) ++ [])) → b.rest ≢ []
  not_over A permitted b none =
      let f = log_left A [] permitted b in
      let size = ap (length {A = List ℕ}) (sym none ∙ f.left) in
      absurd (omega (arith, size, length-append (lines_at net (history_behind net A) f.place f.more) (end_behind net b.arrivals ∷ [])))

  past : (history : History) (n : ℕ) (st : State) (end line : List ℕ) (rest more : List (List ℕ)) → end ≡ end_line net history.now → end ∷ line ∷ rest ≡ lines_at net history n more ++ end_line net st ∷ [] → ⊥
  past history n st end line rest [] is e = let size = ap (length {A = List ℕ}) e in absurd (omega (arith, size))
  past history n st end line rest (c ∷ more) is e = not_end net history n history.now c (sym (first_of end (line_at net history n c) (line ∷ rest) (lines_at net (next_at net history n c) (n + 1) more ++ end_line net st ∷ []) e) ∙ is)

  -- no line follows the end line
  pub none_past : (A : List (List ℕ)) (line : List ℕ) → IsPermitted net A → ¬ BeginsRenewedLog net E D bounds (renewed_log_lines net E D bounds A ++ line ∷ [])
  none_past A line permitted b =
      let end = end_behind net A in
      let same : renewed_log_lines net E D bounds A ++ line ∷ [] ≡ (header ++ lines_behind net A) ++ (end ∷ line ∷ []) =
      ap (λ xs. xs ++ line ∷ []) (sym (append_assoc header (lines_behind net A) (end ∷ []))) ∙ append_assoc (header ++ lines_behind net A) (end ∷ []) (line ∷ []) in
      let c : BeginsRenewedLog net E D bounds ((header ++ lines_behind net A) ++ (end ∷ line ∷ [])) = subst (BeginsRenewedLog net E D bounds) same b in
      let f = log_left A (end ∷ line ∷ []) permitted c in past (history_behind net A) f.place (history_behind net c.arrivals).now end line c.rest f.more refl f.left

  -- the next line of the header is the header's
  pub header_next : (i : ℕ) (line : List ℕ) → i < length header → BeginsRenewedLog net E D bounds (take i header ++ line ∷ []) → line ≡ get_or header i []
  header_next i line low b =
      let place : length (take i header) ≡ i = length-take-le i header (omega arith) in
      sym (ap (λ xs. get_or xs i []) (append_assoc (take i header) (line ∷ []) b.rest) ∙ get_or_at (take i header) line b.rest [] i place)
      ∙ ap (λ xs. get_or xs i []) (sym b.begins) ∙ get_or_append_left header (reported_run_lines net (renewed_periods net 0 b.arrivals)) [] i low
