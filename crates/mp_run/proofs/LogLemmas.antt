-- The lines of a log say the arrivals of its periods, and what may follow them.
use Rattle.std.proofs.Common.{◌≡◌, ◌≢◌, ◌≤◌, ◌<◌, ◌^◌, ℕ, zero, suc, ◌+◌, ◌-◌, ◌*◌, List, [], ◌∷◌, ◌++◌, length, take, drop, get_or, refl, sym, ◌∙◌, ap, subst, arith, mul-le-mul_left, inl, inr}
use Rattle.std.specs.List.{All, AllByRecursion}
use Rattle.std.proofs.Math.Nat.{le_of_mul-le-mul_left}
use Rattle.std.proofs.lemmas.List.{append_assoc, append-nil, append_cancel_left, length-append, map-append, get_or_default, get_or_at, get_or_append_left, length-take-le}
use Rattle.mp_model.specs.Network.{Network, fed, link_at, link_numbers, is_fed, no_link}
use Rattle.mp_model.specs.NetworkRules.{IsAcceptable}
use Rattle.mp_model.specs.Arrivals.{HasCounts, KeepsTo, arrivals_of, counts_of, count_in, IsPermitted}
use Rattle.mp_model.specs.Step.{State, queue}
use Rattle.mp_model.specs.Run.{opening, advance, state_after, greatest_stages}
use Rattle.mp_model.specs.Log.{line_after, lines_from, period_lines, end_line, run_lines, header_lines, log_lines}
use Rattle.mp_model.specs.WholeLog.{BeginsLog}
use Rattle.mp_laws.proofs.Lists.{at_index, AllOf-map}
use Rattle.mp_laws.proofs.Distinct.{range_distinct, distinct_filter}
use Rattle.mp_press.proofs.Among.{count_here}
use Rattle.mp_log.specs.Logged.{BeginsPeriod}
use Rattle.mp_log.proofs.LoggedLemmas.{one_period, period_begins}
use Rattle.mp_run.specs.Auditing.{IsNext}
use Rattle.mp_stream.proofs.BucketLemmas.{keeps_first}

at_place : (P : ℕ → Type 0) (xs : List ℕ) (i : ℕ) → i < length xs → AllByRecursion P xs → P (get_or xs i 0)
at_place P [] i low all = absurd (omega arith)
at_place P (x ∷ xs) zero low all = all.0
at_place P (x ∷ xs) (suc i) low all = at_place P xs i (omega arith) all.1

-- a window of one period bounds its count
most_of_one : (per burst rate a : ℕ) → 1 ≤ per → burst ≤ 10000 → rate ≤ 1000 * per → per * (0 + a) ≤ per * burst + rate * 1 → a < 10 ^ 9
most_of_one per burst rate a some low slow keeps =
    let bursts : per * burst ≤ per * 10000 = mul-le-mul_left per low in
    let counts : per * (0 + a) ≤ per * 11000 = omega arith in
    let few : 0 + a ≤ 11000 = le_of_mul-le-mul_left {k = per} counts some in omega (arith, few)

counts_split : (net : Network) (A B : List (List ℕ)) (l : ℕ) → counts_of net (A ++ B) l ≡ counts_of net A l ++ counts_of net B l
counts_split net A B l = map-append (λ counts. arrivals_of net counts l) A B

counts_at : (net : Network) (A rest : List (List ℕ)) (counts : List ℕ) → AllByRecursion (HasCounts net) (A ++ counts ∷ rest) → HasCounts net counts
counts_at net [] rest counts all = all.0
counts_at net (a ∷ A) rest counts all = counts_at net A rest counts all.1

front_all : (P : List ℕ → Type 0) (A B : List (List ℕ)) → AllByRecursion P (A ++ B) → AllByRecursion P A
front_all P [] B all = tt
front_all P (a ∷ A) B all = (all.0, front_all P A B all.1)

-- the periods before others are permitted where all are
pub permitted_first : (net : Network) (A B : List (List ℕ)) → IsPermitted net (A ++ B) → IsPermitted net A
permitted_first net A B permitted = record {
  counts = front_all (HasCounts net) A B permitted.counts;
  windows = AllOf-map (λ l. KeepsTo net.per (link_at net l).burst (link_at net l).rate (counts_of net (A ++ B) l)) (λ l. KeepsTo net.per (link_at net l).burst (link_at net l).rate (counts_of net A l))
      (λ l keeps. keeps_first net.per (link_at net l).burst (link_at net l).rate (counts_of net A l) (counts_of net B l) (subst (KeepsTo net.per (link_at net l).burst (link_at net l).rate) (counts_split net A B l) keeps))
      (fed net) permitted.windows;
}

-- one count per fed link, each small
abbrev pub IsSmall : Network → List ℕ → Type 0
IsSmall net counts = HasCounts net counts × All (λ a. a < 10 ^ 9) counts

small_link : (net : Network) → IsAcceptable net → (A rest : List (List ℕ)) (counts : List ℕ) (l : ℕ) → KeepsTo net.per (link_at net l).burst (link_at net l).rate (counts_of net (A ++ counts ∷ rest) l) → arrivals_of net counts l < 10 ^ 9
small_link net ok A rest counts l keeps =
    most_of_one net.per (link_at net l).burst (link_at net l).rate (arrivals_of net counts l) ok.network.per
    (at_index (λ link. link.burst ≤ 10000) no_link net.links (l - 1) ok.range.bursts (omega arith)) (at_index (λ link. link.rate ≤ 1000 * net.per) no_link net.links (l - 1) ok.range.rates (omega arith))
    (keeps (counts_of net A l) (arrivals_of net counts l ∷ []) (counts_of net rest l) (counts_split net A (counts ∷ rest) l))

pub small_at : (net : Network) → IsAcceptable net → (A rest : List (List ℕ)) (counts : List ℕ) → IsPermitted net (A ++ counts ∷ rest) → IsSmall net counts
small_at net ok A rest counts permitted =
    let size : HasCounts net counts = counts_at net A rest counts permitted.counts in (
      size,
      λ k d low.
          let within : k < length (fed net) = omega (arith, size) in
          let l : ℕ = get_or (fed net) k 0 in
          let keeps = at_place (λ m. KeepsTo net.per (link_at net m).burst (link_at net m).rate (counts_of net (A ++ counts ∷ rest) m)) (fed net) k within permitted.windows in
          let small : count_in (fed net) counts l < 10 ^ 9 = small_link net ok A rest counts l keeps in
          let here : count_in (fed net) counts l ≡ get_or counts k 0 = count_here (fed net) counts (distinct_filter (λ m. is_fed (link_at net m)) (link_numbers net) (range_distinct 1 (length net.links))) size k within in
          rw (get_or_default counts k d 0 low, ← here) small,
    )

all_small : (net : Network) → IsAcceptable net → (before A : List (List ℕ)) → IsPermitted net (before ++ A) → AllByRecursion (IsSmall net) A
all_small net ok before [] permitted = tt
all_small net ok before (counts ∷ A) permitted = (small_at net ok before A counts permitted, all_small net ok (before ++ counts ∷ []) A (subst (IsPermitted net) (sym (append_assoc before (counts ∷ []) A)) permitted))

-- the line of a period says its counts
pub line_begins : (net : Network) (state : State) (counts : List ℕ) → IsSmall net counts → BeginsPeriod (line_after net state counts) (state.period + 1) (length (fed net)) counts
line_begins net state counts small =
    subst (λ n. BeginsPeriod (line_after net state counts) (state.period + 1) n counts) small.0 (period_begins (state.period + 1) counts (greatest_stages net (queue state)) (advance net counts state).queues small.1)

pub same_counts : (net : Network) (state : State) (a b : List ℕ) → IsSmall net a → IsSmall net b → line_after net state a ≡ line_after net state b → a ≡ b
same_counts net state a b x y e =
    one_period (line_after net state a) (state.period + 1) (length (fed net)) a b (line_begins net state a x) (subst (λ (line : List ℕ). BeginsPeriod line (state.period + 1) (length (fed net)) b) (sym e) (line_begins net state b y))

-- a period line and an end line differ in their first byte
pub not_end : (net : Network) (state st : State) (counts : List ℕ) → line_after net state counts ≢ end_line net st
not_end net state st counts e = let first : 112 ≡ 101 = ap (λ (xs : List ℕ). get_or xs 0 0) e in absurd (omega (arith, first))

-- lines that follow those of the first periods are those of the other periods, and the end line
record Follows (net : Network) (state : State) (all A : List (List ℕ)) (rest : List (List ℕ)) : Type 0 where
  more : List (List ℕ)
  same : all ≡ A ++ more
  left : rest ≡ lines_from net (state_after net state A) more ++ end_line net (state_after net state all) ∷ []

first_of : (x y : List ℕ) (xs ys : List (List ℕ)) → x ∷ xs ≡ y ∷ ys → x ≡ y
first_of x y xs ys e = ap (λ ls. get_or ls 0 []) e

rest_of : (x y : List ℕ) (xs ys : List (List ℕ)) → x ∷ xs ≡ y ∷ ys → xs ≡ ys
rest_of x y xs ys e = ap (drop 1) e

follows : (net : Network) (all A : List (List ℕ)) (state : State) (rest : List (List ℕ)) → AllByRecursion (IsSmall net) all → AllByRecursion (IsSmall net) A
    → lines_from net state all ++ end_line net (state_after net state all) ∷ [] ≡ lines_from net state A ++ rest → Follows net state all A rest
follows net all [] state rest smalls small e = record { more = all; same = refl; left = sym e }
follows net [] (c ∷ A) state rest smalls small e = absurd (not_end net state state c (sym (first_of (end_line net state) (line_after net state c) [] (lines_from net (advance net c state) A ++ rest) e)))
follows net (b ∷ all) (c ∷ A) state rest smalls small e =
    let others : List (List ℕ) = lines_from net (advance net b state) all ++ end_line net (state_after net (advance net b state) all) ∷ [] in
    let later : List (List ℕ) = lines_from net (advance net c state) A ++ rest in
    let same : b ≡ c = same_counts net state b c smalls.0 small.0 (first_of (line_after net state b) (line_after net state c) others later e) in
    let tails : others ≡ later = rest_of (line_after net state b) (line_after net state c) others later e in
    let f = follows net all A (advance net c state) rest smalls.1 small.1
    (subst (λ (x : List ℕ). lines_from net (advance net x state) all ++ end_line net (state_after net (advance net x state) all) ∷ [] ≡ lines_from net (advance net c state) A ++ rest) same tails) in
    record {
      more = f.more;
      same = ap (λ x. x ∷ all) same ∙ ap (λ xs. c ∷ xs) f.same;
      left = subst (λ (x : List ℕ). rest ≡ lines_from net (state_after net (advance net c state) A) f.more ++ end_line net (state_after net (advance net x state) all) ∷ []) (sym same) f.left;
    }

pub state_period : (net : Network) (state : State) (A : List (List ℕ)) → (state_after net state A).period ≡ state.period + length A
state_period net state [] = omega arith
state_period net state (c ∷ A) = let rest = state_period net (advance net c state) A in omega (arith, rest)

module _ (net : Network) (ok : IsAcceptable net) (E D : ℕ) (bounds : List ℕ) where
  -- what stands before more lines of a log
  abbrev pub header : List (List ℕ)
  header = header_lines net E D bounds

  log_left : (A more : List (List ℕ)) → IsPermitted net A → (b : BeginsLog net E D bounds ((header ++ period_lines net A) ++ more)) → Follows net (opening net) b.arrivals A (more ++ b.rest)
  log_left A more permitted b =
      follows net b.arrivals A (opening net) (more ++ b.rest) (all_small net ok [] b.arrivals b.permitted) (all_small net ok [] A permitted)
      (append_cancel_left header (run_lines net b.arrivals) (period_lines net A ++ (more ++ b.rest)) (b.begins ∙ ap (λ xs. xs ++ b.rest) (append_assoc header (period_lines net A) more) ∙ append_assoc header (period_lines net A ++ more) b.rest
      ∙ ap (λ xs. header ++ xs) (append_assoc (period_lines net A) more b.rest)))

  next_of : (A all : List (List ℕ)) (line : List ℕ) (rest more : List (List ℕ)) → IsPermitted net all → length all ≤ 2 ^ 48 → all ≡ A ++ more → line ∷ rest ≡ lines_from net (state_after net (opening net) A) more ++ end_line net (state_after net (opening net) all) ∷ []
      → IsNext net A line
  next_of A all line rest [] permitted few same is =
      let whole : all ≡ A = same ∙ append-nil A in
      inl (first_of line (end_line net (state_after net (opening net) all)) rest [] is ∙ ap (λ (xs : List (List ℕ)). end_line net (state_after net (opening net) xs)) whole)
  next_of A all line rest (c ∷ more) permitted few same is =
      let state = state_after net (opening net) A in
      let size : length all ≡ length A + length (c ∷ more) = ap (length {A = List ℕ}) same ∙ length-append A (c ∷ more) in
      inr (
        c,
        omega arith,
        permitted_first net (A ++ c ∷ []) more (subst (IsPermitted net) (same ∙ sym (append_assoc A (c ∷ []) more)) permitted),
        first_of line (line_after net state c) rest (lines_from net (advance net c state) more ++ end_line net (state_after net (opening net) all) ∷ []) is,
      )

  -- the next line of a log behind those of some periods may follow them
  pub next_line : (A : List (List ℕ)) (line : List ℕ) → IsPermitted net A → BeginsLog net E D bounds ((header ++ period_lines net A) ++ line ∷ []) → IsNext net A line
  next_line A line permitted b = let f = log_left A (line ∷ []) permitted b in next_of A b.arrivals line b.rest f.more b.permitted b.few f.same f.left

  -- a log is not over with the line of a period
  pub not_over : (A : List (List ℕ)) → IsPermitted net A → (b : BeginsLog net E D bounds ((header ++ period_lines net A) ++ [])) → b.rest ≢ []
  not_over A permitted b none =
      let f = log_left A [] permitted b in
      let size = ap (length {A = List ℕ}) (sym none ∙ f.left) in
      absurd (omega (arith, size, length-append (lines_from net (state_after net (opening net) A) f.more) (end_line net (state_after net (opening net) b.arrivals) ∷ [])))

  past : (A : List (List ℕ)) (state st : State) (end line : List ℕ) (rest more : List (List ℕ)) → end ≡ end_line net state → end ∷ line ∷ rest ≡ lines_from net state more ++ end_line net st ∷ [] → ⊥
  past A state st end line rest [] is e = let size = ap (length {A = List ℕ}) e in absurd (omega (arith, size))
  past A state st end line rest (c ∷ more) is e = not_end net state state c (sym (first_of end (line_after net state c) (line ∷ rest) (lines_from net (advance net c state) more ++ end_line net st ∷ []) e) ∙ is)

  -- no line follows the end line
  pub none_past : (A : List (List ℕ)) (line : List ℕ) → IsPermitted net A → ¬ BeginsLog net E D bounds (log_lines net E D bounds A ++ line ∷ [])
  none_past A line permitted b =
      let end = end_line net (state_after net (opening net) A) in
      let same : log_lines net E D bounds A ++ line ∷ [] ≡ (header ++ period_lines net A) ++ (end ∷ line ∷ []) =
      ap (λ xs. xs ++ line ∷ []) (sym (append_assoc header (period_lines net A) (end ∷ []))) ∙ append_assoc (header ++ period_lines net A) (end ∷ []) (line ∷ []) in
      let c : BeginsLog net E D bounds ((header ++ period_lines net A) ++ (end ∷ line ∷ [])) = subst (BeginsLog net E D bounds) same b in
      let f = log_left A (end ∷ line ∷ []) permitted c in past A (state_after net (opening net) A) (state_after net (opening net) c.arrivals) end line c.rest f.more refl f.left

  -- the next line of the header is the header's
  pub header_next : (i : ℕ) (line : List ℕ) → i < length header → BeginsLog net E D bounds (take i header ++ line ∷ []) → line ≡ get_or header i []
  header_next i line low b =
      let place : length (take i header) ≡ i = length-take-le i header (omega arith) in
      sym (ap (λ xs. get_or xs i []) (append_assoc (take i header) (line ∷ []) b.rest) ∙ get_or_at (take i header) line b.rest [] i place)
      ∙ ap (λ xs. get_or xs i []) (sym b.begins) ∙ get_or_append_left header (run_lines net b.arrivals) [] i low
