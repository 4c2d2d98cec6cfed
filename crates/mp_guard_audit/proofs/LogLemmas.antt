-- The lines of a log under a guard say the arrivals of its periods, and what may follow them.
use Rattle.std.proofs.Common.{◌≡◌, ◌≢◌, ◌≤◌, ◌<◌, ◌^◌, ℕ, ◌+◌, List, [], ◌∷◌, ◌++◌, length, take, drop, get_or, refl, sym, ◌∙◌, ap, subst, arith, inl, inr}
use Rattle.std.specs.List.{AllByRecursion}
use Rattle.std.proofs.lemmas.List.{append_assoc, append-nil, append_cancel_left, length-append, map-append, get_or_at, get_or_append_left, length-take-le}
use Rattle.mp_guard_run.specs.Running.{guarded_after, guarded_line, guarded_lines_from}
use Rattle.mp_laws.proofs.Lists.{AllOf-map}
use Rattle.mp_log.proofs.LoggedLemmas.{one_period, period_begins}
use Rattle.mp_log.specs.Logged.{BeginsPeriod}
use Rattle.mp_model.specs.Arrivals.{HasCounts, KeepsTo, arrivals_of, counts_of, IsPermitted}
use Rattle.mp_model.specs.Guard.{Guard}
use Rattle.mp_model.specs.GuardedChoice.{GuardedState, guarded_advance, guarded_opening, guarded_stages}
use Rattle.mp_model.specs.Log.{end_line}
use Rattle.mp_model.specs.Network.{Network, fed, link_at}
use Rattle.mp_model.specs.NetworkRules.{IsAcceptable}
use Rattle.mp_model.specs.Step.{State, queue}
use Rattle.mp_run.proofs.LogLemmas.{IsSmall, small_at}
use Rattle.mp_stream.proofs.BucketLemmas.{keeps_first}
use Rattle.mp_guard_audit.specs.Auditing.{IsNext}
use Rattle.mp_guard_audit.specs.GuardedLog.{BeginsGuardedLog, guarded_state_after, guarded_periods, guarded_run_lines, guarded_log_lines}

counts_split : (net : Network) (A B : List (List ℕ)) (l : ℕ) → counts_of net (A ++ B) l ≡ counts_of net A l ++ counts_of net B l
counts_split net A B l = map-append (λ counts. arrivals_of net counts l) A B

front_all : (P : List ℕ → Type 0) (A B : List (List ℕ)) → AllByRecursion P (A ++ B) → AllByRecursion P A
front_all P [] B all = tt
front_all P (a ∷ A) B all = (all.0, front_all P A B all.1)

-- the periods before others are permitted where all are
permitted_first : (net : Network) (A B : List (List ℕ)) → IsPermitted net (A ++ B) → IsPermitted net A
permitted_first net A B permitted = record {
  counts = front_all (HasCounts net) A B permitted.counts;
  windows = AllOf-map (λ l. KeepsTo net.per (link_at net l).burst (link_at net l).rate (counts_of net (A ++ B) l)) (λ l. KeepsTo net.per (link_at net l).burst (link_at net l).rate (counts_of net A l))
      (λ l keeps. keeps_first net.per (link_at net l).burst (link_at net l).rate (counts_of net A l) (counts_of net B l) (subst (KeepsTo net.per (link_at net l).burst (link_at net l).rate) (counts_split net A B l) keeps))
      (fed net) permitted.windows;
}

all_small : (net : Network) → IsAcceptable net → (before A : List (List ℕ)) → IsPermitted net (before ++ A) → AllByRecursion (IsSmall net) A
all_small net ok before [] permitted = tt
all_small net ok before (counts ∷ A) permitted = (small_at net ok before A counts permitted, all_small net ok (before ++ counts ∷ []) A (subst (IsPermitted net) (sym (append_assoc before (counts ∷ []) A)) permitted))

first_of : (x y : List ℕ) (xs ys : List (List ℕ)) → x ∷ xs ≡ y ∷ ys → x ≡ y
first_of x y xs ys e = ap (λ ls. get_or ls 0 []) e

rest_of : (x y : List ℕ) (xs ys : List (List ℕ)) → x ∷ xs ≡ y ∷ ys → xs ≡ ys
rest_of x y xs ys e = ap (drop 1) e

module _ (net : Network) (guard : Guard) where
  abbrev after : GuardedState → List (List ℕ) → GuardedState
  after now A = guarded_after net guard now A

  abbrev next : List ℕ → GuardedState → GuardedState
  next counts now = guarded_advance net guard counts now

  abbrev line : GuardedState → List ℕ → List ℕ
  line now counts = guarded_line net guard now counts

  abbrev lines : GuardedState → List (List ℕ) → List (List ℕ)
  lines now A = guarded_lines_from net guard now A

  -- the line of a period says its counts
  pub line_begins : (now : GuardedState) (counts : List ℕ) → IsSmall net counts → BeginsPeriod (line now counts) (now.state.period + 1) (length (fed net)) counts
  line_begins now counts small =
      subst (λ n. BeginsPeriod (line now counts) (now.state.period + 1) n counts) small.0 (period_begins (now.state.period + 1) counts (guarded_stages net guard (queue now.state) now) (next counts now).state.queues small.1)

  same_counts : (now : GuardedState) (a b : List ℕ) → IsSmall net a → IsSmall net b → line now a ≡ line now b → a ≡ b
  same_counts now a b x y e =
      one_period (line now a) (now.state.period + 1) (length (fed net)) a b (line_begins now a x) (subst (λ (l : List ℕ). BeginsPeriod l (now.state.period + 1) (length (fed net)) b) (sym e) (line_begins now b y))

  -- a period line and an end line differ in their first byte
  not_end : (now : GuardedState) (state : State) (counts : List ℕ) → line now counts ≢ end_line net state
  not_end now state counts e = let first : 112 ≡ 101 = ap (λ (xs : List ℕ). get_or xs 0 0) e in absurd (omega (arith, first))

  -- lines that follow those of the first periods are those of the other periods, and the end line
  record Follows (now : GuardedState) (all A : List (List ℕ)) (rest : List (List ℕ)) : Type 0 where
    more : List (List ℕ)
    same : all ≡ A ++ more
    left : rest ≡ lines (after now A) more ++ end_line net (after now all).state ∷ []

  follows : (all A : List (List ℕ)) (now : GuardedState) (rest : List (List ℕ)) → AllByRecursion (IsSmall net) all → AllByRecursion (IsSmall net) A
      → lines now all ++ end_line net (after now all).state ∷ [] ≡ lines now A ++ rest → Follows now all A rest
  follows all [] now rest smalls small e = record { more = all; same = refl; left = sym e }
  follows [] (c ∷ A) now rest smalls small e = absurd (not_end now now.state c (sym (first_of (end_line net now.state) (line now c) [] (lines (next c now) A ++ rest) e)))
  follows (b ∷ all) (c ∷ A) now rest smalls small e =
      let others : List (List ℕ) = lines (next b now) all ++ end_line net (after (next b now) all).state ∷ [] in
      let later : List (List ℕ) = lines (next c now) A ++ rest in
      let same : b ≡ c = same_counts now b c smalls.0 small.0 (first_of (line now b) (line now c) others later e) in
      let tails : others ≡ later = rest_of (line now b) (line now c) others later e in
      let f = follows all A (next c now) rest smalls.1 small.1
      (subst (λ (x : List ℕ). lines (next x now) all ++ end_line net (after (next x now) all).state ∷ [] ≡ lines (next c now) A ++ rest) same tails) in
      record {
        more = f.more;
        same = ap (λ x. x ∷ all) same ∙ ap (λ xs. c ∷ xs) f.same;
        left = subst (λ (x : List ℕ). rest ≡ lines (after (next c now) A) f.more ++ end_line net (after (next x now) all).state ∷ []) (sym same) f.left;
      }

  pub state_period : (now : GuardedState) (A : List (List ℕ)) → (after now A).state.period ≡ now.state.period + length A
  state_period now [] = omega arith
  state_period now (c ∷ A) = let rest : (after (next c now) A).state.period ≡ now.state.period + 1 + length A = state_period (next c now) A in omega (arith, rest)

  pub lines_count : (now : GuardedState) (A : List (List ℕ)) → length (lines now A) ≡ length A
  lines_count now [] = refl
  lines_count now (c ∷ A) = let rest = lines_count (next c now) A in omega (arith, rest)

  module _ (ok : IsAcceptable net) (header : List (List ℕ)) where
    log_left : (A more : List (List ℕ)) → IsPermitted net A → (b : BeginsGuardedLog net guard header ((header ++ guarded_periods net guard A) ++ more)) → Follows (guarded_opening net guard) b.arrivals A (more ++ b.rest)
    log_left A more permitted b =
        follows b.arrivals A (guarded_opening net guard) (more ++ b.rest) (all_small net ok [] b.arrivals b.permitted) (all_small net ok [] A permitted)
        (append_cancel_left header (guarded_run_lines net guard b.arrivals) (guarded_periods net guard A ++ (more ++ b.rest)) (b.begins ∙ ap (λ xs. xs ++ b.rest) (append_assoc header (guarded_periods net guard A) more) ∙ append_assoc header (guarded_periods net guard A ++ more) b.rest
        ∙ ap (λ xs. header ++ xs) (append_assoc (guarded_periods net guard A) more b.rest)))

    next_of : (A all : List (List ℕ)) (text : List ℕ) (rest more : List (List ℕ)) → IsPermitted net all → length all ≤ 2 ^ 48 → all ≡ A ++ more
        → text ∷ rest ≡ lines (guarded_state_after net guard A) more ++ end_line net (guarded_state_after net guard all).state ∷ [] → IsNext net guard A text
    next_of A all text rest [] permitted few same is =
        let whole : all ≡ A = same ∙ append-nil A in
        inl (first_of text (end_line net (guarded_state_after net guard all).state) rest [] is ∙ ap (λ (xs : List (List ℕ)). end_line net (guarded_state_after net guard xs).state) whole)
    next_of A all text rest (c ∷ more) permitted few same is =
        let now = guarded_state_after net guard A in
        let size : length all ≡ length A + length (c ∷ more) = ap (length {A = List ℕ}) same ∙ length-append A (c ∷ more) in
        inr (
          c,
          omega (arith, size, few),
          permitted_first net (A ++ c ∷ []) more (subst (IsPermitted net) (same ∙ sym (append_assoc A (c ∷ []) more)) permitted),
          first_of text (line now c) rest (lines (next c now) more ++ end_line net (guarded_state_after net guard all).state ∷ []) is,
        )

    -- the next line of a log behind those of some periods may follow them
    pub next_line : (A : List (List ℕ)) (text : List ℕ) → IsPermitted net A → BeginsGuardedLog net guard header ((header ++ guarded_periods net guard A) ++ text ∷ []) → IsNext net guard A text
    next_line A text permitted b = let f = log_left A (text ∷ []) permitted b in next_of A b.arrivals text b.rest f.more b.permitted b.few f.same f.left

    -- a log is not over with the line of a period
    pub not_over : (A : List (List ℕ)) → IsPermitted net A → (b : BeginsGuardedLog net guard header ((header ++ guarded_periods net guard A) ++ [])) → b.rest ≢ []
    not_over A permitted b none =
        let f = log_left A [] permitted b in
        let size = ap (length {A = List ℕ}) (sym none ∙ f.left) in
        absurd (omega (arith, size, length-append (lines (guarded_state_after net guard A) f.more) (end_line net (guarded_state_after net guard b.arrivals).state ∷ [])))

    past : (now : GuardedState) (st : State) (end text : List ℕ) (rest more : List (List ℕ)) → end ≡ end_line net now.state → end ∷ text ∷ rest ≡ lines now more ++ end_line net st ∷ [] → ⊥
    past now st end text rest [] is e = let size = ap (length {A = List ℕ}) e in absurd (omega (arith, size))
    past now st end text rest (c ∷ more) is e = not_end now now.state c (sym (first_of end (line now c) (text ∷ rest) (lines (next c now) more ++ end_line net st ∷ []) e) ∙ is)

    -- no line follows the end line
    pub none_past : (A : List (List ℕ)) (text : List ℕ) → IsPermitted net A → ¬ BeginsGuardedLog net guard header (guarded_log_lines net guard header A ++ text ∷ [])
    none_past A text permitted b =
        let end = end_line net (guarded_state_after net guard A).state in
        let same : guarded_log_lines net guard header A ++ text ∷ [] ≡ (header ++ guarded_periods net guard A) ++ (end ∷ text ∷ []) =
        ap (λ xs. xs ++ text ∷ []) (sym (append_assoc header (guarded_periods net guard A) (end ∷ []))) ∙ append_assoc (header ++ guarded_periods net guard A) (end ∷ []) (text ∷ []) in
        let c : BeginsGuardedLog net guard header ((header ++ guarded_periods net guard A) ++ (end ∷ text ∷ [])) = subst (BeginsGuardedLog net guard header) same b in
        let f = log_left A (end ∷ text ∷ []) permitted c in past (guarded_state_after net guard A) (guarded_state_after net guard c.arrivals).state end text c.rest f.more refl f.left

    -- the next line of the header is the header's
    pub header_next : (i : ℕ) (text : List ℕ) → i < length header → BeginsGuardedLog net guard header (take i header ++ text ∷ []) → text ≡ get_or header i []
    header_next i text low b =
        let place : length (take i header) ≡ i = length-take-le i header (omega arith) in
        sym (ap (λ xs. get_or xs i []) (append_assoc (take i header) (text ∷ []) b.rest) ∙ get_or_at (take i header) text b.rest [] i place)
        ∙ ap (λ xs. get_or xs i []) (sym b.begins) ∙ get_or_append_left header (guarded_run_lines net guard b.arrivals) [] i low
