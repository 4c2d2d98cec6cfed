-- An audit, line by line, and where a text differs from a log.
use Rattle.std.proofs.Common.{◌≡◌, ◌≢◌, ◌≤◌, ◌<◌, ◌^◌, ℕ, ℤ, ◌+◌, ◌-◌, List, [], ◌∷◌, ◌++◌, length, take, drop, get_or, Option, refl, sym, ◌∙◌, ap, subst, arith, ⊎_elim}
use Rattle.std.proofs.lemmas.List.{append_assoc, append-nil, length-append, take-append-drop, take_at, take_all, take_more, length-take-le}
use Rattle.mp_edge.specs.Outside.{Tells}
use Rattle.mp_edge.proofs.Told.{Tells-then, Tells-same}
use Rattle.mp_model.specs.Network.{Network}
use Rattle.mp_model.specs.NetworkRules.{IsAcceptable}
use Rattle.mp_model.specs.Arrivals.{IsPermitted}
use Rattle.mp_model.specs.Step.{State}
use Rattle.mp_model.specs.Run.{opening, advance, state_after}
use Rattle.mp_model.specs.Log.{lines_from, period_lines, end_line, run_lines, header_lines, log_lines}
use Rattle.mp_model.specs.Stream.{lines_of}
use Rattle.mp_model.specs.WholeLog.{BeginsLog, DiffersAt}
use Rattle.mp_text.specs.Cut.{Cut}
use Rattle.mp_log.specs.Heading.{header_line}
use Rattle.mp_press.specs.Queues.{naturals}
use Rattle.mp_step.specs.Standing.{Standing, Stands}
use Rattle.mp_step.specs.Taken.{HasTaken}
use Rattle.mp_run.specs.Auditing.{HasSeen, Compares, LacksLine, LacksNext, IsNext, MovesOn, TakesNext, EndsAfter, Auditing, AuditsAs}
use Rattle.mp_run.specs.declared.auditing.Compared.TheVariants as compared
use Rattle.mp_run.specs.declared.auditing.Logged.TheVariants.{Period, End, Other}
use Rattle.mp_run.specs.declared.auditing.AuditEnd.{AuditEnd}
use Rattle.mp_run.specs.declared.auditing.AuditEnd.TheVariants.{Done, Differs, Read}
use Rattle.mp_stream.proofs.BucketLemmas.{permitted_empty}
use Rattle.mp_run.proofs.LogLemmas.{next_line, not_over, none_past, header_next, state_period}
use Rattle.mp_run.proofs.CourseLemmas.{state_more, lines_more}

-- lines that were seen, and one more
pub seen_start : (whole : Option (List ℕ)) (held : List ℕ) → held ≡ [] → HasSeen [] whole whole held
seen_start whole held empty = Tells-same whole _ (λ text. ap (λ (xs : List ℕ). lines_of (xs ++ text)) (sym empty))

pub seen_more : (lines : List (List ℕ)) (line : List ℕ) (whole left left' : Option (List ℕ)) (held held' : List ℕ) → HasSeen lines whole left held
    → Tells left left' (λ was now. lines_of (held ++ was) ≡ line ∷ lines_of (held' ++ now)) → HasSeen (lines ++ line ∷ []) whole left' held'
seen_more lines line whole left left' held held' seen told =
    Tells-then _ _ _ _ _ _ (λ text was now s next. s ∙ ap (λ xs. lines ++ xs) next ∙ sym (append_assoc lines (line ∷ []) (lines_of (held' ++ now)))) seen told

module _ (net : Network) (E D : ℕ) (bounds text : List ℕ) where
  -- the next line is none of a log's
  differs_here : (seen more : List (List ℕ)) (line : List ℕ) (n : ℕ) → lines_of text ≡ seen ++ line ∷ more → n ≡ length seen + 1 → BeginsLog net E D bounds seen → ¬ BeginsLog net E D bounds (seen ++ line ∷ []) → DiffersAt net E D bounds text n
  differs_here seen more line n is number begins none =
      let whole : lines_of text ≡ (seen ++ line ∷ []) ++ more = is ∙ sym (append_assoc seen (line ∷ []) more) in
      let before : take (n - 1) (lines_of text) ≡ seen = ap (take (n - 1)) is ∙ take_at seen (line ∷ more) (n - 1) (omega arith) in
      let with_it : take n (lines_of text) ≡ seen ++ line ∷ [] = ap (take n) whole ∙ take_at (seen ++ line ∷ []) more n (omega (arith, length-append seen (line ∷ []))) in
      record {
        number = (omega arith, omega (arith, ap (length {A = List ℕ}) is, length-append seen (line ∷ more)));
        before = subst (BeginsLog net E D bounds) (sym before) begins;
        here = λ within b. none (subst (BeginsLog net E D bounds) with_it b);
        not_whole = λ w. none (record { arrivals = w.arrivals; permitted = w.permitted; few = w.few; rest = more; begins = sym w.lines ∙ whole });
      }

  -- the next line is missing
  differs_missing : (seen : List (List ℕ)) (n : ℕ) → lines_of text ≡ seen → n ≡ length seen + 1 → BeginsLog net E D bounds seen → ((b : BeginsLog net E D bounds (seen ++ [])) → b.rest ≢ []) → DiffersAt net E D bounds text n
  differs_missing seen n is number begins none =
      let size = ap (length {A = List ℕ}) is in
      let before : take (n - 1) (lines_of text) ≡ seen = ap (take (n - 1)) is ∙ take_all (n - 1) seen (omega arith) in
      record {
        number = (omega arith, omega (arith, size));
        before = subst (BeginsLog net E D bounds) (sym before) begins;
        here = λ within b. absurd (omega (arith, size));
        not_whole = λ w. none (record { arrivals = w.arrivals; permitted = w.permitted; few = w.few; rest = []; begins = sym w.lines ∙ is ∙ sym (append-nil seen) ∙ sym (append-nil (seen ++ [])) }) refl;
      }

module _ (net : Network) (ok : IsAcceptable net) (E D : ℕ) (bounds : List ℕ) where
  abbrev header : List (List ℕ)
  header = header_lines net E D bounds

  header_begins : (i : ℕ) → BeginsLog net E D bounds (take i header)
  header_begins i = record {
    arrivals = [];
    permitted = permitted_empty net;
    few = omega arith;
    rest = drop i header ++ run_lines net [];
    begins = ap (λ xs. xs ++ run_lines net []) (sym (take-append-drop i header)) ∙ append_assoc (take i header) (drop i header) (run_lines net []);
  }

  -- a line that is not the header's
  header_lacks : (text : List ℕ) (i : ℕ) (lines : List (List ℕ)) (wanted : List ℕ) → i < length header → wanted ≡ get_or header i [] → lines_of text ≡ take i header ++ lines → LacksLine lines wanted → DiffersAt net E D bounds text (i + 1)
  header_lacks text i lines wanted low is told lacks =
      let size : length (take i header) ≡ i = length-take-le i header (omega arith) in
      ⊎_elim (λ (none : lines ≡ []). differs_missing net E D bounds text (take i header) (i + 1) (told ∙ ap (λ xs. take i header ++ xs) none ∙ append-nil (take i header)) (ap (λ k. k + 1) (sym size)) (header_begins i)
      (λ b over.
      let all = ap (length {A = List ℕ}) (b.begins ∙ ap (λ xs. (take i header ++ []) ++ xs) over ∙ append-nil (take i header ++ []) ∙ append-nil (take i header)) in
      absurd (omega (arith, all, length-append header (run_lines net b.arrivals)))))
      (λ (other : (line : List ℕ) × (more : List (List ℕ)) × (lines ≡ line ∷ more) × (line ≢ wanted)).
      differs_here net E D bounds text (take i header) other.1 other.0 (i + 1) (told ∙ ap (λ xs. take i header ++ xs) other.2) (ap (λ k. k + 1) (sym size)) (header_begins i)
      (λ b. other.3 (header_next net ok E D bounds i other.0 low b ∙ sym is))) lacks

  pub header_differs : (i : ℕ) (wanted : List ℕ) (whole left left' : Option (List ℕ)) (old new : Cut) → i < length header → wanted ≡ get_or header i [] → HasSeen (take i header) whole left old.held → Tells left left' (Compares wanted compared.Other old new)
      → AuditsAs net E D bounds (Differs (i + 1)) whole left'
  header_differs i wanted whole left left' old new low is seen told = Tells-then _ _ _ _ _ _ (λ text was now s lacks. header_lacks text i (lines_of (old.held ++ was)) wanted low is s lacks) seen told

  pub header_more : (i : ℕ) (wanted : List ℕ) (whole left left' : Option (List ℕ)) (old new : Cut) → i < length header → wanted ≡ get_or header i [] → HasSeen (take i header) whole left old.held → Tells left left' (Compares wanted compared.Same old new)
      → HasSeen (take (i + 1) header) whole left' new.held
  header_more i wanted whole left left' old new low is seen told =
      subst (λ lines. HasSeen lines whole left' new.held) (ap (λ line. take i header ++ line ∷ []) is ∙ sym (take_more header i [] low)) (seen_more (take i header) wanted whole left left' old.held new.held seen told)

  periods_begin : (A : List (List ℕ)) → IsPermitted net A → length A ≤ 2 ^ 48 → BeginsLog net E D bounds (header ++ period_lines net A)
  periods_begin A permitted few = record {
    arrivals = A;
    permitted = permitted;
    few = few;
    rest = end_line net (state_after net (opening net) A) ∷ [];
    begins = sym (append_assoc header (period_lines net A) (end_line net (state_after net (opening net) A) ∷ []));
  }

  lines_count : (state : State) (A : List (List ℕ)) → length (lines_from net state A) ≡ length A
  lines_count state [] = refl
  lines_count state (c ∷ A) = let rest = lines_count (advance net c state) A in omega (arith, rest)

  seen_count : (A : List (List ℕ)) → length (header ++ period_lines net A) ≡ length header + length A
  seen_count A = omega (arith, length-append header (period_lines net A), lines_count (opening net) A)

  -- a line that may not follow those of the periods
  next_lacks : (text : List ℕ) (A : List (List ℕ)) (lines : List (List ℕ)) (n : ℕ) → IsPermitted net A → length A ≤ 2 ^ 48 → n ≡ length header + length A + 1 → lines_of text ≡ (header ++ period_lines net A) ++ lines → LacksNext net A lines → DiffersAt net E D bounds text n
  next_lacks text A lines n permitted few number told lacks =
      let seen : List (List ℕ) = header ++ period_lines net A in
      let size : n ≡ length seen + 1 = omega (arith, seen_count A) in
      ⊎_elim (λ (none : lines ≡ []). differs_missing net E D bounds text seen n (told ∙ ap (λ xs. seen ++ xs) none ∙ append-nil seen) size (periods_begin A permitted few) (λ b over. not_over net ok E D bounds A permitted b over))
      (λ (other : (line : List ℕ) × (more : List (List ℕ)) × (lines ≡ line ∷ more) × (¬ IsNext net A line)).
      differs_here net E D bounds text seen other.1 other.0 n (told ∙ ap (λ xs. seen ++ xs) other.2) size (periods_begin A permitted few) (λ b. other.3 (next_line net ok E D bounds A other.0 permitted b))) lacks

  pub auditing_start : (whole left : Option (List ℕ)) (held : List ℕ) (standing : Standing) → Stands net standing (opening net) → HasTaken net standing [] → HasSeen header whole left held → Auditing net header whole left held standing
  auditing_start whole left held standing stands taken seen = record {
    arrivals = [];
    stands = stands;
    taken = taken;
    seen = subst (λ lines. HasSeen lines whole left held) (sym (append-nil header)) seen;
  }

  -- one more period
  pub auditing_more : (whole left left' : Option (List ℕ)) (cut cut' : Cut) (old new : Standing) → Auditing net header whole left cut.held old → MovesOn net cut'.line Period old new → Tells left left' (TakesNext net Period old cut cut')
      → Auditing net header whole left' cut'.held new
  auditing_more whole left left' cut cut' old new p moves told =
      let state = state_after net (opening net) p.arrivals in
      let counts : List ℕ = moves.0 in
      let closes = moves.3 in
      let lines : (header ++ period_lines net p.arrivals) ++ cut'.line ∷ [] ≡ header ++ period_lines net (p.arrivals ++ counts ∷ []) =
      append_assoc header (period_lines net p.arrivals) (cut'.line ∷ []) ∙ ap (λ line. header ++ (period_lines net p.arrivals ++ line ∷ [])) (closes.line_is state p.stands)
      ∙ ap (λ xs. header ++ xs) (sym (lines_more net (opening net) p.arrivals counts)) in
      record {
        arrivals = p.arrivals ++ counts ∷ [];
        stands = subst (λ (s : State). Stands net new s) (sym (state_more net (opening net) p.arrivals counts)) (closes.moved state p.stands);
        taken = closes.taken p.arrivals p.taken;
        seen = subst (λ ls. HasSeen ls whole left' cut'.held) lines (seen_more (header ++ period_lines net p.arrivals) cut'.line whole left left' cut.held cut'.held p.seen told);
      }

  periods_are : (standing : Standing) (A : List (List ℕ)) → Stands net standing (state_after net (opening net) A) → standing.period ≡ length A
  periods_are standing A stands = let p = stands.period in let n = state_period net (opening net) A in omega (arith, p, n)

  -- the next line may not follow
  pub auditing_differs : (whole left left' : Option (List ℕ)) (cut cut' : Cut) (standing : Standing) (n : ℕ) → Auditing net header whole left cut.held standing → standing.period ≤ 2 ^ 48 → n ≡ length header + standing.period + 1
      → Tells left left' (TakesNext net Other standing cut cut') → AuditsAs net E D bounds (Differs n) whole left'
  auditing_differs whole left left' cut cut' standing n p few number told =
      let periods = periods_are standing p.arrivals p.stands in
      Tells-then _ _ _ _ _ _ (λ text was now s lacks. next_lacks text p.arrivals (lines_of (cut.held ++ was)) n p.taken.permitted (omega (arith, periods)) (omega (arith, periods)) s (lacks p.arrivals p.taken p.stands)) p.seen told

  -- what stands behind the end line
  end_seen : (A : List (List ℕ)) (line : List ℕ) → line ≡ end_line net (state_after net (opening net) A) → (header ++ period_lines net A) ++ line ∷ [] ≡ log_lines net E D bounds A
  end_seen A line is = append_assoc header (period_lines net A) (line ∷ []) ∙ ap (λ l. header ++ (period_lines net A ++ l ∷ [])) is

  whole_begins : (A : List (List ℕ)) → IsPermitted net A → length A ≤ 2 ^ 48 → BeginsLog net E D bounds (log_lines net E D bounds A)
  whole_begins A permitted few = record { arrivals = A; permitted = permitted; few = few; rest = []; begins = sym (append-nil (log_lines net E D bounds A)) }

  pub auditing_ends : (end : AuditEnd) (whole left mid left' : Option (List ℕ)) (cut cut' : Cut) (old new : Standing) (periods n : ℕ) → Auditing net header whole left cut.held old → old.period ≤ 2 ^ 48 → periods ≡ old.period → n ≡ length header + old.period + 1 + 1
      → MovesOn net cut'.line End old new → Tells left mid (TakesNext net End old cut cut') → Tells mid left' (EndsAfter periods n end cut') → AuditsAs net E D bounds end whole left'
  auditing_ends (Done m) whole left mid left' cut cut' old new periods n p few same number moves told after =
      let A = p.arrivals in
      let count = periods_are old A p.stands in
      let seen : HasSeen (log_lines net E D bounds A) whole mid cut'.held =
      subst (λ ls. HasSeen ls whole mid cut'.held) (end_seen A cut'.line (moves.1 (state_after net (opening net) A) p.stands)) (seen_more (header ++ period_lines net A) cut'.line whole left mid cut.held cut'.held p.seen told) in
      Tells-then _ _ _ _ _ _ (λ text was now s e. record {
        whole = record {
          arrivals = A;
          permitted = p.taken.permitted;
          few = omega (arith, count);
          lines = s ∙ ap (λ xs. log_lines net E D bounds A ++ xs) e.1 ∙ append-nil (log_lines net E D bounds A);
        };
        count = e.0 ∙ same ∙ count;
        nothing_left = e.2;
      }) seen after
  auditing_ends (Differs m) whole left mid left' cut cut' old new periods n p few same number moves told after =
      let A = p.arrivals in
      let count = periods_are old A p.stands in
      let seen : HasSeen (log_lines net E D bounds A) whole mid cut'.held =
      subst (λ ls. HasSeen ls whole mid cut'.held) (end_seen A cut'.line (moves.1 (state_after net (opening net) A) p.stands)) (seen_more (header ++ period_lines net A) cut'.line whole left mid cut.held cut'.held p.seen told) in
      let size : length (log_lines net E D bounds A) ≡ length header + length A + 1 =
      omega (arith, length-append header (run_lines net A), length-append (period_lines net A) (end_line net (state_after net (opening net) A) ∷ []), lines_count (opening net) A) in
      Tells-then _ _ _ _ _ _ (λ text was now s e.
      differs_here net E D bounds text (log_lines net E D bounds A) e.1.1 e.1.0 m (s ∙ ap (λ xs. log_lines net E D bounds A ++ xs) e.1.2) (let at = e.0 in omega (arith, at, size, count, number)) (whole_begins A p.taken.permitted (omega (arith, count)))
      (none_past net ok E D bounds A e.1.0 p.taken.permitted)) seen after
  auditing_ends Read whole left mid left' cut cut' old new periods n p few same number moves told after = tt

-- the header line that is wanted
pub header_line_is : (net net' : Network) (E E' D D' : ℕ) (zs zs' : List ℤ) (i : ℕ) → net' ≡ net → E' ≡ E → D' ≡ D → zs' ≡ zs → header_line net' E' D' (naturals zs') (i + 1) ≡ get_or (header_lines net E D (naturals zs)) i []
header_line_is net net' E E' D D' zs zs' i n e d z =
    let place : (i + 1) - 1 ≡ i = omega arith in
    ap (λ (m : Network). header_line m E' D' (naturals zs') (i + 1)) n ∙ ap (λ x. header_line net x D' (naturals zs') (i + 1)) e ∙ ap (λ x. header_line net E x (naturals zs') (i + 1)) d
    ∙ ap (λ (x : List ℤ). header_line net E D (naturals x) (i + 1)) z ∙ ap (λ j. get_or (header_lines net E D (naturals zs)) j []) place

pub all_seen : (lines : List (List ℕ)) (i : ℕ) (whole left : Option (List ℕ)) (held : List ℕ) → length lines ≤ i → HasSeen (take i lines) whole left held → HasSeen lines whole left held
all_seen lines i whole left held past seen = subst (λ ls. HasSeen ls whole left held) (take_all i lines past) seen
