-- An audit under a guard, line by line, and where a text differs from a log.
use Rattle.std.proofs.Common.{◌≡◌, ◌≢◌, ◌≤◌, ◌<◌, ◌^◌, ℕ, ◌+◌, ◌-◌, List, [], ◌∷◌, ◌++◌, length, take, drop, get_or, Option, refl, sym, ◌∙◌, ap, subst, arith, ⊎_elim}
use Rattle.std.proofs.lemmas.List.{append_assoc, append-nil, length-append, take-append-drop, take_at, take_all, take_more, length-take-le}
use Rattle.mp_edge.specs.Outside.{Tells}
use Rattle.mp_edge.proofs.Told.{Tells-then}
use Rattle.mp_guard_run.proofs.Courses.{after_more, lines_more}
use Rattle.mp_guard_run.specs.Session.{Guarded, StandsAt}
use Rattle.mp_model.specs.Arrivals.{IsPermitted}
use Rattle.mp_model.specs.Guard.{Guard}
use Rattle.mp_model.specs.GuardedChoice.{guarded_opening}
use Rattle.mp_model.specs.Log.{end_line}
use Rattle.mp_model.specs.Network.{Network}
use Rattle.mp_model.specs.NetworkRules.{IsAcceptable}
use Rattle.mp_model.specs.Stream.{lines_of}
use Rattle.mp_run.proofs.DifferLemmas.{seen_more}
use Rattle.mp_run.specs.Auditing.{HasSeen, LacksLine, EndsAfter}
use Rattle.mp_run.specs.declared.auditing.AuditEnd.{AuditEnd}
use Rattle.mp_run.specs.declared.auditing.AuditEnd.TheVariants.{Done, Differs, Read}
use Rattle.mp_step.specs.Taken.{HasTaken}
use Rattle.mp_stream.proofs.BucketLemmas.{permitted_empty}
use Rattle.mp_text.specs.Cut.{Cut}
use Rattle.mp_guard_audit.proofs.LogLemmas.{next_line, not_over, none_past, header_next, state_period, lines_count}
use Rattle.mp_guard_audit.specs.Auditing.{AuditsGuarded, Compares, LacksNext, MovesOn, TakesNext, Auditing, IsNext}
use Rattle.mp_guard_audit.specs.GuardedLog.{Begins, BeginsGuardedLog, DiffersFrom, GuardedDiffersAt, guarded_state_after, guarded_periods, guarded_run_lines, guarded_log_lines}
use Rattle.mp_guard_audit.specs.declared.auditing.Compared.TheVariants as compared
use Rattle.mp_guard_audit.specs.declared.auditing.Logged.TheVariants.{Period, End, Other}

module _ (net : Network) (log : List (List ℕ) → List (List ℕ)) (text : List ℕ) where
  -- the next line is none of a log's
  differs_here : (seen more : List (List ℕ)) (line : List ℕ) (n : ℕ) → lines_of text ≡ seen ++ line ∷ more → n ≡ length seen + 1 → Begins net log seen → ¬ Begins net log (seen ++ line ∷ []) → DiffersFrom net log text n
  differs_here seen more line n is number begins none =
      let whole : lines_of text ≡ (seen ++ line ∷ []) ++ more = is ∙ sym (append_assoc seen (line ∷ []) more) in
      let before : take (n - 1) (lines_of text) ≡ seen = ap (take (n - 1)) is ∙ take_at seen (line ∷ more) (n - 1) (omega arith) in
      let with_it : take n (lines_of text) ≡ seen ++ line ∷ [] = ap (take n) whole ∙ take_at (seen ++ line ∷ []) more n (omega (arith, length-append seen (line ∷ []))) in
      record {
        number = (omega arith, omega (arith, ap (length {A = List ℕ}) is, length-append seen (line ∷ more)));
        before = subst (Begins net log) (sym before) begins;
        here = λ within b. none (subst (Begins net log) with_it b);
        not_whole = λ w. none (record { arrivals = w.arrivals; permitted = w.permitted; few = w.few; rest = more; begins = sym w.lines ∙ whole });
      }

  -- the next line is missing
  differs_missing : (seen : List (List ℕ)) (n : ℕ) → lines_of text ≡ seen → n ≡ length seen + 1 → Begins net log seen → ((b : Begins net log (seen ++ [])) → b.rest ≢ []) → DiffersFrom net log text n
  differs_missing seen n is number begins none =
      let size = ap (length {A = List ℕ}) is in
      let before : take (n - 1) (lines_of text) ≡ seen = ap (take (n - 1)) is ∙ take_all (n - 1) seen (omega arith) in
      record {
        number = (omega arith, omega (arith, size));
        before = subst (Begins net log) (sym before) begins;
        here = λ within b. absurd (omega (arith, size));
        not_whole = λ w. none (record { arrivals = w.arrivals; permitted = w.permitted; few = w.few; rest = []; begins = sym w.lines ∙ is ∙ sym (append-nil seen) ∙ sym (append-nil (seen ++ [])) }) refl;
      }

module _ (net : Network) (guard : Guard) (ok : IsAcceptable net) (header : List (List ℕ)) where
  abbrev log : List (List ℕ) → List (List ℕ)
  log = guarded_log_lines net guard header

  -- ---- the header
  header_begins : (i : ℕ) → BeginsGuardedLog net guard header (take i header)
  header_begins i = record {
    arrivals = [];
    permitted = permitted_empty net;
    few = omega arith;
    rest = drop i header ++ guarded_run_lines net guard [];
    begins = ap (λ xs. xs ++ guarded_run_lines net guard []) (sym (take-append-drop i header)) ∙ append_assoc (take i header) (drop i header) (guarded_run_lines net guard []);
  }

  -- a line that is not the header's
  header_lacks : (text : List ℕ) (i : ℕ) (lines : List (List ℕ)) (wanted : List ℕ) → i < length header → wanted ≡ get_or header i [] → lines_of text ≡ take i header ++ lines → LacksLine lines wanted → GuardedDiffersAt net guard header text (i + 1)
  header_lacks text i lines wanted low is told lacks =
      let size : length (take i header) ≡ i = length-take-le i header (omega arith) in
      ⊎_elim (λ (none : lines ≡ []). differs_missing net log text (take i header) (i + 1) (told ∙ ap (λ xs. take i header ++ xs) none ∙ append-nil (take i header)) (ap (λ k. k + 1) (sym size)) (header_begins i)
      (λ b over.
      let all = ap (length {A = List ℕ}) (b.begins ∙ ap (λ xs. (take i header ++ []) ++ xs) over ∙ append-nil (take i header ++ []) ∙ append-nil (take i header)) in
      absurd (omega (arith, all, length-append header (guarded_run_lines net guard b.arrivals)))))
      (λ (other : (line : List ℕ) × (more : List (List ℕ)) × (lines ≡ line ∷ more) × (line ≢ wanted)).
      differs_here net log text (take i header) other.1 other.0 (i + 1) (told ∙ ap (λ xs. take i header ++ xs) other.2) (ap (λ k. k + 1) (sym size)) (header_begins i)
      (λ b. other.3 (header_next net guard ok header i other.0 low b ∙ sym is))) lacks

  pub header_differs : (i : ℕ) (wanted : List ℕ) (whole left left' : Option (List ℕ)) (old new : Cut) → i < length header → wanted ≡ get_or header i [] → HasSeen (take i header) whole left old.held → Tells left left' (Compares wanted compared.Other old new)
      → AuditsGuarded net guard header (Differs (i + 1)) whole left'
  header_differs i wanted whole left left' old new low is seen told = Tells-then _ _ _ _ _ _ (λ text was now s lacks. header_lacks text i (lines_of (old.held ++ was)) wanted low is s lacks) seen told

  pub header_more : (i : ℕ) (wanted : List ℕ) (whole left left' : Option (List ℕ)) (old new : Cut) → i < length header → wanted ≡ get_or header i [] → HasSeen (take i header) whole left old.held → Tells left left' (Compares wanted compared.Same old new)
      → HasSeen (take (i + 1) header) whole left' new.held
  header_more i wanted whole left left' old new low is seen told =
      subst (λ lines. HasSeen lines whole left' new.held) (ap (λ line. take i header ++ line ∷ []) is ∙ sym (take_more header i [] low)) (seen_more (take i header) wanted whole left left' old.held new.held seen told)

  -- ---- the periods
  periods_begin : (A : List (List ℕ)) → IsPermitted net A → length A ≤ 2 ^ 48 → BeginsGuardedLog net guard header (header ++ guarded_periods net guard A)
  periods_begin A permitted few = record {
    arrivals = A;
    permitted = permitted;
    few = few;
    rest = end_line net (guarded_state_after net guard A).state ∷ [];
    begins = sym (append_assoc header (guarded_periods net guard A) (end_line net (guarded_state_after net guard A).state ∷ []));
  }

  seen_count : (A : List (List ℕ)) → length (header ++ guarded_periods net guard A) ≡ length header + length A
  seen_count A = omega (arith, length-append header (guarded_periods net guard A), lines_count net guard (guarded_opening net guard) A)

  -- a line that may not follow those of the periods
  next_lacks : (text : List ℕ) (A : List (List ℕ)) (lines : List (List ℕ)) (n : ℕ) → IsPermitted net A → length A ≤ 2 ^ 48 → n ≡ length header + length A + 1 → lines_of text ≡ (header ++ guarded_periods net guard A) ++ lines → LacksNext net guard A lines → GuardedDiffersAt net guard header text n
  next_lacks text A lines n permitted few number told lacks =
      let seen : List (List ℕ) = header ++ guarded_periods net guard A in
      let size : n ≡ length seen + 1 = omega (arith, number, seen_count A) in
      ⊎_elim (λ (none : lines ≡ []). differs_missing net log text seen n (told ∙ ap (λ xs. seen ++ xs) none ∙ append-nil seen) size (periods_begin A permitted few) (λ b over. not_over net guard ok header A permitted b over))
      (λ (other : (line : List ℕ) × (more : List (List ℕ)) × (lines ≡ line ∷ more) × (¬ IsNext net guard A line)).
      differs_here net log text seen other.1 other.0 n (told ∙ ap (λ xs. seen ++ xs) other.2) size (periods_begin A permitted few) (λ b. other.3 (next_line net guard ok header A other.0 permitted b))) lacks

  -- what stands behind the end line
  end_seen : (A : List (List ℕ)) (line : List ℕ) → line ≡ end_line net (guarded_state_after net guard A).state → (header ++ guarded_periods net guard A) ++ line ∷ [] ≡ log A
  end_seen A line is = append_assoc header (guarded_periods net guard A) (line ∷ []) ∙ ap (λ l. header ++ (guarded_periods net guard A ++ l ∷ [])) is

  whole_begins : (A : List (List ℕ)) → IsPermitted net A → length A ≤ 2 ^ 48 → BeginsGuardedLog net guard header (log A)
  whole_begins A permitted few = record { arrivals = A; permitted = permitted; few = few; rest = []; begins = sym (append-nil (log A)) }

  whole_count : (A : List (List ℕ)) → length (log A) ≡ length header + length A + 1
  whole_count A = omega (arith, length-append header (guarded_run_lines net guard A), length-append (guarded_periods net guard A) (end_line net (guarded_state_after net guard A).state ∷ []), lines_count net guard (guarded_opening net guard) A)

pub auditing_start : (s : Guarded) (header : List (List ℕ)) (whole left : Option (List ℕ)) (held : List ℕ) → StandsAt s (guarded_opening s.net s.guard) → HasTaken s.net s.at [] → HasSeen header whole left held → Auditing s header whole left held
auditing_start s header whole left held stands taken seen = record {
  arrivals = [];
  stands = stands;
  taken = taken;
  seen = subst (λ lines. HasSeen lines whole left held) (sym (append-nil header)) seen;
}

module _ (old : Guarded) (header : List (List ℕ)) (whole left : Option (List ℕ)) (cut cut' : Cut) (p : Auditing old header whole left cut.held) where
  periods_are : old.at.period ≡ length p.arrivals
  periods_are = omega (arith, p.stands.stands.period, state_period old.net old.guard (guarded_opening old.net old.guard) p.arrivals)

  -- one more period
  pub auditing_more : (left' : Option (List ℕ)) (new : Guarded) → new ≡ record old { at = new.at; accounts = new.accounts; stages = new.stages } → MovesOn cut'.line Period old new → Tells left left' (TakesNext Period old cut cut') → Auditing new header whole left' cut'.held
  auditing_more left' new same moves told =
      let net = old.net in
      let guard = old.guard in
      let now = guarded_state_after net guard p.arrivals in
      let counts : List ℕ = moves.0 in
      let closes = moves.3 in
      let A : List (List ℕ) = p.arrivals ++ counts ∷ [] in
      let next : Guarded = record old { at = new.at; accounts = new.accounts; stages = new.stages } in
      let lines : (header ++ guarded_periods net guard p.arrivals) ++ cut'.line ∷ [] ≡ header ++ guarded_periods net guard A =
      append_assoc header (guarded_periods net guard p.arrivals) (cut'.line ∷ []) ∙ ap (λ line. header ++ (guarded_periods net guard p.arrivals ++ line ∷ [])) (closes.line_is now p.stands)
      ∙ ap (λ xs. header ++ xs) (sym (lines_more net guard (guarded_opening net guard) p.arrivals counts)) in
      let moved : StandsAt new (guarded_state_after net guard A) = subst (StandsAt new) (sym (after_more net guard (guarded_opening net guard) p.arrivals counts)) (closes.moved now p.stands) in
      let after : Auditing next header whole left' cut'.held = record {
        arrivals = A;
        stands = subst (λ (s : Guarded). StandsAt s (guarded_state_after net guard A)) same moved;
        taken = closes.taken p.arrivals p.taken;
        seen = subst (λ ls. HasSeen ls whole left' cut'.held) lines (seen_more (header ++ guarded_periods net guard p.arrivals) cut'.line whole left left' cut.held cut'.held p.seen told);
      } in
      subst (λ (s : Guarded). Auditing s header whole left' cut'.held) (sym same) after

  -- the next line may not follow
  pub auditing_differs : IsAcceptable old.net → (left' : Option (List ℕ)) (n : ℕ) → old.at.period ≤ 2 ^ 48 → n ≡ length header + old.at.period + 1 → Tells left left' (TakesNext Other old cut cut') → AuditsGuarded old.net old.guard header (Differs n) whole left'
  auditing_differs ok left' n few number told =
      Tells-then _ _ _ _ _ _ (λ text was now s lacks.
      next_lacks old.net old.guard ok header text p.arrivals (lines_of (cut.held ++ was)) n p.taken.permitted (omega (arith, periods_are, few)) (omega (arith, periods_are, number)) s (lacks p.arrivals p.taken p.stands)) p.seen told

  -- the end line, and what stands behind it
  pub auditing_ends : IsAcceptable old.net → (end : AuditEnd) (mid left' : Option (List ℕ)) (new : Guarded) (periods n : ℕ) → old.at.period ≤ 2 ^ 48 → periods ≡ old.at.period → n ≡ length header + old.at.period + 1 + 1
      → MovesOn cut'.line End old new → Tells left mid (TakesNext End old cut cut') → Tells mid left' (EndsAfter periods n end cut') → AuditsGuarded old.net old.guard header end whole left'
  auditing_ends ok end mid left' new periods n few same number moves told after =
      let net = old.net in
      let guard = old.guard in
      let A = p.arrivals in
      let log : List (List ℕ) = guarded_log_lines net guard header A in
      let seen : HasSeen log whole mid cut'.held =
      subst (λ ls. HasSeen ls whole mid cut'.held) (end_seen net guard ok header A cut'.line (moves (guarded_state_after net guard A) p.stands)) (seen_more (header ++ guarded_periods net guard A) cut'.line whole left mid cut.held cut'.held p.seen told) in
      go end log refl seen after
    where
      go : (end : AuditEnd) (log : List (List ℕ)) → log ≡ guarded_log_lines old.net old.guard header p.arrivals → HasSeen log whole mid cut'.held → Tells mid left' (EndsAfter periods n end cut') → AuditsGuarded old.net old.guard header end whole left'
      go (Done m) log is seen after =
          Tells-then _ _ _ _ _ _ (λ text was now s e. record {
            whole = record {
              arrivals = p.arrivals;
              permitted = p.taken.permitted;
              few = omega (arith, periods_are, few);
              lines = s ∙ ap (λ xs. log ++ xs) e.1 ∙ append-nil log ∙ is;
            };
            count = e.0 ∙ same ∙ periods_are;
            nothing_left = e.2;
          }) seen after
      go (Differs m) log is seen after =
          let A = p.arrivals in
          Tells-then _ _ _ _ _ _ (λ text was now s e.
          differs_here old.net (guarded_log_lines old.net old.guard header) text (guarded_log_lines old.net old.guard header A) e.1.1 e.1.0 m (s ∙ ap (λ xs. log ++ xs) e.1.2 ∙ ap (λ ls. ls ++ e.1.0 ∷ e.1.1) is)
          (let at = e.0 in omega (arith, at, whole_count old.net old.guard ok header A, periods_are, number)) (whole_begins old.net old.guard ok header A p.taken.permitted (omega (arith, periods_are, few)))
          (none_past old.net old.guard ok header A e.1.0 p.taken.permitted)) seen after
      go Read log is seen after = tt
