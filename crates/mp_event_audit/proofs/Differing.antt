-- An audit, line by line, and where a text differs from a log.
use Rattle.std.proofs.Common.{◌≡◌, ◌≢◌, ◌≤◌, ◌<◌, ◌^◌, ℕ, ◌+◌, ◌-◌, List, [], ◌∷◌, ◌++◌, length, take, drop, get_or, Option, refl, sym, ◌∙◌, ap, subst, arith, ⊎_elim}
use Rattle.std.proofs.lemmas.List.{append_assoc, append-nil, length-append, take-append-drop, take_at, take_all, take_more, length-take-le}
use Rattle.mp_edge.specs.Outside.{Tells}
use Rattle.mp_edge.proofs.Told.{Tells-then}
use Rattle.mp_model.specs.Arrivals.{IsPermitted}
use Rattle.mp_model.specs.EventCore.{core_opening}
use Rattle.mp_model.specs.Log.{header_lines}
use Rattle.mp_model.specs.Network.{Network}
use Rattle.mp_model.specs.NetworkRules.{IsAcceptable}
use Rattle.mp_model.specs.ReportedLog.{reported_lines_from, reported_run_lines}
use Rattle.mp_model.specs.Reports.{History, Period, advance_by, first_history, renewed_periods}
use Rattle.mp_model.specs.Stream.{lines_of}
use Rattle.mp_text.specs.Cut.{Cut}
use Rattle.mp_round.specs.RoundView.{RoundView, core_of}
use Rattle.mp_run.specs.Auditing.{HasSeen, LacksLine, EndsAfter}
use Rattle.mp_run.specs.declared.auditing.AuditEnd.{AuditEnd}
use Rattle.mp_run.specs.declared.auditing.AuditEnd.TheVariants.{Done, Differs, Read}
use Rattle.mp_run.proofs.DifferLemmas.{seen_more}
use Rattle.mp_step.specs.Taken.{HasTaken}
use Rattle.mp_stream.proofs.BucketLemmas.{permitted_empty}
use Rattle.mp_event_audit.specs.Auditing.{Auditing, AuditsAs, Compares, IsNext, LacksNext, MovesOn, TakesNext}
use Rattle.mp_event_audit.specs.Behind.{end_behind, lines_behind}
use Rattle.mp_event_audit.specs.RenewedLog.{BeginsRenewedLog, RenewedDiffersAt, renewed_log_lines}
use Rattle.mp_event_audit.specs.declared.auditing.Compared.TheVariants as compared
use Rattle.mp_event_audit.specs.declared.auditing.Logged.TheVariants.{Period as PeriodLine, End, Other}
use Rattle.mp_event_audit.proofs.Logs.{next_line, not_over, none_past, header_next}
use Rattle.mp_event_audit.proofs.Standing.{lines_next, renewed_length, shown_is, standing_period, stands_next}

module _ (net : Network) (E D : ℕ) (bounds text : List ℕ) where
  -- the next line is none of a log's
  differs_here : (seen more : List (List ℕ)) (line : List ℕ) (n : ℕ) → lines_of text ≡ seen ++ line ∷ more → n ≡ length seen + 1 → BeginsRenewedLog net E D bounds seen → ¬ BeginsRenewedLog net E D bounds (seen ++ line ∷ []) → RenewedDiffersAt net E D bounds text n
  differs_here seen more line n is number begins none =
      let whole : lines_of text ≡ (seen ++ line ∷ []) ++ more = is ∙ sym (append_assoc seen (line ∷ []) more) in
      let before : take (n - 1) (lines_of text) ≡ seen = ap (take (n - 1)) is ∙ take_at seen (line ∷ more) (n - 1) (omega arith) in
      let with_it : take n (lines_of text) ≡ seen ++ line ∷ [] = ap (take n) whole ∙ take_at (seen ++ line ∷ []) more n (omega (arith, length-append seen (line ∷ []))) in
      record {
        number = (omega arith, omega (arith, ap (length {A = List ℕ}) is, length-append seen (line ∷ more)));
        before = subst (BeginsRenewedLog net E D bounds) (sym before) begins;
        here = λ within b. none (subst (BeginsRenewedLog net E D bounds) with_it b);
        not_whole = λ w. none (record { arrivals = w.arrivals; permitted = w.permitted; few = w.few; rest = more; begins = sym w.lines ∙ whole });
      }

  -- the next line is missing
  differs_missing : (seen : List (List ℕ)) (n : ℕ) → lines_of text ≡ seen → n ≡ length seen + 1 → BeginsRenewedLog net E D bounds seen → ((b : BeginsRenewedLog net E D bounds (seen ++ [])) → b.rest ≢ []) → RenewedDiffersAt net E D bounds text n
  differs_missing seen n is number begins none =
      let size = ap (length {A = List ℕ}) is in
      let before : take (n - 1) (lines_of text) ≡ seen = ap (take (n - 1)) is ∙ take_all (n - 1) seen (omega arith) in
      record {
        number = (omega arith, omega (arith, size));
        before = subst (BeginsRenewedLog net E D bounds) (sym before) begins;
        here = λ within b. absurd (omega (arith, size));
        not_whole = λ w. none (record { arrivals = w.arrivals; permitted = w.permitted; few = w.few; rest = []; begins = sym w.lines ∙ is ∙ sym (append-nil seen) ∙ sym (append-nil (seen ++ [])) }) refl;
      }

-- a run has a line for each period
lines_count : (net : Network) (periods : List Period) (history : History) → length (reported_lines_from net history periods) ≡ length periods
lines_count net [] history = refl
lines_count net (p ∷ ps) history = let rest = lines_count net ps (advance_by net p history) in omega (arith, rest)

behind_count : (net : Network) (A : List (List ℕ)) → length (lines_behind net A) ≡ length A
behind_count net A = lines_count net (renewed_periods net 0 A) (first_history net) ∙ renewed_length net 0 A

module _ (net : Network) (ok : IsAcceptable net) (E D : ℕ) (bounds : List ℕ) where
  abbrev header : List (List ℕ)
  header = header_lines net E D bounds

  abbrev no_lines : List (List ℕ)
  no_lines = reported_run_lines net []

  header_begins : (i : ℕ) → BeginsRenewedLog net E D bounds (take i header)
  header_begins i = record {
    arrivals = [];
    permitted = permitted_empty net;
    few = omega arith;
    rest = drop i header ++ no_lines;
    begins = ap (λ xs. xs ++ no_lines) (sym (take-append-drop i header)) ∙ append_assoc (take i header) (drop i header) no_lines;
  }

  -- a line that is not the header's
  header_lacks : (text : List ℕ) (i : ℕ) (lines : List (List ℕ)) (wanted : List ℕ) → i < length header → wanted ≡ get_or header i [] → lines_of text ≡ take i header ++ lines → LacksLine lines wanted → RenewedDiffersAt net E D bounds text (i + 1)
  header_lacks text i lines wanted low is told lacks =
      let size : length (take i header) ≡ i = length-take-le i header (omega arith) in
      ⊎_elim (λ (none : lines ≡ []). differs_missing net E D bounds text (take i header) (i + 1) (told ∙ ap (λ xs. take i header ++ xs) none ∙ append-nil (take i header)) (ap (λ k. k + 1) (sym size)) (header_begins i)
      (λ b over.
      let all = ap (length {A = List ℕ}) (b.begins ∙ ap (λ xs. (take i header ++ []) ++ xs) over ∙ append-nil (take i header ++ []) ∙ append-nil (take i header)) in
      absurd (omega (arith, all, length-append header (reported_run_lines net (renewed_periods net 0 b.arrivals))))))
      (λ (other : (line : List ℕ) × (more : List (List ℕ)) × (lines ≡ line ∷ more) × (line ≢ wanted)).
      differs_here net E D bounds text (take i header) other.1 other.0 (i + 1) (told ∙ ap (λ xs. take i header ++ xs) other.2) (ap (λ k. k + 1) (sym size)) (header_begins i)
      (λ b. other.3 (header_next net ok E D bounds i other.0 low b ∙ sym is))) lacks

  pub header_differs : (i : ℕ) (wanted : List ℕ) (whole left left' : Option (List ℕ)) (old new : Cut) → i < length header → wanted ≡ get_or header i [] → HasSeen (take i header) whole left old.held → Tells left left' (Compares wanted compared.Other old new)
      → AuditsAs net E D bounds (Differs (i + 1)) whole left'
  header_differs i wanted whole left left' old new low is seen told = Tells-then _ _ _ _ _ _ (λ text was now s lacks. header_lacks text i (lines_of (old.held ++ was)) wanted low is s lacks) seen told

  pub header_more : (i : ℕ) (wanted : List ℕ) (whole left left' : Option (List ℕ)) (old new : Cut) → i < length header → wanted ≡ get_or header i [] → HasSeen (take i header) whole left old.held → Tells left left' (Compares wanted compared.Same old new)
      → HasSeen (take (i + 1) header) whole left' new.held
  header_more i wanted whole left left' old new low is seen told =
      subst (λ lines. HasSeen lines whole left' new.held) (ap (λ line. take i header ++ line ∷ []) is ∙ sym (take_more header i [] low)) (seen_more (take i header) wanted whole left left' old.held new.held seen told)

  periods_begin : (A : List (List ℕ)) → IsPermitted net A → length A ≤ 2 ^ 48 → BeginsRenewedLog net E D bounds (header ++ lines_behind net A)
  periods_begin A permitted few = record {
    arrivals = A;
    permitted = permitted;
    few = few;
    rest = end_behind net A ∷ [];
    begins = sym (append_assoc header (lines_behind net A) (end_behind net A ∷ []));
  }

  seen_count : (A : List (List ℕ)) → length (header ++ lines_behind net A) ≡ length header + length A
  seen_count A = omega (arith, length-append header (lines_behind net A), behind_count net A)

  -- a line that may not follow those of the periods
  next_lacks : (text : List ℕ) (A : List (List ℕ)) (lines : List (List ℕ)) (n : ℕ) → IsPermitted net A → length A ≤ 2 ^ 48 → n ≡ length header + length A + 1 → lines_of text ≡ (header ++ lines_behind net A) ++ lines → LacksNext net A lines → RenewedDiffersAt net E D bounds text n
  next_lacks text A lines n permitted few number told lacks =
      let seen : List (List ℕ) = header ++ lines_behind net A in
      let size : n ≡ length seen + 1 = omega (arith, seen_count A) in
      ⊎_elim (λ (none : lines ≡ []). differs_missing net E D bounds text seen n (told ∙ ap (λ xs. seen ++ xs) none ∙ append-nil seen) size (periods_begin A permitted few) (λ b over. not_over net ok E D bounds A permitted b over))
      (λ (other : (line : List ℕ) × (more : List (List ℕ)) × (lines ≡ line ∷ more) × (¬ IsNext net A line)).
      differs_here net E D bounds text seen other.1 other.0 n (told ∙ ap (λ xs. seen ++ xs) other.2) size (periods_begin A permitted few) (λ b. other.3 (next_line net ok E D bounds A other.0 permitted b))) lacks

  pub auditing_start : (whole left : Option (List ℕ)) (held : List ℕ) (round : RoundView) → core_of round ≡ core_opening net → HasTaken net round.standing [] → HasSeen header whole left held → Auditing net header whole left held round
  auditing_start whole left held round opens taken seen = record {
    arrivals = [];
    stands = record { taken = taken; closes = tt; core = opens };
    seen = subst (λ lines. HasSeen lines whole left held) (sym (append-nil header)) seen;
  }

  -- one more period
  pub auditing_more : (whole left left' : Option (List ℕ)) (cut cut' : Cut) (old new : RoundView) → Auditing net header whole left cut.held old → MovesOn net cut'.line PeriodLine old new → Tells left left' (TakesNext net PeriodLine old cut cut')
      → Auditing net header whole left' cut'.held new
  auditing_more whole left left' cut cut' old new p moves told =
      let A = p.arrivals in
      let counts : List ℕ = moves.0 in
      let closes = moves.2 in
      let lines : (header ++ lines_behind net A) ++ cut'.line ∷ [] ≡ header ++ lines_behind net (A ++ counts ∷ []) =
      append_assoc header (lines_behind net A) (cut'.line ∷ []) ∙ ap (λ line. header ++ (lines_behind net A ++ line ∷ [])) (closes.line_is ∙ shown_is net ok.network cut'.line counts old new A p.stands closes)
      ∙ ap (λ xs. header ++ xs) (sym (lines_next net A counts)) in
      record {
        arrivals = A ++ counts ∷ [];
        stands = stands_next net cut'.line counts old new A p.stands closes;
        seen = subst (λ ls. HasSeen ls whole left' cut'.held) lines (seen_more (header ++ lines_behind net A) cut'.line whole left left' cut.held cut'.held p.seen told);
      }

  -- the next line may not follow
  pub auditing_differs : (whole left left' : Option (List ℕ)) (cut cut' : Cut) (round : RoundView) (n : ℕ) → Auditing net header whole left cut.held round → round.standing.period ≤ 2 ^ 48 → n ≡ length header + round.standing.period + 1
      → Tells left left' (TakesNext net Other round cut cut') → AuditsAs net E D bounds (Differs n) whole left'
  auditing_differs whole left left' cut cut' round n p few number told =
      let periods = standing_period net ok.network round p.arrivals p.stands in
      Tells-then _ _ _ _ _ _ (λ text was now s lacks. next_lacks text p.arrivals (lines_of (cut.held ++ was)) n p.stands.taken.permitted (omega (arith, periods)) (omega (arith, periods)) s (lacks p.arrivals p.stands)) p.seen told

  -- what stands behind the end line
  end_seen : (A : List (List ℕ)) (line : List ℕ) → line ≡ end_behind net A → (header ++ lines_behind net A) ++ line ∷ [] ≡ renewed_log_lines net E D bounds A
  end_seen A line is = append_assoc header (lines_behind net A) (line ∷ []) ∙ ap (λ l. header ++ (lines_behind net A ++ l ∷ [])) is

  whole_begins : (A : List (List ℕ)) → IsPermitted net A → length A ≤ 2 ^ 48 → BeginsRenewedLog net E D bounds (renewed_log_lines net E D bounds A)
  whole_begins A permitted few = record { arrivals = A; permitted = permitted; few = few; rest = []; begins = sym (append-nil (renewed_log_lines net E D bounds A)) }

  log_seen : (whole left mid : Option (List ℕ)) (cut cut' : Cut) (old new : RoundView) → (p : Auditing net header whole left cut.held old) → MovesOn net cut'.line End old new → Tells left mid (TakesNext net End old cut cut')
      → HasSeen (renewed_log_lines net E D bounds p.arrivals) whole mid cut'.held
  log_seen whole left mid cut cut' old new p moves told =
      subst (λ ls. HasSeen ls whole mid cut'.held) (end_seen p.arrivals cut'.line (moves p.arrivals p.stands)) (seen_more (header ++ lines_behind net p.arrivals) cut'.line whole left mid cut.held cut'.held p.seen told)

  pub auditing_ends : (end : AuditEnd) (whole left mid left' : Option (List ℕ)) (cut cut' : Cut) (old new : RoundView) (periods n : ℕ) → Auditing net header whole left cut.held old → old.standing.period ≤ 2 ^ 48 → periods ≡ old.standing.period → n ≡ length header + old.standing.period + 1 + 1
      → MovesOn net cut'.line End old new → Tells left mid (TakesNext net End old cut cut') → Tells mid left' (EndsAfter periods n end cut') → AuditsAs net E D bounds end whole left'
  auditing_ends (Done m) whole left mid left' cut cut' old new periods n p few same number moves told after =
      let A = p.arrivals in
      let count = standing_period net ok.network old A p.stands in
      Tells-then _ _ _ _ _ _ (λ text was now s e. record {
        whole = record {
          arrivals = A;
          permitted = p.stands.taken.permitted;
          few = omega (arith, count);
          lines = s ∙ ap (λ xs. renewed_log_lines net E D bounds A ++ xs) e.1 ∙ append-nil (renewed_log_lines net E D bounds A);
        };
        count = e.0 ∙ same ∙ count;
        nothing_left = e.2;
      }) (log_seen whole left mid cut cut' old new p moves told) after
  auditing_ends (Differs m) whole left mid left' cut cut' old new periods n p few same number moves told after =
      let A = p.arrivals in
      let count = standing_period net ok.network old A p.stands in
      let size : length (renewed_log_lines net E D bounds A) ≡ length header + length A + 1 =
      omega (arith, length-append header (reported_run_lines net (renewed_periods net 0 A)), length-append (lines_behind net A) (end_behind net A ∷ []), behind_count net A) in
      Tells-then _ _ _ _ _ _ (λ text was now s e.
      differs_here net E D bounds text (renewed_log_lines net E D bounds A) e.1.1 e.1.0 m (s ∙ ap (λ xs. renewed_log_lines net E D bounds A ++ xs) e.1.2) (let at = e.0 in omega (arith, at, size, count, number)) (whole_begins A p.stands.taken.permitted (omega (arith, count)))
      (none_past net ok E D bounds A e.1.0 p.stands.taken.permitted)) (log_seen whole left mid cut cut' old new p moves told) after
  auditing_ends Read whole left mid left' cut cut' old new periods n p few same number moves told after = tt
