-- How a stream ends, from what a run says of its lines.
use Rattle.std.proofs.Common.{◌≡◌, ◌≤◌, ◌<◌, ◌^◌, ℕ, ◌+◌, cond, List, [], ◌∷◌, ◌++◌, length, Option, Some, None, IfSome, arith, refl, sym, ◌∙◌, ap, ap₂, subst, append_assoc}
use Rattle.std.proofs.lemmas.Bool.{lt-ltb}
use Rattle.std.proofs.lemmas.List.{append-nil}
use Rattle.std.specs.List.{AllByRecursion}
use Rattle.mp_edge.specs.Outside.{Tells}
use Rattle.mp_edge.proofs.Told.{Tells-weaker}
use Rattle.mp_model.specs.EventCore.{Core, core_after, core_opening}
use Rattle.mp_model.specs.EventPeriods.{ages_after, no_ages, periods_from}
use Rattle.mp_model.specs.Log.{text_of}
use Rattle.mp_model.specs.Network.{Network}
use Rattle.mp_model.specs.ReportedLog.{reported_lines, reported_run_text}
use Rattle.mp_model.specs.Reports.{Period}
use Rattle.mp_model.specs.Stream.{LineKind, kinds, line_events}
use Rattle.mp_model.specs.Stream.LineKind.{skipped_line, arrivals_line, long_line, bad_line, hear_line, decide_line}
use Rattle.mp_model.specs.StreamEnd.{StreamEnd, closed_at, end_at, end_from, first_refusal, kind_refusal, line_refusal, stream_end}
use Rattle.mp_model.specs.StreamEnd.StreamEnd.{ended, too_many, long_at, bad_at}
use Rattle.mp_model.specs.StreamPeriods.{stream_periods, stream_periods_from}
use Rattle.mp_laws.proofs.LineEvents.{after_append}
use Rattle.mp_laws.proofs.Renewed.{periods_append}
use Rattle.mp_stream.specs.Course.{IsTaken, StartsWith}
use Rattle.mp_stream.specs.Ends as stream
use Rattle.mp_event_run.specs.Behind.{ArePermitted, AreUnrefused, core_behind, events_from, periods_behind}
use Rattle.mp_event_run.specs.Running.{course_of, refused_end, EndsAs}
use Rattle.mp_event_run.specs.Saying.{end_said, text_written, EndsSo, Says}
use Rattle.mp_event_run.specs.declared.ends.Refusal.{Refusal}
use Rattle.mp_event_run.specs.declared.ends.Refusal.TheVariants as refusal
use Rattle.mp_event_run.specs.declared.ends.RunEnd.{RunEnd}
use Rattle.mp_event_run.specs.declared.ends.RunEnd.TheVariants.{Done, Read, Write, LineLimit, Long, Grammar, Above, Stale, NotAdjacent}
use Rattle.mp_event_run.proofs.Lines.{ages_append, ages_behind}
use Rattle.mp_event_run.proofs.Permits.{taken_refusal, within_limit}

-- lines that are taken and not refused, within the limit
none_refused : (net : Network) (line : ℕ) (core : Core) (kind : LineKind) → line ≤ 2 ^ 48 → IsTaken kind → first_refusal net line core (line_events net core kind) ≡ None → line_refusal net line core kind ≡ None
none_refused net line core kind few taken h = within_limit net line core kind few ∙ taken_refusal net line core kind taken ∙ h

end_behind : (net : Network) (rest ks : List LineKind) (line : ℕ) (core : Core) → AllByRecursion IsTaken ks → AreUnrefused net line core ks → line + length ks ≤ 2 ^ 48 + 1 →
    end_from net line core (ks ++ rest) ≡ end_from net (line + length ks) (core_after net core (events_from net core ks)) rest
end_behind net rest [] line core taken h few = ap (λ n. end_from net n core rest) (omega arith)
end_behind net rest (k ∷ ks) line core taken h few =
    let es = line_events net core k in
    let next = core_after net core es in
    let number : line + 1 + length ks ≡ line + length (k ∷ ks) = omega arith in
    ap (λ o. end_at o (end_from net (line + 1) next (ks ++ rest))) (none_refused net line core k (omega arith) taken.0 h.0)
    ∙ end_behind net rest ks (line + 1) next taken.1 h.1 (omega arith)
    ∙ ap₂ (λ n c. end_from net n c rest) number (sym (after_append net es (events_from net next ks) core))

periods_there : (net : Network) (rest ks : List LineKind) (line : ℕ) (core : Core) (ages : List (List ℕ)) → AllByRecursion IsTaken ks → AreUnrefused net line core ks → line + length ks ≤ 2 ^ 48 + 1 →
    stream_periods_from net line core ages (ks ++ rest) ≡ periods_from net core ages (events_from net core ks) ++ stream_periods_from net (line + length ks) (core_after net core (events_from net core ks)) (ages_after net core ages (events_from net core ks)) rest
periods_there net rest [] line core ages taken h few = ap (λ n. stream_periods_from net n core ages rest) (omega arith)
periods_there net rest (k ∷ ks) line core ages taken h few =
    let es = line_events net core k in
    let next = core_after net core es in
    let then = ages_after net core ages es in
    let more = events_from net next ks in
    let number : line + 1 + length ks ≡ line + length (k ∷ ks) = omega arith in
    let last : List (List ℕ) → Core → ℕ → List Period = λ a c n. stream_periods_from net n c a rest in
    ap (λ o. closed_at o (periods_from net core ages es ++ stream_periods_from net (line + 1) next then (ks ++ rest))) (none_refused net line core k (omega arith) taken.0 h.0)
    ∙ ap (λ ps. periods_from net core ages es ++ ps) (periods_there net rest ks (line + 1) next then taken.1 h.1 (omega arith))
    ∙ sym (append_assoc (periods_from net core ages es) (periods_from net next then more) (last (ages_after net next then more) (core_after net next more) (line + 1 + length ks)))
    ∙ ap₂ ◌++◌ (sym (periods_append net es more core ages))
    (ap₂ (λ a c. last a c (line + 1 + length ks)) (sym (ages_append net es more core ages)) (sym (after_append net es more core)) ∙ ap (last (ages_after net core ages (es ++ more)) (core_after net core (es ++ more))) number)

-- the stream behind the lines that were taken
pub record Goes (net : Network) (text : List ℕ) (front rest : List LineKind) : Type 0 where
  pub ends : stream_end net text ≡ end_from net (length front + 1) (core_behind net front) rest
  pub closes : stream_periods net text ≡ periods_behind net front ++ stream_periods_from net (length front + 1) (core_behind net front) (ages_behind net front) rest

pub goes : (net : Network) (text : List ℕ) (front rest : List LineKind) → StartsWith (course_of net) text front rest → ArePermitted net front → length front ≤ 2 ^ 48 → Goes net text front rest
goes net text front rest start permitted few =
    let all : kinds net text ≡ front ++ rest = start.lines in
    let number : 1 + length front ≡ length front + 1 = omega arith in
    record {
      ends = ap (end_from net 1 (core_opening net)) all ∙ end_behind net rest front 1 (core_opening net) start.taken permitted.unrefused (omega arith) ∙ ap (λ n. end_from net n (core_behind net front) rest) number;
      closes = ap (stream_periods_from net 1 (core_opening net) (no_ages net)) all ∙ periods_there net rest front 1 (core_opening net) (no_ages net) start.taken permitted.unrefused (omega arith)
          ∙ ap (λ n. periods_behind net front ++ stream_periods_from net n (core_behind net front) (ages_behind net front) rest) number;
    }

-- a line that is refused ends the stream
pub record Stops (net : Network) (text : List ℕ) (front : List LineKind) (end : StreamEnd) : Type 0 where
  pub ends : stream_end net text ≡ end
  pub closes : stream_periods net text ≡ periods_behind net front

pub stops : (net : Network) (text : List ℕ) (front : List LineKind) (kind : LineKind) (rest : List LineKind) (end : StreamEnd) → Goes net text front (kind ∷ rest) → line_refusal net (length front + 1) (core_behind net front) kind ≡ Some end → Stops net text front end
stops net text front kind rest end g refused =
    let n = length front + 1 in
    let core = core_behind net front in
    let ages = ages_behind net front in
    let es = line_events net core kind in
    let next = core_after net core es in
    record {
      ends = g.ends ∙ ap (λ o. end_at o (end_from net (n + 1) next rest)) refused;
      closes = g.closes ∙ ap (λ o. periods_behind net front ++ closed_at o (periods_from net core ages es ++ stream_periods_from net (n + 1) next (ages_after net core ages es) rest)) refused ∙ append-nil (periods_behind net front);
    }

pub stops_at_end : (net : Network) (text : List ℕ) (front : List LineKind) → Goes net text front [] → Stops net text front ended
stops_at_end net text front g = record { ends = g.ends; closes = g.closes ∙ append-nil (periods_behind net front) }

-- the refusal of a line by an event is that of the line
event_refusal : (net : Network) (line : ℕ) (core : Core) (kind : LineKind) (end : StreamEnd) → first_refusal net line core (line_events net core kind) ≡ Some end → kind_refusal net line core kind ≡ Some end
event_refusal net line core skipped_line end h = h
event_refusal net line core (arrivals_line counts) end h = h
event_refusal net line core (hear_line j l) end h = h
event_refusal net line core (decide_line j) end h = h
event_refusal net line core long_line end h = cc
event_refusal net line core bad_line end h = cc

past_limit : (net : Network) (line : ℕ) (core : Core) (kind : LineKind) → 2 ^ 48 < line → line_refusal net line core kind ≡ Some too_many
past_limit net line core kind many = ap (λ b. cond b (Some too_many) (kind_refusal net line core kind)) (lt-ltb (2 ^ 48) line many)

-- what was written
lines_text : (net : Network) (text : List ℕ) (front : List LineKind) → stream_periods net text ≡ periods_behind net front → text_of (reported_lines net (periods_behind net front)) ≡ text_of (reported_lines net (stream_periods net text))
lines_text net text front same = ap (λ ps. text_of (reported_lines net ps)) (sym same)

module _ (net : Network) (head text : List ℕ) (left was now : Option (List ℕ)) where
  so : (front : List LineKind) (end : StreamEnd) → Stops net text front end → text_written net text end ≡ text_of (reported_lines net (stream_periods net text)) →
      Tells was now (λ before after. after ≡ before ++ (head ++ text_of (reported_lines net (periods_behind net front)))) → EndsSo net head text was now end
  so front end stop is written = record {
    is = stop.ends;
    written = Tells-weaker was now _ _ (λ before after e. e ∙ ap (λ xs. before ++ (head ++ xs)) (lines_text net text front stop.closes ∙ sym is)) written;
  }

  finished : stream.Finished (course_of net) head (Some text) left was now → EndsSo net head text was now ended
  finished f =
      let stop = stops_at_end net text f.kinds (goes net text f.kinds [] f.read.2.1 f.permitted f.few) in
      record {
        is = stop.ends;
        written = Tells-weaker was now _ _ (λ before after e. e ∙ ap (λ ps. before ++ (head ++ reported_run_text net ps)) (sym stop.closes)) f.written;
      }

  stopped : (kind : LineKind) (n : ℕ) (end : StreamEnd) → (r : stream.RefusedAt (course_of net) head kind n (Some text) left was now) → kind_refusal net n (core_behind net r.kinds) kind ≡ Some end →
      text_written net text end ≡ text_of (reported_lines net (stream_periods net text)) → EndsSo net head text was now end
  stopped kind n end r refused is =
      let number = r.number in
      let few = r.few in
      let g = goes net text r.kinds (kind ∷ r.read.2.0) r.read.2.1 r.permitted (omega arith) in
      let line : line_refusal net (length r.kinds + 1) (core_behind net r.kinds) kind ≡ Some end =
      within_limit net (length r.kinds + 1) (core_behind net r.kinds) kind (omega arith) ∙ subst (λ m. kind_refusal net m (core_behind net r.kinds) kind ≡ Some end) number refused in
      so r.kinds end (stops net text r.kinds kind r.read.2.0 end g line) is r.written

  refused_so : (n : ℕ) (why : Refusal) → stream.RefusedBy (course_of net) head n why (Some text) left was now → text_written net text (refused_end n why) ≡ text_of (reported_lines net (stream_periods net text)) → EndsSo net head text was now (refused_end n why)
  refused_so n why r is =
      let at = r.at in
      let number = at.number in
      let event : first_refusal net n (core_behind net at.kinds) (line_events net (core_behind net at.kinds) r.kind) ≡ Some (refused_end n why) =
      subst (λ m. first_refusal net m (core_behind net at.kinds) (line_events net (core_behind net at.kinds) r.kind) ≡ Some (refused_end m why)) (sym number) r.refused in
      stopped r.kind n (refused_end n why) at (event_refusal net n (core_behind net at.kinds) r.kind (refused_end n why) event) is

  many : stream.HasTooMany (course_of net) head (Some text) left was now → EndsSo net head text was now too_many
  many m =
      let number = m.number in
      let g = goes net text m.kinds (m.read.2.0 ∷ m.read.2.1) m.read.2.2 m.permitted (omega arith) in
      so m.kinds too_many (stops net text m.kinds m.read.2.0 m.read.2.1 too_many g (past_limit net (length m.kinds + 1) (core_behind net m.kinds) m.read.2.0 (omega arith))) refl m.written

  told_so : (how : RunEnd) → EndsAs net head how (Some text) left was now → IfSome (end_said how) (EndsSo net head text was now)
  told_so Done ends = finished ends
  told_so Read ends = tt
  told_so Write ends = tt
  told_so LineLimit ends = many ends
  told_so (Long n) ends = stopped long_line n (long_at n) ends refl refl
  told_so (Grammar n) ends = stopped bad_line n (bad_at n) ends refl refl
  told_so (Above n p l) ends = refused_so n (refusal.Above p l) ends refl
  told_so (Stale n j l) ends = refused_so n (refusal.Stale j l) ends refl
  told_so (NotAdjacent n j l) ends = refused_so n (refusal.NotAdjacent j l) ends refl

-- where the source tells its text, an end says how the stream ends and what was written
pub says : (net : Network) (head : List ℕ) (how : RunEnd) (whole left was now : Option (List ℕ)) → EndsAs net head how whole left was now → Says net head how whole was now
says net head how whole left was now ends text told = told_so net head text left was now how (subst (λ (o : Option (List ℕ)). EndsAs net head how o left was now) told ends)
