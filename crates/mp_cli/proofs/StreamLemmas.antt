-- How a run over a stream of arrivals ends: a good stream is run to its end, and one above a bucket is refused as that.
use Rattle.std.proofs.Common.{◌≡◌, ◌≤◌, ◌+◌, ◌++◌, ◌∷◌, ℕ, List, [], length, refl, sym, ◌∙◌, ap, subst, arith, Some, None}
use Rattle.std.specs.declared.option.Option.{Option}
use Rattle.std.specs.List.{AllByRecursion}
use Rattle.std.proofs.lemmas.List.{append-nil, length-append}
use Rattle.mp_edge.specs.Outside.{Tells, Rose, GainsPrefix}
use Rattle.mp_edge.proofs.Counts.{Rose-within}
use Rattle.mp_edge.proofs.Told.{Tells-weaker}
use Rattle.mp_model.specs.Arrivals.{IsPermitted}
use Rattle.mp_model.specs.Log.{text_of}
use Rattle.mp_model.specs.Network.{Network}
use Rattle.mp_model.specs.Stream.{LineKind, arrivals_of_kinds}
use Rattle.mp_model.specs.Stream.LineKind.{long_line, bad_line}
use Rattle.mp_stream.specs.Arrivals.{arrivals_course, stream_end}
use Rattle.mp_stream.specs.Course.{Course, IsTaken}
use Rattle.mp_stream.specs.Course as course
use Rattle.mp_stream.specs.Ends as stream
use Rattle.mp_stream.specs.declared.arrivals.AboveBucket.{AboveBucket}
use Rattle.mp_stream.specs.declared.arrivals.ArrivalsEnd.{ArrivalsEnd}
use Rattle.mp_stream.specs.declared.arrivals.ArrivalsEnd.TheVariants as over
use Rattle.mp_stream.proofs.BucketLemmas.{permitted_empty}
use Rattle.mp_stream.proofs.HeadLemmas as headed
use Rattle.mp_stream.proofs.LineLemmas.{text-append}
use Rattle.mp_run.specs.Running.{StartsWith, Finished, RefusedAt, RefusedAbove, HasTooMany}
use Rattle.mp_run.specs.declared.run.RunEnd.{RunEnd}
use Rattle.mp_run.specs.declared.run.RunEnd.TheVariants as end
use Rattle.mp_run.proofs.AboveLemmas.{not_excessive, not_finished, not_refused_at, not_many}
use Rattle.mp_cli.specs.declared.outcome.Outcome.{Outcome}
use Rattle.mp_cli.specs.declared.outcome.Outcome.TheVariants.{Run as Ran}
use Rattle.mp_cli.specs.Complete.{IsGoodStream, IsExcessiveStream}
use Rattle.mp_cli.specs.Ports.{Ports}
use Rattle.mp_cli.specs.Statuses.{status_of, run_status}
use Rattle.mp_cli.specs.Streaming.{OnRun, EndsOn, PutsLog, end_over}

taken_at : (kinds more : List LineKind) (kind : LineKind) → AllByRecursion IsTaken (kinds ++ kind ∷ more) → IsTaken kind
taken_at [] more kind all = all.0
taken_at (k ∷ ks) more kind all = taken_at ks more kind all.1

-- where all lines are taken, so is each
taken_there : (net : Network) (text : List ℕ) (kinds kinds' more : List LineKind) (kind : LineKind) → StartsWith net text kinds [] → StartsWith net text kinds' (kind ∷ more) → IsTaken kind
taken_there net text kinds kinds' more kind whole part =
    let same : kinds ≡ kinds' ++ kind ∷ more = sym (append-nil kinds) ∙ sym whole.lines ∙ part.lines in
    taken_at kinds' more kind (subst (λ ks. AllByRecursion IsTaken ks) same whole.taken)

longer : (net : Network) (text : List ℕ) (kinds kinds' more : List LineKind) (kind : LineKind) → StartsWith net text kinds [] → StartsWith net text kinds' (kind ∷ more) → length kinds' + 1 ≤ length kinds
longer net text kinds kinds' more kind whole part =
    let same : kinds ≡ kinds' ++ kind ∷ more = sym (append-nil kinds) ∙ sym whole.lines ∙ part.lines in
    omega (arith, ap length same, length-append kinds' (kind ∷ more))

no_refusal : (net : Network) (head : List ℕ) (kind : LineKind) (n : ℕ) (left rest was now : Option (List ℕ)) → IsGoodStream net left → RefusedAt net head kind n left rest was now → IsTaken kind
no_refusal net head kind n left rest was now good refused =
    let told : Tells (Some good.text) rest (λ text rest. (more : List LineKind) × StartsWith net text refused.kinds (kind ∷ more)) =
    subst (λ (l : Option (List ℕ)). Tells l rest (λ text rest. (more : List LineKind) × StartsWith net text refused.kinds (kind ∷ more))) good.told refused.read in
    taken_there net good.text good.kinds refused.kinds told.2.0 kind good.lines told.2.1

not_too_many : (net : Network) (head : List ℕ) (left rest was now : Option (List ℕ)) → IsGoodStream net left → HasTooMany net head left rest was now → ⊥
not_too_many net head left rest was now good many =
    let told : Tells (Some good.text) rest (λ text rest. (kind : LineKind) × (more : List LineKind) × StartsWith net text many.kinds (kind ∷ more)) =
    subst (λ (l : Option (List ℕ)). Tells l rest (λ text rest. (kind : LineKind) × (more : List LineKind) × StartsWith net text many.kinds (kind ∷ more))) good.told many.read in
    let size = longer net good.text good.kinds many.kinds told.2.1 told.2.0 good.lines told.2.2 in
    let few = good.few in
    let number = many.number in
    absurd (omega arith)

-- this is what each end tells of the stream alone, where it tells of it
abbrev pub ReadTo : Network → RunEnd → Option (List ℕ) → Option (List ℕ) → Type 0
ReadTo net end.Done left rest = Finished net [] left rest None None
ReadTo net end.Read left rest = Unit {0}
ReadTo net end.Write left rest = Unit {0}
ReadTo net end.LineLimit left rest = HasTooMany net [] left rest None None
ReadTo net (end.Long n) left rest = RefusedAt net [] long_line n left rest None None
ReadTo net (end.Grammar n) left rest = RefusedAt net [] bad_line n left rest None None
ReadTo net (end.Above n p l) left rest = RefusedAbove net [] n p l left rest None None

-- of what is read it doesn't matter what is written
module _ {R : Type 0} (net : Network) (run : Course R) (same : (text : List ℕ) (kinds more : List LineKind) → course.StartsWith run text kinds more → StartsWith net text kinds more) (permits : (kinds : List LineKind) → run.Permits kinds → IsPermitted net (arrivals_of_kinds kinds)) (head : List ℕ) (left rest was now : Option (List ℕ)) where
  finished_on : stream.Finished run head left rest was now → Finished net [] left rest None None
  finished_on f = record {
    kinds = f.kinds;
    few = f.few;
    permitted = permits f.kinds f.permitted;
    read = Tells-weaker _ _ _ _ (λ text over is. (is.0, same text f.kinds [] is.1)) f.read;
    written = tt;
  }

  abbrev refused_on : (kind : LineKind) (n : ℕ) → stream.RefusedAt run head kind n left rest was now → RefusedAt net [] kind n left rest None None
  refused_on kind n r = record {
    kinds = r.kinds;
    number = r.number;
    few = r.few;
    permitted = permits r.kinds r.permitted;
    read = Tells-weaker _ _ _ _ (λ text over is. (is.0, same text r.kinds (kind ∷ is.0) is.1)) r.read;
    written = tt;
  }

  many_on : stream.HasTooMany run head left rest was now → HasTooMany net [] left rest None None
  many_on m = record {
    kinds = m.kinds;
    number = m.number;
    permitted = permits m.kinds m.permitted;
    read = Tells-weaker _ _ _ _ (λ text over is. (is.0, is.1, same text m.kinds (is.0 ∷ is.1) is.2)) m.read;
    written = tt;
  }

module _ (net : Network) (lines : List (List ℕ) → List (List ℕ)) (last : List (List ℕ) → List ℕ) (head : List ℕ) (ports : Ports) where
  abbrev run : Course AboveBucket
  run = arrivals_course net lines last

  starts : (text : List ℕ) (kinds more : List LineKind) → course.StartsWith run text kinds more → StartsWith net text kinds more
  starts text kinds more s = record { lines = s.lines; taken = s.taken }

  -- so it is of a run over lines of arrivals alone
  pub arrivals_read : (how : RunEnd) → EndsOn run head how ports → ReadTo net how ports.input_before ports.input_after
  arrivals_read end.Done ends = finished_on net run starts (λ kinds is. is) head _ _ _ _ ends
  arrivals_read end.Read ends = tt
  arrivals_read end.Write ends = tt
  arrivals_read end.LineLimit ends = many_on net run starts (λ kinds is. is) head _ _ _ _ ends
  arrivals_read (end.Long n) ends = refused_on net run starts (λ kinds is. is) head _ _ _ _ long_line n ends
  arrivals_read (end.Grammar n) ends = refused_on net run starts (λ kinds is. is) head _ _ _ _ bad_line n ends
  arrivals_read (end.Above n p l) ends = record {
    kind = ends.kind;
    at = refused_on net run starts (λ kinds is. is) head _ _ _ _ ends.kind n ends.at;
    refused = record { counts = ends.refused.counts; is = ends.refused.is; period = ends.refused.period; first = ends.refused.first };
  }

  -- behind its head the whole text of such a run is its log
  pub puts_log : (header : List (List ℕ)) (log : List (List ℕ) → List ℕ) → head ≡ text_of header → ((A : List (List ℕ)) → log A ≡ text_of (header ++ (lines A ++ last A ∷ []))) → EndsOn run head end.Done ports → PutsLog net log ports
  puts_log header log of same f = record {
    kinds = f.kinds;
    read = Tells-weaker _ _ _ _ (λ text over is. (is.0, starts text f.kinds [] is.1)) f.read;
    permitted = f.permitted;
    written = Tells-weaker _ _ _ _ (λ before after is. is ∙ ap (λ text. before ++ text) (ap (λ text. text ++ stream.whole_text run f.kinds) of ∙ sym (whole (arrivals_of_kinds f.kinds)))) f.written;
  }
    where
      whole : (A : List (List ℕ)) → log A ≡ text_of header ++ text_of (lines A ++ last A ∷ [])
      whole A = same A ∙ text-append header (lines A ++ last A ∷ [])

-- a fact of a run's end makes another one
pub on_run : (outcome : Outcome) (P Q : RunEnd → Type 0) → ((how : RunEnd) → P how → Q how) → OnRun outcome P → OnRun outcome Q
on_run (Ran how) P Q f is = f how is
on_run outcome P Q f is = absurd is

module _ (net : Network) (left rest : Option (List ℕ)) where
  -- a good stream is run to its end
  pub good_stream : (outcome : Outcome) → (status_of outcome ≡ 10 → ⊥) → (status_of outcome ≡ 11 → ⊥) → IsGoodStream net left → OnRun outcome (λ how. ReadTo net how left rest) → status_of outcome ≡ 0
  good_stream (Ran end.Done) read write good ends = refl
  good_stream (Ran end.Read) read write good ends = absurd (read refl)
  good_stream (Ran end.Write) read write good ends = absurd (write refl)
  good_stream (Ran (end.Long n)) read write good ends = absurd (no_refusal net [] long_line n left rest None None good ends)
  good_stream (Ran (end.Grammar n)) read write good ends = absurd (no_refusal net [] bad_line n left rest None None good ends)
  good_stream (Ran (end.Above n p l)) read write good ends = absurd (not_excessive net [] n p l left rest None None ends good.text good.told good.kinds good.lines good.permitted)
  good_stream (Ran end.LineLimit) read write good ends = absurd (not_too_many net [] left rest None None good ends)
  good_stream outcome read write good ends = absurd ends

  -- a stream above a bucket is refused as that
  pub excessive_stream : (outcome : Outcome) → (status_of outcome ≡ 10 → ⊥) → (status_of outcome ≡ 11 → ⊥) → IsExcessiveStream net left → OnRun outcome (λ how. ReadTo net how left rest) → status_of outcome ≡ 8
  excessive_stream (Ran (end.Above n p l)) read write s ends = refl
  excessive_stream (Ran end.Read) read write s ends = absurd (read refl)
  excessive_stream (Ran end.Write) read write s ends = absurd (write refl)
  excessive_stream (Ran end.Done) read write s ends = absurd (not_finished net s.text s.line s.period s.link s.above left rest None None s.told [] ends)
  excessive_stream (Ran (end.Long n)) read write s ends = absurd (not_refused_at net s.text s.line s.period s.link s.above left rest None None s.told [] long_line n (λ taken. taken) ends)
  excessive_stream (Ran (end.Grammar n)) read write s ends = absurd (not_refused_at net s.text s.line s.period s.link s.above left rest None None s.told [] bad_line n (λ taken. taken) ends)
  excessive_stream (Ran end.LineLimit) read write s ends = absurd (not_many net s.text s.line s.period s.link s.above left rest None None s.told [] s.few ends)
  excessive_stream outcome read write s ends = absurd ends

-- a head was put before such a run, or the head itself was cut short
module _ (net : Network) (lines : List (List ℕ) → List (List ℕ)) (last : List (List ℕ) → List ℕ) (head : List ℕ) (ports : Ports) where
  pub behind_head : (mid : Option (List ℕ)) (how : RunEnd) (end : ArrivalsEnd) → end_over how ≡ end → Tells ports.output_before mid (λ before after. after ≡ before ++ head)
      → stream.EndsAs (arrivals_course net lines last) [] (stream_end end) ports.input_before ports.input_after mid ports.output_after → EndsOn (arrivals_course net lines last) head how ports
  behind_head mid how end same put ends =
      subst (λ (e : ArrivalsEnd). stream.EndsAs (arrivals_course net lines last) head (stream_end e) ports.input_before ports.input_after ports.output_before ports.output_after) (sym same)
      (headed.with_head (arrivals_course net lines last) head (stream_end end) ports.input_before ports.input_after ports.output_before mid ports.output_after put ends)

pub head_cut : (net : Network) (lines : List (List ℕ) → List (List ℕ)) (last : List (List ℕ) → List ℕ) (head : List ℕ) (ports : Ports) → ports.input_after ≡ ports.input_before → Tells ports.output_before ports.output_after (GainsPrefix head)
    → EndsOn (arrivals_course net lines last) head end.Write ports
head_cut net lines last head ports same cut =
    subst (λ (rest : Option (List ℕ)). stream.StopsWriting (arrivals_course net lines last) head ports.input_before rest ports.output_before ports.output_after) (sym same)
    (headed.head_cut (arrivals_course net lines last) head ports.input_before ports.output_before ports.output_after (permitted_empty net) cut)

-- the statuses of a run's end tell its faults
pub over_read : (how : RunEnd) (end : ArrivalsEnd) → end_over how ≡ end → run_status how ≡ 10 → end ≡ over.Read
over_read end.Read e same is = sym same
over_read how e same is = absurd (omega arith)

pub over_write : (how : RunEnd) (end : ArrivalsEnd) → end_over how ≡ end → run_status how ≡ 11 → end ≡ over.Write
over_write end.Write e same is = sym same
over_write how e same is = absurd (omega arith)

-- a count that rose behind another one rose from before
pub rose_behind : (a b c : ℕ) → a ≤ b → Rose b c → Rose a c
rose_behind a b c early rose = Rose-within a b c c early rose (omega arith)

pub none_stored : (how : RunEnd) → ¬ (run_status how ≡ 2)
none_stored end.Done is = absurd (omega arith)
none_stored how is = absurd (omega arith)
