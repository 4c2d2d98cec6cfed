-- A run over a stream, line by line.
use Rattle.std.proofs.Common.{◌≡◌, ◌≤◌, ◌<◌, ◌⊎◌, ◌^◌, ℕ, ◌+◌, List, [], ◌∷◌, ◌++◌, length, refl, sym, ◌∙◌, ap, subst, Result, Ok, Err, arith, inl, inr}
use Rattle.std.specs.declared.option.Option.{Option}
use Rattle.std.proofs.lemmas.List.{append_assoc, append-nil, length-append}
use Rattle.mp_edge.specs.Outside.{Tells, IsPrefix, GainsPrefix}
use Rattle.mp_edge.proofs.Told.{Tells-weaker, Tells-then, Tells-same}
use Rattle.mp_edge.proofs.Gains.{GainsPrefix-longer, GainsPrefix-then}
use Rattle.mp_model.specs.Network.{Network}
use Rattle.mp_model.specs.Log.{text_of}
use Rattle.mp_model.specs.Stream.{LineKind, plain_kind}
use Rattle.mp_model.specs.Stream.LineKind.{long_line}
use Rattle.mp_text.specs.Cut.{Cut}
use Rattle.mp_text.specs.Cutting.{Cuts}
use Rattle.mp_text.specs.declared.cutter.LineStep.{LineStep}
use Rattle.mp_text.specs.declared.cutter.LineStep.TheVariants.{Line, End as AtEnd, TooLong, Failed}
use Rattle.mp_stream.specs.Course.{Course, kind_for, kinds_of, ended_kinds, IsTaken, StartsWith}
use Rattle.mp_stream.specs.Taking.{IsAtStart, HasRoom, Takes, CutsShort, TakesLine, stop_end, Finishes}
use Rattle.mp_stream.specs.Ends.{EndsAs, whole_text, WritesPart, RefusedAt, HasTooMany, StopsReading, StopsWriting}
use Rattle.mp_stream.specs.Progress.{StandsBefore, Leaves, Progress}
use Rattle.mp_stream.specs.declared.driving.End.{End}
use Rattle.mp_stream.specs.declared.driving.End.TheVariants.{Done, Read, Write, LineLimit, Long, Bad, Refused}
use Rattle.mp_stream.specs.declared.runs.Stop.{Stop}
use Rattle.mp_stream.specs.declared.runs.Stop.TheVariants as stop
use Rattle.mp_stream.proofs.LineLemmas.{first_kind, first_long, leaves_empty, starts_more, stands_more, front_read, front_whole, text-append}

-- what was written, and a part of what follows
cut_behind : (front last all : List ℕ) (was now now' : Option (List ℕ)) → IsPrefix (front ++ last) all → Tells was now (λ before after. after ≡ before ++ front)
    → Tells now now' (GainsPrefix last) → Tells was now' (GainsPrefix all)
cut_behind front last all was now now' prefix written cut =
    Tells-then _ _ _ _ _ _ (λ before mid after w gain. GainsPrefix-longer (front ++ last) all before after prefix (GainsPrefix-then front last before mid after w gain)) written cut

-- what is taken of a line that was read is taken of the line that was cut
pub takes_cut : {K R : Type 0} (course : K → Course R) (k k' : K) (Old New : List LineKind → Type 0) (net : Network) (line line' : List ℕ) (read : LineKind) (result : Result (Unit {0}) (Stop R)) (was now : Option (List ℕ))
    → k ≡ k' → net ≡ (course k).net → line ≡ line' → plain_kind net line ≡ read → TakesLine (course k) Old New (kind_for (course k) read) result was now
    → TakesLine (course k') Old New (kind_for (course k') (plain_kind (course k').net line')) result was now
takes_cut course k k' Old New net line line' read result was now same net_is line_is read_is takes =
    subst (λ x. TakesLine (course x) Old New (kind_for (course x) (plain_kind (course x).net line')) result was now) same
    (subst (λ kind. TakesLine (course k) Old New (kind_for (course k) kind) result was now) (sym read_is ∙ ap (plain_kind net) line_is ∙ ap (λ n. plain_kind n line') net_is) takes)

-- a run in the middle has room for one more line
pub has_room : {R : Type 0} (run : Course R) (Stands : List LineKind → Type 0) (whole left : Option (List ℕ)) (held : List ℕ) (was now : Option (List ℕ)) (count : ℕ) → count < 2 ^ 48 → Progress run Stands whole left held was now count → HasRoom Stands
has_room run Stands whole left held was now count few p = record { kinds = p.kinds; stands = p.stands; few = let counted = p.counted in omega arith }

module _ {R : Type 0} (run : Course R) where
  -- nothing is read or written yet
  pub progress_start : (Stands : List LineKind → Type 0) (whole was : Option (List ℕ)) (cut : Cut) → cut ≡ record { line = []; held = [] } → IsAtStart run Stands → Progress run Stands whole whole cut.held was was 0
  progress_start Stands whole was cut new start = record {
    kinds = [];
    counted = refl;
    stands = start.stands;
    permitted = start.permitted;
    to_come = Tells-same whole _ (λ text. subst (λ (c : Cut). Leaves run [] text (c.held ++ text)) (sym new) (leaves_empty run text));
    written = Tells-same was _ (λ before. sym (ap (λ ls. before ++ text_of ls) start.nothing ∙ append-nil before));
  }

  -- a line of this kind comes next, before the rest of the text
  abbrev Leads : List LineKind → LineKind → List ℕ → List ℕ → Type 0
  Leads kinds kind text rest = StartsWith run text kinds (kind ∷ kinds_of run rest) × StandsBefore run (kinds ++ kind ∷ []) text rest

  line_to_come : (whole left left' : Option (List ℕ)) (old new : Cut) (kinds : List LineKind) → Tells whole left (λ text rest. Leaves run kinds text (old.held ++ rest))
      → Tells left left' (Cuts 2049 Line old new) → Tells whole left' (λ text rest. Leads kinds (kind_for run (plain_kind run.net new.line)) text (new.held ++ rest))
  line_to_come whole left left' old new kinds so_far cuts =
      Tells-then _ _ _ _ _ _ (λ text mid rest leaves cut. (
        subst (λ ks. StartsWith run text kinds ks) (first_kind run (old.held ++ mid) (new.held ++ rest) new.line cut) leaves.0,
        stands_more run text (old.held ++ mid) (new.held ++ rest) new.line kinds leaves.1 cut,
      )) so_far cuts

  to_come_more : (whole left : Option (List ℕ)) (held : List ℕ) (kinds : List LineKind) (kind : LineKind) → IsTaken kind
      → Tells whole left (λ text rest. Leads kinds kind text (held ++ rest)) → Tells whole left (λ text rest. Leaves run (kinds ++ kind ∷ []) text (held ++ rest))
  to_come_more whole left held kinds kind is told = Tells-weaker _ _ _ _ (λ text rest leads. (starts_more run text kinds (kinds_of run (held ++ rest)) kind leads.0 is, leads.1)) told

  -- a line is taken
  pub progress_line : (Old New : List LineKind → Type 0) (whole left left' : Option (List ℕ)) (cut new_cut : Cut) (was now now' : Option (List ℕ)) (count : ℕ)
      → Progress run Old whole left cut.held was now count → Tells left left' (Cuts 2049 Line cut new_cut) → Takes run Old New (kind_for run (plain_kind run.net new_cut.line)) now now'
      → Progress run New whole left' new_cut.held was now' (count + 1)
  progress_line Old New whole left left' cut new_cut was now now' count p cuts takes =
      let kind = kind_for run (plain_kind run.net new_cut.line) in
      let more = takes.written p.kinds p.stands in
      record {
        kinds = p.kinds ++ kind ∷ [];
        counted = let counted = p.counted in omega (arith, length-append p.kinds (kind ∷ []));
        stands = takes.stands p.kinds p.stands;
        permitted = takes.permitted p.kinds p.stands;
        to_come = to_come_more whole left' new_cut.held p.kinds kind takes.taken (line_to_come whole left left' cut new_cut p.kinds p.to_come cuts);
        written = Tells-then _ _ _ _ _ _ (λ before mid after w l. l ∙ ap (λ xs. xs ++ text_of more.0) w ∙ append_assoc before (text_of (run.lines p.kinds)) (text_of more.0)
            ∙ ap (λ xs. before ++ xs) (sym (ap text_of more.1 ∙ text-append (run.lines p.kinds) more.0))) p.written more.2;
      }

  -- the next line is too long
  pub progress_long : (Stands : List LineKind → Type 0) (whole left left' : Option (List ℕ)) (cut new_cut : Cut) (was now : Option (List ℕ)) (count : ℕ) → count < 2 ^ 48
      → Progress run Stands whole left cut.held was now count → Tells left left' (Cuts 2049 TooLong cut new_cut) → RefusedAt run [] long_line (count + 1) whole left' was now
  progress_long Stands whole left left' cut new_cut was now count few p cuts = record {
    kinds = p.kinds;
    number = ap (λ n. n + 1) (sym p.counted);
    few = omega arith;
    permitted = p.permitted;
    read = Tells-then _ _ _ _ _ _ (λ text mid rest leaves long.
        let first = first_long run (cut.held ++ mid) long in
        (first.0, subst (λ ks. StartsWith run text p.kinds ks) first.1 leaves.0)) p.to_come cuts;
    written = p.written;
  }

  -- the source met a fault
  pub progress_failed : (Stands : List LineKind → Type 0) (whole left left' : Option (List ℕ)) (cut new_cut : Cut) (was now : Option (List ℕ)) (count : ℕ) → count ≤ 2 ^ 48
      → Progress run Stands whole left cut.held was now count → Tells left left' (Cuts 2049 Failed cut new_cut) → StopsReading run [] whole left' was now
  progress_failed Stands whole left left' cut new_cut was now count few p cuts = record {
    kinds = p.kinds;
    few = let counted = p.counted in omega arith;
    permitted = p.permitted;
    read = Tells-then _ _ _ _ _ _ (λ text mid rest leaves failed. front_whole run text new_cut.held rest p.kinds failed.1.0 (subst (λ (t : List ℕ). Leaves run p.kinds text t) failed.0 leaves)) p.to_come cuts;
    written = p.written;
  }

  -- a line is left after the last that may be taken
  progress_many_short : (Stands : List LineKind → Type 0) (whole left left' : Option (List ℕ)) (cut new_cut : Cut) (was now : Option (List ℕ)) (count : ℕ) → count ≡ 2 ^ 48
      → Progress run Stands whole left cut.held was now count → Tells left left' (Cuts 2049 Line cut new_cut) → HasTooMany run [] whole left' was now
  progress_many_short Stands whole left left' cut new_cut was now count all p cuts = record {
    kinds = p.kinds;
    number = p.counted ∙ all;
    permitted = p.permitted;
    read = Tells-weaker _ _ _ _ (λ text rest leads. (kind_for run (plain_kind run.net new_cut.line), kinds_of run (new_cut.held ++ rest), leads.0)) (line_to_come whole left left' cut new_cut p.kinds p.to_come cuts);
    written = p.written;
  }

  progress_many_long : (Stands : List LineKind → Type 0) (whole left left' : Option (List ℕ)) (cut new_cut : Cut) (was now : Option (List ℕ)) (count : ℕ) → count ≡ 2 ^ 48
      → Progress run Stands whole left cut.held was now count → Tells left left' (Cuts 2049 TooLong cut new_cut) → HasTooMany run [] whole left' was now
  progress_many_long Stands whole left left' cut new_cut was now count all p cuts = record {
    kinds = p.kinds;
    number = p.counted ∙ all;
    permitted = p.permitted;
    read = Tells-then _ _ _ _ _ _ (λ text mid rest leaves long.
        let first = first_long run (cut.held ++ mid) long in
        (long_line, first.0, subst (λ ks. StartsWith run text p.kinds ks) first.1 leaves.0)) p.to_come cuts;
    written = p.written;
  }

  pub progress_many : (Stands : List LineKind → Type 0) (step : LineStep) (whole left left' : Option (List ℕ)) (cut new_cut : Cut) (was now : Option (List ℕ)) (count : ℕ) → count ≡ 2 ^ 48
      → (step ≡ Line) ⊎ (step ≡ TooLong) → Progress run Stands whole left cut.held was now count → Tells left left' (Cuts 2049 step cut new_cut) → HasTooMany run [] whole left' was now
  progress_many Stands step whole left left' cut new_cut was now count all (inl line) p cuts =
      progress_many_short Stands whole left left' cut new_cut was now count all p (subst (λ (s : LineStep). Tells left left' (Cuts 2049 s cut new_cut)) line cuts)
  progress_many Stands step whole left left' cut new_cut was now count all (inr long) p cuts =
      progress_many_long Stands whole left left' cut new_cut was now count all p (subst (λ (s : LineStep). Tells left left' (Cuts 2049 s cut new_cut)) long cuts)

  -- nothing is left of the text
  ends_there : (whole left left' : Option (List ℕ)) (cut new_cut : Cut) (kinds : List LineKind) → Tells whole left (λ text rest. Leaves run kinds text (cut.held ++ rest))
      → Tells left left' (Cuts 2049 AtEnd cut new_cut) → Tells whole left' (λ text rest. (rest ≡ []) × StartsWith run text kinds [])
  ends_there whole left left' cut new_cut kinds to_come cuts =
      Tells-then _ _ _ _ _ _ (λ text mid rest leaves e. (e.1, subst (λ (t : List ℕ). StartsWith run text kinds (kinds_of run t)) e.0 leaves.0)) to_come cuts

  -- the end, and the end line or a prefix of it
  pub progress_end : (Stands : List LineKind → Type 0) (end : End R) (whole left left' : Option (List ℕ)) (cut new_cut : Cut) (was now now' : Option (List ℕ)) (count : ℕ) → count ≤ 2 ^ 48
      → Progress run Stands whole left cut.held was now count → Tells left left' (Cuts 2049 AtEnd cut new_cut) → Finishes run Stands end now now' → EndsAs run [] end whole left' was now'
  progress_end Stands Done whole left left' cut new_cut was now now' count few p cuts finishes =
      let last = text_of (run.end_line p.kinds ∷ []) in
      record {
        kinds = p.kinds;
        few = let counted = p.counted in omega arith;
        permitted = p.permitted;
        read = ends_there whole left left' cut new_cut p.kinds p.to_come cuts;
        written = Tells-then _ _ _ _ _ _ (λ before mid after w e. e ∙ ap (λ xs. xs ++ last) w ∙ append_assoc before (text_of (run.lines p.kinds)) last
            ∙ ap (λ xs. before ++ xs) (sym (text-append (run.lines p.kinds) (run.end_line p.kinds ∷ [])))) p.written (finishes p.kinds p.stands);
      }
  progress_end Stands Write whole left left' cut new_cut was now now' count few p cuts finishes =
      let front = text_of (run.lines p.kinds) in
      let last = text_of (run.end_line p.kinds ∷ []) in
      record {
        kinds = p.kinds;
        few = let counted = p.counted in omega arith;
        permitted = p.permitted;
        read = Tells-then _ _ _ _ _ _ (λ text mid rest leaves e. ([], front_whole run text [] rest p.kinds (λ k d l. absurd (omega arith)) (subst (λ (t : List ℕ). Leaves run p.kinds text t) (e.0 ∙ sym e.1) leaves))) p.to_come cuts;
        written = inr (
          ends_there whole left left' cut new_cut p.kinds p.to_come cuts,
          cut_behind front last (whole_text run p.kinds) was now now' ([], text-append (run.lines p.kinds) (run.end_line p.kinds ∷ []) ∙ sym (append-nil (front ++ last))) p.written (finishes p.kinds p.stands),
        );
      }
  progress_end Stands Read whole left left' cut new_cut was now now' count few p cuts finishes = absurd finishes
  progress_end Stands LineLimit whole left left' cut new_cut was now now' count few p cuts finishes = absurd finishes
  progress_end Stands (Long n) whole left left' cut new_cut was now now' count few p cuts finishes = absurd finishes
  progress_end Stands (Bad n) whole left left' cut new_cut was now now' count few p cuts finishes = absurd finishes
  progress_end Stands (Refused n refusal) whole left left' cut new_cut was now now' count few p cuts finishes = absurd finishes

  -- what is written of a line was cut short
  cut_at : (Old : List LineKind → Type 0) (whole left left' : Option (List ℕ)) (cut new_cut : Cut) (was now now' : Option (List ℕ)) (count : ℕ) → count < 2 ^ 48
      → Progress run Old whole left cut.held was now count → Tells left left' (Cuts 2049 Line cut new_cut) → CutsShort run Old (kind_for run (plain_kind run.net new_cut.line)) now now' → StopsWriting run [] whole left' was now'
  cut_at Old whole left left' cut new_cut was now now' count few p cuts short =
      let kind = kind_for run (plain_kind run.net new_cut.line) in
      let kinds = p.kinds ++ kind ∷ [] in
      let more = short.written p.kinds p.stands in
      let front : text_of (run.lines kinds) ≡ text_of (run.lines p.kinds) ++ text_of more.0 = ap text_of more.1 ∙ text-append (run.lines p.kinds) more.0 in
      record {
        kinds = kinds;
        few = let counted = p.counted in omega (arith, length-append p.kinds (kind ∷ []));
        permitted = short.permitted p.kinds p.stands;
        read = Tells-weaker _ _ _ _ (λ text rest leaves. (ended_kinds run new_cut.held, front_read run text new_cut.held rest kinds leaves))
            (to_come_more whole left' new_cut.held p.kinds kind short.taken (line_to_come whole left left' cut new_cut p.kinds p.to_come cuts));
        written = inl (cut_behind (text_of (run.lines p.kinds)) (text_of more.0) (text_of (run.lines kinds)) was now now' ([], front ∙ sym (append-nil (text_of (run.lines p.kinds) ++ text_of more.0))) p.written more.2);
      }

  -- the line is refused
  abbrev refused_at : (Old : List LineKind → Type 0) (kind : LineKind) (whole left left' : Option (List ℕ)) (cut new_cut : Cut) (was now now' : Option (List ℕ)) (count : ℕ) → count < 2 ^ 48
      → (p : Progress run Old whole left cut.held was now count) → Tells left left' (Cuts 2049 Line cut new_cut) → kind_for run (plain_kind run.net new_cut.line) ≡ kind → now' ≡ now → RefusedAt run [] kind (count + 1) whole left' was now'
  refused_at Old kind whole left left' cut new_cut was now now' count few p cuts is same = record {
    kinds = p.kinds;
    number = ap (λ n. n + 1) (sym p.counted);
    few = omega arith;
    permitted = p.permitted;
    read = Tells-weaker _ _ _ _ (λ text rest leads. (kinds_of run (new_cut.held ++ rest), subst (λ k. StartsWith run text p.kinds (k ∷ kinds_of run (new_cut.held ++ rest))) is leads.0))
        (line_to_come whole left left' cut new_cut p.kinds p.to_come cuts);
    written = subst (λ o. Tells was o (λ before after. after ≡ before ++ text_of (run.lines p.kinds))) (sym same) p.written;
  }

  -- the run stops at a line
  pub progress_stop : (Old New : List LineKind → Type 0) (why : Stop R) (whole left left' : Option (List ℕ)) (cut new_cut : Cut) (was now now' : Option (List ℕ)) (count : ℕ) → count < 2 ^ 48
      → Progress run Old whole left cut.held was now count → Tells left left' (Cuts 2049 Line cut new_cut) → TakesLine run Old New (kind_for run (plain_kind run.net new_cut.line)) (Err why) now now'
      → EndsAs run [] (stop_end (count + 1) why) whole left' was now'
  progress_stop Old New stop.Bad whole left left' cut new_cut was now now' count few p cuts takes = refused_at Old _ whole left left' cut new_cut was now now' count few p cuts takes.0 takes.1
  progress_stop Old New (stop.Refused refusal) whole left left' cut new_cut was now now' count few p cuts takes = record {
    kind = kind_for run (plain_kind run.net new_cut.line);
    at = refused_at Old _ whole left left' cut new_cut was now now' count few p cuts refl takes.1;
    refused = takes.0 p.kinds p.stands;
  }
  progress_stop Old New stop.Write whole left left' cut new_cut was now now' count few p cuts takes = cut_at Old whole left left' cut new_cut was now now' count few p cuts takes
