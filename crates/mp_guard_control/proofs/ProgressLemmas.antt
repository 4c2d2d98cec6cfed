-- A controller over an input, line by line.
use Rattle.std.proofs.Common.{◌≡◌, ◌≤◌, ◌<◌, ◌⊎◌, ◌^◌, ℕ, ℤ, ◌+◌, List, [], ◌∷◌, ◌++◌, length, refl, sym, ◌∙◌, ap, subst, arith, inl, inr, ⊎_elim, Result, Ok, Err}
use Rattle.std.specs.declared.option.Option.{Option}
use Rattle.std.specs.Prelude.{is_err, IsTrue, false}
use Rattle.std.proofs.lemmas.List.{append_assoc, append-nil, length-append}
use Rattle.mp_edge.specs.Outside.{Tells, Puts, IsPrefix, GainsPrefix}
use Rattle.mp_edge.proofs.Told.{Tells-weaker, Tells-then, Tells-same}
use Rattle.mp_edge.proofs.Gains.{GainsPrefix-longer, GainsPrefix-then}
use Rattle.mp_model.specs.Network.{Network}
use Rattle.mp_model.specs.Log.{text_of}
use Rattle.mp_model.specs.ControlLog.{InputLine, plain_line, input_lines, counts_of_lines, control_end_line}
use Rattle.mp_model.specs.ControlLog.InputLine.{skipped_line, counts_line, long_line, bad_line}
use Rattle.mp_text.specs.Cut.{Cut}
use Rattle.mp_text.specs.Cutting.{Cuts}
use Rattle.mp_text.specs.declared.cutter.LineStep.{LineStep}
use Rattle.mp_text.specs.declared.cutter.LineStep.TheVariants.{Line, TooLong as LongLine, End as NoLine, Failed}
use Rattle.mp_press.specs.Queues.{naturals}
use Rattle.mp_control.specs.Controlling.{IsTaken, StartsWith, StandsBefore, Leaves, ended_input_lines}
use Rattle.mp_guard_control.specs.Controller.{Controller, answers_after, begun, log_of}
use Rattle.mp_guard_control.specs.Driving.{EndsAs, RefusedAt, HasTooMany, StopsReading, StopsWriting, Answers, Takes, OfLine, Finishes, Progress}
use Rattle.mp_control.specs.declared.driving.ControlEnd.{ControlEnd}
use Rattle.mp_control.specs.declared.driving.ControlEnd.TheVariants.{Done, Read, Write, LineLimit, Long, Grammar}
use Rattle.mp_guard_control.specs.declared.driving.Answered.{Answered}
use Rattle.mp_guard_control.specs.declared.driving.Answered.TheVariants.{Skipped, Put, Bad, TooLong, End, Unread, Unwritten}
use Rattle.mp_control.proofs.LineLemmas.{first_is, first_long, leaves_empty, starts_more, stands_more, front_read, front_whole, counts_more, counts_skipped, text-append}

-- what comes of a line is cut off as one
takes_cut : (answered : Answered) (old new : Cut) (was now : List ℕ) → OfLine answered → Cuts 16385 Line old new was now → Takes answered old new was now
takes_cut Skipped old new was now of cuts = cuts
takes_cut Put old new was now of cuts = cuts
takes_cut Bad old new was now of cuts = cuts
takes_cut Unwritten old new was now of cuts = cuts
takes_cut TooLong old new was now of cuts = absurd of
takes_cut End old new was now of cuts = absurd of
takes_cut Unread old new was now of cuts = absurd of

pub takes_line : (answered : Answered) (left left' : Option (List ℕ)) (old new : Cut) → OfLine answered → Tells left left' (Cuts 16385 Line old new) → Tells left left' (Takes answered old new)
takes_line answered left left' old new of cuts = Tells-weaker _ _ _ _ (λ was now cut. takes_cut answered old new was now of cut) cuts

-- the answer was put, or a prefix of it
pub answered_put : {T E : Type 0} (answer : List ℕ → List ℕ) (line : InputLine) (counts : List ℤ) (r : Result T E) (x : T) (was now : Option (List ℕ)) → line ≡ counts_line (naturals counts) → r ≡ Ok x
    → Tells was now (Puts r (answer (naturals counts) ++ 10 ∷ [])) → Answers answer Put line was now
answered_put answer line counts r x was now is ok told = record {
  counts = naturals counts;
  is = is;
  written = subst (λ s. Tells was now (Puts s (answer (naturals counts) ++ 10 ∷ []))) ok told;
}

pub answered_cut : {T E : Type 0} (answer : List ℕ → List ℕ) (line : InputLine) (counts : List ℤ) (r : Result T E) (x : E) (was now : Option (List ℕ)) → line ≡ counts_line (naturals counts) → r ≡ Err x
    → Tells was now (Puts r (answer (naturals counts) ++ 10 ∷ [])) → Answers answer Unwritten line was now
answered_cut answer line counts r x was now is err told = record {
  counts = naturals counts;
  is = is;
  written = subst (λ s. Tells was now (Puts s (answer (naturals counts) ++ 10 ∷ []))) err told;
}

-- a line comes next, before the rest of the text
abbrev Leads : Network → List InputLine → InputLine → List ℕ → List ℕ → Type 0
Leads net lines line text rest = StartsWith net text lines (line ∷ input_lines net rest) × StandsBefore net (lines ++ line ∷ []) text rest

line_to_come : (net : Network) (whole left left' : Option (List ℕ)) (old new : Cut) (lines : List InputLine) → Tells whole left (λ text rest. Leaves net lines text (old.held ++ rest))
    → Tells left left' (Cuts 16385 Line old new) → Tells whole left' (λ text rest. Leads net lines (plain_line net new.line) text (new.held ++ rest))
line_to_come net whole left left' old new lines so_far cuts =
    Tells-then _ _ _ _ _ _ (λ text mid rest leaves cut. (
      subst (λ ls. StartsWith net text lines ls) (first_is net (old.held ++ mid) (new.held ++ rest) new.line cut) leaves.0,
      stands_more net text (old.held ++ mid) (new.held ++ rest) new.line lines leaves.1 cut,
    )) so_far cuts

to_come_more : (net : Network) (whole left : Option (List ℕ)) (held : List ℕ) (lines : List InputLine) (line line' : InputLine) → line ≡ line' → IsTaken line'
    → Tells whole left (λ text rest. Leads net lines line text (held ++ rest)) → Tells whole left (λ text rest. Leaves net (lines ++ line' ∷ []) text (held ++ rest))
to_come_more net whole left held lines line line' same is told =
    let there : Tells whole left (λ text rest. Leads net lines line' text (held ++ rest)) = subst (λ (l : InputLine). Tells whole left (λ text rest. Leads net lines l text (held ++ rest))) same told in
    Tells-weaker _ _ _ _ (λ text rest leads. (starts_more net text lines (input_lines net (held ++ rest)) line' leads.0 is, leads.1)) there

ends_there : (net : Network) (whole left left' : Option (List ℕ)) (cut new_cut : Cut) (lines : List InputLine) → Tells whole left (λ text rest. Leaves net lines text (cut.held ++ rest))
    → Tells left left' (Cuts 16385 NoLine cut new_cut) → Tells whole left' (λ text rest. (rest ≡ []) × StartsWith net text lines [])
ends_there net whole left left' cut new_cut lines to_come cuts =
    Tells-then _ _ _ _ _ _ (λ text mid rest leaves e. (e.1, subst (λ (t : List ℕ). StartsWith net text lines (input_lines net t)) e.0 leaves.0)) to_come cuts

-- one more answer
answers_more : (c : Controller) (before counted : List (List ℕ)) (counts : List ℕ) → answers_after c before (counted ++ counts ∷ []) ≡ answers_after c before counted ++ c.answer (before ++ counted) counts ∷ []
answers_more c before [] counts = ap (λ (b : List (List ℕ)). c.answer b counts ∷ []) (sym (append-nil before))
answers_more c before (x ∷ counted) counts =
    ap (λ ls. c.answer before x ∷ ls) (answers_more c (before ++ x ∷ []) counted counts ∙ ap (λ (b : List (List ℕ)). answers_after c (before ++ x ∷ []) counted ++ c.answer b counts ∷ []) (append_assoc before (x ∷ []) counted))

module _ (net : Network) (c : Controller) where
  begun_more : (counted : List (List ℕ)) (counts : List ℕ) → begun c (counted ++ counts ∷ []) ≡ begun c counted ++ (c.answer counted counts ++ 10 ∷ [])
  begun_more counted counts =
      ap (λ ls. c.first ++ text_of ls) (answers_more c [] counted counts)
      ∙ ap (λ bs. c.first ++ bs) (text-append (answers_after c [] counted) (c.answer counted counts ∷ []) ∙ ap (λ bs. text_of (answers_after c [] counted) ++ bs) (append-nil (c.answer counted counts ++ 10 ∷ [])))
      ∙ sym (append_assoc c.first (text_of (answers_after c [] counted)) (c.answer counted counts ++ 10 ∷ []))

  -- the first text is written, and nothing is read yet
  pub progress_start : {T E : Type 0} (K : List (List ℕ) → Type 0) (r : Result T E) (whole was now : Option (List ℕ)) (cut : Cut) → cut ≡ record { line = []; held = [] } → is_err r ≡ false → K [] → Tells was now (Puts r c.first) → Progress net c K whole whole cut.held was now 0 0
  progress_start K (Err x) whole was now cut new ok kept put = absurd (cc)
  progress_start K (Ok x) whole was now cut new ok kept put = record {
    lines = [];
    counted = refl;
    numbered = refl;
    kept = kept;
    to_come = Tells-same whole _ (λ text. subst (λ (c : Cut). Leaves net [] text (c.held ++ text)) (sym new) (leaves_empty net text));
    written = Tells-weaker _ _ _ _ (λ before after e. e ∙ ap (λ bs. before ++ bs) (sym (append-nil c.first))) put;
  }

  -- a line without counts
  pub progress_skipped : (K K' : List (List ℕ) → Type 0) (answer : List ℕ → List ℕ) (whole left left' : Option (List ℕ)) (cut new_cut : Cut) (was now now' : Option (List ℕ)) (count number : ℕ)
      → (plain_line net new_cut.line ≡ skipped_line → (counted : List (List ℕ)) → K counted → K' counted)
      → Progress net c K whole left cut.held was now count number → Tells left left' (Cuts 16385 Line cut new_cut) → Answers answer Skipped (plain_line net new_cut.line) now now'
      → Progress net c K' whole left' new_cut.held was now' (count + 1) number
  progress_skipped K K' answer whole left left' cut new_cut was now now' count number keeps p cuts answers = record {
    lines = p.lines ++ skipped_line ∷ [];
    counted = let counted = p.counted in omega (arith, length-append p.lines (skipped_line ∷ []));
    numbered = ap length (counts_skipped p.lines) ∙ p.numbered;
    kept = subst K' (sym (counts_skipped p.lines)) (keeps answers.0 (counts_of_lines p.lines) p.kept);
    to_come = to_come_more net whole left' new_cut.held p.lines (plain_line net new_cut.line) skipped_line answers.0 tt (line_to_come net whole left left' cut new_cut p.lines p.to_come cuts);
    written = subst (λ (text : List ℕ). Tells was now' (λ before after. after ≡ before ++ text)) (sym (ap (begun c) (counts_skipped p.lines)))
        (subst (λ o. Tells was o (λ before after. after ≡ before ++ begun c (counts_of_lines p.lines))) (sym answers.1) p.written);
  }

  -- a line of counts, and its answer
  pub progress_put : (K K' : List (List ℕ) → Type 0) (answer : List ℕ → List ℕ) (whole left left' : Option (List ℕ)) (cut new_cut : Cut) (was now now' : Option (List ℕ)) (count number : ℕ)
      → ((counted : List (List ℕ)) (counts : List ℕ) → length counted ≡ number → K counted → answer counts ≡ c.answer counted counts)
      → ((counted : List (List ℕ)) (counts : List ℕ) → plain_line net new_cut.line ≡ counts_line counts → length counted ≡ number → K counted → K' (counted ++ counts ∷ []))
      → Progress net c K whole left cut.held was now count number → Tells left left' (Cuts 16385 Line cut new_cut) → Answers answer Put (plain_line net new_cut.line) now now'
      → Progress net c K' whole left' new_cut.held was now' (count + 1) (number + 1)
  progress_put K K' answer whole left left' cut new_cut was now now' count number agrees keeps p cuts answered =
      let counts = answered.counts in
      let so_far = counts_of_lines p.lines in
      let front : begun c (counts_of_lines (p.lines ++ counts_line counts ∷ [])) ≡ begun c so_far ++ (answer counts ++ 10 ∷ []) =
      ap (begun c) (counts_more p.lines counts) ∙ begun_more so_far counts ∙ ap (λ (bs : List ℕ). begun c so_far ++ (bs ++ 10 ∷ [])) (sym (agrees so_far counts p.numbered p.kept)) in
      record {
        lines = p.lines ++ counts_line counts ∷ [];
        counted = let counted = p.counted in omega (arith, length-append p.lines (counts_line counts ∷ []));
        numbered = let numbered = p.numbered in omega (arith, ap length (counts_more p.lines counts), length-append (counts_of_lines p.lines) (counts ∷ []));
        kept = subst K' (sym (counts_more p.lines counts)) (keeps so_far counts answered.is p.numbered p.kept);
        to_come = to_come_more net whole left' new_cut.held p.lines (plain_line net new_cut.line) (counts_line counts) answered.is tt (line_to_come net whole left left' cut new_cut p.lines p.to_come cuts);
        written = Tells-then _ _ _ _ _ _ (λ before mid after w a. a ∙ ap (λ xs. xs ++ (answer counts ++ 10 ∷ [])) w
            ∙ append_assoc before (begun c so_far) (answer counts ++ 10 ∷ []) ∙ ap (λ xs. before ++ xs) (sym front)) p.written answered.written;
      }

  -- a prefix of more text behind the answers
  cut_behind : (lines : List InputLine) (was now now' : Option (List ℕ)) (more all : List ℕ) → IsPrefix (begun c (counts_of_lines lines) ++ more) all
      → Tells was now (λ before after. after ≡ before ++ begun c (counts_of_lines lines)) → Tells now now' (GainsPrefix more) → Tells was now' (GainsPrefix all)
  cut_behind lines was now now' more all front written cut =
      Tells-then _ _ _ _ _ _ (λ before mid after w gain. GainsPrefix-longer (begun c (counts_of_lines lines) ++ more) all before after front
      (GainsPrefix-then (begun c (counts_of_lines lines)) more before mid after w gain)) written cut

  -- the first text was cut short
  pub first_cut : {T E : Type 0} (r : Result T E) (whole was now : Option (List ℕ)) → IsTrue (is_err r) → Tells was now (Puts r c.first) → StopsWriting net c whole whole was now
  first_cut (Ok x) whole was now fails put = absurd (cc)
  first_cut (Err x) whole was now fails put = record {
    lines = [];
    few = omega arith;
    read = Tells-same whole _ (λ text. ([], front_whole net text [] text [] (λ k d l. absurd (omega arith)) (leaves_empty net text)));
    written = inl (Tells-weaker _ _ _ _ (λ before after gain. GainsPrefix-longer c.first (begun c []) before after ([], refl) gain) put);
  }

  module _ (K : List (List ℕ) → Type 0) (whole left left' : Option (List ℕ)) (cut new_cut : Cut) (was : Option (List ℕ)) (count number : ℕ) where
    same_text : (lines : List InputLine) (now now' : Option (List ℕ)) → now' ≡ now → Tells was now (λ before after. after ≡ before ++ begun c (counts_of_lines lines)) → Tells was now' (λ before after. after ≡ before ++ begun c (counts_of_lines lines))
    same_text lines now now' same written = subst (λ o. Tells was o (λ before after. after ≡ before ++ begun c (counts_of_lines lines))) (sym same) written

    -- the next line is not in the grammar
    pub progress_bad : (answer : List ℕ → List ℕ) (now now' : Option (List ℕ)) → count < 2 ^ 48
        → Progress net c K whole left cut.held was now count number → Tells left left' (Cuts 16385 Line cut new_cut) → Answers answer Bad (plain_line net new_cut.line) now now'
        → RefusedAt net c bad_line (count + 1) whole left' was now'
    progress_bad answer now now' few p cuts answers = record {
      lines = p.lines;
      number = ap (λ n. n + 1) (sym p.counted);
      few = omega arith;
      read = Tells-weaker _ _ _ _ (λ text rest leads. (input_lines net (new_cut.held ++ rest), subst (λ (l : InputLine). StartsWith net text p.lines (l ∷ input_lines net (new_cut.held ++ rest))) answers.0 leads.0))
          (line_to_come net whole left left' cut new_cut p.lines p.to_come cuts);
      written = same_text p.lines now now' answers.1 p.written;
    }

    -- the next line is too long
    pub progress_long : (now now' : Option (List ℕ)) → count < 2 ^ 48
        → Progress net c K whole left cut.held was now count number → Tells left left' (Cuts 16385 LongLine cut new_cut) → now' ≡ now → RefusedAt net c long_line (count + 1) whole left' was now'
    progress_long now now' few p cuts same = record {
      lines = p.lines;
      number = ap (λ n. n + 1) (sym p.counted);
      few = omega arith;
      read = Tells-then _ _ _ _ _ _ (λ text mid rest leaves long.
          let first = first_long net (cut.held ++ mid) long in
          (first.0, subst (λ ls. StartsWith net text p.lines ls) first.1 leaves.0)) p.to_come cuts;
      written = same_text p.lines now now' same p.written;
    }

    -- the source met a fault
    pub progress_unread : (now now' : Option (List ℕ)) → count ≤ 2 ^ 48
        → Progress net c K whole left cut.held was now count number → Tells left left' (Cuts 16385 Failed cut new_cut) → now' ≡ now → StopsReading net c whole left' was now'
    progress_unread now now' few p cuts same = record {
      lines = p.lines;
      few = let counted = p.counted in omega arith;
      read = Tells-then _ _ _ _ _ _ (λ text mid rest leaves failed. front_whole net text new_cut.held rest p.lines failed.1.0 (subst (λ (t : List ℕ). Leaves net p.lines text t) failed.0 leaves)) p.to_come cuts;
      written = same_text p.lines now now' same p.written;
    }

    -- an answer was cut short
    pub progress_unwritten : (answer : List ℕ → List ℕ) (now now' : Option (List ℕ)) → count < 2 ^ 48
        → ((counted : List (List ℕ)) (counts : List ℕ) → length counted ≡ number → K counted → answer counts ≡ c.answer counted counts)
        → Progress net c K whole left cut.held was now count number → Tells left left' (Cuts 16385 Line cut new_cut) → Answers answer Unwritten (plain_line net new_cut.line) now now'
        → StopsWriting net c whole left' was now'
    progress_unwritten answer now now' few agrees p cuts answered =
        let counts = answered.counts in
        let so_far = counts_of_lines p.lines in
        let put = answer counts ++ 10 ∷ [] in
        let lines = p.lines ++ counts_line counts ∷ [] in
        let front : begun c (counts_of_lines lines) ≡ begun c so_far ++ put =
        ap (begun c) (counts_more p.lines counts) ∙ begun_more so_far counts ∙ ap (λ (bs : List ℕ). begun c so_far ++ (bs ++ 10 ∷ [])) (sym (agrees so_far counts p.numbered p.kept)) in
        record {
          lines = lines;
          few = let counted = p.counted in omega (arith, length-append p.lines (counts_line counts ∷ []));
          read = Tells-weaker _ _ _ _ (λ text rest leaves. (ended_input_lines net new_cut.held, front_read net text new_cut.held rest lines leaves))
              (to_come_more net whole left' new_cut.held p.lines (plain_line net new_cut.line) (counts_line counts) answered.is tt (line_to_come net whole left left' cut new_cut p.lines p.to_come cuts));
          written = inl (cut_behind p.lines was now now' put (begun c (counts_of_lines lines)) ([], front ∙ sym (append-nil (begun c so_far ++ put))) p.written answered.written);
        }

    -- a line is left after the last that may be taken
    many_short : (now : Option (List ℕ)) → count ≡ 2 ^ 48 → Progress net c K whole left cut.held was now count number → Tells left left' (Cuts 16385 Line cut new_cut) → HasTooMany net c whole left' was now
    many_short now all p cuts = record {
      lines = p.lines;
      number = p.counted ∙ all;
      read = Tells-weaker _ _ _ _ (λ text rest leads. (plain_line net new_cut.line, input_lines net (new_cut.held ++ rest), leads.0)) (line_to_come net whole left left' cut new_cut p.lines p.to_come cuts);
      written = p.written;
    }

    many_long : (now : Option (List ℕ)) → count ≡ 2 ^ 48 → Progress net c K whole left cut.held was now count number → Tells left left' (Cuts 16385 LongLine cut new_cut) → HasTooMany net c whole left' was now
    many_long now all p cuts = record {
      lines = p.lines;
      number = p.counted ∙ all;
      read = Tells-then _ _ _ _ _ _ (λ text mid rest leaves long.
          let first = first_long net (cut.held ++ mid) long in
          (long_line, first.0, subst (λ ls. StartsWith net text p.lines ls) first.1 leaves.0)) p.to_come cuts;
      written = p.written;
    }

    pub progress_many : (step : LineStep) (now : Option (List ℕ)) → count ≡ 2 ^ 48 → (step ≡ Line) ⊎ (step ≡ LongLine)
        → Progress net c K whole left cut.held was now count number → Tells left left' (Cuts 16385 step cut new_cut) → HasTooMany net c whole left' was now
    progress_many step now all either p cuts =
        let P : LineStep → Type 0 = λ s. Tells left left' (Cuts 16385 s cut new_cut) in
        ⊎_elim (λ (is : step ≡ Line). many_short now all p (subst P is cuts))
        (λ (is : step ≡ LongLine). many_long now all p (subst P is cuts)) either

    -- the end, and the end line or a prefix of it
    pub progress_end : (end : ControlEnd) (mid now now' : Option (List ℕ)) → count ≤ 2 ^ 48
        → Progress net c K whole left cut.held was mid count number → Tells left left' (Cuts 16385 NoLine cut new_cut) → now ≡ mid → Finishes end number now now' → EndsAs net c end whole left' was now'
    progress_end Done mid now now' few p cuts same finishes =
        let so_far = counts_of_lines p.lines in
        let written = same_text p.lines mid now same p.written in
        let last = control_end_line number ++ 10 ∷ [] in
        let log : begun c so_far ++ last ≡ log_of c so_far = ap (λ n. begun c so_far ++ (control_end_line n ++ 10 ∷ [])) (sym p.numbered) in
        record {
          lines = p.lines;
          few = let counted = p.counted in omega arith;
          read = ends_there net whole left left' cut new_cut p.lines p.to_come cuts;
          written = Tells-then _ _ _ _ _ _ (λ before middle after w e. e ∙ ap (λ xs. xs ++ last) w ∙ append_assoc before (begun c so_far) last ∙ ap (λ xs. before ++ xs) log) written finishes;
        }
    progress_end Write mid now now' few p cuts same finishes =
        let so_far = counts_of_lines p.lines in
        let written = same_text p.lines mid now same p.written in
        let last = control_end_line number ++ 10 ∷ [] in
        let log : begun c so_far ++ last ≡ log_of c so_far = ap (λ n. begun c so_far ++ (control_end_line n ++ 10 ∷ [])) (sym p.numbered) in
        record {
          lines = p.lines;
          few = let counted = p.counted in omega arith;
          read = Tells-then _ _ _ _ _ _ (λ text middle rest leaves e. ([], front_whole net text [] rest p.lines (λ k d l. absurd (omega arith)) (subst (λ (t : List ℕ). Leaves net p.lines text t) (e.0 ∙ sym e.1) leaves))) p.to_come cuts;
          written = inr (
            ends_there net whole left left' cut new_cut p.lines p.to_come cuts,
            cut_behind p.lines was now now' last (log_of c so_far) ([], sym log ∙ sym (append-nil (begun c so_far ++ last))) written finishes,
          );
        }
    progress_end Read mid now now' few p cuts same finishes = absurd finishes
    progress_end LineLimit mid now now' few p cuts same finishes = absurd finishes
    progress_end (Long n) mid now now' few p cuts same finishes = absurd finishes
    progress_end (Grammar n) mid now now' few p cuts same finishes = absurd finishes
