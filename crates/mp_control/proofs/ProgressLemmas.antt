-- The controller over an input, line by line.
use Rattle.std.proofs.Common.{◌≡◌, ◌≤◌, ◌<◌, ◌⊎◌, ◌^◌, ℕ, ℤ, ◌+◌, List, [], ◌∷◌, ◌++◌, length, refl, sym, ◌∙◌, ap, subst, arith, inl, inr, ⊎_elim, codes, Result, Ok, Err}
use Rattle.std.specs.declared.option.Option.{Option}
use Rattle.std.specs.Prelude.{is_err, IsTrue, false}
use Rattle.std.proofs.lemmas.List.{append_assoc, append-nil, length-append}
use Rattle.mp_edge.specs.Outside.{Tells, Puts, IsPrefix, GainsPrefix}
use Rattle.mp_edge.proofs.Told.{Tells-weaker, Tells-then, Tells-same}
use Rattle.mp_edge.proofs.Gains.{GainsPrefix-longer, GainsPrefix-then}
use Rattle.mp_model.specs.Network.{Network}
use Rattle.mp_model.specs.ControlLog.{InputLine, plain_line, input_lines, counts_of_lines, answer_to, answers, control_end_line, control_log_text, AreAnswers}
use Rattle.mp_model.specs.ControlLog.InputLine.{skipped_line, counts_line, long_line, bad_line}
use Rattle.mp_text.specs.Cut.{Cut}
use Rattle.mp_text.specs.Cutting.{Cuts}
use Rattle.mp_text.specs.declared.cutter.LineStep.{LineStep}
use Rattle.mp_text.specs.declared.cutter.LineStep.TheVariants.{Line, TooLong as LongLine, End as NoLine, Failed}
use Rattle.mp_press.specs.Queues.{naturals}
use Rattle.mp_control.specs.Controlling.{EndsAs, IsTaken, StartsWith, StandsBefore, Leaves, ended_input_lines, answered_text, RefusedAt, HasTooMany, StopsReading, StopsWriting, Answers, Takes, OfLine, Finishes, Progress}
use Rattle.mp_control.specs.declared.driving.ControlEnd.{ControlEnd}
use Rattle.mp_control.specs.declared.driving.ControlEnd.TheVariants.{Done, Read, Write, LineLimit, Long, Grammar}
use Rattle.mp_control.specs.declared.driving.Answered.{Answered}
use Rattle.mp_control.specs.declared.driving.Answered.TheVariants.{Skipped, Put, Bad, TooLong, End, Unread, Unwritten}
use Rattle.mp_control.proofs.LineLemmas.{first_is, first_long, leaves_empty, starts_more, stands_more, front_read, front_whole, counts_more, counts_skipped}
use Rattle.mp_control.proofs.AnswerLemmas.{answered_more, answered_skipped, log_is}

-- what comes of a line is cut off as one
takes_cut : (answered : Answered) (old new : Cut) (was now : List ℕ) → OfLine answered → Cuts 16385 Line old new was now → Takes answered old new was now
takes_cut Skipped old new was now of cuts = cuts
takes_cut Put old new was now of cuts = cuts
takes_cut Bad old new was now of cuts = cuts
takes_cut Unwritten old new was now of cuts = cuts
takes_cut TooLong old new was now of cuts = absurd of
takes_cut End old new was now of cuts = absurd of
takes_cut Unread old new was now of cuts = absurd of

pub takes_line : (answered : Answered) (left left' : Option (List ℕ)) (old new : Cut) → OfLine answered → Tells left left' (Cuts 16385 Line old new) → Tells left left' (Takes answered old new)
takes_line answered left left' old new of cuts = Tells-weaker _ _ _ _ (λ was now cut. takes_cut answered old new was now of cut) cuts

-- the answer was put, or a prefix of it
pub answered_put : {T E : Type 0} (net : Network) (number : ℕ) (line : InputLine) (counts : List ℤ) (r : Result T E) (x : T) (was now : Option (List ℕ)) → line ≡ counts_line (naturals counts) → r ≡ Ok x
    → Tells was now (Puts r (answer_to net number (naturals counts) ++ 10 ∷ [])) → Answers net number Put line was now
answered_put net number line counts r x was now is ok told = record {
  counts = naturals counts;
  is = is;
  written = subst (λ s. Tells was now (Puts s (answer_to net number (naturals counts) ++ 10 ∷ []))) ok told;
}

pub answered_cut : {T E : Type 0} (net : Network) (number : ℕ) (line : InputLine) (counts : List ℤ) (r : Result T E) (x : E) (was now : Option (List ℕ)) → line ≡ counts_line (naturals counts) → r ≡ Err x
    → Tells was now (Puts r (answer_to net number (naturals counts) ++ 10 ∷ [])) → Answers net number Unwritten line was now
answered_cut net number line counts r x was now is err told = record {
  counts = naturals counts;
  is = is;
  written = subst (λ s. Tells was now (Puts s (answer_to net number (naturals counts) ++ 10 ∷ []))) err told;
}

-- the first line is written, and nothing is read yet
pub progress_start : {T E : Type 0} (r : Result T E) (net : Network) (whole was now : Option (List ℕ)) (cut : Cut) → cut ≡ record { line = []; held = [] } → is_err r ≡ false → Tells was now (Puts r (codes "maxpressure control 1\n")) → Progress net whole whole cut.held was now 0 0
progress_start (Err x) net whole was now cut new ok put = absurd (cc)
progress_start (Ok x) net whole was now cut new ok put = record {
  lines = [];
  counted = refl;
  numbered = refl;
  to_come = Tells-same whole _ (λ text. subst (λ (c : Cut). Leaves net [] text (c.held ++ text)) (sym new) (leaves_empty net text));
  written = put;
}

-- a line comes next, before the rest of the text
abbrev Leads : Network → List InputLine → InputLine → List ℕ → List ℕ → Type 0
Leads net lines line text rest = StartsWith net text lines (line ∷ input_lines net rest) × StandsBefore net (lines ++ line ∷ []) text rest

line_to_come : (net : Network) (whole left left' : Option (List ℕ)) (old new : Cut) (lines : List InputLine) → Tells whole left (λ text rest. Leaves net lines text (old.held ++ rest))
    → Tells left left' (Cuts 16385 Line old new) → Tells whole left' (λ text rest. Leads net lines (plain_line net new.line) text (new.held ++ rest))
line_to_come net whole left left' old new lines so_far cuts =
    Tells-then _ _ _ _ _ _ (λ text mid rest leaves cut. (
      subst (λ ls. StartsWith net text lines ls) (first_is net (old.held ++ mid) (new.held ++ rest) new.line cut) leaves.0,
      stands_more net text (old.held ++ mid) (new.held ++ rest) new.line lines leaves.1 cut,
    )) so_far cuts

to_come_more : (net : Network) (whole left : Option (List ℕ)) (held : List ℕ) (lines : List InputLine) (line line' : InputLine) → line ≡ line' → IsTaken line'
    → Tells whole left (λ text rest. Leads net lines line text (held ++ rest)) → Tells whole left (λ text rest. Leaves net (lines ++ line' ∷ []) text (held ++ rest))
to_come_more net whole left held lines line line' same is told =
    let there : Tells whole left (λ text rest. Leads net lines line' text (held ++ rest)) = subst (λ (l : InputLine). Tells whole left (λ text rest. Leads net lines l text (held ++ rest))) same told in
    Tells-weaker _ _ _ _ (λ text rest leads. (starts_more net text lines (input_lines net (held ++ rest)) line' leads.0 is, leads.1)) there

-- a line without counts
pub progress_skipped : (net : Network) (whole left left' : Option (List ℕ)) (cut new_cut : Cut) (was now now' : Option (List ℕ)) (count number : ℕ)
    → Progress net whole left cut.held was now count number → Tells left left' (Cuts 16385 Line cut new_cut) → Answers net (number + 1) Skipped (plain_line net new_cut.line) now now'
    → Progress net whole left' new_cut.held was now' (count + 1) number
progress_skipped net whole left left' cut new_cut was now now' count number p cuts answers = record {
  lines = p.lines ++ skipped_line ∷ [];
  counted = let counted = p.counted in omega (arith, length-append p.lines (skipped_line ∷ []));
  numbered = ap length (counts_skipped p.lines) ∙ p.numbered;
  to_come = to_come_more net whole left' new_cut.held p.lines (plain_line net new_cut.line) skipped_line answers.0 tt (line_to_come net whole left left' cut new_cut p.lines p.to_come cuts);
  written = subst (λ (text : List ℕ). Tells was now' (λ before after. after ≡ before ++ text)) (sym (answered_skipped net p.lines))
      (subst (λ o. Tells was o (λ before after. after ≡ before ++ answered_text net p.lines)) (sym answers.1) p.written);
}

-- a line of counts, and its answer
pub progress_put : (net : Network) (whole left left' : Option (List ℕ)) (cut new_cut : Cut) (was now now' : Option (List ℕ)) (count number : ℕ)
    → Progress net whole left cut.held was now count number → Tells left left' (Cuts 16385 Line cut new_cut) → Answers net (number + 1) Put (plain_line net new_cut.line) now now'
    → Progress net whole left' new_cut.held was now' (count + 1) (number + 1)
progress_put net whole left left' cut new_cut was now now' count number p cuts answered =
    let counts = answered.counts in
    let front = answered_more net p.lines counts (number + 1) (ap (λ n. n + 1) p.numbered) in
    record {
      lines = p.lines ++ counts_line counts ∷ [];
      counted = let counted = p.counted in omega (arith, length-append p.lines (counts_line counts ∷ []));
      numbered = let numbered = p.numbered in omega (arith, ap length (counts_more p.lines counts), length-append (counts_of_lines p.lines) (counts ∷ []));
      to_come = to_come_more net whole left' new_cut.held p.lines (plain_line net new_cut.line) (counts_line counts) answered.is tt (line_to_come net whole left left' cut new_cut p.lines p.to_come cuts);
      written = Tells-then _ _ _ _ _ _ (λ before mid after w a. a ∙ ap (λ xs. xs ++ (answer_to net (number + 1) counts ++ 10 ∷ [])) w
          ∙ append_assoc before (answered_text net p.lines) (answer_to net (number + 1) counts ++ 10 ∷ []) ∙ ap (λ xs. before ++ xs) (sym front)) p.written answered.written;
    }

-- the next line is not in the grammar
pub progress_bad : (net : Network) (whole left left' : Option (List ℕ)) (cut new_cut : Cut) (was now now' : Option (List ℕ)) (count number : ℕ) → count < 2 ^ 48
    → Progress net whole left cut.held was now count number → Tells left left' (Cuts 16385 Line cut new_cut) → Answers net (number + 1) Bad (plain_line net new_cut.line) now now'
    → RefusedAt net bad_line (count + 1) whole left' was now'
progress_bad net whole left left' cut new_cut was now now' count number few p cuts answers = record {
  lines = p.lines;
  number = ap (λ n. n + 1) (sym p.counted);
  few = omega arith;
  read = Tells-weaker _ _ _ _ (λ text rest leads. (input_lines net (new_cut.held ++ rest), subst (λ (l : InputLine). StartsWith net text p.lines (l ∷ input_lines net (new_cut.held ++ rest))) answers.0 leads.0))
      (line_to_come net whole left left' cut new_cut p.lines p.to_come cuts);
  written = subst (λ o. Tells was o (λ before after. after ≡ before ++ answered_text net p.lines)) (sym answers.1) p.written;
}

-- the next line is too long
pub progress_long : (net : Network) (whole left left' : Option (List ℕ)) (cut new_cut : Cut) (was now now' : Option (List ℕ)) (count number : ℕ) → count < 2 ^ 48
    → Progress net whole left cut.held was now count number → Tells left left' (Cuts 16385 LongLine cut new_cut) → now' ≡ now → RefusedAt net long_line (count + 1) whole left' was now'
progress_long net whole left left' cut new_cut was now now' count number few p cuts same = record {
  lines = p.lines;
  number = ap (λ n. n + 1) (sym p.counted);
  few = omega arith;
  read = Tells-then _ _ _ _ _ _ (λ text mid rest leaves long.
      let first = first_long net (cut.held ++ mid) long in
      (first.0, subst (λ ls. StartsWith net text p.lines ls) first.1 leaves.0)) p.to_come cuts;
  written = subst (λ o. Tells was o (λ before after. after ≡ before ++ answered_text net p.lines)) (sym same) p.written;
}

-- the source met a fault
pub progress_unread : (net : Network) (whole left left' : Option (List ℕ)) (cut new_cut : Cut) (was now now' : Option (List ℕ)) (count number : ℕ) → count ≤ 2 ^ 48
    → Progress net whole left cut.held was now count number → Tells left left' (Cuts 16385 Failed cut new_cut) → now' ≡ now → StopsReading net whole left' was now'
progress_unread net whole left left' cut new_cut was now now' count number few p cuts same = record {
  lines = p.lines;
  few = let counted = p.counted in omega arith;
  read = Tells-then _ _ _ _ _ _ (λ text mid rest leaves failed. front_whole net text new_cut.held rest p.lines failed.1.0 (subst (λ (t : List ℕ). Leaves net p.lines text t) failed.0 leaves)) p.to_come cuts;
  written = subst (λ o. Tells was o (λ before after. after ≡ before ++ answered_text net p.lines)) (sym same) p.written;
}

-- a prefix of more text behind the answers
cut_behind : (net : Network) (lines : List InputLine) (was now now' : Option (List ℕ)) (more all : List ℕ) → IsPrefix (answered_text net lines ++ more) all
    → Tells was now (λ before after. after ≡ before ++ answered_text net lines) → Tells now now' (GainsPrefix more) → Tells was now' (GainsPrefix all)
cut_behind net lines was now now' more all front written cut =
    Tells-then _ _ _ _ _ _ (λ before mid after w gain. GainsPrefix-longer (answered_text net lines ++ more) all before after front
    (GainsPrefix-then (answered_text net lines) more before mid after w gain)) written cut

-- an answer was cut short
pub progress_unwritten : (net : Network) (whole left left' : Option (List ℕ)) (cut new_cut : Cut) (was now now' : Option (List ℕ)) (count number : ℕ) → count < 2 ^ 48
    → Progress net whole left cut.held was now count number → Tells left left' (Cuts 16385 Line cut new_cut) → Answers net (number + 1) Unwritten (plain_line net new_cut.line) now now'
    → StopsWriting net whole left' was now'
progress_unwritten net whole left left' cut new_cut was now now' count number few p cuts answered =
    let counts = answered.counts in
    let answer = answer_to net (number + 1) counts ++ 10 ∷ [] in
    let lines = p.lines ++ counts_line counts ∷ [] in
    record {
      lines = lines;
      few = let counted = p.counted in omega (arith, length-append p.lines (counts_line counts ∷ []));
      read = Tells-weaker _ _ _ _ (λ text rest leaves. (ended_input_lines net new_cut.held, front_read net text new_cut.held rest lines leaves))
          (to_come_more net whole left' new_cut.held p.lines (plain_line net new_cut.line) (counts_line counts) answered.is tt (line_to_come net whole left left' cut new_cut p.lines p.to_come cuts));
      written = inl (cut_behind net p.lines was now now' answer (answered_text net lines)
          ([], answered_more net p.lines counts (number + 1) (ap (λ n. n + 1) p.numbered) ∙ sym (append-nil (answered_text net p.lines ++ answer))) p.written answered.written);
    }

-- the first line was cut short
pub first_cut : {T E : Type 0} (r : Result T E) (net : Network) (whole was now : Option (List ℕ)) → IsTrue (is_err r) → Tells was now (Puts r (codes "maxpressure control 1\n")) → StopsWriting net whole whole was now
first_cut (Ok x) net whole was now fails put = absurd (cc)
first_cut (Err x) net whole was now fails put = record {
  lines = [];
  few = omega arith;
  read = Tells-same whole _ (λ text. ([], front_whole net text [] text [] (λ k d l. absurd (omega arith)) (leaves_empty net text)));
  written = inl put;
}

-- a line is left after the last that may be taken
many_short : (net : Network) (whole left left' : Option (List ℕ)) (cut new_cut : Cut) (was now : Option (List ℕ)) (count number : ℕ) → count ≡ 2 ^ 48
    → Progress net whole left cut.held was now count number → Tells left left' (Cuts 16385 Line cut new_cut) → HasTooMany net whole left' was now
many_short net whole left left' cut new_cut was now count number all p cuts = record {
  lines = p.lines;
  number = p.counted ∙ all;
  read = Tells-weaker _ _ _ _ (λ text rest leads. (plain_line net new_cut.line, input_lines net (new_cut.held ++ rest), leads.0)) (line_to_come net whole left left' cut new_cut p.lines p.to_come cuts);
  written = p.written;
}

many_long : (net : Network) (whole left left' : Option (List ℕ)) (cut new_cut : Cut) (was now : Option (List ℕ)) (count number : ℕ) → count ≡ 2 ^ 48
    → Progress net whole left cut.held was now count number → Tells left left' (Cuts 16385 LongLine cut new_cut) → HasTooMany net whole left' was now
many_long net whole left left' cut new_cut was now count number all p cuts = record {
  lines = p.lines;
  number = p.counted ∙ all;
  read = Tells-then _ _ _ _ _ _ (λ text mid rest leaves long.
      let first = first_long net (cut.held ++ mid) long in
      (long_line, first.0, subst (λ ls. StartsWith net text p.lines ls) first.1 leaves.0)) p.to_come cuts;
  written = p.written;
}

pub progress_many : (net : Network) (step : LineStep) (whole left left' : Option (List ℕ)) (cut new_cut : Cut) (was now : Option (List ℕ)) (count number : ℕ) → count ≡ 2 ^ 48 → (step ≡ Line) ⊎ (step ≡ LongLine)
    → Progress net whole left cut.held was now count number → Tells left left' (Cuts 16385 step cut new_cut) → HasTooMany net whole left' was now
progress_many net step whole left left' cut new_cut was now count number all either p cuts =
    let P : LineStep → Type 0 = λ s. Tells left left' (Cuts 16385 s cut new_cut) in
    ⊎_elim (λ (is : step ≡ Line). many_short net whole left left' cut new_cut was now count number all p (subst P is cuts))
    (λ (is : step ≡ LongLine). many_long net whole left left' cut new_cut was now count number all p (subst P is cuts)) either

ends_there : (net : Network) (whole left left' : Option (List ℕ)) (cut new_cut : Cut) (lines : List InputLine) → Tells whole left (λ text rest. Leaves net lines text (cut.held ++ rest))
    → Tells left left' (Cuts 16385 NoLine cut new_cut) → Tells whole left' (λ text rest. (rest ≡ []) × StartsWith net text lines [])
ends_there net whole left left' cut new_cut lines to_come cuts =
    Tells-then _ _ _ _ _ _ (λ text mid rest leaves e. (e.1, subst (λ (t : List ℕ). StartsWith net text lines (input_lines net t)) e.0 leaves.0)) to_come cuts

-- the end, and the end line or a prefix of it
pub progress_end : (net : Network) (end : ControlEnd) (whole left left' : Option (List ℕ)) (cut new_cut : Cut) (was mid now now' : Option (List ℕ)) (count number : ℕ) → ((counted : List (List ℕ)) → AreAnswers net 1 counted (answers net counted)) → count ≤ 2 ^ 48
    → Progress net whole left cut.held was mid count number → Tells left left' (Cuts 16385 NoLine cut new_cut) → now ≡ mid → Finishes end number now now' → EndsAs net end whole left' was now'
progress_end net Done whole left left' cut new_cut was mid now now' count number law few p cuts same finishes =
    let written = subst (λ o. Tells was o (λ before after. after ≡ before ++ answered_text net p.lines)) (sym same) p.written in
    let last = control_end_line number ++ 10 ∷ [] in
    let log : answered_text net p.lines ++ last ≡ control_log_text net (counts_of_lines p.lines) = ap (λ n. answered_text net p.lines ++ (control_end_line n ++ 10 ∷ [])) (sym p.numbered) ∙ sym (log_is net p.lines) in
    record {
      lines = p.lines;
      few = let counted = p.counted in omega arith;
      read = ends_there net whole left left' cut new_cut p.lines p.to_come cuts;
      written = Tells-then _ _ _ _ _ _ (λ before middle after w e. e ∙ ap (λ xs. xs ++ last) w ∙ append_assoc before (answered_text net p.lines) last ∙ ap (λ xs. before ++ xs) log) written finishes;
      answered = law (counts_of_lines p.lines);
    }
progress_end net Write whole left left' cut new_cut was mid now now' count number law few p cuts same finishes =
    let written = subst (λ o. Tells was o (λ before after. after ≡ before ++ answered_text net p.lines)) (sym same) p.written in
    let last = control_end_line number ++ 10 ∷ [] in
    let log : answered_text net p.lines ++ last ≡ control_log_text net (counts_of_lines p.lines) = ap (λ n. answered_text net p.lines ++ (control_end_line n ++ 10 ∷ [])) (sym p.numbered) ∙ sym (log_is net p.lines) in
    record {
      lines = p.lines;
      few = let counted = p.counted in omega arith;
      read = Tells-then _ _ _ _ _ _ (λ text middle rest leaves e. ([], front_whole net text [] rest p.lines (λ k d l. absurd (omega arith)) (subst (λ (t : List ℕ). Leaves net p.lines text t) (e.0 ∙ sym e.1) leaves))) p.to_come cuts;
      written = inr (
        ends_there net whole left left' cut new_cut p.lines p.to_come cuts,
        cut_behind net p.lines was now now' last (control_log_text net (counts_of_lines p.lines)) ([], sym log ∙ sym (append-nil (answered_text net p.lines ++ last))) written finishes,
      );
    }
progress_end net Read whole left left' cut new_cut was mid now now' count number law few p cuts same finishes = absurd finishes
progress_end net LineLimit whole left left' cut new_cut was mid now now' count number law few p cuts same finishes = absurd finishes
progress_end net (Long n) whole left left' cut new_cut was mid now now' count number law few p cuts same finishes = absurd finishes
progress_end net (Grammar n) whole left left' cut new_cut was mid now now' count number law few p cuts same finishes = absurd finishes
