-- The kinds of the lines of a text whose first line is known.
use Rattle.std.proofs.Common.{◌≡◌, ◌≤◌, ◌<◌, ℕ, ◌+◌, Bool, List, [], ◌∷◌, ◌++◌, length, map, true, false, cond, refl, sym, ◌∙◌, ap, subst, arith, inl, inr, ⊎_elim}
use Rattle.std.specs.Prelude.{nat_lt}
use Rattle.std.specs.List.{AllByRecursion}
use Rattle.std.proofs.lemmas.List.{append_assoc, append-nil, length-append, map-append}
use Rattle.std.proofs.lemmas.List.Concat.{flat_map-append}
use Rattle.std.proofs.lemmas.Bool.Decides.{nat_tests}
use Rattle.mp_model.specs.Network.{Network}
use Rattle.mp_model.specs.Log.{text_of}
use Rattle.mp_model.specs.Stream.{LineKind, without_return, plain_kind, line_kind, without_events}
use Rattle.mp_model.specs.Stream.LineKind.{long_line}
use Rattle.mp_text.specs.Cutting.{NoLineFeed, ended_lines, CutsLine, StartsLong}
use Rattle.mp_text.proofs.RawLines.{ended_first, ended_none}
use Rattle.mp_stream.specs.Course.{Course, kind_for, kinds_for, kinds_of, ended_kinds, IsTaken, StartsWith}
use Rattle.mp_stream.specs.Ends.{ReadsFront}
use Rattle.mp_stream.specs.Progress.{StandsBefore, Leaves}

kind_of_short : (net : Network) (raw line : List ℕ) → length raw < 2049 → line ≡ without_return raw → line_kind net raw ≡ plain_kind net line
kind_of_short net raw line fits given =
    let short : nat_lt 2048 (length raw) ≡ false = grind (arith, nat_tests) in
    ap (λ b. cond b long_line (plain_kind net (without_return raw))) short ∙ ap (plain_kind net) (sym given)

kind_of_long : (net : Network) (raw : List ℕ) → 2049 ≤ length raw → line_kind net raw ≡ long_line
kind_of_long net raw long =
    let past : nat_lt 2048 (length raw) ≡ true = grind (arith, nat_tests) in
    ap (λ b. cond b long_line (plain_kind net (without_return raw))) past

stays_long : (events : Bool) → cond events long_line (without_events long_line) ≡ long_line
stays_long true = refl
stays_long false = refl

empty_of : {X : Type 0} (xs : List X) → length xs ≡ 0 → xs ≡ []
empty_of [] none = refl
empty_of (x ∷ xs) none = absurd (omega arith)

all_more : {X : Type 0} (P : X → Type 0) (xs : List X) (x : X) → AllByRecursion P xs → P x → AllByRecursion P (xs ++ x ∷ [])
all_more P [] x all is = (is, tt)
all_more P (y ∷ ys) x all is = (all.0, all_more P ys x all.1 is)

pub text-append : (xs ys : List (List ℕ)) → text_of (xs ++ ys) ≡ text_of xs ++ text_of ys
text-append xs ys = flat_map-append (λ line. line ++ 10 ∷ []) xs ys

-- the lines that a line feed ends, behind whole lines
ended_behind : (lines : List (List ℕ)) (more : List ℕ) → AllByRecursion NoLineFeed lines → ended_lines (text_of lines ++ more) ≡ lines ++ ended_lines more
ended_behind [] more plain = refl
ended_behind (line ∷ lines) more plain =
    ap ended_lines (append_assoc (line ++ 10 ∷ []) (text_of lines) more ∙ append_assoc line (10 ∷ []) (text_of lines ++ more))
    ∙ ended_first line (text_of lines ++ more) plain.0 ∙ ap (λ ls. line ∷ ls) (ended_behind lines more plain.1)

abbrev raw_kind : {R : Type 0} → Course R → List ℕ → LineKind
raw_kind run raw = kind_for run (line_kind run.net raw)

module _ {R : Type 0} (run : Course R) where
  -- the kind of the first line, and those of the rest
  pub first_kind : (text rest line : List ℕ) → CutsLine 2049 text rest line → kinds_of run text ≡ kind_for run (plain_kind run.net line) ∷ kinds_of run rest
  first_kind text rest line cut =
      ap (kinds_for run) cut.lines ∙ ap (λ kind. kind_for run kind ∷ kinds_of run rest) (kind_of_short run.net cut.raw line cut.fits cut.given)

  pub first_long : (text : List ℕ) → StartsLong 2049 text → (more : List LineKind) × (kinds_of run text ≡ long_line ∷ more)
  first_long text starts = (
    kinds_for run starts.more,
    ap (kinds_for run) starts.lines ∙ ap (λ kind. kind_for run kind ∷ kinds_for run starts.more) (kind_of_long run.net starts.raw starts.long)
        ∙ ap (λ kind. kind ∷ kinds_for run starts.more) (stays_long run.takes_events),
  )

  -- nothing is read yet
  pub leaves_empty : (text : List ℕ) → Leaves run [] text text
  leaves_empty text = (record { lines = refl; taken = tt }, inl ([], tt, refl, refl))

  -- one more line is taken
  pub starts_more : (text : List ℕ) (kinds more : List LineKind) (kind : LineKind) → StartsWith run text kinds (kind ∷ more) → IsTaken kind → StartsWith run text (kinds ++ kind ∷ []) more
  starts_more text kinds more kind starts is = record {
    lines = starts.lines ∙ sym (append_assoc kinds (kind ∷ []) more);
    taken = all_more IsTaken kinds kind starts.taken is;
  }

  -- one more line stands before the rest
  pub stands_more : (text old new line : List ℕ) (kinds : List LineKind) → StandsBefore run kinds text old → CutsLine 2049 old new line → StandsBefore run (kinds ++ kind_for run (plain_kind run.net line) ∷ []) text new
  stands_more text old new line kinds stands cut =
      ⊎_elim (λ (ended : old ≡ cut.raw ++ 10 ∷ new).
      ⊎_elim (λ (before : (lines : List (List ℕ)) × AllByRecursion NoLineFeed lines × (text ≡ text_of lines ++ old) × (kinds ≡ kinds_for run lines)).
      let lines = before.0 in
      let behind : text_of (lines ++ cut.raw ∷ []) ++ new ≡ text_of lines ++ old =
      ap (λ xs. xs ++ new) (text-append lines (cut.raw ∷ []) ∙ ap (λ xs. text_of lines ++ xs) (append-nil (cut.raw ++ 10 ∷ [])))
      ∙ append_assoc (text_of lines) (cut.raw ++ 10 ∷ []) new ∙ ap (λ xs. text_of lines ++ xs) (append_assoc cut.raw (10 ∷ []) new ∙ sym ended) in
      let kind : kind_for run (plain_kind run.net line) ≡ raw_kind run cut.raw = ap (kind_for run) (sym (kind_of_short run.net cut.raw line cut.fits cut.given)) in
      inl (
        lines ++ cut.raw ∷ [],
        all_more NoLineFeed lines cut.raw before.1 cut.plain,
        before.2 ∙ sym behind,
        ap (λ ks. ks ++ kind_for run (plain_kind run.net line) ∷ []) before.3 ∙ ap (λ k. kinds_for run lines ++ k ∷ []) kind ∙ sym (map-append (raw_kind run) lines (cut.raw ∷ [])),
      ))
      (λ (none : old ≡ []). absurd (omega (arith, ap (length {A = ℕ}) (sym ended ∙ none), length-append cut.raw (10 ∷ new)))) stands)
      (λ (none : new ≡ []). inr none) cut.ends

  -- what was read is what was taken and the bytes held
  pub front_read : (text held rest : List ℕ) (kinds : List LineKind) → Leaves run kinds text (held ++ rest) → ReadsFront run kinds (ended_kinds run held) text rest
  front_read text held rest kinds leaves =
      ⊎_elim (λ (before : (lines : List (List ℕ)) × AllByRecursion NoLineFeed lines × (text ≡ text_of lines ++ (held ++ rest)) × (kinds ≡ kinds_for run lines)). record {
        front = text_of before.0 ++ held;
        splits = before.2 ∙ sym (append_assoc (text_of before.0) held rest);
        lines = inl (ap (kinds_for run) (ended_behind before.0 held before.1) ∙ map-append (raw_kind run) before.0 (ended_lines held) ∙ ap (λ ks. ks ++ ended_kinds run held) (sym before.3));
        taken = leaves.0.taken;
      })
      (λ (none : held ++ rest ≡ []).
      let size : length held + length rest ≡ 0 = sym (length-append held rest) ∙ ap length none in
      let no_held : held ≡ [] = empty_of held (omega arith) in
      let no_rest : rest ≡ [] = empty_of rest (omega arith) in
      record {
        front = text;
        splits = sym (append-nil text) ∙ ap (λ xs. text ++ xs) (sym no_rest);
        lines = inr (no_rest, leaves.0.lines ∙ ap (λ t. kinds ++ kinds_of run t) none ∙ ap (λ t. kinds ++ ended_kinds run t) (sym no_held));
        taken = leaves.0.taken;
      }) leaves.1

  -- without a line feed the bytes held are no line
  pub front_whole : (text held rest : List ℕ) (kinds : List LineKind) → NoLineFeed held → Leaves run kinds text (held ++ rest) → ReadsFront run kinds [] text rest
  front_whole text held rest kinds plain leaves =
      subst (λ more. ReadsFront run kinds more text rest) (ap (kinds_for run) (ended_none held plain)) (front_read text held rest kinds leaves)
