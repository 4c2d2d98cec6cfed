-- The lines of an input whose first line is known, and the counts on them.
use Rattle.std.proofs.Common.{◌≡◌, ◌≤◌, ◌<◌, ℕ, ◌+◌, List, [], ◌∷◌, ◌++◌, length, map, true, false, cond, refl, sym, ◌∙◌, ap, subst, arith, inl, inr, ⊎_elim}
use Rattle.std.specs.Prelude.{nat_lt}
use Rattle.std.specs.List.{AllByRecursion}
use Rattle.std.proofs.lemmas.List.{append_assoc, append-nil, length-append, map-append}
use Rattle.std.proofs.lemmas.List.Concat.{flat_map-append}
use Rattle.std.proofs.lemmas.Bool.Decides.{nat_tests}
use Rattle.mp_model.specs.Network.{Network}
use Rattle.mp_model.specs.Log.{text_of}
use Rattle.mp_model.specs.Stream.{without_return}
use Rattle.mp_model.specs.ControlLog.{InputLine, plain_line, input_line, input_lines, counts_of_lines}
use Rattle.mp_model.specs.ControlLog.InputLine.{skipped_line, counts_line, long_line, bad_line}
use Rattle.mp_text.specs.Cutting.{NoLineFeed, ended_lines, CutsLine, StartsLong}
use Rattle.mp_text.proofs.RawLines.{ended_first, ended_none}
use Rattle.mp_control.specs.Controlling.{IsTaken, StartsWith, ended_input_lines, ReadsFront, StandsBefore, Leaves}

line_of_short : (net : Network) (raw line : List ℕ) → length raw < 16385 → line ≡ without_return raw → input_line net raw ≡ plain_line net line
line_of_short net raw line fits given =
    let short : nat_lt 16384 (length raw) ≡ false = grind (arith, nat_tests) in
    ap (λ b. cond b long_line (plain_line net (without_return raw))) short ∙ ap (plain_line net) (sym given)

line_of_long : (net : Network) (raw : List ℕ) → 16385 ≤ length raw → input_line net raw ≡ long_line
line_of_long net raw long =
    let past : nat_lt 16384 (length raw) ≡ true = grind (arith, nat_tests) in
    ap (λ b. cond b long_line (plain_line net (without_return raw))) past

empty_of : {X : Type 0} (xs : List X) → length xs ≡ 0 → xs ≡ []
empty_of [] none = refl
empty_of (x ∷ xs) none = absurd (omega arith)

-- the first line, and the rest
pub first_is : (net : Network) (text rest line : List ℕ) → CutsLine 16385 text rest line → input_lines net text ≡ plain_line net line ∷ input_lines net rest
first_is net text rest line cut =
    ap (map (input_line net)) cut.lines ∙ ap (λ l. l ∷ input_lines net rest) (line_of_short net cut.raw line cut.fits cut.given)

pub first_long : (net : Network) (text : List ℕ) → StartsLong 16385 text → (more : List InputLine) × (input_lines net text ≡ long_line ∷ more)
first_long net text starts = (
  map (input_line net) starts.more,
  ap (map (input_line net)) starts.lines ∙ ap (λ l. l ∷ map (input_line net) starts.more) (line_of_long net starts.raw starts.long),
)

all_more : {X : Type 0} (P : X → Type 0) (xs : List X) (x : X) → AllByRecursion P xs → P x → AllByRecursion P (xs ++ x ∷ [])
all_more P [] x all is = (is, tt)
all_more P (y ∷ ys) x all is = (all.0, all_more P ys x all.1 is)

-- nothing is read yet
starts_empty : (net : Network) (text : List ℕ) → StartsWith net text [] (input_lines net text)
starts_empty net text = record { all = refl; taken = tt }

pub leaves_empty : (net : Network) (text : List ℕ) → Leaves net [] text text
leaves_empty net text = (starts_empty net text, inl ([], tt, refl, refl))

-- one more line is taken
pub starts_more : (net : Network) (text : List ℕ) (lines more : List InputLine) (line : InputLine) → StartsWith net text lines (line ∷ more) → IsTaken line → StartsWith net text (lines ++ line ∷ []) more
starts_more net text lines more line starts is = record {
  all = starts.all ∙ sym (append_assoc lines (line ∷ []) more);
  taken = all_more IsTaken lines line starts.taken is;
}

pub text-append : (xs ys : List (List ℕ)) → text_of (xs ++ ys) ≡ text_of xs ++ text_of ys
text-append xs ys = flat_map-append (λ line. line ++ 10 ∷ []) xs ys

-- one more line stands before the rest
pub stands_more : (net : Network) (text old new line : List ℕ) (lines : List InputLine) → StandsBefore net lines text old → CutsLine 16385 old new line → StandsBefore net (lines ++ plain_line net line ∷ []) text new
stands_more net text old new line lines stands cut =
    ⊎_elim (λ (ended : old ≡ cut.raw ++ 10 ∷ new).
    ⊎_elim (λ (before : (raws : List (List ℕ)) × AllByRecursion NoLineFeed raws × (text ≡ text_of raws ++ old) × (lines ≡ map (input_line net) raws)).
    let raws = before.0 in
    let behind : text_of (raws ++ cut.raw ∷ []) ++ new ≡ text_of raws ++ old =
    ap (λ xs. xs ++ new) (text-append raws (cut.raw ∷ []) ∙ ap (λ xs. text_of raws ++ xs) (append-nil (cut.raw ++ 10 ∷ [])))
    ∙ append_assoc (text_of raws) (cut.raw ++ 10 ∷ []) new ∙ ap (λ xs. text_of raws ++ xs) (append_assoc cut.raw (10 ∷ []) new ∙ sym ended) in
    let is : plain_line net line ≡ input_line net cut.raw = sym (line_of_short net cut.raw line cut.fits cut.given) in
    inl (
      raws ++ cut.raw ∷ [],
      all_more NoLineFeed raws cut.raw before.1 cut.plain,
      before.2 ∙ sym behind,
      ap (λ ls. ls ++ plain_line net line ∷ []) before.3 ∙ ap (λ l. map (input_line net) raws ++ l ∷ []) is ∙ sym (map-append (input_line net) raws (cut.raw ∷ [])),
    ))
    (λ (none : old ≡ []). absurd (omega (arith, ap (length {A = ℕ}) (sym ended ∙ none), length-append cut.raw (10 ∷ new)))) stands)
    (λ (none : new ≡ []). inr none) cut.ends

-- the lines that a line feed ends, behind whole lines
ended_behind : (raws : List (List ℕ)) (more : List ℕ) → AllByRecursion NoLineFeed raws → ended_lines (text_of raws ++ more) ≡ raws ++ ended_lines more
ended_behind [] more plain = refl
ended_behind (raw ∷ raws) more plain =
    ap ended_lines (append_assoc (raw ++ 10 ∷ []) (text_of raws) more ∙ append_assoc raw (10 ∷ []) (text_of raws ++ more))
    ∙ ended_first raw (text_of raws ++ more) plain.0 ∙ ap (λ ls. raw ∷ ls) (ended_behind raws more plain.1)

-- what was read is what was taken and the bytes held
pub front_read : (net : Network) (text held rest : List ℕ) (lines : List InputLine) → Leaves net lines text (held ++ rest) → ReadsFront net lines (ended_input_lines net held) text rest
front_read net text held rest lines leaves =
    ⊎_elim (λ (before : (raws : List (List ℕ)) × AllByRecursion NoLineFeed raws × (text ≡ text_of raws ++ (held ++ rest)) × (lines ≡ map (input_line net) raws)). record {
      front = text_of before.0 ++ held;
      splits = before.2 ∙ sym (append_assoc (text_of before.0) held rest);
      all = inl (ap (map (input_line net)) (ended_behind before.0 held before.1) ∙ map-append (input_line net) before.0 (ended_lines held) ∙ ap (λ ls. ls ++ ended_input_lines net held) (sym before.3));
      taken = leaves.0.taken;
    })
    (λ (none : held ++ rest ≡ []).
    let size : length held + length rest ≡ 0 = sym (length-append held rest) ∙ ap length none in
    let no_held : held ≡ [] = empty_of held (omega arith) in
    let no_rest : rest ≡ [] = empty_of rest (omega arith) in
    record {
      front = text;
      splits = sym (append-nil text) ∙ ap (λ xs. text ++ xs) (sym no_rest);
      all = inr (no_rest, leaves.0.all ∙ ap (λ t. lines ++ input_lines net t) none ∙ ap (λ t. lines ++ ended_input_lines net t) (sym no_held));
      taken = leaves.0.taken;
    }) leaves.1

-- without a line feed the bytes held are no line
pub front_whole : (net : Network) (text held rest : List ℕ) (lines : List InputLine) → NoLineFeed held → Leaves net lines text (held ++ rest) → ReadsFront net lines [] text rest
front_whole net text held rest lines plain leaves =
    subst (λ more. ReadsFront net lines more text rest) (ap (map (input_line net)) (ended_none held plain)) (front_read net text held rest lines leaves)

-- the counts of one more line
pub counts_more : (lines : List InputLine) (counts : List ℕ) → counts_of_lines (lines ++ counts_line counts ∷ []) ≡ counts_of_lines lines ++ counts ∷ []
counts_more [] counts = refl
counts_more (counts_line c ∷ ls) counts = ap (λ A. c ∷ A) (counts_more ls counts)
counts_more (skipped_line ∷ ls) counts = counts_more ls counts
counts_more (long_line ∷ ls) counts = counts_more ls counts
counts_more (bad_line ∷ ls) counts = counts_more ls counts

pub counts_skipped : (lines : List InputLine) → counts_of_lines (lines ++ skipped_line ∷ []) ≡ counts_of_lines lines
counts_skipped [] = refl
counts_skipped (counts_line c ∷ ls) = ap (λ A. c ∷ A) (counts_skipped ls)
counts_skipped (skipped_line ∷ ls) = counts_skipped ls
counts_skipped (long_line ∷ ls) = counts_skipped ls
counts_skipped (bad_line ∷ ls) = counts_skipped ls
