-- The lines of a text, one at a time.
use Rattle.std.proofs.Common.{◌≡◌, ◌<◌, ℕ, ◌+◌, ◌-◌, List, [], ◌∷◌, ◌++◌, length, take, drop, map, sym, ◌∙◌, ap, Some, None, arith}
use Rattle.std.specs.Prelude.{◌==◌}
use Rattle.std.specs.List.{position}
use Rattle.std.proofs.lemmas.List.{take_all, length-drop}
use Rattle.std.proofs.Math.ListN.{drop_of_length-le}
use Rattle.mp_model.specs.Stream.{raw_lines, lines_of, without_return}
use Rattle.mp_text.proofs.Lines.{first_line, no_line_feed}
use Rattle.mp_text.proofs.RawLines.{ended_line, last_line}

-- the first line ends at the first line feed
pub fed_line : (text : List ℕ) (at : ℕ) → position (λ b. b == 10) text ≡ Some at → lines_of text ≡ without_return (take at text) ∷ lines_of (drop (at + 1) text)
fed_line text at is =
    let all : take (length text) text ≡ text = take_all (length text) text (omega arith) in
    let found : position (λ b. b == 10) (take (length text) text) ≡ Some at = ap (position (λ b. b == 10)) all ∙ is in
    let line = first_line text (length text) at (omega arith) found in
    let rest : take (length text - (at + 1)) (drop (at + 1) text) ≡ drop (at + 1) text = take_all (length text - (at + 1)) (drop (at + 1) text) (omega (arith, length-drop (at + 1) text)) in
    ap (map without_return) (ap raw_lines (sym all ∙ line.2 ∙ ap (λ bs. take at text ++ 10 ∷ bs) rest) ∙ ended_line (take at text) (drop (at + 1) text) line.1)

-- a text without a line feed is one line
pub unfed_line : (text : List ℕ) → position (λ b. b == 10) text ≡ None → 0 < length text → lines_of text ≡ without_return text ∷ lines_of (drop (length text) text)
unfed_line text is some =
    let none : drop (length text) text ≡ [] = drop_of_length-le text (omega arith) in
    ap (map without_return) (last_line text (no_line_feed text is) some) ∙ ap (λ bs. without_return text ∷ lines_of bs) (sym none)
