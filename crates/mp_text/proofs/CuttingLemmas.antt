-- What a cutter takes off the text ahead, over plain lists.
use Rattle.std.proofs.Common.{◌≡◌, ◌≤◌, ◌<◌, ℕ, ◌+◌, ◌-◌, List, [], ◌∷◌, ◌++◌, length, take, drop, refl, sym, ◌∙◌, ap, subst, arith, inl, inr, Some, None}
use Rattle.std.specs.List.{position}
use Rattle.std.proofs.lemmas.List.{append_assoc, append-nil, length-take, length-take-le, length-drop, take-take, drop-drop}
use Rattle.mp_model.specs.Stream.{raw_lines, without_return}
use Rattle.mp_text.specs.Cutting.{is_line_feed, NoLineFeed, CutsLine, StartsLong, BeginsLine}
use Rattle.mp_text.proofs.Lines.{first_line, no_line_feed}
use Rattle.mp_text.proofs.RawLines.{ended_line, last_line, long_line}

-- a line that ends at a line feed among the first bytes
pub feed_line : (n : ℕ) (bytes : List ℕ) (have at len : ℕ) (rest : List ℕ) → have ≤ length bytes → have ≤ n → position is_line_feed (take have bytes) ≡ Some at
    → len ≤ at → take len (take at bytes) ≡ without_return (take at bytes)
    → CutsLine n (take have bytes ++ rest) (take (have - (at + 1)) (drop (at + 1) bytes) ++ rest) (take len bytes)
feed_line n bytes have at len rest within small is short given =
    let line = first_line bytes have at within is in
    let before : at < have = line.0 in
    let size : length (take at bytes) ≡ at = length-take-le at bytes (omega arith) in
    record {
      raw = take at bytes;
      plain = line.1;
      ends = inl (ap (λ xs. xs ++ rest) line.2 ∙ append_assoc (take at bytes) (10 ∷ take (have - (at + 1)) (drop (at + 1) bytes)) rest);
      lines = ap (λ xs. raw_lines (xs ++ rest)) line.2
          ∙ ap raw_lines (append_assoc (take at bytes) (10 ∷ take (have - (at + 1)) (drop (at + 1) bytes)) rest)
          ∙ ended_line (take at bytes) (take (have - (at + 1)) (drop (at + 1) bytes) ++ rest) line.1;
      fits = omega arith;
      given = sym (take-take len at bytes short) ∙ given;
    }

-- the same where the bytes stand in the middle of a buffer
pub held_line : (n : ℕ) (buf : List ℕ) (next e at len to : ℕ) (held rest : List ℕ) → next ≤ e → e ≤ length buf → e ≤ n → held ≡ take (e - next) (drop next buf)
    → position is_line_feed (take (e - next) (drop next buf)) ≡ Some at → to ≡ next + at
    → len ≤ length (take (to - next) (drop next buf)) → take len (take (to - next) (drop next buf)) ≡ without_return (take (to - next) (drop next buf))
    → CutsLine n (held ++ rest) (take (e - ((next + at) + 1)) (drop ((next + at) + 1) buf) ++ rest) (take ((next + len) - next) (drop next buf))
held_line n buf next e at len to held rest low high small same is place short given =
    let size : to - next ≡ at = omega arith in
    let Q : ℕ → Type 0 = λ m. take len (take m (drop next buf)) ≡ without_return (take m (drop next buf)) in
    let R : ℕ → Type 0 = λ m. len ≤ length (take m (drop next buf)) in
    let fits : len ≤ length (take at (drop next buf)) = subst R size short in
    let most : len ≤ at = omega (arith, length-take at (drop next buf)) in
    let cut = feed_line n (drop next buf) (e - next) at len rest (omega (arith, length-drop next buf)) (omega arith) is most (subst Q size given) in
    let behind : drop (at + 1) (drop next buf) ≡ drop ((next + at) + 1) buf = drop-drop (at + 1) next buf ∙ ap (λ m. drop m buf) (omega arith) in
    let fewer : (e - next) - (at + 1) ≡ e - ((next + at) + 1) = omega arith in
    let whole : (next + len) - next ≡ len = omega arith in
    rw (same, whole, ← fewer, ← behind) cut

-- the same at the front of the buffer
pub front_line : (n : ℕ) (buf : List ℕ) (have at len : ℕ) (text rest : List ℕ) → have ≤ length buf → have ≤ n → text ≡ take have buf ++ rest → position is_line_feed (take have buf) ≡ Some at
    → len ≤ length (take at buf) → take len (take at buf) ≡ without_return (take at buf)
    → CutsLine n text (take (have - (at + 1)) (drop (at + 1) buf) ++ rest) (take (len - 0) (drop 0 buf))
front_line n buf have at len text rest within small same is short given =
    let most : len ≤ at = omega (arith, length-take at buf) in
    let whole : len - 0 ≡ len = omega arith in
    rw (same, whole) (feed_line n buf have at len rest within small is most given)

-- all that is left is a line
pub front_last : (n : ℕ) (buf : List ℕ) (have len : ℕ) (text rest : List ℕ) → have ≤ length buf → 0 < have → have < n → text ≡ take have buf ++ rest → position is_line_feed (take have buf) ≡ None
    → len ≤ length (take have buf) → take len (take have buf) ≡ without_return (take have buf) → rest ≡ []
    → CutsLine n text (take (have - have) (drop have buf) ++ rest) (take (len - 0) (drop 0 buf))
front_last n buf have len text rest within some small same is short given none =
    let size : length (take have buf) ≡ have = length-take-le have buf within in
    let nothing : have - have ≡ 0 = omega arith in
    let whole : len - 0 ≡ len = omega arith in
    rw (same, none, nothing, whole) (record {
      raw = take have buf;
      plain = no_line_feed (take have buf) is;
      ends = inr refl;
      lines = ap raw_lines (append-nil (take have buf)) ∙ last_line (take have buf) (no_line_feed (take have buf) is) (omega arith);
      fits = omega arith;
      given = sym (take-take len have buf (omega arith)) ∙ given;
    })

-- a full buffer without a line feed begins a long line
pub front_long : (n : ℕ) (buf : List ℕ) (have : ℕ) (text rest : List ℕ) → have ≤ length buf → n ≤ have → 0 < n → text ≡ take have buf ++ rest → position is_line_feed (take have buf) ≡ None → StartsLong n text
front_long n buf have text rest within full some same is =
    let size : length (take have buf) ≡ have = length-take-le have buf within in
    let line = long_line (take have buf) rest (no_line_feed (take have buf) is) (omega arith) in
    record { raw = line.0; more = line.1; lines = ap raw_lines same ∙ line.2; long = omega (arith, line.3) }

-- a front of the buffer without a line feed that does not fill it begins a line
pub front_begins : (n : ℕ) (buf : List ℕ) (have : ℕ) (text rest : List ℕ) → have < n → text ≡ take have buf ++ rest → position is_line_feed (take have buf) ≡ None
    → (text ≡ take (have - 0) (drop 0 buf) ++ rest) × BeginsLine n (take (have - 0) (drop 0 buf))
front_begins n buf have text rest small same is =
    let whole : have - 0 ≡ have = omega arith in
    rw whole (same, (no_line_feed (take have buf) is, omega (arith, length-take have buf)))

-- bytes in which no line feed was found have none
pub none_held : {P : Type 0} (bytes held : List ℕ) → position is_line_feed bytes ≡ None → held ≡ bytes → (¬ NoLineFeed held) → P
none_held bytes held is same some = absurd (some (subst NoLineFeed (sym same) (no_line_feed bytes is)))
