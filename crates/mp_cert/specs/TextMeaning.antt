-- What bytes mean as a certificate or a vector: a value, or the number of the first line that is not in the grammar.
use Rattle.std.specs.Prelude.{◌==◌, ℕ, ◌+◌, ◌-◌, ℤ, pos, ◌≤ℤ◌, Bool, true, cond, List, [], ◌∷◌, length, map, drop, codes, Option, Some, None, option_and_then, Result, Ok, Err, slice_index_or}
use Rattle.std.specs.List.{slice_split, All}
use Rattle.mp_model.specs.Certificate.{Cert, Mix, int_entry}
use Rattle.mp_model.specs.Network.{Network, Junction}
use Rattle.mp_model.specs.Stream.{lines_of}
use Rattle.mp_text.specs.Bigs.{big_of}
use Rattle.mp_cert.specs.Texts.{mix_words}

-- A form of a line: the words that it begins with, and how many numbers come behind them.
pub record Form : Type 0 where
  pub words : List ℕ
  pub count : ℕ

-- These are the bytes behind the words, where the line begins with them.
abbrev pub behind : List ℕ → List ℕ → Option (List ℕ)
behind [] line = Some line
behind (w ∷ words) [] = None
behind (w ∷ words) (b ∷ line) = cond (b == w) (behind words line) None

-- This is the list of a number and the numbers after it, where each is one.
abbrev pub onto : Option ℤ → Option (List ℤ) → Option (List ℤ)
onto None rest = None
onto (Some n) None = None
onto (Some n) (Some ns) = Some (n ∷ ns)

-- These are the numbers of some fields, where each field is a number.
abbrev pub numbers_of : List (List ℕ) → Option (List ℤ)
numbers_of [] = Some []
numbers_of (field ∷ fields) = onto (big_of field) (numbers_of fields)

-- Behind the words come fields with one space before each, so the bytes begin with a space or are empty.
abbrev pub fields_numbers : List (List ℕ) → Option (List ℤ)
fields_numbers ([] ∷ fields) = numbers_of fields
fields_numbers others = None

-- These are the numbers of the bytes behind the words.
abbrev pub spaced_numbers : List ℕ → Option (List ℤ)
spaced_numbers bytes = fields_numbers (slice_split (λ b. b == 32) bytes)

-- These are numbers, where there are n of them.
abbrev pub of_count : ℕ → Option (List ℤ) → Option (List ℤ)
of_count n None = None
of_count n (Some ns) = cond (length ns == n) (Some ns) None

-- These are the numbers of a line, where it is of the form.
abbrev pub row_of : Form → List ℕ → Option (List ℤ)
row_of form line = of_count form.count (option_and_then spaced_numbers (behind form.words line))

-- Numbers are natural where none of them is below 0.
abbrev pub AreNatural : List ℤ → Type 0
AreNatural ns = All (λ n. pos 0 ≤ℤ n) ns

-- A certificate is natural where none of its numbers is below 0.
pub record IsNatural (cert : Cert) : Type 0 where
  pub denominator : pos 0 ≤ℤ cert.d
  pub excess : pos 0 ≤ℤ cert.e
  pub rates : AreNatural cert.h
  pub mixes : All (λ mix. (pos 0 ≤ℤ mix.whole) × AreNatural mix.parts) cert.mixes

-- A line is passed over where it is empty or begins with `#`.
abbrev pub is_passed_over : List ℕ → Bool
is_passed_over [] = true
is_passed_over (b ∷ bs) = b == 35

-- A value is made into another, and a line that is not in the grammar stays named.
abbrev pub made : {X Y : Type 0} → (X → Y) → Result X ℕ → Result Y ℕ
made f (Ok x) = Ok (f x)
made f (Err n) = Err n

-- Line n gives the row of its numbers before the rows that follow, or is not in the grammar.
abbrev pub row_before : ℕ → Option (List ℤ) → Result (List (List ℤ)) ℕ → Result (List (List ℤ)) ℕ
row_before n None rest = Err n
row_before n (Some row) rest = made (λ rows. row ∷ rows) rest

-- These are the rows of lines, of which the first has the number n: a line that is passed over counts, the others are of the forms, one by one; a missing line counts as the line after the last, and a further one is not in the grammar.
abbrev pub rows_of : ℕ → List Form → List (List ℕ) → Result (List (List ℤ)) ℕ
rows_of n [] [] = Ok []
rows_of n (form ∷ forms) [] = Err n
rows_of n [] (line ∷ lines) = cond (is_passed_over line) (rows_of (n + 1) [] lines) (Err n)
rows_of n (form ∷ forms) (line ∷ lines) = cond (is_passed_over line) (rows_of (n + 1) (form ∷ forms) lines) (row_before n (row_of form line) (rows_of (n + 1) forms lines))

-- The line of a mix has the number of its junction, a whole, and a part per stage.
abbrev pub mix_form : ℕ → Junction → Form
mix_form j junction = record { words = mix_words j; count = 1 + length junction.stages }

-- These are the forms of the lines of mixes, from junction j on.
abbrev pub mix_forms : ℕ → List Junction → List Form
mix_forms j [] = []
mix_forms j (junction ∷ junctions) = mix_form j junction ∷ mix_forms (j + 1) junctions

-- The lines of a certificate are its first line, one number behind `d`, one behind `e`, one per movement behind `h`, and the lines of its mixes.
abbrev pub cert_forms : Network → List Form
cert_forms net =
    record { words = codes "certificate 1"; count = 0 }
    ∷ record { words = codes "d"; count = 1 }
    ∷ record { words = codes "e"; count = 1 }
    ∷ record { words = codes "h"; count = length net.movements }
    ∷ mix_forms 1 net.junctions

-- This is row number k, and an empty one past the last.
abbrev pub row_at : List (List ℤ) → ℕ → List ℤ
row_at rows k = slice_index_or rows (k - 1) []

-- The first number of a row is a whole, and the others are parts.
abbrev pub mix_of_row : List ℤ → Mix
mix_of_row row = record { whole = int_entry row 1; parts = drop 1 row }

-- The denominator stands in the second row, the excess in the third, the rates are the fourth, and the others are mixes.
abbrev pub cert_of_rows : List (List ℤ) → Cert
cert_of_rows rows = record {
  d = int_entry (row_at rows 2) 1;
  e = int_entry (row_at rows 3) 1;
  h = row_at rows 4;
  mixes = map mix_of_row (drop 4 rows);
}

-- This is the certificate that the bytes are for a network, or the first line that is not in the grammar.
abbrev pub cert_meaning : Network → List ℕ → Result Cert ℕ
cert_meaning net bytes = made cert_of_rows (rows_of 1 (cert_forms net) (lines_of bytes))

-- The lines of a vector are its first line, and one number per movement behind `p`.
abbrev pub vector_forms : Network → List Form
vector_forms net = record { words = codes "vector 1"; count = 0 } ∷ record { words = codes "p"; count = length net.movements } ∷ []

-- This is the vector that the bytes are for a network, or the first line that is not in the grammar.
abbrev pub vector_meaning : Network → List ℕ → Result (List ℤ) ℕ
vector_meaning net bytes = made (λ rows. row_at rows 2) (rows_of 1 (vector_forms net) (lines_of bytes))
