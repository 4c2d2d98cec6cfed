-- A certificate or a vector that is read has the network's lengths, and no number below 0.
use Rattle.std.proofs.Common.{◌≡◌, ◌<◌, ℕ, suc, zero, ◌+◌, ◌-◌, List, [], ◌∷◌, Bool, true, false, cond, ℤ, pos, ◌≤ℤ◌, length, map, get_or, Option, Some, None, Ok, Err, Result, refl, ap, subst, arith}
use Rattle.std.specs.List.{AllByRecursion}
use Rattle.std.specs.Option.{option_and_then}
use Rattle.std.proofs.lemmas.List.Elements.{All-from_recursion, All-weaker}
use Rattle.mp_laws.proofs.Lists.{each_in, in_numbers}
use Rattle.mp_model.specs.Certificate.{Cert, Mix, HasLengths, mix_at, no_mix, int_entry}
use Rattle.mp_model.specs.Network.{Network, Junction, junction_at, no_junction, numbers_to}
use Rattle.mp_model.specs.Stream.{lines_of}
use Rattle.mp_cert.specs.TextMeaning.{Form, row_of, behind, spaced_numbers, of_count, is_passed_over, made, row_before, rows_of, mix_forms, mix_of_row, cert_forms, cert_of_rows, cert_meaning, vector_forms, vector_meaning, row_at, AreNatural, IsNatural}
use Rattle.mp_cert.proofs.FieldLemmas.{read_count, read_natural, EachNatural}

same_Ok : {X : Type 0} (x y : X) → ◌≡◌ {A = Result X ℕ} (Ok x) (Ok y) → x ≡ y
same_Ok x y is = cc

all_natural : (ns : List ℤ) → EachNatural ns → AreNatural ns
all_natural ns each = All-from_recursion (λ n. pos 0 ≤ℤ n) ns each

-- rows of some forms have their counts, and no number below 0
abbrev pub RowsFit : List Form → List (List ℤ) → Type 0
RowsFit [] [] = Unit {0}
RowsFit [] (row ∷ rows) = ⊥
RowsFit (form ∷ forms) [] = ⊥
RowsFit (form ∷ forms) (row ∷ rows) = (length row ≡ form.count) × EachNatural row × RowsFit forms rows

none_natural : (count : ℕ) (row : List ℤ) → of_count count None ≡ Some row → EachNatural row
none_natural count row is = absurd (cc)

behind_natural : (count : ℕ) (o : Option (List ℕ)) (row : List ℤ) → of_count count (option_and_then spaced_numbers o) ≡ Some row → EachNatural row
behind_natural count None row is = none_natural count row is
behind_natural count (Some bytes) row is = read_natural count bytes row is

row_fits : (n : ℕ) (form : Form) (forms : List Form) (o : Option (List ℤ)) (rest : Result (List (List ℤ)) ℕ) (rows : List (List ℤ))
    → ((row : List ℤ) → o ≡ Some row → (length row ≡ form.count) × EachNatural row) → ((others : List (List ℤ)) → rest ≡ Ok others → RowsFit forms others)
    → row_before n o rest ≡ Ok rows → RowsFit (form ∷ forms) rows
row_fits n form forms None rest rows here later is = absurd (cc)
row_fits n form forms (Some row) (Err m) rows here later is = absurd (cc)
row_fits n form forms (Some row) (Ok others) rows here later is =
    let fact = here row refl in
    let P : List (List ℤ) → Type 0 = RowsFit (form ∷ forms) in
    subst P (same_Ok (row ∷ others) rows is) (fact.0, fact.1, later others refl)

either : {X : Type 0} (v : Bool) (r s : Result X ℕ) (x : X) (P : Type 0) → (r ≡ Ok x → P) → (s ≡ Ok x → P) → cond v r s ≡ Ok x → P
either true r s x P first second is = first is
either false r s x P first second is = second is

pub rows_fit : (lines : List (List ℕ)) (n : ℕ) (forms : List Form) (rows : List (List ℤ)) → rows_of n forms lines ≡ Ok rows → RowsFit forms rows
rows_fit [] n [] rows is = let P : List (List ℤ) → Type 0 = RowsFit [] in subst P (same_Ok [] rows is) tt
rows_fit [] n (form ∷ forms) rows is = absurd (cc)
rows_fit (line ∷ lines) n [] rows is =
    either (is_passed_over line) (rows_of (n + 1) [] lines) (Err n) rows (RowsFit [] rows) (rows_fit lines (n + 1) [] rows) (λ wrong. absurd (cc)) is
rows_fit (line ∷ lines) n (form ∷ forms) rows is =
    either (is_passed_over line) (rows_of (n + 1) (form ∷ forms) lines) (row_before n (row_of form line) (rows_of (n + 1) forms lines)) rows (RowsFit (form ∷ forms) rows)
    (rows_fit lines (n + 1) (form ∷ forms) rows)
    (row_fits n form forms (row_of form line) (rows_of (n + 1) forms lines) rows
    (λ row read. (read_count form.count (option_and_then spaced_numbers (behind form.words line)) row read, behind_natural form.count (behind form.words line) row read))
    (λ others. rows_fit lines (n + 1) forms others))
    is

-- mixes have a part per stage, and no number below 0
abbrev MixesFit : List Junction → List Mix → Type 0
MixesFit [] [] = Unit {0}
MixesFit [] (mix ∷ mixes) = ⊥
MixesFit (junction ∷ junctions) [] = ⊥
MixesFit (junction ∷ junctions) (mix ∷ mixes) = (length mix.parts ≡ length junction.stages) × ((pos 0 ≤ℤ mix.whole) × EachNatural mix.parts) × MixesFit junctions mixes

mix_fits : (j : ℕ) (junction : Junction) (row : List ℤ) → length row ≡ 1 + length junction.stages → EachNatural row
    → (length (mix_of_row row).parts ≡ length junction.stages) × ((pos 0 ≤ℤ (mix_of_row row).whole) × EachNatural (mix_of_row row).parts)
mix_fits j junction [] size natural = absurd (omega arith)
mix_fits j junction (whole ∷ parts) size natural = (omega arith, natural)

mixes_fit : (junctions : List Junction) (j : ℕ) (rows : List (List ℤ)) → RowsFit (mix_forms j junctions) rows → MixesFit junctions (map mix_of_row rows)
mixes_fit [] j [] fit = tt
mixes_fit [] j (row ∷ rows) fit = absurd fit
mixes_fit (junction ∷ junctions) j [] fit = absurd fit
mixes_fit (junction ∷ junctions) j (row ∷ rows) fit =
    let here = mix_fits j junction row fit.0 fit.1 in
    (here.0, here.1, mixes_fit junctions (j + 1) rows fit.2)

mixes_length : (junctions : List Junction) (mixes : List Mix) → MixesFit junctions mixes → length mixes ≡ length junctions
mixes_length [] [] fit = refl
mixes_length [] (mix ∷ mixes) fit = absurd fit
mixes_length (junction ∷ junctions) [] fit = absurd fit
mixes_length (junction ∷ junctions) (mix ∷ mixes) fit = ap (λ n. suc n) (mixes_length junctions mixes fit.2)

mixes_parts : (junctions : List Junction) (mixes : List Mix) (i : ℕ) → MixesFit junctions mixes → i < length junctions
    → length (get_or mixes i no_mix).parts ≡ length (get_or junctions i no_junction).stages
mixes_parts [] mixes i fit within = absurd (omega arith)
mixes_parts (junction ∷ junctions) [] i fit within = absurd fit
mixes_parts (junction ∷ junctions) (mix ∷ mixes) zero fit within = fit.0
mixes_parts (junction ∷ junctions) (mix ∷ mixes) (suc i) fit within = mixes_parts junctions mixes i fit.2 (omega arith)

mixes_natural : (junctions : List Junction) (mixes : List Mix) → MixesFit junctions mixes → AllByRecursion (λ mix. (pos 0 ≤ℤ mix.whole) × EachNatural mix.parts) mixes
mixes_natural [] [] fit = tt
mixes_natural [] (mix ∷ mixes) fit = absurd fit
mixes_natural (junction ∷ junctions) [] fit = absurd fit
mixes_natural (junction ∷ junctions) (mix ∷ mixes) fit = (fit.1, mixes_natural junctions mixes fit.2)

one_natural : (row : List ℤ) → length row ≡ 1 → EachNatural row → pos 0 ≤ℤ int_entry row 1
one_natural [] size natural = absurd (omega arith)
one_natural (x ∷ row) size natural = natural.0

all_rows : (net : Network) (rows : List (List ℤ)) → RowsFit (cert_forms net) rows → HasLengths net (cert_of_rows rows) × IsNatural (cert_of_rows rows)
all_rows net [] fit = absurd fit
all_rows net (first ∷ []) fit = absurd fit.2
all_rows net (first ∷ d ∷ []) fit = absurd fit.2.2
all_rows net (first ∷ d ∷ e ∷ []) fit = absurd fit.2.2.2
all_rows net (first ∷ d ∷ e ∷ h ∷ others) fit =
    let mixes = mixes_fit net.junctions 1 others fit.2.2.2.2 in (
      record {
        rates = fit.2.2.2.0;
        mixes = mixes_length net.junctions (map mix_of_row others) mixes;
        parts = each_in (λ j. length (mix_at (cert_of_rows (first ∷ d ∷ e ∷ h ∷ others)) j).parts ≡ length (junction_at net j).stages) (numbers_to (length net.junctions))
            (λ j there. let range = in_numbers (length net.junctions) j there in mixes_parts net.junctions (map mix_of_row others) (j - 1) mixes (omega (arith, range.0, range.1)));
      },
      record {
        denominator = one_natural d fit.2.0 fit.2.1;
        excess = one_natural e fit.2.2.0 fit.2.2.1;
        rates = all_natural h fit.2.2.2.1;
        mixes = All-weaker (λ mix. (pos 0 ≤ℤ mix.whole) × EachNatural mix.parts) (λ mix. (pos 0 ≤ℤ mix.whole) × AreNatural mix.parts) (λ mix fact. (fact.0, all_natural mix.parts fact.1)) (map mix_of_row others)
            (All-from_recursion (λ mix. (pos 0 ≤ℤ mix.whole) × EachNatural mix.parts) (map mix_of_row others) (mixes_natural net.junctions (map mix_of_row others) mixes));
      },
    )

pub made_Ok : {X Y : Type 0} (f : X → Y) (r : Result X ℕ) (y : Y) → made f r ≡ Ok y → (x : X) × (r ≡ Ok x) × (f x ≡ y)
made_Ok f (Ok x) y is = (x, refl, same_Ok (f x) y is)
made_Ok f (Err n) y is = absurd (cc)

-- a certificate that is read
pub cert_fits : (net : Network) (bytes : List ℕ) (cert : Cert) → cert_meaning net bytes ≡ Ok cert → HasLengths net cert × IsNatural cert
cert_fits net bytes cert is =
    let rows = made_Ok cert_of_rows (rows_of 1 (cert_forms net) (lines_of bytes)) cert is in
    let P : Cert → Type 0 = λ c. HasLengths net c × IsNatural c in
    subst P rows.2 (all_rows net rows.0 (rows_fit (lines_of bytes) 1 (cert_forms net) rows.0 rows.1))

vector_rows : (net : Network) (rows : List (List ℤ)) → RowsFit (vector_forms net) rows → (length (row_at rows 2) ≡ length net.movements) × EachNatural (row_at rows 2)
vector_rows net [] fit = absurd fit
vector_rows net (first ∷ []) fit = absurd fit.2
vector_rows net (first ∷ p ∷ others) fit = (fit.2.0, fit.2.1)

-- a vector that is read
pub vector_fits : (net : Network) (bytes : List ℕ) (p : List ℤ) → vector_meaning net bytes ≡ Ok p → (length p ≡ length net.movements) × AreNatural p
vector_fits net bytes p is =
    let rows = made_Ok (λ rs. row_at rs 2) (rows_of 1 (vector_forms net) (lines_of bytes)) p is in
    let P : List ℤ → Type 0 = λ q. (length q ≡ length net.movements) × AreNatural q in
    let fact = vector_rows net rows.0 (rows_fit (lines_of bytes) 1 (vector_forms net) rows.0 rows.1) in
    subst P rows.2 (fact.0, all_natural (row_at rows.0 2) fact.1)
