-- The lines of a guard, one after another.
use Rattle.std.proofs.Common.{◌≡◌, ◌<◌, ◌≤◌, ℕ, zero, suc, ◌+◌, ◌-◌, List, [], ◌∷◌, ◌++◌, length, take, drop, map, get_or, Ok, refl, sym, ◌∙◌, ap, ap₂, subst, arith, ℤ, Vec, Global}
use Rattle.std.specs.Prelude.{unsigned_abs}
use Rattle.std.proofs.lemmas.List.{drop_more, drop_all, drop-map, take_more, take_all, length-map, map_push}
use Rattle.mp_cert.specs.declared.text_fault.TextFault.{TextFault}
use Rattle.mp_cert.specs.TextFaults.{IsFaultOf}
use Rattle.mp_cert.specs.TextMeaning.{Form, made, rows_of, row_at}
use Rattle.mp_cert.specs.TextReading.{rows_ahead, ReadsRow, ReadsRows, RefusesAhead}
use Rattle.mp_cert.proofs.MeaningLemmas.{RowsFit, rows_fit, made_Ok}
use Rattle.mp_cert.proofs.RowLemmas.{rows_start, rows_more, rows_fail, rows_end}
use Rattle.mp_laws.proofs.Lists.{each_in, in_numbers}
use Rattle.mp_model.specs.Guard.{Guard, HasGuardLengths, greens_at}
use Rattle.mp_model.specs.Network.{Network, Junction, junction_at, no_junction, numbers_to}
use Rattle.mp_model.specs.Stream.{lines_of}
use Rattle.mp_guard.specs.GuardText.{green_form, green_forms, guard_forms, form_at, number_in, guard_of_rows, guard_meaning}

abbrev no_form : Form
no_form = record { words = []; count = 0 }

greens_length : (j : ℕ) (junctions : List Junction) → length (green_forms j junctions) ≡ length junctions
greens_length j [] = refl
greens_length j (junction ∷ junctions) = ap (λ n. suc n) (greens_length (j + 1) junctions)

pub forms_length : (net : Network) → length (guard_forms net) ≡ 5 + length net.junctions
forms_length net = omega (arith, greens_length 1 net.junctions)

green_at : (j i : ℕ) (junctions : List Junction) → i < length junctions → get_or (green_forms j junctions) i no_form ≡ green_form (j + i) (get_or junctions i no_junction)
green_at j i [] within = absurd (omega arith)
green_at j zero (junction ∷ junctions) within = let same : j ≡ j + 0 = omega arith in ap (λ n. green_form n junction) same
green_at j (suc i) (junction ∷ junctions) within = let same : j + 1 + i ≡ j + suc i = omega arith in green_at (j + 1) i junctions (omega arith) ∙ ap (λ n. green_form n (get_or junctions i no_junction)) same

form_ahead : (net : Network) (n : ℕ) → n < length net.junctions → form_at net (suc (suc (suc (suc (suc n))))) ≡ green_form (1 + n) (get_or net.junctions n no_junction)
form_ahead net n within = green_at 1 n net.junctions within

-- line i of the greens is that of junction i - 4
pub form_of_greens : (net : Network) (i : ℕ) → 5 ≤ i → i < 5 + length net.junctions → form_at net i ≡ green_form (i - 4) (junction_at net (i - 4))
form_of_greens net i low high =
    let here : i ≡ suc (suc (suc (suc (suc (i - 5))))) = omega arith in
    let j : 1 + (i - 5) ≡ i - 4 = omega arith in
    let k : i - 5 ≡ (i - 4) - 1 = omega arith in
    ap (form_at net) here ∙ form_ahead net (i - 5) (omega arith) ∙ ap (λ n. green_form n (get_or net.junctions (i - 5) no_junction)) j ∙ ap (λ n. green_form (i - 4) (get_or net.junctions n no_junction)) k

-- the lines before line i were read
pub record LinesRead (net : Network) (rows : List (List ℤ)) (i : ℕ) (bytes : List ℕ) (m : ℕ) (rest : List ℕ) : Type 0 where
  pub reads : ReadsRows (guard_forms net) rows (drop i (guard_forms net)) 1 bytes m rest

pub lines_start : (net : Network) (bytes text : List ℕ) (n : ℕ) → n ≡ 1 → text ≡ bytes → LinesRead net [] 0 bytes n text
lines_start net bytes text n first whole = record {
  reads = subst (λ t. ReadsRows (guard_forms net) [] (guard_forms net) 1 bytes n t) (sym whole) (subst (λ k. ReadsRows (guard_forms net) [] (guard_forms net) 1 bytes k bytes) (sym first) (rows_start (guard_forms net) 1 bytes));
}

next_form : (net : Network) (i : ℕ) → i < 5 + length net.junctions → drop i (guard_forms net) ≡ form_at net i ∷ drop (i + 1) (guard_forms net)
next_form net i within = drop_more (guard_forms net) i no_form (omega (arith, forms_length net))

pub lines_more : (net : Network) (rows : List (List ℤ)) (row : List ℤ) (i m k : ℕ) (bytes mid rest : List ℕ) → LinesRead net rows i bytes m mid → i < 5 + length net.junctions → ReadsRow (form_at net i) row m mid k rest → LinesRead net (rows ++ row ∷ []) (i + 1) bytes k rest
lines_more net rows row i m k bytes mid rest read within reads =
    let ahead : ReadsRows (guard_forms net) rows (form_at net i ∷ drop (i + 1) (guard_forms net)) 1 bytes m mid = read.reads ∙ ap (λ forms. made (λ others. rows ++ others) (rows_ahead m mid forms)) (next_form net i within) in
    record { reads = rows_more (guard_forms net) rows (form_at net i) (drop (i + 1) (guard_forms net)) row 1 m k bytes mid rest ahead reads }

-- the same with the rows of the program
pub lines_next : (net : Network) (rows next : List (Vec ℤ Global)) (row : Vec ℤ Global) (i m k : ℕ) (bytes mid rest : List ℕ) → LinesRead net (map (λ r. r.items) rows) i bytes m mid → i < 5 + length net.junctions → ReadsRow (form_at net i) row.items m mid k rest → next ≡ rows ++ row ∷ []
    → LinesRead net (map (λ r. r.items) next) (i + 1) bytes k rest
lines_next net rows next row i m k bytes mid rest read within reads is =
    subst (λ rs. LinesRead net rs (i + 1) bytes k rest) (sym (ap (map (λ (r : Vec ℤ Global). r.items)) is ∙ map_push (λ (r : Vec ℤ Global). r.items) rows row)) (lines_more net (map (λ r. r.items) rows) row.items i m k bytes mid rest read within reads)

pub lines_fail : (net : Network) (rows : List (List ℤ)) (i m : ℕ) (fault : TextFault) (bytes mid : List ℕ) → LinesRead net rows i bytes m mid → i < 5 + length net.junctions → RefusesAhead (form_at net i) m mid fault → IsFaultOf (rows_ahead 1 bytes (guard_forms net)) fault
lines_fail net rows i m fault bytes mid read within refuses =
    rows_fail (guard_forms net) rows (drop i (guard_forms net)) fault 1 m bytes mid read.reads (subst (λ forms. IsFaultOf (rows_ahead m mid forms) fault) (sym (next_form net i within)) (refuses (drop (i + 1) (guard_forms net))))

pub lines_end : (net : Network) (rows : List (List ℤ)) (i m : ℕ) (bytes mid : List ℕ) → LinesRead net rows i bytes m mid → 5 + length net.junctions ≤ i → rows_ahead m mid [] ≡ Ok [] → rows_ahead 1 bytes (guard_forms net) ≡ Ok rows
lines_end net rows i m bytes mid read past none =
    let all : drop i (guard_forms net) ≡ [] = drop_all i (guard_forms net) (omega (arith, forms_length net)) in
    rows_end (guard_forms net) rows 1 m bytes mid (read.reads ∙ ap (λ forms. made (λ others. rows ++ others) (rows_ahead m mid forms)) all) none

pub lines_refuse : (net : Network) (rows : List (List ℤ)) (i m : ℕ) (fault : TextFault) (bytes mid : List ℕ) → LinesRead net rows i bytes m mid → 5 + length net.junctions ≤ i → IsFaultOf (rows_ahead m mid []) fault → IsFaultOf (rows_ahead 1 bytes (guard_forms net)) fault
lines_refuse net rows i m fault bytes mid read past is =
    let all : drop i (guard_forms net) ≡ [] = drop_all i (guard_forms net) (omega (arith, forms_length net)) in
    rows_fail (guard_forms net) rows [] fault 1 m bytes mid (read.reads ∙ ap (λ forms. made (λ others. rows ++ others) (rows_ahead m mid forms)) all) is

-- ---- a guard that is read has the network's lengths
greens_fit : (junctions : List Junction) (j : ℕ) (rows : List (List ℤ)) → RowsFit (green_forms j junctions) rows → length rows ≡ length junctions
greens_fit [] j [] fit = refl
greens_fit [] j (row ∷ rows) fit = absurd fit
greens_fit (junction ∷ junctions) j [] fit = absurd fit
greens_fit (junction ∷ junctions) j (row ∷ rows) fit = ap (λ n. suc n) (greens_fit junctions (j + 1) rows fit.2)

row_fits : (junctions : List Junction) (j i : ℕ) (rows : List (List ℤ)) → RowsFit (green_forms j junctions) rows → i < length junctions → length (get_or (map (λ row. map unsigned_abs row) rows) i []) ≡ length (get_or junctions i no_junction).stages
row_fits [] j i rows fit within = absurd (omega arith)
row_fits (junction ∷ junctions) j i [] fit within = absurd fit
row_fits (junction ∷ junctions) j zero (row ∷ rows) fit within = length-map row unsigned_abs ∙ fit.0
row_fits (junction ∷ junctions) j (suc i) (row ∷ rows) fit within = row_fits junctions (j + 1) i rows fit.2 (omega arith)

lengths_fit : (net : Network) (rows : List (List ℤ)) → RowsFit (guard_forms net) rows → HasGuardLengths net (guard_of_rows rows)
lengths_fit net [] fit = absurd fit
lengths_fit net (a ∷ []) fit = absurd fit.2
lengths_fit net (a ∷ b ∷ []) fit = absurd fit.2.2
lengths_fit net (a ∷ b ∷ c ∷ []) fit = absurd fit.2.2.2
lengths_fit net (a ∷ b ∷ c ∷ d ∷ []) fit = absurd fit.2.2.2.2
lengths_fit net (a ∷ b ∷ c ∷ d ∷ h ∷ others) fit = record {
  rates = length-map h unsigned_abs ∙ fit.2.2.2.2.0;
  junctions = length-map others (λ row. map unsigned_abs row) ∙ greens_fit net.junctions 1 others fit.2.2.2.2.2;
  greens = each_in (λ j. length (greens_at (guard_of_rows (a ∷ b ∷ c ∷ d ∷ h ∷ others)) j) ≡ length (junction_at net j).stages) (numbers_to (length net.junctions))
      (λ j there. let range = in_numbers (length net.junctions) j there in row_fits net.junctions 1 (j - 1) others fit.2.2.2.2.2 (omega (arith, range.0, range.1)));
}

pub lengths_read : (net : Network) (bytes : List ℕ) (guard : Guard) → guard_meaning net bytes ≡ Ok guard → HasGuardLengths net guard
lengths_read net bytes guard is =
    let rows = made_Ok guard_of_rows (rows_of 1 (guard_forms net) (lines_of bytes)) guard is in
    subst (HasGuardLengths net) rows.2 (lengths_fit net rows.0 (rows_fit (lines_of bytes) 1 (guard_forms net) rows.0 rows.1))

-- ---- rows without their signs
pub record Naturals (greens : List (Vec ℕ Global)) (rows : List (Vec ℤ Global)) (i : ℕ) : Type 0 where
  pub are : map (λ (g : Vec ℕ Global). g.items) greens ≡ map (λ (r : Vec ℤ Global). map unsigned_abs r.items) (take i rows)

pub naturals_start : (rows : List (Vec ℤ Global)) → Naturals [] rows 0
naturals_start rows = record { are = refl }

pub naturals_more : (greens next : List (Vec ℕ Global)) (rows : List (Vec ℤ Global)) (i : ℕ) (green : Vec ℕ Global) (row : Vec ℤ Global) → Naturals greens rows i → i < length rows → row ≡ get_or rows i row → green.items ≡ map unsigned_abs row.items → next ≡ greens ++ green ∷ [] → Naturals next rows (i + 1)
naturals_more greens next rows i green row n within same is more = record {
  are = ap (map (λ (g : Vec ℕ Global). g.items)) more ∙ map_push (λ (g : Vec ℕ Global). g.items) greens green ∙ ap₂ (λ xs x. xs ++ x ∷ []) n.are (is ∙ ap (λ (r : Vec ℤ Global). map unsigned_abs r.items) same)
      ∙ sym (map_push (λ (r : Vec ℤ Global). map unsigned_abs r.items) (take i rows) (get_or rows i row)) ∙ ap (map (λ (r : Vec ℤ Global). map unsigned_abs r.items)) (sym (take_more rows i row within));
}

map_twice : (rows : List (Vec ℤ Global)) → map (λ (r : Vec ℤ Global). map unsigned_abs r.items) rows ≡ map (λ row. map unsigned_abs row) (map (λ (r : Vec ℤ Global). r.items) rows)
map_twice [] = refl
map_twice (row ∷ rows) = ap (λ rs. map unsigned_abs row.items ∷ rs) (map_twice rows)

pub naturals_end : (greens : List (Vec ℕ Global)) (rows : List (Vec ℤ Global)) (i : ℕ) → Naturals greens rows i → length rows ≤ i → map (λ (g : Vec ℕ Global). g.items) greens ≡ map (λ row. map unsigned_abs row) (map (λ (r : Vec ℤ Global). r.items) rows)
naturals_end greens rows i n past = n.are ∙ ap (map (λ (r : Vec ℤ Global). map unsigned_abs r.items)) (take_all i rows past) ∙ map_twice rows

-- all lines were read, and made into a guard
pub guard_read : (net : Network) (bytes : List ℕ) (rows behind : List (Vec ℤ Global)) (greens : List (Vec ℕ Global)) (cycle lost denominator : ℕ) (rates : List ℕ) → rows_ahead 1 bytes (guard_forms net) ≡ Ok (map (λ r. r.items) rows) → behind ≡ drop 5 rows
    → map (λ g. g.items) greens ≡ map (λ row. map unsigned_abs row) (map (λ r. r.items) behind) → cycle ≡ number_in (map (λ r. r.items) rows) 2 → lost ≡ number_in (map (λ r. r.items) rows) 3 → denominator ≡ number_in (map (λ r. r.items) rows) 4 → rates ≡ map unsigned_abs (row_at (map (λ r. r.items) rows) 5)
    → guard_meaning net bytes ≡ Ok (record { cycle = cycle; lost = lost; denominator = denominator; rates = rates; greens = map (λ g. g.items) greens })
guard_read net bytes rows behind greens cycle lost denominator rates read b g c l d h =
    let green : map (λ (r : Vec ℕ Global). r.items) greens ≡ map (λ row. map unsigned_abs row) (drop 5 (map (λ (r : Vec ℤ Global). r.items) rows)) =
    g ∙ ap (λ (bs : List (Vec ℤ Global)). map (λ row. map unsigned_abs row) (map (λ r. r.items) bs)) b ∙ ap (map (λ row. map unsigned_abs row)) (sym (drop-map (λ (r : Vec ℤ Global). r.items) 5 rows)) in
    ap (made guard_of_rows) read ∙ rw (c, l, d, h, green) refl
