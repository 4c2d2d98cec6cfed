-- The rows of the lines ahead, where the first line is known.
use Rattle.std.proofs.Common.{◌≡◌, ◌≤◌, ℕ, ◌+◌, ◌-◌, List, [], ◌∷◌, ◌++◌, true, false, cond, ℤ, pos, length, get_or, refl, sym, ◌∙◌, ap, Some, arith, Result, Ok, Err}
use Rattle.std.proofs.lemmas.List.{append_assoc, append-nil}
use Rattle.mp_model.specs.Stream.{lines_of}
use Rattle.mp_cert.specs.declared.text_fault.TextFault.{TextFault}
use Rattle.mp_cert.specs.declared.text_fault.TextFault.TheVariants.{Line, NoMemory}
use Rattle.mp_cert.specs.TextFaults.{IsFaultOf, RefusesLine}
use Rattle.mp_cert.specs.TextMeaning.{Form, row_of, is_passed_over, made, row_before, rows_of}
use Rattle.mp_cert.specs.TextReading.{rows_ahead, SameAhead, StandsFirst, NoneStands, ReadsRow, ReadsRows, RefusesAhead}

-- a line that is passed over
passed : (n : ℕ) (forms : List Form) (line : List ℕ) (lines : List (List ℕ)) → is_passed_over line ≡ true → rows_of n forms (line ∷ lines) ≡ rows_of (n + 1) forms lines
passed n [] line lines is = ap (λ b. cond b (rows_of (n + 1) [] lines) (Err n)) is
passed n (form ∷ forms) line lines is = ap (λ b. cond b (rows_of (n + 1) (form ∷ forms) lines) (row_before n (row_of form line) (rows_of (n + 1) forms lines))) is

pub same_start : (n : ℕ) (text : List ℕ) → SameAhead n text n text
same_start n text = λ forms. refl

pub same_further : (n m k : ℕ) (text mid rest line : List ℕ) → SameAhead n text m mid → lines_of mid ≡ line ∷ lines_of rest → is_passed_over line ≡ true → k ≡ m + 1 → SameAhead n text k rest
same_further n m k text mid rest line so_far first is next = λ forms.
    so_far forms ∙ ap (rows_of m forms) first ∙ passed m forms line (lines_of rest) is ∙ ap (λ i. rows_of i forms (lines_of rest)) (sym next)

-- a line that is not passed over
pub stands_first : (n m k : ℕ) (text mid rest line : List ℕ) → SameAhead n text m mid → lines_of mid ≡ line ∷ lines_of rest → is_passed_over line ≡ false → k ≡ m + 1 → StandsFirst line n text k rest
stands_first n m k text mid rest line so_far first is next = record {
  stays = is;
  before = omega arith;
  ahead = λ forms. so_far forms ∙ ap (rows_of m forms) first ∙ ap (λ i. rows_of i forms (line ∷ lines_of rest)) (omega arith);
}

pub none_stands : (n m k : ℕ) (text mid : List ℕ) → SameAhead n text m mid → lines_of mid ≡ [] → k ≡ m → NoneStands n text k
none_stands n m k text mid so_far none same = λ forms. so_far forms ∙ ap (rows_of m forms) none ∙ ap (λ i. rows_of i forms []) (sym same)

-- the rows from a wanted line on
wanted : (line : List ℕ) (n m : ℕ) (text rest : List ℕ) (form : Form) (forms : List Form) → StandsFirst line n text m rest
    → rows_ahead n text (form ∷ forms) ≡ row_before (m - 1) (row_of form line) (rows_ahead m rest forms)
wanted line n m text rest form forms first =
    first.ahead (form ∷ forms)
    ∙ ap (λ b. cond b (rows_of ((m - 1) + 1) (form ∷ forms) (lines_of rest)) (row_before (m - 1) (row_of form line) (rows_of ((m - 1) + 1) forms (lines_of rest)))) first.stays
    ∙ ap (λ i. row_before (m - 1) (row_of form line) (rows_of i forms (lines_of rest))) (let low : 1 ≤ m = first.before in omega arith)

pub reads_row : (line : List ℕ) (n m : ℕ) (text rest : List ℕ) (form : Form) (row : List ℤ) → StandsFirst line n text m rest → row_of form line ≡ Some row → ReadsRow form row n text m rest
reads_row line n m text rest form row first is = λ forms. wanted line n m text rest form forms first ∙ ap (λ o. row_before (m - 1) o (rows_ahead m rest forms)) is

pub refuses_ahead : (line : List ℕ) (n m k : ℕ) (text rest : List ℕ) (form : Form) (fault : TextFault) → StandsFirst line n text m rest → k ≡ m - 1 → RefusesLine k (row_of form line) fault → RefusesAhead form n text fault
refuses_ahead line n m k text rest form (Line i) first same refuses = λ forms.
    wanted line n m text rest form forms first ∙ ap (λ o. row_before (m - 1) o (rows_ahead m rest forms)) refuses.1 ∙ ap (λ j. Err j) (sym (refuses.0 ∙ same))
refuses_ahead line n m k text rest form NoMemory first same refuses = λ forms. tt

-- where no line is left the wanted one is missing
pub missing : (n m : ℕ) (text : List ℕ) (form : Form) → NoneStands n text m → RefusesAhead form n text (Line m)
missing n m text form none = λ forms. none (form ∷ forms)

-- a further line
pub further : (line : List ℕ) (n m : ℕ) (text rest : List ℕ) → StandsFirst line n text m rest → rows_ahead n text [] ≡ Err (m - 1)
further line n m text rest first = first.ahead [] ∙ ap (λ b. cond b (rows_of ((m - 1) + 1) [] (lines_of rest)) (Err (m - 1))) first.stays

pub no_further : (n m : ℕ) (text : List ℕ) → NoneStands n text m → rows_ahead n text [] ≡ Ok []
no_further n m text none = none []

made_none : {X : Type 0} (r : Result (List X) ℕ) → made (λ others. [] ++ others) r ≡ r
made_none (Ok x) = refl
made_none (Err n) = refl

made_then : (rows : List (List ℤ)) (row : List ℤ) (r : Result (List (List ℤ)) ℕ) → made (λ others. rows ++ others) (made (λ others. row ∷ others) r) ≡ made (λ others. (rows ++ row ∷ []) ++ others) r
made_then rows row (Ok x) = ap (λ xs. Ok xs) (sym (append_assoc rows (row ∷ []) x))
made_then rows row (Err n) = refl

made_behind : (rows more : List (List ℤ)) (r : Result (List (List ℤ)) ℕ) → made (λ others. rows ++ others) (made (λ others. more ++ others) r) ≡ made (λ others. (rows ++ more) ++ others) r
made_behind rows more (Ok x) = ap (λ xs. Ok xs) (sym (append_assoc rows more x))
made_behind rows more (Err n) = refl

-- nothing was read yet
pub rows_start : (all : List Form) (n : ℕ) (text : List ℕ) → ReadsRows all [] all n text n text
rows_start all n text = sym (made_none (rows_ahead n text all))

-- one row more
pub rows_more : (all : List Form) (rows : List (List ℤ)) (form : Form) (forms : List Form) (row : List ℤ) (n m k : ℕ) (text mid rest : List ℕ)
    → ReadsRows all rows (form ∷ forms) n text m mid → ReadsRow form row m mid k rest → ReadsRows all (rows ++ row ∷ []) forms n text k rest
rows_more all rows form forms row n m k text mid rest so_far reads = so_far ∙ ap (made (λ others. rows ++ others)) (reads forms) ∙ made_then rows row (rows_ahead k rest forms)

-- the rows of the last forms
pub rows_last : (all : List Form) (rows more : List (List ℤ)) (forms : List Form) (n m k : ℕ) (text mid rest : List ℕ)
    → ReadsRows all rows forms n text m mid → ReadsRows forms more [] m mid k rest → ReadsRows all (rows ++ more) [] n text k rest
rows_last all rows more forms n m k text mid rest so_far reads = so_far ∙ ap (made (λ others. rows ++ others)) reads ∙ made_behind rows more (rows_ahead k rest [])

-- a fault of the lines ahead is one of the whole
pub rows_fail : (all : List Form) (rows : List (List ℤ)) (forms : List Form) (fault : TextFault) (n m : ℕ) (text mid : List ℕ)
    → ReadsRows all rows forms n text m mid → IsFaultOf (rows_ahead m mid forms) fault → IsFaultOf (rows_ahead n text all) fault
rows_fail all rows forms (Line i) n m text mid so_far is = so_far ∙ ap (made (λ others. rows ++ others)) is
rows_fail all rows forms NoMemory n m text mid so_far is = tt

-- all lines were read
pub rows_end : (all : List Form) (rows : List (List ℤ)) (n m : ℕ) (text mid : List ℕ) → ReadsRows all rows [] n text m mid → rows_ahead m mid [] ≡ Ok [] → rows_ahead n text all ≡ Ok rows
rows_end all rows n m text mid so_far is = so_far ∙ ap (made (λ others. rows ++ others)) is ∙ ap (λ xs. Ok xs) (append-nil rows)

-- the value of a fault is a fault
pub fault_made : {X Y : Type 0} (f : X → Y) (r : Result X ℕ) (fault : TextFault) → IsFaultOf r fault → IsFaultOf (made f r) fault
fault_made f r (Line i) is = ap (made f) is
fault_made f r NoMemory is = tt

-- a row of one number
pub one_number : (row : List ℤ) → length row ≡ 1 → row ≡ get_or row 0 (pos 0) ∷ []
one_number [] size = absurd (omega arith)
one_number (x ∷ []) size = refl
one_number (x ∷ y ∷ row) size = absurd (omega arith)
