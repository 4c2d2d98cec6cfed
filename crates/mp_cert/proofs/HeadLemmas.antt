-- The lines of a certificate before its mixes, and those of a vector.
use Rattle.std.proofs.Common.{◌≡◌, ℕ, List, [], ◌∷◌, ◌++◌, ℤ, length, map, Ok, refl, ◌∙◌, ap, subst}
use Rattle.std.specs.Prelude.{codes}
use Rattle.std.proofs.lemmas.List.{nil_from_length}
use Rattle.mp_model.specs.Network.{Network}
use Rattle.mp_cert.specs.declared.text_fault.TextFault.{TextFault}
use Rattle.mp_cert.specs.declared.types.Mix.{Mix}
use Rattle.mp_cert.specs.TextFaults.{IsFaultOf}
use Rattle.mp_cert.specs.TextMeaning.{Form, made, mix_forms, mix_of_row, cert_forms, cert_of_rows, cert_meaning, vector_forms, vector_meaning, row_at}
use Rattle.mp_cert.specs.TextReading.{rows_ahead, ReadsRow, ReadsRows, RefusesAhead, mix_row, head_rows}
use Rattle.mp_cert.specs.Views.{mix_of}
use Rattle.mp_cert.proofs.RowLemmas.{rows_start, rows_more, rows_last, rows_fail, rows_end, fault_made}

abbrev pub first_form : Form
first_form = record { words = codes "certificate 1"; count = 0 }

abbrev pub d_form : Form
d_form = record { words = codes "d"; count = 1 }

abbrev pub e_form : Form
e_form = record { words = codes "e"; count = 1 }

abbrev pub h_form : ℕ → Form
h_form count = record { words = codes "h"; count = count }

-- the forms behind the first line, behind `d`, and behind `e`
abbrev pub from_d : Network → List Form
from_d net = d_form ∷ e_form ∷ h_form (length net.movements) ∷ mix_forms 1 net.junctions

abbrev pub from_e : Network → List Form
from_e net = e_form ∷ h_form (length net.movements) ∷ mix_forms 1 net.junctions

abbrev pub from_h : Network → List Form
from_h net = h_form (length net.movements) ∷ mix_forms 1 net.junctions

pub first_read : (net : Network) (row : List ℤ) (n m : ℕ) (text mid : List ℕ) → length row ≡ 0 → ReadsRow first_form row n text m mid → ReadsRows (cert_forms net) ([] ∷ []) (from_d net) n text m mid
first_read net row n m text mid none reads =
    let P : List ℤ → Type 0 = λ r. ReadsRow first_form r n text m mid in
    rows_more (cert_forms net) [] first_form (from_d net) [] n n m text text mid (rows_start (cert_forms net) n text) (subst P (nil_from_length row none) reads)

pub d_read : (net : Network) (d : ℤ) (n m k : ℕ) (text mid rest : List ℕ) → ReadsRows (cert_forms net) ([] ∷ []) (from_d net) n text m mid → ReadsRow d_form (d ∷ []) m mid k rest
    → ReadsRows (cert_forms net) ([] ∷ (d ∷ []) ∷ []) (from_e net) n text k rest
d_read net d n m k text mid rest so_far reads = rows_more (cert_forms net) ([] ∷ []) d_form (from_e net) (d ∷ []) n m k text mid rest so_far reads

pub e_read : (net : Network) (d e : ℤ) (n m k : ℕ) (text mid rest : List ℕ) → ReadsRows (cert_forms net) ([] ∷ (d ∷ []) ∷ []) (from_e net) n text m mid → ReadsRow e_form (e ∷ []) m mid k rest
    → ReadsRows (cert_forms net) ([] ∷ (d ∷ []) ∷ (e ∷ []) ∷ []) (from_h net) n text k rest
e_read net d e n m k text mid rest so_far reads = rows_more (cert_forms net) ([] ∷ (d ∷ []) ∷ []) e_form (from_h net) (e ∷ []) n m k text mid rest so_far reads

pub h_read : (net : Network) (d e : ℤ) (h : List ℤ) (count n m k : ℕ) (text mid rest : List ℕ) → ReadsRows (cert_forms net) ([] ∷ (d ∷ []) ∷ (e ∷ []) ∷ []) (from_h net) n text m mid
    → count ≡ length net.movements → ReadsRow (h_form count) h m mid k rest → ReadsRows (cert_forms net) (head_rows d e h) (mix_forms 1 net.junctions) n text k rest
h_read net d e h count n m k text mid rest so_far same reads =
    let P : ℕ → Type 0 = λ i. ReadsRow (h_form i) h m mid k rest in
    rows_more (cert_forms net) ([] ∷ (d ∷ []) ∷ (e ∷ []) ∷ []) (h_form (length net.movements)) (mix_forms 1 net.junctions) h n m k text mid rest so_far (subst P same reads)

pub h_fails : (net : Network) (d e : ℤ) (fault : TextFault) (count n m : ℕ) (text mid : List ℕ) → ReadsRows (cert_forms net) ([] ∷ (d ∷ []) ∷ (e ∷ []) ∷ []) (from_h net) n text m mid
    → count ≡ length net.movements → RefusesAhead (h_form count) m mid fault → IsFaultOf (rows_ahead n text (cert_forms net)) fault
h_fails net d e fault count n m text mid so_far same refuses =
    let P : ℕ → Type 0 = λ i. RefusesAhead (h_form i) m mid fault in
    rows_fail (cert_forms net) ([] ∷ (d ∷ []) ∷ (e ∷ []) ∷ []) (from_h net) fault n m text mid so_far (subst P same refuses (mix_forms 1 net.junctions))

mixes_same : (mixes : List Mix) → map mix_of_row (map mix_row mixes) ≡ map mix_of mixes
mixes_same [] = refl
mixes_same (mix ∷ mixes) = ap (λ ms. mix_of mix ∷ ms) (mixes_same mixes)

-- all lines of a certificate were read
pub cert_read : (net : Network) (bytes : List ℕ) (d e : ℤ) (h : List ℤ) (mixes : List Mix) (m k : ℕ) (mid rest : List ℕ)
    → ReadsRows (cert_forms net) (head_rows d e h) (mix_forms 1 net.junctions) 1 bytes m mid → ReadsRows (mix_forms 1 net.junctions) (map mix_row mixes) [] m mid k rest → rows_ahead k rest [] ≡ Ok []
    → cert_meaning net bytes ≡ Ok (record { d = d; e = e; h = h; mixes = map mix_of mixes })
cert_read net bytes d e h mixes m k mid rest head behind none =
    let rows = rows_end (cert_forms net) (head_rows d e h ++ map mix_row mixes) 1 k bytes rest (rows_last (cert_forms net) (head_rows d e h) (map mix_row mixes) (mix_forms 1 net.junctions) 1 m k bytes mid rest head behind) none in
    ap (made cert_of_rows) rows ∙ ap (λ ms. Ok (record { d = d; e = e; h = h; mixes = ms })) (mixes_same mixes)

-- the same where the first line of the text is its own
pub cert_from_first : (net : Network) (bytes : List ℕ) (d e : ℤ) (h : List ℤ) (mixes : List Mix) (n m k : ℕ) (text mid rest : List ℕ) → n ≡ 1 → text ≡ bytes
    → ReadsRows (cert_forms net) (head_rows d e h) (mix_forms 1 net.junctions) n text m mid → ReadsRows (mix_forms 1 net.junctions) (map mix_row mixes) [] m mid k rest → rows_ahead k rest [] ≡ Ok []
    → cert_meaning net bytes ≡ Ok (record { d = d; e = e; h = h; mixes = map mix_of mixes })
cert_from_first net bytes d e h mixes n m k text mid rest first whole head behind none =
    let P : ℕ → Type 0 = λ i. ReadsRows (cert_forms net) (head_rows d e h) (mix_forms 1 net.junctions) i text m mid in
    let Q : List ℕ → Type 0 = λ t. ReadsRows (cert_forms net) (head_rows d e h) (mix_forms 1 net.junctions) 1 t m mid in
    cert_read net bytes d e h mixes m k mid rest (subst Q whole (subst P first head)) behind none

abbrev pub vector_form : Form
vector_form = record { words = codes "vector 1"; count = 0 }

abbrev pub p_form : ℕ → Form
p_form count = record { words = codes "p"; count = count }

pub vector_start : (net : Network) (row : List ℤ) (bytes : List ℕ) (m : ℕ) (mid : List ℕ) → length row ≡ 0 → ReadsRow vector_form row 1 bytes m mid
    → ReadsRows (vector_forms net) ([] ∷ []) (p_form (length net.movements) ∷ []) 1 bytes m mid
vector_start net row bytes m mid none reads =
    let P : List ℤ → Type 0 = λ r. ReadsRow vector_form r 1 bytes m mid in
    rows_more (vector_forms net) [] vector_form (p_form (length net.movements) ∷ []) [] 1 1 m bytes bytes mid (rows_start (vector_forms net) 1 bytes) (subst P (nil_from_length row none) reads)

pub p_read : (net : Network) (p : List ℤ) (bytes : List ℕ) (count m k : ℕ) (mid rest : List ℕ) → ReadsRows (vector_forms net) ([] ∷ []) (p_form (length net.movements) ∷ []) 1 bytes m mid
    → count ≡ length net.movements → ReadsRow (p_form count) p m mid k rest → ReadsRows (vector_forms net) ([] ∷ p ∷ []) [] 1 bytes k rest
p_read net p bytes count m k mid rest so_far same reads =
    let P : ℕ → Type 0 = λ i. ReadsRow (p_form i) p m mid k rest in
    rows_more (vector_forms net) ([] ∷ []) (p_form (length net.movements)) [] p 1 m k bytes mid rest so_far (subst P same reads)

pub p_fails : (net : Network) (fault : TextFault) (bytes : List ℕ) (count m : ℕ) (mid : List ℕ) → ReadsRows (vector_forms net) ([] ∷ []) (p_form (length net.movements) ∷ []) 1 bytes m mid
    → count ≡ length net.movements → RefusesAhead (p_form count) m mid fault → IsFaultOf (vector_meaning net bytes) fault
p_fails net fault bytes count m mid so_far same refuses =
    let P : ℕ → Type 0 = λ i. RefusesAhead (p_form i) m mid fault in
    fault_made (λ rows. row_at rows 2) (rows_ahead 1 bytes (vector_forms net)) fault
    (rows_fail (vector_forms net) ([] ∷ []) (p_form (length net.movements) ∷ []) fault 1 m bytes mid so_far (subst P same refuses []))

-- all lines of a vector were read
pub vector_read : (net : Network) (p : List ℤ) (bytes : List ℕ) (k : ℕ) (rest : List ℕ) → ReadsRows (vector_forms net) ([] ∷ p ∷ []) [] 1 bytes k rest → rows_ahead k rest [] ≡ Ok []
    → vector_meaning net bytes ≡ Ok p
vector_read net p bytes k rest read none = ap (made (λ rows. row_at rows 2)) (rows_end (vector_forms net) ([] ∷ p ∷ []) 1 k bytes rest read none)

pub vector_fails : (net : Network) (fault : TextFault) (rows : List (List ℤ)) (forms : List Form) (bytes : List ℕ) (m : ℕ) (mid : List ℕ) → ReadsRows (vector_forms net) rows forms 1 bytes m mid
    → IsFaultOf (rows_ahead m mid forms) fault → IsFaultOf (vector_meaning net bytes) fault
vector_fails net fault rows forms bytes m mid so_far is =
    fault_made (λ rows. row_at rows 2) (rows_ahead 1 bytes (vector_forms net)) fault (rows_fail (vector_forms net) rows forms fault 1 m bytes mid so_far is)

-- the first line of a whole text
pub row_from_first : (net : Network) (row : List ℤ) (bytes : List ℕ) (n m : ℕ) (text mid : List ℕ) → n ≡ 1 → text ≡ bytes → length row ≡ 0 → ReadsRow vector_form row n text m mid
    → ReadsRows (vector_forms net) ([] ∷ []) (p_form (length net.movements) ∷ []) 1 bytes m mid
row_from_first net row bytes n m text mid first whole none reads =
    let P : ℕ → Type 0 = λ i. ReadsRow vector_form row i text m mid in
    let Q : List ℕ → Type 0 = λ t. ReadsRow vector_form row 1 t m mid in
    vector_start net row bytes m mid none (subst Q whole (subst P first reads))

pub fault_from_first : (net : Network) (fault : TextFault) (bytes : List ℕ) (n : ℕ) (text : List ℕ) → n ≡ 1 → text ≡ bytes → RefusesAhead vector_form n text fault → IsFaultOf (vector_meaning net bytes) fault
fault_from_first net fault bytes n text first whole refuses =
    let P : ℕ → Type 0 = λ i. RefusesAhead vector_form i text fault in
    let Q : List ℕ → Type 0 = λ t. RefusesAhead vector_form 1 t fault in
    fault_made (λ rows. row_at rows 2) (rows_ahead 1 bytes (vector_forms net)) fault (subst Q whole (subst P first refuses) (p_form (length net.movements) ∷ []))
