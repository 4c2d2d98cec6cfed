-- The lines of mixes, one junction at a time.
use Rattle.std.proofs.Common.{◌≡◌, ◌<◌, ◌≤◌, ℕ, ◌+◌, ◌-◌, List, [], ◌∷◌, ◌++◌, length, drop, map, get_or, sym, ◌∙◌, ap, arith}
use Rattle.std.proofs.lemmas.List.{drop_more, drop_all, map_push}
use Rattle.mp_model.specs.Network.{Network, Junction, junction_at, no_junction}
use Rattle.mp_cert.specs.declared.text_fault.TextFault.{TextFault}
use Rattle.mp_cert.specs.declared.types.Mix.{Mix}
use Rattle.mp_cert.specs.TextFaults.{IsFaultOf}
use Rattle.mp_cert.specs.TextMeaning.{made, mix_form, mix_forms}
use Rattle.mp_cert.specs.TextReading.{rows_ahead, ReadsRow, ReadsRows, RefusesAhead, mix_row}
use Rattle.mp_cert.proofs.RowLemmas.{rows_start, rows_more, rows_fail}

-- the first of the forms that are left
next_form : (j : ℕ) (junctions : List Junction) → 1 ≤ j → j ≤ length junctions
    → mix_forms j (drop (j - 1) junctions) ≡ mix_form j (get_or junctions (j - 1) no_junction) ∷ mix_forms (j + 1) (drop ((j + 1) - 1) junctions)
next_form j junctions low high =
    let same : (j - 1) + 1 ≡ (j + 1) - 1 = omega arith in
    ap (mix_forms j) (drop_more junctions (j - 1) no_junction (omega arith))
    ∙ ap (λ i. mix_form j (get_or junctions (j - 1) no_junction) ∷ mix_forms (j + 1) (drop i junctions)) same

-- the mixes before junction j were read
pub record MixesRead (junctions : List Junction) (mixes : List Mix) (j n : ℕ) (text : List ℕ) (m : ℕ) (rest : List ℕ) : Type 0 where
  pub reads : ReadsRows (mix_forms 1 junctions) (map mix_row mixes) (mix_forms j (drop (j - 1) junctions)) n text m rest

pub mixes_start : (junctions : List Junction) (n : ℕ) (text : List ℕ) → MixesRead junctions [] 1 n text n text
mixes_start junctions n text = record { reads = rows_start (mix_forms 1 junctions) n text }

pub mixes_more : (net : Network) (mixes : List Mix) (mix : Mix) (j n m k : ℕ) (text mid rest : List ℕ) → MixesRead net.junctions mixes j n text m mid → 1 ≤ j → j ≤ length net.junctions
    → ReadsRow (mix_form j (junction_at net j)) (mix_row mix) m mid k rest → MixesRead net.junctions (mixes ++ mix ∷ []) (j + 1) n text k rest
mixes_more net mixes mix j n m k text mid rest read low high reads =
    let ahead = read.reads ∙ ap (λ forms. made (λ others. map mix_row mixes ++ others) (rows_ahead m mid forms)) (next_form j net.junctions low high) in
    record {
      reads = rows_more (mix_forms 1 net.junctions) (map mix_row mixes) (mix_form j (junction_at net j)) (mix_forms (j + 1) (drop ((j + 1) - 1) net.junctions)) (mix_row mix) n m k text mid rest ahead reads
          ∙ ap (λ rows. made (λ others. rows ++ others) (rows_ahead k rest (mix_forms (j + 1) (drop ((j + 1) - 1) net.junctions)))) (sym (map_push mix_row mixes mix));
    }

pub mixes_fail : (net : Network) (mixes : List Mix) (fault : TextFault) (j n m : ℕ) (text mid : List ℕ) → MixesRead net.junctions mixes j n text m mid → 1 ≤ j → j ≤ length net.junctions
    → RefusesAhead (mix_form j (junction_at net j)) m mid fault → IsFaultOf (rows_ahead n text (mix_forms 1 net.junctions)) fault
mixes_fail net mixes fault j n m text mid read low high refuses =
    let ahead = read.reads ∙ ap (λ forms. made (λ others. map mix_row mixes ++ others) (rows_ahead m mid forms)) (next_form j net.junctions low high) in
    rows_fail (mix_forms 1 net.junctions) (map mix_row mixes) (mix_form j (junction_at net j) ∷ mix_forms (j + 1) (drop ((j + 1) - 1) net.junctions)) fault n m text mid ahead
    (refuses (mix_forms (j + 1) (drop ((j + 1) - 1) net.junctions)))

pub mixes_end : (junctions : List Junction) (mixes : List Mix) (j n m : ℕ) (text rest : List ℕ) → MixesRead junctions mixes j n text m rest → length junctions < j
    → ReadsRows (mix_forms 1 junctions) (map mix_row mixes) [] n text m rest
mixes_end junctions mixes j n m text rest read past =
    read.reads ∙ ap (λ js. made (λ others. map mix_row mixes ++ others) (rows_ahead m rest (mix_forms j js))) (drop_all (j - 1) junctions (omega arith))
