-- The texts of certificates and vectors, line by line, where each line is written with a line feed at its end.
use Rattle.std.specs.Prelude.{ℕ, ◌+◌, ℤ, List, [], ◌∷◌, ◌++◌, codes, decimal}
use Rattle.std.specs.Fmt.{signed_decimal}
use Rattle.std.specs.List.{flat_map}
use Rattle.mp_model.specs.Certificate.{Cert, Mix}
use Rattle.mp_model.specs.Log.{text_of}

-- A line is its words and then its numbers, each with a space before it.
abbrev pub line_with : List ℕ → List ℤ → List ℕ
line_with words numbers = words ++ flat_map (λ n. 32 ∷ signed_decimal n) numbers

-- A line of a mix begins with `mix` and the number of its junction.
abbrev pub mix_words : ℕ → List ℕ
mix_words j = codes "mix " ++ decimal j

-- The numbers of a mix are its whole and its parts.
abbrev pub mix_numbers : Mix → List ℤ
mix_numbers mix = mix.whole ∷ mix.parts

-- These are the lines of mixes, of which the first is that of junction j.
abbrev pub mix_lines : ℕ → List Mix → List (List ℕ)
mix_lines j [] = []
mix_lines j (mix ∷ mixes) = line_with (mix_words j) (mix_numbers mix) ∷ mix_lines (j + 1) mixes

-- A certificate is a first line, its denominator, its excess, its rates, and a mix per junction.
abbrev pub cert_lines : Cert → List (List ℕ)
cert_lines cert =
    line_with (codes "certificate 1") []
    ∷ line_with (codes "d") (cert.d ∷ [])
    ∷ line_with (codes "e") (cert.e ∷ [])
    ∷ line_with (codes "h") cert.h
    ∷ mix_lines 1 cert.mixes

-- The text of a certificate is that of these lines.
abbrev pub cert_text : Cert → List ℕ
cert_text cert = text_of (cert_lines cert)

-- A vector is a first line, and its numbers.
abbrev pub vector_lines : List ℤ → List (List ℕ)
vector_lines p = line_with (codes "vector 1") [] ∷ line_with (codes "p") p ∷ []

-- The text of a vector is that of these lines.
abbrev pub vector_text : List ℤ → List ℕ
vector_text p = text_of (vector_lines p)
