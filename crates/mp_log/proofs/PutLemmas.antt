-- Lines that were put, one after another.
use Rattle.std.proofs.Common.{◌≡◌, ◌<◌, ◌≤◌, ℕ, ◌+◌, ◌-◌, List, [], ◌∷◌, ◌++◌, length, take, drop, get_or, Option, sym, ◌∙◌, ap, subst, arith}
use Rattle.std.proofs.lemmas.List.{append-nil, take-append-drop, take_more, take_all}
use Rattle.std.proofs.lemmas.List.FromFn.{length-map-range_with_len}
use Rattle.std.proofs.lemmas.Grind.{flat_map-append}
use Rattle.mp_model.specs.Network.{Network}
use Rattle.mp_model.specs.Log.{text_of, bound_line, header_lines}
use Rattle.mp_edge.specs.Outside.{Tells, IsPrefix, GainsPrefix}
use Rattle.mp_edge.proofs.Puts.{HasPut, put_none, put_more, put_fails}

-- the text of a front, and one line more
front_more : (lines : List (List ℕ)) (i k : ℕ) → k ≡ i + 1 → i < length lines → text_of (take (i + 1) lines) ≡ text_of (take i lines) ++ (get_or lines (k - 1) [] ++ 10 ∷ [])
front_more lines i k is within =
    let place : k - 1 ≡ i = omega arith in
    rw place (
    ap text_of (take_more lines i [] within)
    ∙ flat_map-append (λ line. line ++ 10 ∷ []) (take i lines) (get_or lines i [] ∷ [])
    ∙ ap (λ bs. text_of (take i lines) ++ bs) (append-nil (get_or lines i [] ++ 10 ∷ []))
    )

front_begins : (lines : List (List ℕ)) (i : ℕ) → IsPrefix (text_of (take i lines)) (text_of lines)
front_begins lines i = (
  text_of (drop i lines),
  ap text_of (sym (take-append-drop i lines)) ∙ flat_map-append (λ line. line ++ 10 ∷ []) (take i lines) (drop i lines),
)

pub lines_start : (held : Option (List ℕ)) (lines : List (List ℕ)) → HasPut held held (text_of (take 0 lines))
lines_start held lines = put_none held

pub lines_more : (old mid new : Option (List ℕ)) (lines : List (List ℕ)) (i k : ℕ) → k ≡ i + 1 → i < length lines → HasPut old mid (text_of (take i lines)) → HasPut mid new (get_or lines (k - 1) [] ++ 10 ∷ [])
    → HasPut old new (text_of (take (i + 1) lines))
lines_more old mid new lines i k is within so_far more = put_more old mid new (text_of (take i lines)) (get_or lines (k - 1) [] ++ 10 ∷ []) (text_of (take (i + 1) lines)) so_far more (front_more lines i k is within)

-- a failure within a line has put a prefix of the text
pub lines_fail : (old mid new : Option (List ℕ)) (lines : List (List ℕ)) (i k : ℕ) → k ≡ i + 1 → i < length lines → HasPut old mid (text_of (take i lines))
    → Tells mid new (λ was now. GainsPrefix (get_or lines (k - 1) [] ++ 10 ∷ []) was now) → Tells old new (λ was now. GainsPrefix (text_of lines) was now)
lines_fail old mid new lines i k is within so_far more =
    let line : List ℕ = get_or lines (k - 1) [] ++ 10 ∷ [] in
    put_fails old mid new (text_of (take i lines)) line (text_of lines) so_far more (subst (λ (bs : List ℕ). IsPrefix bs (text_of lines)) (front_more lines i k is within) (front_begins lines (i + 1)))

pub lines_end : (old now : Option (List ℕ)) (lines : List (List ℕ)) (i : ℕ) → length lines ≤ i → HasPut old now (text_of (take i lines)) → HasPut old now (text_of lines)
lines_end old now lines i past so_far = subst (λ (ls : List (List ℕ)). HasPut old now (text_of ls)) (take_all i lines past) so_far

-- the header has two lines and one per movement
pub header_size : (net : Network) (E D : ℕ) (bounds : List ℕ) → length (header_lines net E D bounds) ≡ length net.movements + 2
header_size net E D bounds = omega (arith, length-map-range_with_len (bound_line net bounds) 1 (length net.movements))
