-- A name is text.
use Rattle.std.proofs.Common.{◌≡◌, ℕ, ◌<◌, Bool, true, false, List, [], ◌∷◌, length, nat_le, ◌&&◌, arith, IsUtf8, refl}
use Rattle.std.specs.List.{list_all}
use Rattle.std.proofs.lemmas.Str.{IsUtf8-from_ascii}
use Rattle.std.proofs.lemmas.Bool.Decides.{nat_tests}
use Rattle.mp_model.specs.Names.{is_name, is_name_byte}
use Rattle.std.proofs.Common.{zero, suc, get_or}

small_byte : (b : ℕ) → is_name_byte b ≡ true → b < 128
small_byte b h = grind (arith, nat_tests)

split_and : (a b : Bool) → (a && b) ≡ true → (a ≡ true) × (b ≡ true)
split_and true b h = (refl, h)
split_and false b h = cc

small_bytes : (bytes : List ℕ) (i : ℕ) → list_all is_name_byte bytes ≡ true → get_or bytes i 0 < 128
small_bytes [] i h = omega arith
small_bytes (b ∷ bytes) zero h = small_byte b (split_and (is_name_byte b) (list_all is_name_byte bytes) h).0
small_bytes (b ∷ bytes) (suc i) h = small_bytes bytes i (split_and (is_name_byte b) (list_all is_name_byte bytes) h).1

pub name-utf8 : (name : List ℕ) → is_name name ≡ true → IsUtf8 name
name-utf8 name h = IsUtf8-from_ascii name (λ i. small_bytes name i (split_and (nat_le 1 (length name) && nat_le (length name) 32) (list_all is_name_byte name) h).1)
