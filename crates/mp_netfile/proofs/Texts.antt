-- What a file means, from what its reader found.
use Rattle.std.proofs.Common.{◌≡◌, ℕ, ◌≤◌, Bool, true, false, nat_lt, List, length, Some, IsUtf8, refl, arith}
use Rattle.std.proofs.lemmas.Bool.Decides.{nat_tests}
use Rattle.std.proofs.lemmas.Str.{IsUtf8-from_is_utf8, is_utf8-from_IsUtf8}
use Rattle.std.specs.Str.{is_utf8}
use Rattle.toml.specs.Data.{Members, table}
use Rattle.toml.specs.Parse.{parse_document}
use Rattle.mp_net.specs.declared.fault.NetRule.TheVariants as rule
use Rattle.mp_netfile.specs.Meaning.{file_meaning, tree_meaning, at_top}

fits : (n : ℕ) → n ≤ 1048576 → nat_lt 1048576 n ≡ false
fits n few = grind (arith, nat_tests)

no_utf8 : (bytes : List ℕ) → ¬ IsUtf8 bytes → is_utf8 bytes ≡ false
no_utf8 bytes other = go (is_utf8 bytes) refl
  where
    go : (b : Bool) → is_utf8 bytes ≡ b → is_utf8 bytes ≡ false
    go true e = absurd (other (IsUtf8-from_is_utf8 bytes e))
    go false e = e

pub meaning-no_utf8 : (bytes : List ℕ) → length bytes ≤ 1048576 → ¬ IsUtf8 bytes → file_meaning bytes ≡ at_top rule.BadToml
meaning-no_utf8 bytes few other = rw (fits (length bytes) few, no_utf8 bytes other)

pub meaning-tree : (bytes text : List ℕ) (ms : Members) → length bytes ≤ 1048576 → text ≡ bytes → IsUtf8 bytes → parse_document text ≡ Some ms → file_meaning bytes ≡ tree_meaning (table ms)
meaning-tree bytes text ms few same utf8 parsed = rw (fits (length bytes) few, is_utf8-from_IsUtf8 bytes utf8, ← same, parsed)
