-- A row of counts, count by count.
use Rattle.std.proofs.Common.{◌≡◌, ◌≢◌, ◌<◌, ◌^◌, ℕ, ℤ, pos, List, [], ◌∷◌, ◌++◌, length, map, true, false, cond, refl, sym, ◌∙◌, ap, arith, Some, None}
use Rattle.std.specs.declared.option.Option.{Option}
use Rattle.std.specs.Prelude.{unsigned_abs, nat_eq, IsTrue}
use Rattle.std.proofs.lemmas.Bool.Decides.{nat_tests}
use Rattle.std.proofs.lemmas.List.{map-append, length-map}
use Rattle.std.proofs.lemmas.List.Elements.{All-push}
use Rattle.mp_model.specs.Network.{Network}
use Rattle.mp_model.specs.Stream.{is_skipped, read_counts, counts_of_parts}
use Rattle.mp_log.proofs.CountLemmas.{split, all_read, few_read}
use Rattle.mp_model.specs.ControlLog.{counted_line, plain_line}
use Rattle.mp_model.specs.ControlLog.InputLine.{skipped_line}
use Rattle.mp_press.specs.Queues.{naturals, NoneNegative}
use Rattle.mp_control.specs.Input.{AreSmall}

pub naturals_more : (zs : List ℤ) (x : ℕ) → naturals (zs ++ pos x ∷ []) ≡ naturals zs ++ x ∷ []
naturals_more zs x = map-append unsigned_abs zs (pos x ∷ [])

pub none_small : AreSmall []
none_small = record { none_negative = refl; digits = λ k d low. absurd (omega arith) }

none_negative_more : (zs : List ℤ) (x : ℕ) → NoneNegative zs → NoneNegative (zs ++ pos x ∷ [])
none_negative_more zs x none = ap (map pos) (naturals_more zs x) ∙ map-append pos (naturals zs) (x ∷ []) ∙ ap (λ ys. ys ++ pos x ∷ []) none

-- one more count
pub small_more : (zs : List ℤ) (x : ℕ) → AreSmall zs → x < 10 ^ 9 → AreSmall (zs ++ pos x ∷ [])
small_more zs x small low = record {
  none_negative = none_negative_more zs x small.none_negative;
  digits = rw (naturals_more zs x) (All-push (λ q. q < 10 ^ 9) (naturals zs) x small.digits low);
}

-- what a line is that is not skipped
pub line_is : (net : Network) (line : List ℕ) (n : ℕ) (counted : Option (List ℕ)) → is_skipped line ≡ false → n ≡ length net.movements → read_counts n line ≡ counted → plain_line net line ≡ counted_line counted
line_is net line n counted other size read =
    ap (λ b. cond b skipped_line (counted_line (read_counts (length net.movements) line))) other
    ∙ ap (λ m. counted_line (read_counts m line)) (sym size) ∙ ap counted_line read

pub skipped_is : (net : Network) (line : List ℕ) → is_skipped line ≡ true → plain_line net line ≡ skipped_line
skipped_is net line is = ap (λ b. cond b skipped_line (counted_line (read_counts (length net.movements) line))) is

-- the counts that were read are the row where they are as many as asked for, and else there is none
pub row_read : (line : List ℕ) (zs : List ℤ) (n size : ℕ) → Some (naturals zs) ≡ counts_of_parts (split line) → length zs ≡ size → IsTrue (nat_eq size n) → read_counts n line ≡ Some (naturals zs)
row_read line zs n size read is same =
    let equal : size ≡ n = grind (arith, nat_tests) in
    all_read line (naturals zs) n read (length-map zs unsigned_abs ∙ is ∙ equal)

pub row_unread : (line : List ℕ) (zs : List ℤ) (n size : ℕ) → Some (naturals zs) ≡ counts_of_parts (split line) → length zs ≡ size → nat_eq size n ≡ false → read_counts n line ≡ None
row_unread line zs n size read is other =
    let differs : size ≢ n = grind (arith, nat_tests) in
    few_read line (naturals zs) n read (λ same. differs (sym (length-map zs unsigned_abs ∙ is) ∙ same))
