-- What a read behind the bytes that are there makes of them.
use Rattle.std.proofs.Common.{◌≡◌, ◌≤◌, ℕ, ◌+◌, ◌-◌, List, [], ◌++◌, length, take, drop, sym, ◌∙◌, ap, subst, arith}
use Rattle.std.proofs.lemmas.List.{append_assoc, append_cancel_left, take-append-le, take_at, length-drop, length-take-le}
use lib.Seq.{paste}
use Rattle.std.proofs.Math.Seq.{take-append-add}
use borrow.Rule.Slice.PartMut.{put_mid, post_of}

pub filled : (buf part : List ℕ) (have k count : ℕ) (was now : List ℕ) → have ≤ length buf → count ≤ length part → was ≡ take count part ++ now
    → take have buf ++ was ≡ take (have + count) (put_mid have k buf part) ++ now
filled buf part have k count was now within given is =
    let front : take (have + count) (put_mid have k buf part) ≡ take have buf ++ take count (part ++ post_of have k buf) =
    let P : ℕ → Type 0 = λ m. take (m + count) (put_mid have k buf part) ≡ take have buf ++ take count (part ++ post_of have k buf) in
    subst P (length-take-le have buf within) (take-append-add (take have buf) (part ++ post_of have k buf) count) in
    rw (front, take-append-le count part (post_of have k buf) given, is)
    (sym (append_assoc (take have buf) (take count part) now))

-- where a fill adds nothing, nothing is left
pub none_left : (have n : ℕ) (before after was now : List ℕ) → take have after ≡ take have before → n ≡ have
    → (take have before ++ was ≡ take n after ++ now) × (n ≡ have → was ≡ []) → now ≡ []
none_left have n before after was now kept same fills =
    let whole : take have before ++ was ≡ take have before ++ now = fills.0 ∙ ap (λ m. take m after ++ now) same ∙ ap (λ xs. xs ++ now) kept in
    sym (append_cancel_left (take have before) was now whole) ∙ fills.1 same

-- a part copied to the front
pub copied_front : (buf after : List ℕ) (i j : ℕ) → i ≤ j → j ≤ length buf → after ≡ paste buf 0 (drop i buf) (j - i) → take (j - i) after ≡ take (j - i) (drop i buf)
copied_front buf after i j low high is =
    rw is (take_at (take (j - i) (drop i buf)) (drop (0 + (j - i)) buf) (j - i) (length-take-le (j - i) (drop i buf) (omega (arith, length-drop i buf))))
