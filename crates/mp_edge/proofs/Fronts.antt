-- The front of a list that a call took.
use Rattle.std.proofs.Common.{◌≡◌, ◌≤◌, ℕ, ◌+◌, List, ◌++◌, length, take, drop, ◌∙◌, ap, sym, arith}
use Rattle.std.proofs.lemmas.List.{take_at, take-append-drop, length-take-le, length-drop, drop-drop}

pub front_taken : (bytes buf mid : List ℕ) (at n : ℕ) → at + n ≤ length bytes → mid ≡ take n (drop at bytes) → drop at bytes ≡ take n (mid ++ drop n buf) ++ drop (at + n) bytes
front_taken bytes buf mid at n fits is =
    let size : length mid ≡ n = ap length is ∙ length-take-le n (drop at bytes) (omega (arith, length-drop at bytes)) in
    rw (take_at mid (drop n buf) n size, is, ← drop-drop n at bytes) (sym (take-append-drop n (drop at bytes)))
