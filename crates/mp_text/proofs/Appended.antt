-- What was appended to a text in pieces, one part after another.
use Rattle.std.proofs.Common.{◌≡◌, ◌≤◌, ℕ, List, [], ◌++◌, Option, Some, None, Ok, Err, Result, MatchResult, refl, sym, ◌∙◌, ap, arith}
use Rattle.std.proofs.lemmas.List.{append_assoc, append-nil}
use Rattle.std.proofs.lemmas.Option.{same_Some, none-some}
use Rattle.mp_edge.specs.Outside.{Tells, Puts, HasCause}
use Rattle.mp_edge.proofs.Counts.{Rose-within}
use Rattle.mp_edge.proofs.Told.{Tells-then, Tells-same, Tells-weaker}
use Rattle.mp_text.specs.Appending.{PassesOn, LostWithCause, Appends}

-- the rest behind two fronts
two_fronts : (old xs ys f mid g new : List ℕ) → old ++ xs ≡ f ++ mid → mid ++ ys ≡ g ++ new → old ++ (xs ++ ys) ≡ (f ++ g) ++ new
two_fronts old xs ys f mid g new first second =
    sym (append_assoc old xs ys) ∙ ap (λ bs. bs ++ ys) first ∙ append_assoc f mid ys ∙ ap (λ bs. f ++ bs) second ∙ sym (append_assoc f g new)

sunk_both : (was half now f g : List ℕ) → half ≡ was ++ f → now ≡ half ++ g → now ≡ was ++ (f ++ g)
sunk_both was half now f g first second = second ∙ ap (λ bs. bs ++ g) first ∙ append_assoc was f g

pass_none : (held : Option (List ℕ)) (was : List ℕ) → PassesOn [] held held was was
pass_none None was = (refl, refl)
pass_none (Some old) was = ([], append-nil old, sym (append-nil was))

pass_then : (xs ys : List ℕ) (old mid new : Option (List ℕ)) (was half now : List ℕ) → PassesOn xs old mid was half → PassesOn ys mid new half now → PassesOn (xs ++ ys) old new was now
pass_then xs ys None None new was half now first second = (second.0, second.1 ∙ first.1)
pass_then xs ys None (Some m) new was half now first second = absurd (none-some m (sym first.0))
pass_then xs ys (Some o) None None was half now first second =
    (first.0, (first.1.0 ++ ys, sym (append_assoc o xs ys) ∙ ap (λ bs. bs ++ ys) first.1.1 ∙ append_assoc first.0 first.1.0 ys), second.1 ∙ first.2)
pass_then xs ys (Some o) None (Some n) was half now first second = absurd (none-some n (sym second.0))
pass_then xs ys (Some o) (Some m) None was half now first second =
    (first.0 ++ second.0, (second.1.0, two_fronts o xs ys first.0 m second.0 second.1.0 first.1 second.1.1), sunk_both was half now first.0 second.0 first.2 second.2)
pass_then xs ys (Some o) (Some m) (Some n) was half now first second =
    (first.0 ++ second.0, two_fronts o xs ys first.0 m second.0 n first.1 second.1, sunk_both was half now first.0 second.0 first.2 second.2)

lost_none : (held : Option (List ℕ)) (count : ℕ) → LostWithCause held held count count
lost_none None count = tt
lost_none (Some old) count = tt

lost_then : (old mid new : Option (List ℕ)) (before half now : ℕ) → before ≤ half → half ≤ now → LostWithCause old mid before half → LostWithCause mid new half now → LostWithCause old new before now
lost_then None mid new before half now early late first second = tt
lost_then (Some o) mid (Some n) before half now early late first second = tt
lost_then (Some o) None None before half now early late first second = Rose-within before before half now (omega arith) first late
lost_then (Some o) (Some m) None before half now early late first second = Rose-within before half now now early second (omega arith)

-- nothing was appended
pub append_none : {held sunk : Option (List ℕ)} {count : ℕ} → Appends [] held held sunk sunk count count
append_none {held} {sunk} {count} = record { passed = Tells-same sunk (PassesOn [] held held) (pass_none held); later = omega arith; cause = lost_none held count }

-- one part after another
pub append_then : {xs ys : List ℕ} {old mid new sunk_old sunk_mid sunk_new : Option (List ℕ)} {before half now : ℕ}
    → Appends xs old mid sunk_old sunk_mid before half → Appends ys mid new sunk_mid sunk_new half now → Appends (xs ++ ys) old new sunk_old sunk_new before now
append_then {xs} {ys} {old} {mid} {new} {sunk_old} {sunk_mid} {sunk_new} {before} {half} {now} first second = record {
  passed = Tells-then sunk_old sunk_mid sunk_new (PassesOn xs old mid) (PassesOn ys mid new) (PassesOn (xs ++ ys) old new) (pass_then xs ys old mid new) first.passed second.passed;
  later = omega (arith, first.later, second.later);
  cause = lost_then old mid new before half now first.later second.later first.cause second.cause;
}

-- what is left of a whole text after its end
ended : {T E : Type 0} (r : Result T E) (text : List ℕ) (new : Option (List ℕ)) → MatchResult r (λ _. new ≡ Some []) (λ _. new ≡ None) → (was now : List ℕ) → PassesOn text (Some []) new was now → Puts r text was now
ended (Ok x) text (Some n) is was now pass = pass.2 ∙ ap (λ bs. was ++ bs) (sym (append-nil pass.0) ∙ ap (λ bs. pass.0 ++ bs) (sym (same_Some n [] is)) ∙ sym pass.1)
ended (Ok x) text None is was now pass = absurd (none-some [] is)
ended (Err e) text (Some n) is was now pass = absurd (none-some n (sym is))
ended (Err e) text None is was now pass = pass

ended_cause : {T E : Type 0} (r : Result T E) (new : Option (List ℕ)) (before now : ℕ) → MatchResult r (λ _. new ≡ Some []) (λ _. new ≡ None) → before ≤ now → LostWithCause (Some []) new before now → HasCause before now r
ended_cause (Ok x) new before now is later lost = record { later = later; failed = tt }
ended_cause (Err e) (Some n) before now is later lost = absurd (none-some n (sym is))
ended_cause (Err e) None before now is later lost = record { later = later; failed = lost }

-- a whole text and its end put the text
pub append_whole : {T E : Type 0} (r : Result T E) {text : List ℕ} {mid new sunk_old sunk_mid sunk_new : Option (List ℕ)} {before half now : ℕ}
    → Appends text (Some []) mid sunk_old sunk_mid before half → Appends [] mid new sunk_mid sunk_new half now → MatchResult r (λ _. new ≡ Some []) (λ _. new ≡ None)
    → Tells sunk_old sunk_new (Puts r text) × HasCause before now r
append_whole r {text} {mid} {new} {sunk_old} {sunk_mid} {sunk_new} {before} {half} {now} first second is =
    let whole : Appends (text ++ []) (Some []) new sunk_old sunk_new before now = append_then first second in
    let passed : Tells sunk_old sunk_new (PassesOn text (Some []) new) = rw (append-nil text) at whole.passed in
    (Tells-weaker sunk_old sunk_new (PassesOn text (Some []) new) (Puts r text) (ended r text new is) passed, ended_cause r new before now is whole.later whole.cause)
