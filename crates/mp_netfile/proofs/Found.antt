-- The first part that has a name, counted from 1.
use Rattle.std.proofs.Common.{◌≡◌, ℕ, ◌+◌, ◌<◌, ◌≤◌, true, false, List, [], ◌∷◌, length, map, drop, get_or, Some, None, unwrap_or, refl, ap, sym, ◌∙◌, arith}
use Rattle.std.proofs.lemmas.Grind.{common_steps}
use Rattle.std.specs.List.{position_from}
use Rattle.std.specs.Str.{bytes_eq}
use Rattle.std.proofs.lemmas.List.{drop_more}
use Rattle.mp_netfile.specs.Meaning.{number_of}

-- a search of the names of some parts gives what a search from place i on gives
pub record FoundFrom {A : Type 0} (named : A → List ℕ) (name : List ℕ) (parts : List A) (i : ℕ) : Type 0 where
  pub same : position_from (λ other. bytes_eq other name) 1 (map named parts) ≡ position_from (λ other. bytes_eq other name) (i + 1) (map named (drop i parts))

pub FoundFrom-start : {A : Type 0} (named : A → List ℕ) (name : List ℕ) (parts : List A) → FoundFrom named name parts 0
FoundFrom-start named name parts = record { same = refl }

pub FoundFrom-more : {A : Type 0} (named : A → List ℕ) (name : List ℕ) (parts : List A) (i : ℕ) (p : A) → FoundFrom named name parts i → i < length parts → p ≡ get_or parts i p → bytes_eq (named p) name ≡ false
    → FoundFrom named name parts (i + 1)
FoundFrom-more named name parts i p h below is other =
    let e : drop i parts ≡ p ∷ drop (i + 1) parts = drop_more parts i p below ∙ ap (λ x. x ∷ drop (i + 1) parts) (sym is) in
    record { same = h.same ∙ rw e (rw other) }

pub FoundFrom-hit : {A : Type 0} (named : A → List ℕ) (name : List ℕ) (parts : List A) (i : ℕ) (p : A) → FoundFrom named name parts i → i < length parts → p ≡ get_or parts i p → bytes_eq (named p) name ≡ true
    → i + 1 ≡ number_of (map named parts) name
FoundFrom-hit named name parts i p h below is passes =
    let e : drop i parts ≡ p ∷ drop (i + 1) parts = drop_more parts i p below ∙ ap (λ x. x ∷ drop (i + 1) parts) (sym is) in
    let at : position_from (λ other. bytes_eq other name) 1 (map named parts) ≡ Some (i + 1) = h.same ∙ rw e (rw passes refl) in
    sym (ap (λ o. unwrap_or o 0) at)

none_past : {A : Type 0} (xs : List A) (i : ℕ) → length xs ≤ i → drop i xs ≡ []
none_past xs i h = grind (arith, common_steps)

pub FoundFrom-none : {A : Type 0} (named : A → List ℕ) (name : List ℕ) (parts : List A) (i : ℕ) → FoundFrom named name parts i → length parts ≤ i → 0 ≡ number_of (map named parts) name
FoundFrom-none named name parts i h past =
    let nowhere : position_from (λ other. bytes_eq other name) 1 (map named parts) ≡ None = h.same ∙ rw (none_past parts i past) refl in
    sym (ap (λ o. unwrap_or o 0) nowhere)

pub ruleset found = (FoundFrom-start, FoundFrom-more, FoundFrom-hit, FoundFrom-none)
