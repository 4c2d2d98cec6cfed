-- What is told over calls in a row.
use Rattle.std.proofs.Common.{IsSomeAnd, ◌≡◌, ℕ, List, Some, None, refl, sym, ◌∙◌, subst}
use Rattle.std.proofs.lemmas.Option.{same_Some}
use Rattle.std.specs.declared.option.Option.{Option}
use Rattle.mp_edge.specs.Outside.{Tells, OfFile, file_named}

pub Tells-weaker : {X : Type 0} (old new : Option X) (R Q : X → X → Type 0) → ((x y : X) → R x y → Q x y) → Tells old new R → Tells old new Q
Tells-weaker None new R Q f t = tt
Tells-weaker (Some x) new R Q f t = (t.0, t.1, f x t.0 t.2)

-- one call after another
pub Tells-then : {X : Type 0} (old mid new : Option X) (R Q P : X → X → Type 0) → ((x y z : X) → R x y → Q y z → P x z) → Tells old mid R → Tells mid new Q → Tells old new P
Tells-then None mid new R Q P f t u = tt
Tells-then (Some x) mid new R Q P f t u =
    let v : Tells (Some t.0) new Q = subst (λ m. Tells m new Q) t.1 u in
    (v.0, v.1, f x t.0 v.0 t.2 v.2)

-- nothing was done
pub Tells-same : {X : Type 0} (old : Option X) (R : X → X → Type 0) → ((x : X) → R x x) → Tells old old R
Tells-same None R f = tt
Tells-same (Some x) R f = (x, refl, f x)

-- two facts about one call
pub Tells-both : {X : Type 0} (old new : Option X) (R Q P : X → X → Type 0) → ((x y : X) → R x y → Q x y → P x y) → Tells old new R → Tells old new Q → Tells old new P
Tells-both None new R Q P f t u = tt
Tells-both (Some x) new R Q P f t u =
    let same : u.0 ≡ t.0 = same_Some u.0 t.0 (sym u.1 ∙ t.1) in
    (t.0, t.1, f x t.0 t.2 (subst (λ y. Q x y) same u.2))

pub IsSomeAnd-weaker : {X : Type 0} (o : Option X) (P Q : X → Type 0) → ((x : X) → P x → Q x) → IsSomeAnd o P → IsSomeAnd o Q
IsSomeAnd-weaker None P Q f h = h
IsSomeAnd-weaker (Some x) P Q f h = f x h

pub OfFile-weaker : (files : Option (List (List ℕ × List ℕ))) (name : List ℕ) (P Q : List ℕ → Type 0) → ((bytes : List ℕ) → P bytes → Q bytes) → OfFile files name P → OfFile files name Q
OfFile-weaker None name P Q f h = h
OfFile-weaker (Some fs) name P Q f h = IsSomeAnd-weaker (file_named fs name) P Q f h
