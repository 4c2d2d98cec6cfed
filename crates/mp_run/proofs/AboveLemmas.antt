-- A stream is above a bucket at one line, or nowhere.
use Rattle.std.proofs.Common.{◌≡◌, ◌≤◌, ◌⊎◌, ◌^◌, ℕ, List, [], ◌∷◌, ◌++◌, length, refl, sym, ◌∙◌, ap, subst, arith, Some, inl, inr, ⊎_elim}
use Rattle.std.specs.declared.option.Option.{Option}
use Rattle.std.specs.List.{AllByRecursion}
use Rattle.std.proofs.lemmas.List.{append-nil, length-append}
use Rattle.mp_edge.specs.Outside.{Tells}
use Rattle.mp_model.specs.Network.{Network}
use Rattle.mp_model.specs.Arrivals.{IsPermitted}
use Rattle.mp_model.specs.Stream.{LineKind, arrivals_of_kinds}
use Rattle.mp_model.specs.Stream.LineKind.{arrivals_line}
use Rattle.mp_stream.specs.Course.{IsTaken}
use Rattle.mp_run.specs.Running.{StartsWith, IsAboveAt, Finished, RefusedAt, RefusedAbove, HasTooMany}
use Rattle.mp_stream.proofs.KindLemmas.{arrivals_there}
use Rattle.mp_stream.proofs.BucketLemmas.{none_above}

-- lines that go past a line above a bucket are not permitted
not_past : (net : Network) (text : List ℕ) (n p l : ℕ) (above : IsAboveAt net text n p l) (kinds more : List LineKind) → kinds ≡ above.kinds ++ arrivals_line above.counts ∷ more → IsPermitted net (arrivals_of_kinds kinds) → ⊥
not_past net text n p l above kinds more same permitted =
    none_above net (arrivals_of_kinds above.kinds) (arrivals_of_kinds more) above.counts l
    (subst (IsPermitted net) (ap arrivals_of_kinds same ∙ arrivals_there above.kinds more above.counts) permitted) above.above

whole_permitted : (net : Network) (text : List ℕ) (n p l : ℕ) → IsAboveAt net text n p l → (kinds : List LineKind) → StartsWith net text kinds [] → IsPermitted net (arrivals_of_kinds kinds) → ⊥
whole_permitted net text n p l above kinds whole permitted = not_past net text n p l above kinds above.more (sym (append-nil kinds) ∙ sym whole.lines ∙ above.lines.lines) permitted

-- a stream whose arrivals are permitted is nowhere above a bucket
pub not_excessive : (net : Network) (head : List ℕ) (n p l : ℕ) (left rest was now : Option (List ℕ)) → RefusedAbove net head n p l left rest was now
    → (text : List ℕ) → left ≡ Some text → (kinds : List LineKind) → StartsWith net text kinds [] → IsPermitted net (arrivals_of_kinds kinds) → ⊥
not_excessive net head n p l left rest was now refused text told kinds whole permitted =
    let at = refused.at in
    let read : Tells (Some text) rest (λ text rest. (more : List LineKind) × StartsWith net text at.kinds (refused.kind ∷ more)) =
    subst (λ (o : Option (List ℕ)). Tells o rest (λ text rest. (more : List LineKind) × StartsWith net text at.kinds (refused.kind ∷ more))) told at.read in
    let above : IsAboveAt net text n p l = record {
      kinds = at.kinds;
      counts = refused.refused.counts;
      more = read.2.0;
      number = at.number;
      period = refused.refused.period;
      lines = subst (λ kind. StartsWith net text at.kinds (kind ∷ read.2.0)) refused.refused.is read.2.1;
      permitted = at.permitted;
      above = refused.refused.first;
    } in
    whole_permitted net text n p l above kinds whole permitted

-- of two places in a list one is before the other, or they are one
abbrev Places : List LineKind → LineKind → List LineKind → LineKind → Type 0
Places xs x ys y = ((zs : List LineKind) × (ys ≡ xs ++ x ∷ zs)) ⊎ (((xs ≡ ys) × (x ≡ y)) ⊎ ((zs : List LineKind) × (xs ≡ ys ++ y ∷ zs)))

behind : (k : LineKind) (xs ys : List LineKind) (x y : LineKind) → Places xs x ys y → Places (k ∷ xs) x (k ∷ ys) y
behind k xs ys x y places =
    ⊎_elim (λ (later : (zs : List LineKind) × (ys ≡ xs ++ x ∷ zs)). inl (later.0, ap (λ ks. k ∷ ks) later.1))
    (λ (here : ((xs ≡ ys) × (x ≡ y)) ⊎ ((zs : List LineKind) × (xs ≡ ys ++ y ∷ zs))).
    ⊎_elim (λ (same : (xs ≡ ys) × (x ≡ y)). inr (inl (ap (λ ks. k ∷ ks) same.0, same.1)))
    (λ (before : (zs : List LineKind) × (xs ≡ ys ++ y ∷ zs)). inr (inr (before.0, ap (λ ks. k ∷ ks) before.1))) here) places

places : (xs ys us vs : List LineKind) (x y : LineKind) → xs ++ x ∷ us ≡ ys ++ y ∷ vs → Places xs x ys y
places [] [] us vs x y e = inr (inl (refl, cc))
places [] (k ∷ ys) us vs x y e = let first : x ≡ k = cc in inl (ys, ap (λ z. z ∷ ys) (sym first))
places (k ∷ xs) [] us vs x y e = let first : k ≡ y = cc in inr (inr (xs, ap (λ z. z ∷ xs) first))
places (k ∷ xs) (m ∷ ys) us vs x y e =
    let first : k ≡ m = cc in
    let rest : xs ++ x ∷ us ≡ ys ++ y ∷ vs = cc in
    subst (λ z. Places (k ∷ xs) x (z ∷ ys) y) first (behind k xs ys x y (places xs ys us vs x y rest))

taken_at : (kinds more : List LineKind) (kind : LineKind) → AllByRecursion IsTaken (kinds ++ kind ∷ more) → IsTaken kind
taken_at [] more kind all = all.0
taken_at (k ∷ ks) more kind all = taken_at ks more kind all.1

module _ (net : Network) (text : List ℕ) (n p l : ℕ) (above : IsAboveAt net text n p l) (left rest was now : Option (List ℕ)) (told : left ≡ Some text) where
  -- a stream that is above a bucket is not read to its end
  pub not_finished : (head : List ℕ) → Finished net head left rest was now → ⊥
  not_finished head finished =
      let read : Tells (Some text) rest (λ text rest. (rest ≡ []) × StartsWith net text finished.kinds []) = subst (λ (o : Option (List ℕ)). Tells o rest (λ text rest. (rest ≡ []) × StartsWith net text finished.kinds [])) told finished.read in
      whole_permitted net text n p l above finished.kinds read.2.1 finished.permitted

  -- nor refused at a line that is not taken
  pub not_refused_at : (head : List ℕ) (kind : LineKind) (m : ℕ) → (IsTaken kind → ⊥) → RefusedAt net head kind m left rest was now → ⊥
  not_refused_at head kind m untaken refused =
      let read : Tells (Some text) rest (λ text rest. (more : List LineKind) × StartsWith net text refused.kinds (kind ∷ more)) =
      subst (λ (o : Option (List ℕ)). Tells o rest (λ text rest. (more : List LineKind) × StartsWith net text refused.kinds (kind ∷ more))) told refused.read in
      let where_it_is = places above.kinds refused.kinds above.more read.2.0 (arrivals_line above.counts) kind (sym above.lines.lines ∙ read.2.1.lines) in
      ⊎_elim (λ (later : (zs : List LineKind) × (refused.kinds ≡ above.kinds ++ arrivals_line above.counts ∷ zs)). not_past net text n p l above refused.kinds later.0 later.1 refused.permitted)
      (λ (here : ((above.kinds ≡ refused.kinds) × (arrivals_line above.counts ≡ kind)) ⊎ ((zs : List LineKind) × (above.kinds ≡ refused.kinds ++ kind ∷ zs))).
      ⊎_elim (λ (same : (above.kinds ≡ refused.kinds) × (arrivals_line above.counts ≡ kind)). untaken (subst IsTaken same.1 tt))
      (λ (before : (zs : List LineKind) × (above.kinds ≡ refused.kinds ++ kind ∷ zs)). untaken (taken_at refused.kinds before.0 kind (subst (AllByRecursion IsTaken) before.1 above.lines.taken))) here) where_it_is

  -- nor has it too many lines before that
  pub not_many : (head : List ℕ) → n ≤ 2 ^ 48 → HasTooMany net head left rest was now → ⊥
  not_many head few many =
      let read : Tells (Some text) rest (λ text rest. (kind : LineKind) × (more : List LineKind) × StartsWith net text many.kinds (kind ∷ more)) =
      subst (λ (o : Option (List ℕ)). Tells o rest (λ text rest. (kind : LineKind) × (more : List LineKind) × StartsWith net text many.kinds (kind ∷ more))) told many.read in
      let kind = read.2.0 in
      let where_it_is = places above.kinds many.kinds above.more read.2.1 (arrivals_line above.counts) kind (sym above.lines.lines ∙ read.2.2.lines) in
      let number = above.number in
      let size = many.number in
      ⊎_elim (λ (later : (zs : List LineKind) × (many.kinds ≡ above.kinds ++ arrivals_line above.counts ∷ zs)). not_past net text n p l above many.kinds later.0 later.1 many.permitted)
      (λ (here : ((above.kinds ≡ many.kinds) × (arrivals_line above.counts ≡ kind)) ⊎ ((zs : List LineKind) × (above.kinds ≡ many.kinds ++ kind ∷ zs))).
      ⊎_elim (λ (same : (above.kinds ≡ many.kinds) × (arrivals_line above.counts ≡ kind)). absurd (omega (arith, ap (length {A = LineKind}) same.0)))
      (λ (before : (zs : List LineKind) × (above.kinds ≡ many.kinds ++ kind ∷ zs)). absurd (omega (arith, ap (length {A = LineKind}) before.1, length-append many.kinds (kind ∷ before.0)))) here) where_it_is
