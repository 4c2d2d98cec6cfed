-- Stages that are put behind one another in a flat list.
use Rattle.std.proofs.Common.{◌≡◌, ◌≤◌, ◌<◌, ℕ, ◌+◌, List, [], ◌∷◌, ◌++◌, length, map, get_or, take, drop, arith, sym, ◌∙◌, ap, ap₂, subst, refl, length-append}
use Rattle.std.specs.List.{AllByRecursion}
use Rattle.std.proofs.Math.Seq.{drop-append_seam}
use Rattle.std.proofs.lemmas.List.{take-append-le, append_assoc, append-nil, take_all, map-append, take_more}
use Rattle.mp_net.specs.Rows.{AreSpans, Extends, lying_in}
use Rattle.mp_net.specs.declared.greens.StageSpan.{StageSpan}
use Rattle.mp_net.proofs.Filled.{FilledTo, FilledTo-more, FilledTo-map}

pub Extends-start : (xs ys : List ℕ) → xs ≡ ys → Extends xs ys
Extends-start xs ys e = ([], sym e ∙ sym (append-nil xs))

pub Extends-more : (xs ys more zs : List ℕ) → Extends xs ys → zs ≡ ys ++ more → Extends xs zs
Extends-more xs ys more zs h e = (h.0 ++ more, e ∙ ap (λ ws. ws ++ more) h.1 ∙ append_assoc xs h.0 more)

pub Extends-trans : (xs ys zs : List ℕ) → Extends xs ys → Extends ys zs → Extends xs zs
Extends-trans xs ys zs a b = Extends-more xs ys b.0 zs a b.1

-- a span lies in a list
abbrev pub Lies : List ℕ → StageSpan → Type 0
Lies greens span = (span.start ≤ span.end) × (span.end ≤ length greens)

lies_more : (greens more : List ℕ) (spans : List StageSpan) → AllByRecursion (Lies greens) spans → AllByRecursion (Lies (greens ++ more)) spans
lies_more greens more [] h = tt
lies_more greens more (span ∷ spans) h = ((h.0.0, omega (arith, h.0.1, length-append greens more)), lies_more greens more spans h.1)

same_more : (greens more : List ℕ) (spans : List StageSpan) → AllByRecursion (Lies greens) spans → map (lying_in (greens ++ more)) spans ≡ map (lying_in greens) spans
same_more greens more [] h = refl
same_more greens more (span ∷ spans) h = ap₂ ◌∷◌ (ap (drop span.start) (take-append-le span.end greens more h.0.1)) (same_more greens more spans h.1)

-- spans hold their stages where the list grows
pub spans_kept : (greens now : List ℕ) (stages : List (List ℕ)) (spans : List StageSpan) → AreSpans greens stages spans → Extends greens now → AreSpans now stages spans
spans_kept greens now stages spans h grown =
    subst (λ xs. AreSpans xs stages spans) (sym grown.1)
    (record { within = lies_more greens grown.0 spans h.within; hold = same_more greens grown.0 spans h.within ∙ h.hold })

all_more : {X : Type 0} (P : X → Type 0) (xs : List X) (x : X) → AllByRecursion P xs → P x → AllByRecursion P (xs ++ x ∷ [])
all_more P [] x h p = (p, tt)
all_more P (y ∷ ys) x h p = (h.0, all_more P ys x h.1 p)

-- one more stage
pub spans_more : (greens now stage : List ℕ) (stages : List (List ℕ)) (spans : List StageSpan) (span : StageSpan) → AreSpans greens stages spans → now ≡ greens ++ stage → span.start ≡ length greens → span.end ≡ length greens + length stage →
    AreSpans now (stages ++ stage ∷ []) (spans ++ span ∷ [])
spans_more greens now stage stages spans span h e start end =
    subst (λ xs. AreSpans xs (stages ++ stage ∷ []) (spans ++ span ∷ [])) (sym e)
    (record {
      within = all_more (Lies (greens ++ stage)) spans span (lies_more greens stage spans h.within) (omega (arith, start, end), omega (arith, end, length-append greens stage));
      hold = map-append (lying_in (greens ++ stage)) spans (span ∷ []) ∙ ap₂ ◌++◌ (same_more greens stage spans h.within ∙ h.hold) (ap (λ xs. xs ∷ []) here);
    })
  where
    here : lying_in (greens ++ stage) span ≡ stage
    here = ap₂ drop start (take_all span.end (greens ++ stage) (omega (arith, end, length-append greens stage))) ∙ drop-append_seam greens stage

-- no span yet
pub spans_start : (greens : List ℕ) (spans : List StageSpan) → spans ≡ [] → AreSpans greens [] spans
spans_start greens spans e = subst (AreSpans greens []) (sym e) (record { within = tt; hold = refl })

-- the rows of spans hold their stages where the list grows
pub rows_more : {X : Type 0} (stages : ℕ → List (List ℕ)) (of : X → List StageSpan) (greens now : List ℕ) (i : ℕ) (rows more : List X) (row : X) → FilledTo (λ j spans. AreSpans greens (stages j) (of spans)) i rows → Extends greens now → more ≡ rows ++ row ∷ [] → AreSpans now (stages i) (of row) →
    FilledTo (λ j spans. AreSpans now (stages j) (of spans)) (i + 1) more
rows_more stages of greens now i rows more row filled grown e here =
    FilledTo-more (λ j spans. AreSpans now (stages j) (of spans)) i rows more row
    (FilledTo-map (λ j spans. AreSpans greens (stages j) (of spans)) (λ j spans. AreSpans now (stages j) (of spans)) i rows filled (λ j spans h. spans_kept greens now (stages j) (of spans) h grown)) e here

-- one more stage of a list that is gone through
pub stages_more : {X : Type 0} (of : X → List ℕ) (xs : List X) (x : X) (i : ℕ) (greens now : List ℕ) (spans more : List StageSpan) (span : StageSpan) → i < length xs → x ≡ get_or xs i x → AreSpans greens (map of (take i xs)) spans → now ≡ greens ++ of x → span.start ≡ length greens → span.end ≡ length greens + length (of x) → more ≡ spans ++ span ∷ [] →
    AreSpans now (map of (take (i + 1) xs)) more
stages_more of xs x i greens now spans more span within at h e start end last =
    let stages : map of (take i xs) ++ of x ∷ [] ≡ map of (take (i + 1) xs) =
    sym (map-append of (take i xs) (x ∷ [])) ∙ ap (map of) (ap (λ y. take i xs ++ y ∷ []) at ∙ sym (take_more xs i x within)) in
    subst (λ ss. AreSpans now ss more) stages (subst (AreSpans now (map of (take i xs) ++ of x ∷ [])) (sym last) (spans_more greens now (of x) (map of (take i xs)) spans span h e start end))
