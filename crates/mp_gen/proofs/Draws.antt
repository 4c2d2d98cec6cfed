-- What is drawn is permitted, one period after the other.
use Rattle.std.proofs.Common.{◌≡◌, ◌==◌, ℕ, suc, Bool, true, false, cond, ◌||◌, List, [], ◌∷◌, ◌++◌, length, arith, refl, sym, ◌∙◌, ap, subst, append_assoc, append-nil}
use Rattle.std.specs.List.{AllByRecursion}
use Rattle.std.proofs.lemmas.Bool.{false≢true, eqb-true}
use Rattle.rand_pcg.specs.Lcg.{Lcg}
use Rattle.rand_pcg.specs.Pcg.{pcg32}
use Rattle.mp_model.specs.Network.{Network, has, link_at, fed}
use Rattle.mp_model.specs.Arrivals.{KeepsTo, count_in, arrivals_of, counts_of, HasCounts, IsPermitted}
use Rattle.mp_laws.specs.Buckets.{IsFirstAbove}
use Rattle.mp_laws.proofs.Lists.{each_in}
use Rattle.mp_laws.proofs.Windows.{keeps_to}
use Rattle.mp_gen.specs.DemoArrivals.{IsArrival, IsDrawn, AreDrawn}
use Rattle.mp_gen.proofs.Rooms.{lesser_keeps}

-- with its arrivals a link keeps to its bucket
arrival_keeps : (net : Network) (A : List (List ℕ)) (l word count : ℕ) → IsArrival net A l word count → KeepsTo net.per (link_at net l).burst (link_at net l).rate (counts_of net A l ++ count ∷ [])
arrival_keeps net A l word count is =
    lesser_keeps net.per (link_at net l).burst (link_at net l).rate (counts_of net A l) is.most count (omega (arith, is.lesser)) is.is_most.keeps

-- each link of a period keeps to its bucket
drawn_keeps : (net : Network) (A : List (List ℕ)) (ls : List ℕ) (words : Lcg) (counts : List ℕ) (left : Lcg) → IsDrawn net A ls words counts left → (l : ℕ) → has ls l ≡ true
    → KeepsTo net.per (link_at net l).burst (link_at net l).rate (counts_of net A l ++ count_in ls counts l ∷ [])
drawn_keeps net A [] words counts left drawn l h = absurd (false≢true h)
drawn_keeps net A (f ∷ ls) words [] left drawn l h = absurd drawn
drawn_keeps net A (f ∷ ls) words (c ∷ cs) left drawn l h = go (λ e. drawn_keeps net A ls (pcg32 words).1 cs left drawn.1 l e) (f == l) refl
  where
    Keeps : ℕ → ℕ → Type 0
    Keeps m count = KeepsTo net.per (link_at net m).burst (link_at net m).rate (counts_of net A m ++ count ∷ [])

    go : (has ls l ≡ true → Keeps l (count_in ls cs l)) → (b : Bool) → (f == l) ≡ b → Keeps l (cond b c (count_in ls cs l))
    go more true e = subst (λ m. Keeps m c) (eqb-true f l e) (arrival_keeps net A f (pcg32 words).0 c drawn.0)
    go more false e = more (sym (ap (λ b. b || has ls l) e) ∙ h)

-- there is a count per link
pub drawn_counts : (net : Network) (A : List (List ℕ)) (ls : List ℕ) (words : Lcg) (counts : List ℕ) (left : Lcg) → IsDrawn net A ls words counts left → length counts ≡ length ls
drawn_counts net A [] words [] left drawn = refl
drawn_counts net A [] words (c ∷ cs) left drawn = absurd drawn
drawn_counts net A (l ∷ ls) words [] left drawn = absurd drawn
drawn_counts net A (l ∷ ls) words (c ∷ cs) left drawn = ap suc (drawn_counts net A ls (pcg32 words).1 cs left drawn.1)

counts_more : (net : Network) (A : List (List ℕ)) (counts : List ℕ) (l : ℕ) → counts_of net (A ++ counts ∷ []) l ≡ counts_of net A l ++ arrivals_of net counts l ∷ []
counts_more net [] counts l = refl
counts_more net (a ∷ A) counts l = ap (λ cs. arrivals_of net a l ∷ cs) (counts_more net A counts l)

all_more : (P : List ℕ → Type 0) (A : List (List ℕ)) (counts : List ℕ) → AllByRecursion P A → P counts → AllByRecursion P (A ++ counts ∷ [])
all_more P [] counts h p = (p, tt)
all_more P (a ∷ A) counts h p = (h.0, all_more P A counts h.1 p)

-- with the arrivals of one more period each fed link keeps to its bucket
keeps_next : (net : Network) (A : List (List ℕ)) (words : Lcg) (counts : List ℕ) (left : Lcg) → IsDrawn net A (fed net) words counts left → (l : ℕ) → has (fed net) l ≡ true
    → KeepsTo net.per (link_at net l).burst (link_at net l).rate (counts_of net (A ++ counts ∷ []) l)
keeps_next net A words counts left drawn l h =
    subst (KeepsTo net.per (link_at net l).burst (link_at net l).rate) (sym (counts_more net A counts l)) (drawn_keeps net A (fed net) words counts left drawn l h)

pub permitted_next : (net : Network) (A : List (List ℕ)) (words : Lcg) (counts : List ℕ) (left : Lcg) → IsPermitted net A → IsDrawn net A (fed net) words counts left → IsPermitted net (A ++ counts ∷ [])
permitted_next net A words counts left permitted drawn = record {
  counts = all_more (HasCounts net) A counts permitted.counts (drawn_counts net A (fed net) words counts left drawn);
  windows = each_in _ (fed net) (λ l h. keeps_next net A words counts left drawn l h);
}

-- so no link is above its bucket
pub none_above : (net : Network) (A : List (List ℕ)) (words : Lcg) (counts : List ℕ) (left : Lcg) (l : ℕ) → IsDrawn net A (fed net) words counts left → ¬ IsFirstAbove net A counts l
none_above net A words counts left l drawn is = is.above (keeps_next net A words counts left drawn l is.of_fed)

permitted_all : (net : Network) (A : List (List ℕ)) (words : Lcg) (more : List (List ℕ)) (left : Lcg) → IsPermitted net A → AreDrawn net A words more left → IsPermitted net (A ++ more)
permitted_all net A words [] left permitted drawn = subst (IsPermitted net) (sym (append-nil A)) permitted
permitted_all net A words (counts ∷ more) left permitted drawn =
    subst (IsPermitted net) (append_assoc A (counts ∷ []) more)
    (permitted_all net (A ++ counts ∷ []) drawn.0 more left (permitted_next net A words counts drawn.0 permitted drawn.1) drawn.2)

permitted_empty : (net : Network) → IsPermitted net []
permitted_empty net = record { counts = tt; windows = each_in _ (fed net) (λ l f. keeps_to net.per (link_at net l).burst (link_at net l).rate [] tt) }

-- all that is drawn from the opening on is permitted
pub drawn_permitted : (net : Network) (words : Lcg) (A : List (List ℕ)) (left : Lcg) → AreDrawn net [] words A left → IsPermitted net A
drawn_permitted net words A left drawn = permitted_all net [] words A left (permitted_empty net) drawn

-- one more period is drawn from what is left
more_after : (net : Network) (before : List (List ℕ)) (words : Lcg) (A : List (List ℕ)) (next : Lcg) (counts : List ℕ) (left : Lcg) → AreDrawn net before words A next → IsDrawn net (before ++ A) (fed net) next counts left
    → AreDrawn net before words (A ++ counts ∷ []) left
more_after net before words [] next counts left drawn more =
    (left, subst (λ (w : Lcg). IsDrawn net before (fed net) w counts left) drawn (subst (λ (B : List (List ℕ)). IsDrawn net B (fed net) next counts left) (append-nil before) more), refl)
more_after net before words (a ∷ A) next counts left drawn more = (
  drawn.0,
  drawn.1,
  more_after net (before ++ a ∷ []) drawn.0 A next counts left drawn.2
      (subst (λ (B : List (List ℕ)). IsDrawn net B (fed net) next counts left) (sym (append_assoc before (a ∷ []) A)) more),
)

pub drawn_more : (net : Network) (words : Lcg) (A : List (List ℕ)) (next : Lcg) (counts : List ℕ) (left : Lcg) → AreDrawn net [] words A next → IsDrawn net A (fed net) next counts left → AreDrawn net [] words (A ++ counts ∷ []) left
drawn_more net words A next counts left drawn more = more_after net [] words A next counts left drawn more
