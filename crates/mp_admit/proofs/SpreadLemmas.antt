-- The values of a junction over all movements, and what they bring to the links.
use Rattle.std.proofs.Common.{to_z-of_z, ◌≡◌, ◌≢◌, ◌==◌, ℕ, ◌+◌, ◌-◌, ◌<◌, ◌≤◌, Bool, true, false, cond, List, [], ◌∷◌, ◌++◌, drop, get_or, length, ℤ, pos, Option, Some, None, IfSome, option_and_then, refl, ap, sym, ◌∙◌, subst, arith}
use Rattle.std.proofs.lemmas.Bool.{eqb-true, eqb-false}
use Rattle.std.proofs.lemmas.List.{drop_all, drop_more}
use Rattle.mp_num.specs.Passing.{stepped}
use Rattle.mp_model.specs.Network.{Network, movement_numbers, link_numbers, out_of, share_of, to_of, has}
use Rattle.mp_model.specs.NetworkRules.{IsNetwork}
use Rattle.mp_model.specs.Certificate.{int_entry}
use Rattle.mp_laws.proofs.Lists.{at_in}
use Rattle.mp_flow.proofs.RowLoopLemmas.{Lining, lining_start, lining_more, lining_end, movement_out}
use Rattle.mp_num.specs.Operations.{times, plus, num, added, summed}
use Rattle.mp_verdict.specs.Vector.{value_beside, link_value}
use Rattle.mp_admit.proofs.TermLemmas.{among, has_numbers}

-- ---- the value beside a movement
pub record Seeking (ms : List ℕ) (zs : List ℤ) (k i : ℕ) : Type 0 where
  pub rest : value_beside ms zs k ≡ value_beside (drop i ms) (drop i zs) k

pub seeking_start : (ms : List ℕ) (zs : List ℤ) (k : ℕ) → Seeking ms zs k 0
seeking_start ms zs k = record { rest = refl }

beside_at : (ms : List ℕ) (zs : List ℤ) (k i : ℕ) → i < length ms → i < length zs → value_beside (drop i ms) (drop i zs) k ≡ cond (get_or ms i 0 == k) (get_or zs i (pos 0)) (value_beside (drop (i + 1) ms) (drop (i + 1) zs) k)
beside_at ms zs k i h l = rw (drop_more ms i 0 h, drop_more zs i (pos 0) l) refl

by_test : (b : Bool) (a k : ℕ) (z r : ℤ) → (a == k) ≡ b → a ≡ k → cond (a == k) z r ≡ z
by_test true a k z r e s = ap (λ t. cond t z r) e
by_test false a k z r e s = absurd (eqb-false a k e s)

by_other : (b : Bool) (a k : ℕ) (z r : ℤ) → (a == k) ≡ b → a ≢ k → cond (a == k) z r ≡ r
by_other true a k z r e s = absurd (s (eqb-true a k e))
by_other false a k z r e s = ap (λ t. cond t z r) e

pub seeking_found : (ms : List ℕ) (zs : List ℤ) (k i : ℕ) → Seeking ms zs k i → i < length ms → length zs ≡ length ms → get_or ms i 0 ≡ k → value_beside ms zs k ≡ get_or zs i (pos 0)
seeking_found ms zs k i s h l e = s.rest ∙ beside_at ms zs k i h (omega (arith, l)) ∙ by_test (get_or ms i 0 == k) (get_or ms i 0) k _ _ refl e

pub seeking_more : (ms : List ℕ) (zs : List ℤ) (k i : ℕ) → Seeking ms zs k i → i < length ms → length zs ≡ length ms → get_or ms i 0 ≢ k → Seeking ms zs k (i + 1)
seeking_more ms zs k i s h l e = record { rest = s.rest ∙ beside_at ms zs k i h (omega (arith, l)) ∙ by_other (get_or ms i 0 == k) (get_or ms i 0) k _ _ refl e }

pub seeking_end : (ms : List ℕ) (zs : List ℤ) (k i : ℕ) → Seeking ms zs k i → length ms ≤ i → value_beside ms zs k ≡ pos 0
seeking_end ms zs k i s h = s.rest ∙ rw (drop_all i ms h) refl

pub ruleset seeking = (to_z-of_z, seeking_start, seeking_found, seeking_more, seeking_end)

-- ---- over all movements
pub ruleset spreading = (to_z-of_z, lining_start, lining_more, lining_end)

pub ruleset adding = (to_z-of_z)

-- ---- what the values bring to a link
pub record Bringing (term : ℕ → Option ℤ) (ks : List ℕ) (i : ℕ) (sum : ℤ) : Type 0 where
  pub rest : summed term ks ≡ stepped (added term) sum (drop i ks)

pub bringing_start : (term : ℕ → Option ℤ) (ks : List ℕ) → Bringing term ks 0 (pos 0)
unfolding summed
bringing_start term ks = record { rest = refl }

run_at : (term : ℕ → Option ℤ) (sum : ℤ) (ks : List ℕ) (i : ℕ) → i < length ks → stepped (added term) sum (drop i ks) ≡ option_and_then (λ t. stepped (added term) t (drop (i + 1) ks)) (plus (Some sum) (term (get_or ks i 0)))
unfolding stepped
run_at term sum ks i h = rw (drop_more ks i 0 h) refl

pub bringing_more : (term : ℕ → Option ℤ) (ks : List ℕ) (i : ℕ) (sum next n : ℤ) → n ≡ next → Bringing term ks i sum → i < length ks → plus (Some sum) (term (get_or ks i 0)) ≡ Some next → Bringing term ks (i + 1) n
bringing_more term ks i sum next n w s h e = record { rest = s.rest ∙ run_at term sum ks i h ∙ ap (option_and_then (λ t. stepped (added term) t (drop (i + 1) ks))) (e ∙ ap Some (sym w)) }

pub bringing_fails : (term : ℕ → Option ℤ) (ks : List ℕ) (i : ℕ) (sum : ℤ) → Bringing term ks i sum → i < length ks → plus (Some sum) (term (get_or ks i 0)) ≡ None → summed term ks ≡ None
bringing_fails term ks i sum s h e = s.rest ∙ run_at term sum ks i h ∙ ap (option_and_then (λ t. stepped (added term) t (drop (i + 1) ks))) e

pub bringing_end : (term : ℕ → Option ℤ) (ks : List ℕ) (i : ℕ) (sum : ℤ) → Bringing term ks i sum → length ks ≤ i → summed term ks ≡ Some sum
unfolding stepped
bringing_end term ks i sum s h = s.rest ∙ rw (drop_all i ks h) refl

pub link_fails : (net : Network) (values : List ℤ) (l : ℕ) (ks : List ℕ) (i : ℕ) (sum : ℤ) → Bringing (λ k. times (num (share_of net k)) (Some (int_entry values k))) ks i sum → ks ≡ out_of net l → i < length ks →
    plus (Some sum) (times (num (share_of net (get_or ks i 0))) (Some (int_entry values (get_or ks i 0)))) ≡ None → link_value net values l ≡ None
unfolding link_value
link_fails net values l ks i sum s e h n = ap (summed (λ k. times (num (share_of net k)) (Some (int_entry values k)))) (sym e) ∙ bringing_fails (λ k. times (num (share_of net k)) (Some (int_entry values k))) ks i sum s h n

pub link_end : (net : Network) (values : List ℤ) (l : ℕ) (ks : List ℕ) (i : ℕ) (sum : ℤ) → Bringing (λ k. times (num (share_of net k)) (Some (int_entry values k))) ks i sum → ks ≡ out_of net l → length ks ≤ i → link_value net values l ≡ Some sum
unfolding link_value
link_end net values l ks i sum s e h = ap (summed (λ k. times (num (share_of net k)) (Some (int_entry values k)))) (sym e) ∙ bringing_end (λ k. times (num (share_of net k)) (Some (int_entry values k))) ks i sum s h

pub ruleset bringing = (to_z-of_z, movement_out, bringing_start)

-- ---- the link that a movement goes to
pub to_known : (net : Network) (k l : ℕ) → IsNetwork net → (1 ≤ k) × (k ≤ length net.movements) → to_of net k ≡ Some l → (1 ≤ l) × (l ≤ length net.links)
to_known net k l ok h e = among (length net.links) l (go (to_of net k) e (at_in (λ k. IfSome (to_of net k) (λ l. has (link_numbers net) l ≡ true)) k (movement_numbers net) (has_numbers (length net.movements) k h) ok.to))
  where
    go : (o : Option ℕ) → o ≡ Some l → IfSome o (λ l. has (link_numbers net) l ≡ true) → has (link_numbers net) l ≡ true
    go None e t = cc
    go (Some m) e t = let s : m ≡ l = cc in subst (λ m. has (link_numbers net) m ≡ true) s t

pub ruleset worthing = (to_z-of_z, to_known)

-- ---- a number that was pushed
pub lining_pushed : (f : ℕ → ℤ) (old now new : List ℤ) (m : ℕ) (y z : ℤ) → Lining f old m now → new ≡ now ++ y ∷ [] → y ≡ z → z ≡ f (m + 1) → Lining f old (m + 1) new
lining_pushed f old now new m y z l e s v = let P : List ℤ → Type 0 = Lining f old (m + 1) in subst P (sym e) (lining_more f old m now y l (s ∙ v))
