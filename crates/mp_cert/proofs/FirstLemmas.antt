-- The first fault of a list of tests.
use Rattle.std.proofs.Common.{◌≡◌, ℕ, ◌+◌, ◌<◌, ◌≤◌, List, [], ◌∷◌, ◌++◌, map, flat_map, get_or, drop, Result, Ok, Err, refl, ap, ap₂, sym, ◌∙◌, arith}
use Rattle.std.proofs.lemmas.List.{drop_more, drop_all}
use Rattle.std.proofs.lemmas.List.FromFn.{length-range_with_len, get_or-range_with_len}
use Rattle.mp_model.specs.Network.{Network, numbers_to, movement_numbers, junction_numbers, stage_numbers, junction_at}
use Rattle.mp_model.specs.Certificate.{Cert}
use Rattle.mp_cert.specs.Checking.{mix_rules, after, first_of, tried, check_outcome}
use Rattle.mp_cert.specs.declared.types.CertFault.{CertFault}
use Rattle.mp_cert.specs.declared.types.CertFault.TheVariants.{D, E, H, Whole, Part, Mass, Serve, Balance}

abbrev pub Outcome : Type 0
Outcome = Result (Unit {0}) CertFault

pub first_cons : {X : Type 0} (test : X → Outcome) (x : X) (xs : List X) → first_of test (x ∷ xs) ≡ after (test x) (first_of test xs)
unfolding first_of
first_cons test x xs = refl

pub first_nil : {X : Type 0} (test : X → Outcome) → first_of test [] ≡ Ok tt
unfolding first_of
first_nil test = refl

-- what is left gives what the whole gives
pub record Trying (test : ℕ → Outcome) (n i : ℕ) : Type 0 where
  pub rest : first_of test (numbers_to n) ≡ first_of test (drop i (numbers_to n))

pub trying_start : (test : ℕ → Outcome) (n : ℕ) → Trying test n 0
trying_start test n = record { rest = refl }

trying_at : (test : ℕ → Outcome) (n i : ℕ) → Trying test n i → i < n → first_of test (numbers_to n) ≡ after (test (i + 1)) (first_of test (drop (i + 1) (numbers_to n)))
trying_at test n i t h =
    let at : get_or (numbers_to n) i 0 ≡ i + 1 = get_or-range_with_len 1 n i 0 h ∙ omega arith in
    t.rest ∙ ap (first_of test) (drop_more (numbers_to n) i 0 (omega (arith, length-range_with_len 1 n)) ∙ ap (λ m. m ∷ drop (i + 1) (numbers_to n)) at) ∙ first_cons test (i + 1) (drop (i + 1) (numbers_to n))

pub trying_more : (test : ℕ → Outcome) (n i : ℕ) → Trying test n i → i < n → test (i + 1) ≡ Ok tt → Trying test n (i + 1)
trying_more test n i t h e = record { rest = trying_at test n i t h ∙ ap (λ o. after o (first_of test (drop (i + 1) (numbers_to n)))) e }

pub trying_fails : (test : ℕ → Outcome) (n i : ℕ) (fault : CertFault) → Trying test n i → i < n → test (i + 1) ≡ Err fault → first_of test (numbers_to n) ≡ Err fault
trying_fails test n i fault t h e = trying_at test n i t h ∙ ap (λ o. after o (first_of test (drop (i + 1) (numbers_to n)))) e

pub trying_end : (test : ℕ → Outcome) (n i : ℕ) → Trying test n i → n ≤ i → first_of test (numbers_to n) ≡ Ok tt
trying_end test n i t h = t.rest ∙ ap (first_of test) (drop_all i (numbers_to n) (omega (arith, length-range_with_len 1 n))) ∙ first_nil test

pub ruleset firsts = (trying_start, trying_more, trying_fails, trying_end)

after_assoc : (a b c : Outcome) → after (after a b) c ≡ after a (after b c)
after_assoc (Ok done) b c = refl
after_assoc (Err fault) b c = refl

first_map : {X Y : Type 0} (test : Y → Outcome) (f : X → Y) (xs : List X) → first_of test (map f xs) ≡ first_of (λ x. test (f x)) xs
first_map test f [] = first_nil test ∙ sym (first_nil (λ x. test (f x)))
first_map test f (x ∷ xs) = first_cons test (f x) (map f xs) ∙ ap (after (test (f x))) (first_map test f xs) ∙ sym (first_cons (λ x. test (f x)) x xs)

first_append : {X : Type 0} (test : X → Outcome) (xs ys : List X) → first_of test (xs ++ ys) ≡ after (first_of test xs) (first_of test ys)
first_append test [] ys = ap (λ o. after o (first_of test ys)) (sym (first_nil test))
first_append test (x ∷ xs) ys =
    first_cons test x (xs ++ ys) ∙ ap (after (test x)) (first_append test xs ys) ∙ sym (after_assoc (test x) (first_of test xs) (first_of test ys))
    ∙ ap (λ o. after o (first_of test ys)) (sym (first_cons test x xs))

first_flat_map : {X Y : Type 0} (test : Y → Outcome) (f : X → List Y) (xs : List X) → first_of test (flat_map f xs) ≡ first_of (λ x. first_of test (f x)) xs
first_flat_map test f [] = first_nil test ∙ sym (first_nil (λ x. first_of test (f x)))
first_flat_map test f (x ∷ xs) =
    first_append test (f x) (flat_map f xs) ∙ ap (after (first_of test (f x))) (first_flat_map test f xs) ∙ sym (first_cons (λ x. first_of test (f x)) x xs)

after_ok : (o : Outcome) → after o (Ok tt) ≡ o
after_ok (Ok done) = refl
after_ok (Err fault) = refl

first_one : {X : Type 0} (test : X → Outcome) (x : X) → first_of test (x ∷ []) ≡ test x
first_one test x = first_cons test x [] ∙ ap (after (test x)) (first_nil test) ∙ after_ok (test x)

nested : (d e h m s b : Outcome) → after (after (after (after d (after e h)) m) s) b ≡ after d (after e (after h (after m (after s b))))
nested (Err f) e h m s b = refl
nested (Ok u) (Err f) h m s b = refl
nested (Ok u) (Ok v) (Err f) m s b = refl
nested (Ok u) (Ok v) (Ok w) (Err f) s b = refl
nested (Ok u) (Ok v) (Ok w) (Ok x) s b = refl

-- the rules on a mix, one after the other
pub mix_tried : (net : Network) (cert : Cert) (j : ℕ) →
    first_of (tried net cert) (mix_rules net j) ≡ after (tried net cert (Whole j)) (after (first_of (λ s. tried net cert (Part j s)) (stage_numbers (junction_at net j))) (tried net cert (Mass j)))
mix_tried net cert j =
    first_cons (tried net cert) (Whole j) (map (Part j) (stage_numbers (junction_at net j)) ++ Mass j ∷ [])
    ∙ ap (after (tried net cert (Whole j))) (first_append (tried net cert) (map (Part j) (stage_numbers (junction_at net j))) (Mass j ∷ []) ∙ ap₂ after (first_map (tried net cert) (Part j) (stage_numbers (junction_at net j))) (first_one (tried net cert) (Mass j)))

-- all rules, one after the other
pub all_tried : (net : Network) (cert : Cert) →
    check_outcome net cert ≡ after (tried net cert D) (after (tried net cert E) (after (first_of (λ k. tried net cert (H k)) (movement_numbers net))
    (after (first_of (λ j. first_of (tried net cert) (mix_rules net j)) (junction_numbers net))
    (after (first_of (λ k. tried net cert (Serve k)) (movement_numbers net)) (first_of (λ k. tried net cert (Balance k)) (movement_numbers net))))))
all_tried net cert =
    let test : CertFault → Outcome = tried net cert in
    let ms : List ℕ = movement_numbers net in
    let first : List CertFault = D ∷ E ∷ map H ms in
    let mixes : List CertFault = flat_map (mix_rules net) (junction_numbers net) in
    let numbers : first_of test first ≡ after (test D) (after (test E) (first_of (λ k. test (H k)) ms)) =
    first_cons test D (E ∷ map H ms) ∙ ap (after (test D)) (first_cons test E (map H ms) ∙ ap (after (test E)) (first_map test H ms)) in
    first_append test ((first ++ mixes) ++ map Serve ms) (map Balance ms)
    ∙ ap₂ after (first_append test (first ++ mixes) (map Serve ms) ∙ ap₂ after (first_append test first mixes ∙ ap₂ after numbers (first_flat_map test (mix_rules net) (junction_numbers net))) (first_map test Serve ms)) (first_map test Balance ms)
    ∙ nested (test D) (test E) (first_of (λ k. test (H k)) ms) (first_of (λ j. first_of test (mix_rules net j)) (junction_numbers net)) (first_of (λ k. test (Serve k)) ms) (first_of (λ k. test (Balance k)) ms)

pub ruleset parts = (mix_tried)

pub ruleset rules = (all_tried)
