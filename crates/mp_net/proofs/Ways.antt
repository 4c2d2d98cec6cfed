-- Chains of movements to the outside, and as many rounds as there are links.
use Rattle.std.proofs.Common.{◌≡◌, ℕ, zero, suc, ◌+◌, ◌-◌, ◌≤◌, ◌==◌, ◌⊎◌, Bool, true, false, List, [], ◌∷◌, length, Option, Some, None, IfSome, not, refl, sym, ◌∙◌, inl, inr, arith}
use Rattle.std.specs.List.{list_any, filter, find, range_with_len, AllByRecursion}
use Rattle.std.proofs.lemmas.Bool.{and_parts, false≢true, cases_Bool}
use Rattle.std.proofs.lemmas.Bool.Decides.{nat_tests}
use Rattle.std.proofs.lemmas.List.FromFn.{length-range_with_len}
use Rattle.mp_model.specs.Network.{Network, from_of, to_of, movement_numbers, link_numbers, has}
use Rattle.mp_model.specs.WayOut.{LeadsOut, HasWayOut}
use Rattle.mp_net.specs.WayRules.{goes_on, leads, leads_on, has_way, has_way_out}
use Rattle.mp_net.specs.Marks.{HasItsLinks, IsFirstWithoutWay}
use Rattle.mp_net.proofs.Lists.{passing, passes, all_each, in_filter, of_filter}

-- ---- a way in more rounds

-- a link with a way keeps it where more links have one
goes_on-mono : (way other : ℕ → Bool) (to : Option ℕ) → ((l : ℕ) → way l ≡ true → other l ≡ true) → goes_on way to ≡ true → goes_on other to ≡ true
goes_on-mono way other None below h = h
goes_on-mono way other (Some l) below h = below l h

leads_on-mono : (net : Network) (way other : ℕ → Bool) (l : ℕ) → ((m : ℕ) → way m ≡ true → other m ≡ true) → leads_on net way l ≡ true → leads_on net other l ≡ true
leads_on-mono net way other l below h =
    let p = passing (leads net way l) (movement_numbers net) h in
    let (leaves, goes) = and_parts (from_of net p.0 == l) (goes_on way (to_of net p.0)) p.2 in
    passes (leads net other l) (movement_numbers net) p.0 p.1 (rw (leaves, goes_on-mono way other (to_of net p.0) below goes))

has_way-more : (net : Network) (n l : ℕ) → has_way net n l ≡ true → has_way net (suc n) l ≡ true
has_way-more net zero l h = absurd (false≢true h)
has_way-more net (suc n) l h = leads_on-mono net (has_way net n) (has_way net (suc n)) l (λ m e. has_way-more net n m e) h

-- ---- ways and chains

chain_after : (net : Network) (way : ℕ → Bool) (to : Option ℕ) → ((m : ℕ) → way m ≡ true → HasWayOut net m) → goes_on way to ≡ true → (ks : List ℕ) × LeadsOut net to ks
chain_after net way None chain goes = ([], tt)
chain_after net way (Some m) chain goes = chain m goes

pub chain_from_way : (net : Network) (n l : ℕ) → has_way net n l ≡ true → HasWayOut net l
chain_from_way net zero l h = absurd (false≢true h)
chain_from_way net (suc n) l h =
    let p = passing (leads net (has_way net n) l) (movement_numbers net) h in
    let k = p.0 in
    let (leaves, goes) = and_parts (from_of net k == l) (goes_on (has_way net n) (to_of net k)) p.2 in
    let rest = chain_after net (has_way net n) (to_of net k) (λ m e. chain_from_way net n m e) goes in
    (k ∷ rest.0, (of_filter (λ i. from_of net i == l) (movement_numbers net) k p.1 leaves, rest.1))

-- a chain of n movements is a way of at most n
way_after : (net : Network) (n : ℕ) (to : Option ℕ) (ks : List ℕ) → LeadsOut net to ks → length ks ≤ n → goes_on (has_way net n) to ≡ true
way_after net n None ks chain few = refl
way_after net n (Some l) [] chain few = absurd chain
way_after net zero (Some l) (k ∷ ks) chain few = absurd (omega arith)
way_after net (suc n) (Some l) (k ∷ ks) chain few =
    let goes = way_after net n (to_of net k) ks chain.1 (omega arith) in
    let out = in_filter (λ i. from_of net i == l) (movement_numbers net) k chain.0 in
    passes (leads net (has_way net n) l) (movement_numbers net) k out.0 (rw (out.1, goes))

-- ---- no more rounds than links

-- two tests agree on some numbers
abbrev pub Agree : (ℕ → Bool) → (ℕ → Bool) → List ℕ → Type 0
Agree p q xs = (x : ℕ) → has xs x ≡ true → p x ≡ q x

count_below : (p q : ℕ → Bool) (xs : List ℕ) → ((x : ℕ) → p x ≡ true → q x ≡ true) → length (filter p xs) ≤ length (filter q xs)
count_below p q [] below = omega arith
count_below p q (x ∷ xs) below =
    elim (cases_Bool (p x)) [
      | inl one ↦ rw (one, below x one) (omega (arith, count_below p q xs below))
      | inr other ↦ elim (cases_Bool (q x)) [
        | inl one ↦ rw (other, one) (omega (arith, count_below p q xs below))
        | inr none ↦ rw (other, none) (count_below p q xs below)
      ]
    ]

-- a test that passes no less agrees, or more pass
agree_or_more : (p q : ℕ → Bool) (xs : List ℕ) → ((x : ℕ) → p x ≡ true → q x ≡ true) → Agree p q xs ⊎ (length (filter p xs) + 1 ≤ length (filter q xs))
agree_or_more p q [] below = inl (λ x h. absurd (false≢true h))
agree_or_more p q (x ∷ xs) below =
    elim (cases_Bool (p x)) [
      | inl one ↦ elim (agree_or_more p q xs below) [
        | inl same ↦ inl (λ y h. elim (cases_Bool (x == y)) [
          | inl here ↦ let e : x ≡ y = grind (arith, nat_tests) in rw (← e) (one ∙ sym (below x one))
          | inr other ↦ same y (rw other at h)
        ])
        | inr more ↦ inr (rw (one, below x one) (omega (arith, more)))
      ]
      | inr zero_p ↦ elim (cases_Bool (q x)) [
        | inl one ↦ inr (rw (zero_p, one) (omega (arith, count_below p q xs below)))
        | inr zero_q ↦ elim (agree_or_more p q xs below) [
          | inl same ↦ inl (λ y h. elim (cases_Bool (x == y)) [
            | inl here ↦ let e : x ≡ y = grind (arith, nat_tests) in rw (← e) (zero_p ∙ sym zero_q)
            | inr other ↦ same y (rw other at h)
          ])
          | inr more ↦ inr (rw (zero_p, zero_q) more)
        ]
      ]
    ]

-- tests that agree on some numbers
any_agree : (p q : ℕ → Bool) (xs : List ℕ) → Agree p q xs → list_any p xs ≡ list_any q xs
any_agree p q [] same = refl
any_agree p q (x ∷ xs) same = rw (same x (grind (arith, nat_tests)), any_agree p q xs (λ y h. same y (grind (arith, nat_tests))))

pub find_agree : (p q : ℕ → Bool) (xs : List ℕ) → Agree p q xs → find p xs ≡ find q xs
find_agree p q [] same = refl
find_agree p q (x ∷ xs) same = rw (same x (grind (arith, nat_tests)), find_agree p q xs (λ y h. same y (grind (arith, nat_tests))))

-- what leads on depends only on the links that the movements go to
goes_on-agree : (net : Network) (p q : ℕ → Bool) (to : Option ℕ) → IfSome to (λ l. has (link_numbers net) l ≡ true) → Agree p q (link_numbers net) → goes_on p to ≡ goes_on q to
goes_on-agree net p q None there same = refl
goes_on-agree net p q (Some l) there same = same l there

pub leads_on-agree : (net : Network) (p q : ℕ → Bool) (l : ℕ) → HasItsLinks net → Agree p q (link_numbers net) → leads_on net p l ≡ leads_on net q l
leads_on-agree net p q l there same =
    any_agree (leads net p l) (leads net q l) (movement_numbers net)
    (λ k h. rw (goes_on-agree net p q (to_of net k) (all_each (λ i. IfSome (to_of net i) (λ m. has (link_numbers net) m ≡ true)) (movement_numbers net) k there.to h) same))

few_pass : (p : ℕ → Bool) (xs : List ℕ) → length (filter p xs) ≤ length xs
few_pass p [] = omega arith
few_pass p (x ∷ xs) =
    elim (cases_Bool (p x)) [
      | inl one ↦ rw one (omega (arith, few_pass p xs))
      | inr other ↦ rw other (omega (arith, few_pass p xs))
    ]

-- a round adds no link, or there are as many links with a way as there were rounds
settled_or_many : (net : Network) (n : ℕ) → HasItsLinks net
    → Agree (has_way net n) (has_way net (suc n)) (link_numbers net) ⊎ (n + 1 ≤ length (filter (has_way net (suc n)) (link_numbers net)))
settled_or_many net zero there =
    elim (agree_or_more (has_way net zero) (has_way net (suc zero)) (link_numbers net) (has_way-more net zero)) [
      | inl same ↦ inl same
      | inr more ↦ inr (omega (arith, more))
    ]
settled_or_many net (suc n) there =
    elim (settled_or_many net n there) [
      | inl same ↦ inl (λ l h. leads_on-agree net (has_way net n) (has_way net (suc n)) l there same)
      | inr many ↦ elim (agree_or_more (has_way net (suc n)) (has_way net (suc (suc n))) (link_numbers net) (has_way-more net (suc n))) [
        | inl same ↦ inl same
        | inr more ↦ inr (omega (arith, many, more))
      ]
    ]

settled : (net : Network) → HasItsLinks net → Agree (has_way net (length net.links)) (has_way net (suc (length net.links))) (link_numbers net)
settled net there =
    elim (settled_or_many net (length net.links) there) [
      | inl same ↦ same
      | inr many ↦ absurd (omega (arith, many, few_pass (has_way net (suc (length net.links))) (link_numbers net), length-range_with_len 1 (length net.links)))
    ]

-- j rounds after n
after : ℕ → ℕ → ℕ
after zero n = n
after (suc j) n = suc (after j n)

stays : (net : Network) (n j : ℕ) → HasItsLinks net → Agree (has_way net n) (has_way net (suc n)) (link_numbers net) → Agree (has_way net n) (has_way net (after j n)) (link_numbers net)
unfolding after
stays net n zero there same = λ l h. refl
stays net n (suc j) there same = λ l h. same l h ∙ leads_on-agree net (has_way net n) (has_way net (after j n)) l there (stays net n j there same)

has_way-after : (net : Network) (m n l : ℕ) → has_way net m l ≡ true → has_way net (after m n) l ≡ true
unfolding after
has_way-after net zero n l h = absurd (false≢true h)
has_way-after net (suc m) n l h = leads_on-mono net (has_way net m) (has_way net (after m n)) l (λ k e. has_way-after net m n k e) h

pub way_from_chain : (net : Network) (l : ℕ) → HasItsLinks net → has (link_numbers net) l ≡ true → HasWayOut net l → has_way_out net l ≡ true
way_from_chain net l there link chain =
    let n = length net.links in
    let m = length chain.0 in
    let long = has_way-after net m n l (way_after net m (Some l) chain.0 chain.1 (omega arith)) in
    stays net n m there (settled net there) l link ∙ long

-- ---- the first link without a way

-- what a search over a range finds, where the test fails exactly where a fact holds
abbrev IsFirst : (ℕ → Type 0) → ℕ → ℕ → Option ℕ → Type 0
IsFirst P a n None = AllByRecursion P (range_with_len a n)
IsFirst P a n (Some l) = (has (range_with_len a n) l ≡ true) × (¬ P l) × AllByRecursion P (range_with_len a (l - a)) × (a ≤ l)

first_more : (P : ℕ → Type 0) (a n : ℕ) (r : Option ℕ) → P a → IsFirst P (a + 1) n r → IsFirst P a (suc n) r
first_more P a n None here later = (here, later)
first_more P a n (Some l) here later =
    let e : l - a ≡ suc (l - (a + 1)) = omega (arith, later.3) in
    let among : has (range_with_len a (suc n)) l ≡ true = grind (arith, nat_tests, later.0) in
    (among, later.1, rw e (here, later.2), omega (arith, later.3))

first_is : (test : ℕ → Bool) (P : ℕ → Type 0) (a n : ℕ) → ((k : ℕ) → has (range_with_len a n) k ≡ true → test k ≡ true → P k) → ((k : ℕ) → has (range_with_len a n) k ≡ true → test k ≡ false → ¬ P k)
    → IsFirst P a n (find (λ k. not (test k)) (range_with_len a n))
first_is test P a zero fits misfits = tt
first_is test P a (suc n) fits misfits =
    let among : has (range_with_len a (suc n)) a ≡ true = grind (arith, nat_tests) in
    elim (cases_Bool (test a)) [
      | inl one ↦ rw one (first_more P a n (find (λ k. not (test k)) (range_with_len (a + 1) n)) (fits a among one)
          (first_is test P (a + 1) n (λ k h. fits k (grind (arith, nat_tests))) (λ k h. misfits k (grind (arith, nat_tests)))))
      | inr none ↦ let e : a - a ≡ 0 = omega arith in rw none (among, misfits a among none, rw e tt, omega arith)
    ]

answered : (net : Network) (r : Option ℕ) → IsFirst (HasWayOut net) 1 (length net.links) r → IsFirstWithoutWay net r
answered net None h = h
answered net (Some l) h = (h.0, h.1, h.2)

pub first_without_way : (net : Network) (r : Option ℕ) → HasItsLinks net → r ≡ find (λ l. not (has_way_out net l)) (link_numbers net) → IsFirstWithoutWay net r
first_without_way net r there same =
    answered net r
    (rw same (first_is (has_way_out net) (HasWayOut net) 1 (length net.links) (λ k h e. chain_from_way net (length net.links) k e) (λ k h e way. false≢true (sym e ∙ way_from_chain net k there h way))))
