-- What the outcome of the check says of the certificate.
use Rattle.std.proofs.Common.{◌≡◌, ℕ, ◌++◌, List, [], ◌∷◌, map, flat_map, Bool, true, false, Option, Some, None, Ok, Err, is_ok, IsOk, IfErr, IsOkUnless, ◌⊎◌, inl, inr, refl, ap, sym, ◌∙◌, subst}
use Rattle.std.specs.List.{AllByRecursion}
use Rattle.mp_model.specs.Network.{Network, junction_at, movement_numbers, junction_numbers, stage_numbers}
use Rattle.mp_model.specs.Certificate.{Cert, HasLengths, Certifies, WholeRule, PartRule, MassRule}
use Rattle.mp_laws.proofs.Lists.{AllOf-map}
use Rattle.mp_cert.specs.Rules.{holds}
use Rattle.mp_cert.specs.Checking.{mix_rules, rules_of, outcome_of, after, first_of, tried, check_outcome}
use Rattle.mp_cert.specs.FirstBroken.{Keeps, IsToldAs, IsFirstFault, IsFormed}
use Rattle.mp_cert.specs.declared.types.CertFault.{CertFault}
use Rattle.mp_cert.specs.declared.types.CertFault.TheVariants.{D, E, H, Part, Mass, Serve, Balance, Overflow}
use Rattle.mp_cert.proofs.FirstLemmas.{Outcome, first_cons, first_nil}
use Rattle.mp_cert.proofs.RuleLaws.{settles}

-- ---- facts about each entry of a list that was put together
pub all_split : {X : Type 0} (P : X → Type 0) (xs ys : List X) → AllByRecursion P (xs ++ ys) → AllByRecursion P xs × AllByRecursion P ys
all_split P [] ys a = (tt, a)
all_split P (x ∷ xs) ys a = let rest = all_split P xs ys a.1 in ((a.0, rest.0), rest.1)

pub all_join : {X : Type 0} (P : X → Type 0) (xs ys : List X) → AllByRecursion P xs → AllByRecursion P ys → AllByRecursion P (xs ++ ys)
all_join P [] ys a b = b
all_join P (x ∷ xs) ys a b = (a.0, all_join P xs ys a.1 b)

pub all_unmap : {X Y : Type 0} (P : Y → Type 0) (f : X → Y) (xs : List X) → AllByRecursion P (map f xs) → AllByRecursion (λ x. P (f x)) xs
all_unmap P f [] a = tt
all_unmap P f (x ∷ xs) a = (a.0, all_unmap P f xs a.1)

pub all_map : {X Y : Type 0} (P : Y → Type 0) (f : X → Y) (xs : List X) → AllByRecursion (λ x. P (f x)) xs → AllByRecursion P (map f xs)
all_map P f [] a = tt
all_map P f (x ∷ xs) a = (a.0, all_map P f xs a.1)

pub all_parts : {X Y : Type 0} (P : Y → Type 0) (f : X → List Y) (xs : List X) → AllByRecursion P (flat_map f xs) → AllByRecursion (λ x. AllByRecursion P (f x)) xs
all_parts P f [] a = tt
all_parts P f (x ∷ xs) a = let both = all_split P (f x) (flat_map f xs) a in (both.0, all_parts P f xs both.1)

pub all_whole : {X Y : Type 0} (P : Y → Type 0) (f : X → List Y) (xs : List X) → AllByRecursion (λ x. AllByRecursion P (f x)) xs → AllByRecursion P (flat_map f xs)
all_whole P f [] a = tt
all_whole P f (x ∷ xs) a = all_join P (f x) (flat_map f xs) a.0 (all_whole P f xs a.1)

all_both : {X : Type 0} (P Q R : X → Type 0) → ((x : X) → P x → Q x → R x) → (xs : List X) → AllByRecursion P xs → AllByRecursion Q xs → AllByRecursion R xs
all_both P Q R f [] a b = tt
all_both P Q R f (x ∷ xs) a b = (f x a.0 b.0, all_both P Q R f xs a.1 b.1)

-- ---- a certificate certifies where it keeps each rule of the list
pub certified : (net : Network) (cert : Cert) → HasLengths net cert → AllByRecursion (Keeps net cert) (rules_of net) → Certifies net cert
certified net cert lengths a =
    let P : CertFault → Type 0 = Keeps net cert in
    let ms : List ℕ = movement_numbers net in
    let js : List ℕ = junction_numbers net in
    let first : List CertFault = D ∷ E ∷ map H ms in
    let mixes : List CertFault = flat_map (mix_rules net) js in
    let fourth = all_split P ((first ++ mixes) ++ map Serve ms) (map Balance ms) a in
    let third = all_split P (first ++ mixes) (map Serve ms) fourth.0 in
    let second = all_split P first mixes third.0 in
    let mix = all_parts P (mix_rules net) js second.1 in
    let M : ℕ → Type 0 = λ j. AllByRecursion P (mix_rules net j) in
    let stages : ℕ → List ℕ = λ j. stage_numbers (junction_at net j) in
    record {
      rules = record {
        lengths = lengths;
        denominator = second.0.0;
        rates = all_unmap P H ms second.0.1.1;
        wholes = AllOf-map M (WholeRule cert) (λ j m. m.0) js mix;
        parts = AllOf-map M (λ j. AllByRecursion (PartRule cert j) (stages j)) (λ j m. all_unmap P (Part j) (stages j) (all_split P (map (Part j) (stages j)) (Mass j ∷ []) m.1).0) js mix;
        masses = AllOf-map M (MassRule cert) (λ j m. (all_split P (map (Part j) (stages j)) (Mass j ∷ []) m.1).1.0) js mix;
        serves = all_unmap P Serve ms third.1;
        balances = all_unmap P Balance ms fourth.1;
      };
      excess = second.0.1.0;
    }

-- and where it certifies, it keeps each rule of the list
pub keeps_all : (net : Network) (cert : Cert) → Certifies net cert → AllByRecursion (Keeps net cert) (rules_of net)
keeps_all net cert c =
    let P : CertFault → Type 0 = Keeps net cert in
    let ms : List ℕ = movement_numbers net in
    let js : List ℕ = junction_numbers net in
    let first : List CertFault = D ∷ E ∷ map H ms in
    let mixes : List CertFault = flat_map (mix_rules net) js in
    let M : ℕ → Type 0 = λ j. AllByRecursion P (mix_rules net j) in
    let stages : ℕ → List ℕ = λ j. stage_numbers (junction_at net j) in
    let ends : AllByRecursion (λ j. AllByRecursion P (map (Part j) (stages j) ++ Mass j ∷ [])) js =
    all_both (λ j. AllByRecursion (PartRule cert j) (stages j)) (MassRule cert) (λ j. AllByRecursion P (map (Part j) (stages j) ++ Mass j ∷ []))
    (λ j parts mass. all_join P (map (Part j) (stages j)) (Mass j ∷ []) (all_map P (Part j) (stages j) parts) (mass, tt)) js c.rules.parts c.rules.masses in
    let mix : AllByRecursion M js = all_both (WholeRule cert) (λ j. AllByRecursion P (map (Part j) (stages j) ++ Mass j ∷ [])) M (λ j whole rest. (whole, rest)) js c.rules.wholes ends in
    all_join P ((first ++ mixes) ++ map Serve ms) (map Balance ms)
    (all_join P (first ++ mixes) (map Serve ms)
    (all_join P first mixes (c.rules.denominator, (c.excess, all_map P H ms c.rules.rates)) (all_whole P (mix_rules net) js mix))
    (all_map P Serve ms c.rules.serves))
    (all_map P Balance ms c.rules.balances)

-- ---- the first fault of a list of tests
pub record Found {X : Type 0} (test : X → Outcome) (fault : CertFault) (xs : List X) : Type 0 where
  pub earlier : List X
  pub rule : X
  pub later : List X
  pub order : xs ≡ earlier ++ rule ∷ later
  pub before : AllByRecursion (λ x. test x ≡ Ok tt) earlier
  pub here : test rule ≡ Err fault

found : {X : Type 0} (test : X → Outcome) (fault : CertFault) (xs : List X) → first_of test xs ≡ Err fault → Found test fault xs
found test fault [] e = absurd (not_ok fault (sym (first_nil test) ∙ e))
  where
    not_ok : (fault : CertFault) → ◌≡◌ {A = Outcome} (Ok tt) (Err fault) → ⊥
    not_ok fault e = cc
found {X = X} test fault (x ∷ xs) e = go (found test fault xs) (test x) refl (sym (first_cons test x xs) ∙ e)
  where
    go : (first_of test xs ≡ Err fault → Found test fault xs) → (o : Outcome) → test x ≡ o → after o (first_of test xs) ≡ Err fault → Found test fault (x ∷ xs)
    go more (Ok u) h e = let f = more e in record { earlier = x ∷ f.earlier; rule = f.rule; later = f.later; order = ap (λ (ys : List X). x ∷ ys) f.order; before = (h, f.before); here = f.here }
    go more (Err g) h e = record { earlier = []; rule = x; later = xs; order = refl; before = tt; here = h ∙ e }

all_ok : {X : Type 0} (test : X → Outcome) (xs : List X) → first_of test xs ≡ Ok tt → AllByRecursion (λ x. test x ≡ Ok tt) xs
all_ok test [] e = tt
all_ok test (x ∷ xs) e = go (all_ok test xs) (test x) refl (sym (first_cons test x xs) ∙ e)
  where
    go : (first_of test xs ≡ Ok tt → AllByRecursion (λ x. test x ≡ Ok tt) xs) → (o : Outcome) → test x ≡ o → after o (first_of test xs) ≡ Ok tt → (test x ≡ Ok tt) × AllByRecursion (λ x. test x ≡ Ok tt) xs
    go more (Ok u) h e = (h, more e)
    go more (Err g) h e = absurd (cc)

ok_all : {X : Type 0} (test : X → Outcome) (xs : List X) → AllByRecursion (λ x. test x ≡ Ok tt) xs → first_of test xs ≡ Ok tt
ok_all test [] a = first_nil test
ok_all test (x ∷ xs) a = first_cons test x xs ∙ ap (λ o. after o (first_of test xs)) a.0 ∙ ok_all test xs a.1

-- ---- what the outcome of one rule says
outcome_ok : (rule : CertFault) (o : Option Bool) → outcome_of rule o ≡ Ok tt → o ≡ Some true
outcome_ok rule (Some true) e = refl
outcome_ok rule (Some false) e = absurd (cc)
outcome_ok rule None e = absurd (cc)

outcome_err : (rule fault : CertFault) (o : Option Bool) → outcome_of rule o ≡ Err fault → ((o ≡ Some false) × (fault ≡ rule)) ⊎ ((o ≡ None) × (fault ≡ Overflow))
outcome_err rule fault (Some true) e = absurd (cc)
outcome_err rule fault (Some false) e = inl (refl, cc)
outcome_err rule fault None e = inr (refl, cc)

module _ (net : Network) (cert : Cert) (lengths : HasLengths net cert) where
  kept : (rule : CertFault) → tried net cert rule ≡ Ok tt → Keeps net cert rule
  kept rule e = (settles net cert lengths rule).holds (outcome_ok rule (holds net cert rule) e)

  told : (rule fault : CertFault) → tried net cert rule ≡ Err fault → IsToldAs net cert rule fault
  told rule fault e = elim (outcome_err rule fault (holds net cert rule) e) [ inl t ↦ inl ((settles net cert lengths rule).fails t.0, t.1) | inr t ↦ inr (t.0, t.1) ]

  formed : (rule : CertFault) → tried net cert rule ≡ Ok tt → IsFormed net cert rule
  formed rule e = λ none. let true_one = outcome_ok rule (holds net cert rule) e in cc

  goes : (rule : CertFault) → Keeps net cert rule → IsFormed net cert rule → tried net cert rule ≡ Ok tt
  goes rule keeps is_formed = go (holds net cert rule) refl
    where
      go : (o : Option Bool) → holds net cert rule ≡ o → outcome_of rule o ≡ Ok tt
      go (Some true) e = refl
      go (Some false) e = absurd ((settles net cert lengths rule).fails e keeps)
      go None e = absurd (is_formed e)

  pub first_fault : (r : Outcome) → r ≡ check_outcome net cert → IfErr r (IsFirstFault net cert)
  first_fault (Ok u) e = tt
  first_fault (Err fault) e =
      let f = found (tried net cert) fault (rules_of net) (sym e) in
      record { earlier = f.earlier; rule = f.rule; later = f.later; order = f.order; kept = AllOf-map (λ rule. tried net cert rule ≡ Ok tt) (Keeps net cert) kept f.earlier f.before; told = told f.rule fault f.here }

  pub accepted : (r : Outcome) → r ≡ check_outcome net cert → IsOk r → Certifies net cert × AllByRecursion (IsFormed net cert) (rules_of net)
  accepted (Ok u) e ok =
      let all = all_ok (tried net cert) (rules_of net) (sym e) in
      (certified net cert lengths (AllOf-map (λ rule. tried net cert rule ≡ Ok tt) (Keeps net cert) kept (rules_of net) all), AllOf-map (λ rule. tried net cert rule ≡ Ok tt) (IsFormed net cert) formed (rules_of net) all)
  accepted (Err fault) e ok = absurd (cc)

  pub accepts : (r : Outcome) → r ≡ check_outcome net cert → Certifies net cert → AllByRecursion (IsFormed net cert) (rules_of net) → IsOk r
  accepts r e c all =
      let ok : check_outcome net cert ≡ Ok tt = ok_all (tried net cert) (rules_of net) (all_both (Keeps net cert) (IsFormed net cert) (λ rule. tried net cert rule ≡ Ok tt) goes (rules_of net) (keeps_all net cert c) all) in
      ap is_ok (e ∙ ok)

  pub complete : (r : Outcome) → r ≡ check_outcome net cert → Certifies net cert → IsOkUnless r Overflow
  complete (Ok u) e c = tt
  complete (Err fault) e c =
      let f = found (tried net cert) fault (rules_of net) (sym e) in
      let all : AllByRecursion (Keeps net cert) (f.earlier ++ f.rule ∷ f.later) = subst (λ (rules : List CertFault). AllByRecursion (Keeps net cert) rules) f.order (keeps_all net cert c) in
      let keeps : Keeps net cert f.rule = (all_split (Keeps net cert) f.earlier (f.rule ∷ f.later) all).1.0 in
      elim (told f.rule fault f.here) [ inl t ↦ absurd (t.0 keeps) | inr t ↦ t.1 ]
