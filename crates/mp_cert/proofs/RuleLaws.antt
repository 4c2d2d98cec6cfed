-- Each calculation of a rule decides the rule.
use Rattle.std.proofs.Common.{◌≡◌, ℕ, suc, ◌+◌, ◌*◌, ◌-◌, ◌<◌, ◌≤◌, Bool, true, false, cond, List, [], ◌∷◌, length, get_or, ℤ, pos, ◌+ℤ◌, ◌*ℤ◌, Option, Some, if◌then◌else◌, arith, refl, ap, sym, ◌∙◌, subst, ◌⊎◌, inl, inr}
use Rattle.std.specs.List.{range_with_len}
use Rattle.std.proofs.lemmas.Int.{ints}
use Rattle.std.proofs.lemmas.List.{get_or_past}
use Rattle.std.proofs.lemmas.Bool.{cases_lt}
use Rattle.mp_laws.proofs.Lists.{at_in, back_one}
use Rattle.mp_cert.proofs.PlaceLemmas.{in_list}
use Rattle.mp_model.specs.Network.{Network, junction_at, no_junction, junction_numbers, junction_of_movement, from_of, share_of, flow_of, rate_before, into_link, has}
use Rattle.mp_model.specs.Certificate.{Cert, int_entry, rate_of, mix_at, no_mix, HasLengths, parts_with, rate_into, MassRule, ServeRule, BalanceRule}
use Rattle.mp_num.specs.Passing.{stepped}
use Rattle.mp_num.specs.Operations.{plus}
use Rattle.mp_cert.specs.Rules.{mass_holds, part_added, parts_for, served_at, serve_holds, inflow, coming, need, balance_holds, holds}
use Rattle.mp_cert.specs.FirstBroken.{Keeps}
use Rattle.mp_cert.specs.declared.types.CertFault.{CertFault}
use Rattle.mp_cert.specs.declared.types.CertFault.TheVariants.{D, E, H, Whole, Part, Mass, Serve, Balance, Overflow}
use Rattle.mp_cert.proofs.Gives.{Gives, gives-some, gives-times, gives-plus, gives-same, gives-then, gives-summed, Settles, settles-at_least, settles-at_most}

pub settles-mass : (net : Network) (cert : Cert) (j : ℕ) → Settles (mass_holds cert j) (MassRule cert j)
unfolding mass_holds
settles-mass net cert j =
    let mix = mix_at cert j in
    settles-at_most _ _ _ _ (gives-summed (λ part. Some part) (λ part. part) mix.parts (λ part. gives-some part)) (gives-times _ _ mix.whole cert.d (gives-some _) (gives-some _))

-- a stage's part is taken in where the stage holds movement k
abbrev pub taken : ℕ → List ℕ → ℤ → ℤ → Option ℤ
taken k stage part sum = if has stage k then plus (Some sum) (Some part) else Some sum

gives-taken : (k : ℕ) (stage : List ℕ) (part sum : ℤ) → Gives (taken k stage part sum) (sum +ℤ cond (has stage k) part (pos 0))
gives-taken k stage part sum = go (has stage k)
  where
    go : (b : Bool) → Gives (cond b (plus (Some sum) (Some part)) (Some sum)) (sum +ℤ cond b part (pos 0))
    go true = gives-plus (Some sum) (Some part) sum part (gives-some _) (gives-some _)
    go false = gives-same _ _ _ (gives-some sum) (omega (arith, ints))

gives-parts : (k : ℕ) (step : ℤ → ℕ → Option ℤ) (stages : List (List ℕ)) (parts : List ℤ) (i : ℕ) (acc : ℤ) → length parts ≡ length stages →
    ((m : ℕ) (sum : ℤ) → m < length stages → step sum (i + m) ≡ taken k (get_or stages m []) (get_or parts m (pos 0)) sum) →
    Gives (stepped step acc (range_with_len i (length stages))) (acc +ℤ parts_with stages parts k)
unfolding stepped
gives-parts k step [] parts i acc e h = gives-same _ _ _ (gives-some acc) (omega (arith, ints))
gives-parts k step (stage ∷ stages) [] i acc e h = absurd (omega (arith, e))
gives-parts k step (stage ∷ stages) (part ∷ parts) i acc e h =
    let here : i + 0 ≡ i = omega arith in
    let first : Gives (step acc i) (acc +ℤ cond (has stage k) part (pos 0)) =
    subst (λ o. Gives o (acc +ℤ cond (has stage k) part (pos 0))) (sym (h 0 acc (omega arith)) ∙ ap (step acc) here) (gives-taken k stage part acc) in
    gives-then (step acc i) (λ t. stepped step t (range_with_len (i + 1) (length stages))) (acc +ℤ cond (has stage k) part (pos 0)) (acc +ℤ (cond (has stage k) part (pos 0) +ℤ parts_with stages parts k)) first
    (λ t et. gives-same _ _ _ (gives-parts k step stages parts (i + 1) t (omega (arith, e)) (λ m sum l. let there : (i + 1) + m ≡ i + suc m = omega arith in ap (step sum) there ∙ h (suc m) sum (omega (arith, l)))) (omega (arith, ints, et)))

-- the parts of the stages that hold a movement
pub gives-parts_for : (net : Network) (cert : Cert) (j k : ℕ) → length (mix_at cert j).parts ≡ length (junction_at net j).stages → Gives (parts_for net cert j k) (parts_with (junction_at net j).stages (mix_at cert j).parts k)
unfolding parts_for part_added
gives-parts_for net cert j k e =
    gives-same _ _ _ (gives-parts k (part_added net cert j k) (junction_at net j).stages (mix_at cert j).parts 1 (pos 0) e (λ m sum l. let back : (1 + m) - 1 ≡ m = omega arith in ap (λ i. taken k (get_or (junction_at net j).stages i []) (get_or (mix_at cert j).parts i (pos 0)) sum) back)) (omega (arith, ints))

pub settles-serve : (net : Network) (cert : Cert) (k : ℕ) → length (mix_at cert (junction_of_movement net k)).parts ≡ length (junction_at net (junction_of_movement net k)).stages → Settles (serve_holds net cert k) (ServeRule net cert k)
unfolding served_at
settles-serve net cert k e =
    let j = junction_of_movement net k in
    let mix = mix_at cert j in
    settles-at_most _ _ _ _ (gives-times _ _ mix.whole (rate_of cert k) (gives-some _) (gives-some _)) (gives-times _ _ (pos (flow_of net k)) (parts_with (junction_at net j).stages mix.parts k) (gives-some _) (gives-parts_for net cert j k e))

gives-inflow : (net : Network) (cert : Cert) (k : ℕ) → Gives (inflow net cert k) (rate_into net cert k)
unfolding inflow
gives-inflow net cert k = gives-summed (λ j. Some (rate_of cert j)) (rate_of cert) (into_link net (from_of net k)) (λ j. gives-some _)

gives-coming : (net : Network) (cert : Cert) (k : ℕ) → Gives (coming net cert k) (cert.d *ℤ pos (rate_before net k) +ℤ pos net.per *ℤ rate_into net cert k)
unfolding coming
gives-coming net cert k =
    gives-plus _ _ (cert.d *ℤ pos (rate_before net k)) (pos net.per *ℤ rate_into net cert k) (gives-times _ _ cert.d (pos (rate_before net k)) (gives-some _) (gives-some _)) (gives-times _ _ (pos net.per) (rate_into net cert k) (gives-some _) (gives-inflow net cert k))

gives-need : (net : Network) (cert : Cert) (k : ℕ) →
    Gives (need net cert k) (pos (share_of net k) *ℤ (cert.d *ℤ pos (rate_before net k) +ℤ pos net.per *ℤ rate_into net cert k) +ℤ pos (net.shares * net.per) *ℤ cert.e)
unfolding need
gives-need net cert k =
    gives-plus _ _ (pos (share_of net k) *ℤ (cert.d *ℤ pos (rate_before net k) +ℤ pos net.per *ℤ rate_into net cert k)) (pos (net.shares * net.per) *ℤ cert.e)
    (gives-times _ _ (pos (share_of net k)) (cert.d *ℤ pos (rate_before net k) +ℤ pos net.per *ℤ rate_into net cert k) (gives-some _) (gives-coming net cert k))
    (gives-times _ _ (pos (net.shares * net.per)) cert.e (gives-some _) (gives-some _))

pub settles-balance : (net : Network) (cert : Cert) (k : ℕ) → Settles (balance_holds net cert k) (BalanceRule net cert k)
unfolding balance_holds
settles-balance net cert k = settles-at_most _ _ _ _ (gives-need net cert k) (gives-times _ _ (pos (net.shares * net.per)) (rate_of cert k) (gives-some _) (gives-some _))

-- the lists have the network's lengths at every number, also at one that names nothing
pub lengths_at : (net : Network) (cert : Cert) → HasLengths net cert → (j : ℕ) → length (mix_at cert j).parts ≡ length (junction_at net j).stages
lengths_at net cert has j = go (cases_lt (j - 1) (length net.junctions))
  where
    Same : ℕ → Type 0
    Same i = length (get_or cert.mixes i no_mix).parts ≡ length (get_or net.junctions i no_junction).stages

    go : (j - 1 < length net.junctions) ⊎ (length net.junctions ≤ j - 1) → Same (j - 1)
    go (inl within) =
        let at : Same ((suc (j - 1)) - 1) = at_in (λ j. length (mix_at cert j).parts ≡ length (junction_at net j).stages) (suc (j - 1)) (junction_numbers net) (in_list (length net.junctions) (suc (j - 1)) (omega arith) (omega (arith, within))) has.parts in
        subst Same (back_one (j - 1)) at
    go (inr past) = rw (get_or_past cert.mixes (j - 1) no_mix (omega (arith, past, has.mixes)), get_or_past net.junctions (j - 1) no_junction past) refl

-- each rule is settled by its calculation
pub settles : (net : Network) (cert : Cert) → HasLengths net cert → (rule : CertFault) → Settles (holds net cert rule) (Keeps net cert rule)
settles net cert has D = settles-at_least (pos 1) cert.d
settles net cert has E = settles-at_least (pos 1) cert.e
settles net cert has (H k) = settles-at_least (pos 0) (rate_of cert k)
settles net cert has (Whole j) = settles-at_least (pos 1) (mix_at cert j).whole
settles net cert has (Part j s) = settles-at_least (pos 0) (int_entry (mix_at cert j).parts s)
settles net cert has (Mass j) = settles-mass net cert j
settles net cert has (Serve k) = settles-serve net cert k (lengths_at net cert has (junction_of_movement net k))
settles net cert has (Balance k) = settles-balance net cert k
settles net cert has Overflow = record { holds = λ e. tt; fails = λ e p. absurd (cc) }
