-- The sizes of a junction's program, and its outcome.
use Rattle.std.proofs.Common.{to_z-of_z, ◌≡◌, ℕ, suc, ◌+◌, ◌*◌, ◌<◌, ◌≤◌, List, [], ◌∷◌, ◌++◌, map, get_or, length, ℤ, pos, ◌≤ℤ◌, zero, cond, refl, ap, ap₂, sym, ◌∙◌, arith}
use Rattle.std.proofs.lemmas.Int.{ints}
use Rattle.std.proofs.lemmas.List.{length-append, length-map}
use Rattle.mp_num.specs.Row.{entry}
use Rattle.mp_model.specs.Network.{Network, Junction, own, has, flow_of}
use Rattle.mp_model.specs.Certificate.{int_entry}
use Rattle.mp_simplex.specs.Meeting.{HasSizes, BeginsAtZero}
use Rattle.mp_verdict.specs.Program.{stage_row, stage_rows, program}

length-rows : (net : Network) (ks : List ℕ) (stages : List (List ℕ)) → length (stage_rows net ks stages) ≡ length stages * length ks
length-rows net ks [] = omega arith
length-rows net ks (stage ∷ stages) =
    let e : suc (length stages) * length ks ≡ length ks + length stages * length ks = omega arith in
    let r : length (stage_row net ks stage) ≡ length ks = length-map ks (λ k. cond (has stage k) (pos (flow_of net k)) (pos 0)) in
    length-append (stage_row net ks stage) (stage_rows net ks stages) ∙ ap₂ (λ a b. a + b) r (length-rows net ks stages) ∙ sym e

pub program_sizes : (net : Network) (j : Junction) (h : List ℤ) → HasSizes (program net j h)
program_sizes net j h = record {
  coefficients = length-rows net (own net j) j.stages;
  right_sides = length-map j.stages (λ (stage : List ℕ). pos 1);
  objective = length-map (own net j) (int_entry h);
}

one_at : (stages : List (List ℕ)) (i : ℕ) → pos 0 ≤ℤ entry (map (λ (stage : List ℕ). pos 1) stages) i
one_at [] i = omega (arith, ints)
one_at (stage ∷ stages) zero = omega (arith, ints)
one_at (stage ∷ stages) (suc i) = one_at stages i

pub program_begins : (net : Network) (j : Junction) (h : List ℤ) → BeginsAtZero (program net j h)
program_begins net j h = record { at = λ i l. one_at j.stages i }

pub ruleset programs = (to_z-of_z, program_sizes, program_begins)
