use Rattle.std.proofs.Common.{◌≡◌, ◌∷◌, ℕ, length, arith, ap, ◌∙◌}
use Rattle.std.specs.List.{flat_map}
use Rattle.std.specs.Fmt.{signed_decimal}
use Rattle.std.proofs.lemmas.List.{append_assoc}
use Rattle.mp_model.specs.Log.{spaced}
use Rattle.mp_log.proofs.LengthLemmas.{short, spaced_signed}
use Rattle.mp_log.proofs.period.push_period.Goals as goal

pub push_spaced-requires : goal.push_spaced-requires
push_spaced-requires c = let s = short _ _ _ _ c.requires.fits in let start = ap (length {A = ℕ}) c.requires.empty in omega (arith, s.arrivals_short)

pub push_text-requires-3 : goal.push_text-requires-3
push_text-requires-3 c = let s = short _ _ _ _ c.requires.fits in let start = ap (length {A = ℕ}) c.requires.empty in omega (arith, s.arrivals_short)

pub push_spaced-requires-2 : goal.push_spaced-requires-2
push_spaced-requires-2 c = let s = short _ _ _ _ c.requires.fits in let start = ap (length {A = ℕ}) c.requires.empty in omega (arith, s.arrivals_short, s.stages_short)

pub push_text-requires-4 : goal.push_text-requires-4
push_text-requires-4 c = let s = short _ _ _ _ c.requires.fits in let start = ap (length {A = ℕ}) c.requires.empty in omega (arith, s.arrivals_short, s.stages_short)

pub push_spaced-requires-3 : goal.push_spaced-requires-3
push_spaced-requires-3 c = let s = short _ _ _ _ c.requires.fits in let start = ap (length {A = ℕ}) c.requires.empty in omega (arith, s.arrivals_short, s.stages_short, s.queues_short)

pub returns-clause-len : goal.returns-clause-len
returns-clause-len c = let s = short _ _ _ _ c.requires.fits in let start = ap (length {A = ℕ}) c.requires.empty in omega (arith, s.arrivals_short, s.stages_short, s.queues_short)

pub returns-clause-held : goal.returns-clause-held
returns-clause-held c = λ counts is.
    let last : flat_map (λ q. 32 ∷ signed_decimal q) c.args.queues.now ≡ spaced counts = ap (λ zs. flat_map (λ q. 32 ∷ signed_decimal q) zs) is ∙ spaced_signed counts in
    rw (
      c.push_spaced-3.ensures.held,
      last,
      c.push_text-4.ensures.held,
      c.push_spaced-2.ensures.held,
      c.push_text-3.ensures.held,
      c.push_spaced.ensures.held,
      c.push_text-2.ensures.held,
      c.push_number.ensures.held,
      c.push_text.ensures.held,
      c.requires.empty,
    ) (simp append_assoc)
