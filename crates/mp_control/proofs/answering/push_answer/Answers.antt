use Rattle.std.proofs.Common.{ℕ, length, arith, ap}
use Rattle.std.proofs.lemmas.List.{append_assoc}
use Rattle.mp_control.proofs.SizeLemmas.{short, counts_text}
use Rattle.mp_control.proofs.answering.push_answer.Goals as goal

pub push_spaced-requires : goal.push_spaced-requires
push_spaced-requires c = let s = short _ _ c.requires.fits in let start = ap (length {A = ℕ}) c.requires.empty in omega (arith, s.counts_short)

pub push_text-requires-3 : goal.push_text-requires-3
push_text-requires-3 c = let s = short _ _ c.requires.fits in let start = ap (length {A = ℕ}) c.requires.empty in omega (arith, s.counts_short)

pub push_spaced-requires-2 : goal.push_spaced-requires-2
push_spaced-requires-2 c = let s = short _ _ c.requires.fits in let start = ap (length {A = ℕ}) c.requires.empty in omega (arith, s.counts_short, s.stages_short)

pub returns-clause-len : goal.returns-clause-len
returns-clause-len c = let s = short _ _ c.requires.fits in let start = ap (length {A = ℕ}) c.requires.empty in omega (arith, s.counts_short, s.stages_short)

pub returns-clause-held : goal.returns-clause-held
returns-clause-held c =
    rw (
      c.push_spaced-2.ensures.held,
      c.push_text-3.ensures.held,
      c.push_spaced.ensures.held,
      counts_text c.args.counts.now c.requires.fits.small,
      c.push_text-2.ensures.held,
      c.push_number.ensures.held,
      c.push_text.ensures.held,
      c.requires.empty,
    ) (simp append_assoc)
