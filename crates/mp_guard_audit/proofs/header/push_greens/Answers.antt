use Rattle.std.proofs.Common.{◌≡◌, ◌++◌, ◌∙◌, ap, arith}
use Rattle.std.specs.Prelude.{codes, decimal}
use Rattle.mp_guard.proofs.PrintLemmas.{line_is}
use Rattle.mp_guard.specs.GuardText.{green_words, guard_line}
use Rattle.mp_guard_run.proofs.Places.{few_greens, small_greens}
use Rattle.mp_model.specs.Guard.{Guard, greens_at}
use Rattle.mp_model.specs.Log.{spaced}
use Rattle.mp_guard_audit.proofs.header.push_greens.Goals as goal

pub push_spaced-requires-clause-few : goal.push_spaced-requires-clause-few
push_spaced-requires-clause-few c =
    let s = c.args.session.now in
    let is : c.greens.result.now ≡ greens_at s.guard c.args.j = c.greens.ensures ∙ ap (λ (x : Guard). greens_at x c.args.j) c.guard.ensures in
    omega (arith, few_greens s.net c.state.ensures.guarding.acceptable s.guard c.state.ensures.guarding.guards c.args.j c.requires.known.0 c.requires.known.1 c.greens.result.now is)

pub push_spaced-requires-clause-small : goal.push_spaced-requires-clause-small
push_spaced-requires-clause-small c = λ k d low.
    let s = c.args.session.now in
    let is : c.greens.result.now ≡ greens_at s.guard c.args.j = c.greens.ensures ∙ ap (λ (x : Guard). greens_at x c.args.j) c.guard.ensures in
    omega (arith, small_greens s.net s.guard c.state.ensures.guarding.guards c.args.j c.requires.known.0 c.requires.known.1 c.greens.result.now is k d low)

pub returns-clause-held : goal.returns-clause-held
returns-clause-held c =
    let s = c.args.session.now in
    let is : c.greens.result.now ≡ greens_at s.guard c.args.j = c.greens.ensures ∙ ap (λ (x : Guard). greens_at x c.args.j) c.guard.ensures in
    let words : c.push_number.new.line.held ≡ green_words c.args.j = c.push_number.ensures.held ∙ ap (λ xs. xs ++ decimal c.args.j) (c.push_text.ensures.held ∙ ap (λ xs. xs ++ codes "green ") c.requires.empty) in
    c.push_spaced.ensures.held ∙ ap (λ xs. xs ++ spaced c.greens.result.now) words ∙ line_is (green_words c.args.j) c.greens.result.now ∙ ap (guard_line (green_words c.args.j)) is
