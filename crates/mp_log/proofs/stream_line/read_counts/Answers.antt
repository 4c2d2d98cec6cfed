use Rattle.std.proofs.Common.{◌<◌, ◌^◌, [], ◌∷◌, Some, length, arith, sym, ◌∙◌, ap, inl, inr, rules}
use Rattle.std.proofs.lemmas.List.{length-append}
use Rattle.std.proofs.lemmas.List.Elements.{All-push}
use Rattle.mp_log.proofs.CountLemmas.{place_within, read_more, part_fails, last_more, last_fails, too_many, none_read, all_read, few_read}
use Rattle.mp_log.proofs.stream_line.read_counts.Goals as goal

pub returns-then-not-push_count-clause-none : goal.returns-then-not-push_count-clause-none
returns-then-not-push_count-clause-none c = λ _. (
  elim (c.if-not-push_count.ensures.refused (search rules)) [
    | inl full ↦ too_many c.loop-at.into.items c.loop-at.rest.now c.args.line.now c.args.n c.loop-at.invariant.so_far (search rules)
    | inr none ↦ none_read c.args.line.now c.args.n (part_fails c.loop-at.into.items c.loop-at.rest.now _ c.in-Some.at c.loop-at.invariant.so_far (search rules) none)
  ],
  search rules,
)

pub loop-at-preserved : goal.loop-at-preserved
loop-at-preserved c =
    let p = c.if-not-push_count.ensures.pushed (search rules) in
    record { digits = rw p.1.2 (All-push (λ a. a < 10 ^ 9) c.loop-at.into.items p.1.0 c.loop-at.invariant.digits p.1.3); few = omega (arith, ap length p.1.2, length-append c.loop-at.into.items (p.1.0 ∷ [])); so_far = rw p.1.2 (read_more c.loop-at.into.items c.loop-at.rest.now c.behind-rest.result.now _ c.in-Some.at p.1.0 c.loop-at.invariant.so_far (search rules) p.1.1 c.behind-rest.ensures) }

pub returns-then-not-push_count-2-clause-none : goal.returns-then-not-push_count-2-clause-none
returns-then-not-push_count-2-clause-none c = λ _. (
  elim (c.if-not-push_count-2.ensures.refused (search rules)) [
    | inl full ↦ too_many c.loop-at.into.items c.loop-at.rest.now c.args.line.now c.args.n c.loop-at.invariant.so_far (search rules)
    | inr none ↦ none_read c.args.line.now c.args.n (last_fails c.loop-at.into.items c.loop-at.rest.now _ c.loop-at.invariant.so_far (search rules) none)
  ],
  search rules,
)

pub returns-then-len-n-clause-none : goal.returns-then-len-n-clause-none
returns-then-len-n-clause-none c =
    let p = c.if-not-push_count-2.ensures.pushed (search rules) in
    let read = ap (λ xs. Some xs) p.1.2 ∙ last_more c.loop-at.into.items c.loop-at.rest.now _ p.1.0 c.loop-at.invariant.so_far (search rules) p.1.1 in
    λ _. (few_read c.args.line.now c.push_count-2.new.into.items c.args.n read (λ same. c.if-len-n.true (c.len.ensures.value ∙ same)), search rules)

pub returns-clause-some : goal.returns-clause-some
returns-clause-some c =
    let p = c.if-not-push_count-2.ensures.pushed (search rules) in
    let read = ap (λ xs. Some xs) p.1.2 ∙ last_more c.loop-at.into.items c.loop-at.rest.now _ p.1.0 c.loop-at.invariant.so_far (search rules) p.1.1 in
    λ _. all_read c.args.line.now c.push_count-2.new.into.items c.args.n read (sym c.len.ensures.value ∙ c.if-len-n.false)

pub returns-clause-digits : goal.returns-clause-digits
returns-clause-digits c =
    let p = c.if-not-push_count-2.ensures.pushed (search rules) in
    λ _. rw p.1.2 (All-push (λ a. a < 10 ^ 9) c.loop-at.into.items p.1.0 c.loop-at.invariant.digits p.1.3)

pub behind-rest-requires : goal.behind-rest-requires
behind-rest-requires c = place_within 44 c.loop-at.rest.now c.in-Some.at (search rules)
