use Rattle.std.proofs.Common.{◌≡◌, ◌<◌, ◌+◌, ◌++◌, ◌∙◌, ℕ, Bool, true, false, cond, not, is_none, nat_le, List, length, map, take, drop, get_or, set, Option, Some, None, arith, refl, sym, ap}
use Rattle.std.proofs.lemmas.List.{set-get_or}
use Rattle.std.proofs.lemmas.List.Edits.{map_over_more}
use Rattle.mp_model.specs.EventCore.{Copy, accepted}
use Rattle.mp_round.proofs.copies.drop_old_of.Goals as goal
use Rattle.mp_round.proofs.copies.drop_old_of.Goals.{then-not-is_accepted, else-not-is_accepted}

-- a copy that a decision accepts stays, and any other is dropped
stays : (delay period : ℕ) (o : Option Copy) → not (is_none (accepted delay period o)) ≡ true → accepted delay period o ≡ o
stays delay period None e = refl
stays delay period (Some copy) e = go (nat_le period (copy.period + delay)) e
  where
    go : (b : Bool) → not (is_none (let o : Option Copy = cond b (Some copy) None in o)) ≡ true → cond b (Some copy) None ≡ Some copy
    go true e = refl
    go false e = cc

goes : (o : Option Copy) → not (is_none o) ≡ false → o ≡ None
goes None e = refl
goes (Some copy) e = cc

-- one more place
kept : (delay period : ℕ) (xs ys : List (Option Copy)) (i : ℕ) (x : Option Copy) → i < length xs → ys ≡ map (accepted delay period) (take i xs) ++ drop i xs → x ≡ get_or ys i x → not (is_none (accepted delay period x)) ≡ true → ys ≡ map (accepted delay period) (take (i + 1) xs) ++ drop (i + 1) xs
kept delay period xs ys i x lt inv read e =
    sym (ap (set ys i) (stays delay period x e) ∙ ap (set ys i) read ∙ set-get_or ys i x) ∙ map_over_more (accepted delay period) xs ys i x lt inv read

dropped : (delay period : ℕ) (xs ys : List (Option Copy)) (i : ℕ) (x : Option Copy) → i < length xs → ys ≡ map (accepted delay period) (take i xs) ++ drop i xs → x ≡ get_or ys i x → not (is_none (accepted delay period x)) ≡ false → set ys i None ≡ map (accepted delay period) (take (i + 1) xs) ++ drop (i + 1) xs
dropped delay period xs ys i x lt inv read e = ap (set ys i) (sym (goes (accepted delay period x) e)) ∙ map_over_more (accepted delay period) xs ys i x lt inv read

pub loop-i-preserved : goal.loop-i-preserved
loop-i-preserved c = elim c.if-not-is_accepted.branch [
  | then-not-is_accepted w ↦ ap (λ v. v.items) w.row-is ∙ dropped c.args.delay c.args.period c.args.row.now.items c.loop-i.row.items c.loop-i.i c.index.result.now (omega (arith, c.args.row.now.ok.0)) c.loop-i.invariant c.index.ensures (sym c.is_accepted.ensures ∙ w.if-not-is_accepted.true)
  | else-not-is_accepted w ↦ ap (λ v. v.items) w.row-is ∙ kept c.args.delay c.args.period c.args.row.now.items c.loop-i.row.items c.loop-i.i c.index.result.now (omega (arith, c.args.row.now.ok.0)) c.loop-i.invariant c.index.ensures (sym c.is_accepted.ensures ∙ w.if-not-is_accepted.false)
]
