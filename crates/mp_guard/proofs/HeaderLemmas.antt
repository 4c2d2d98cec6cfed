-- The lines of a header, one after another.
use Rattle.std.proofs.Common.{◌≡◌, ℕ, ◌+◌, List, [], ◌∷◌, ◌++◌, map, sym, ◌∙◌, ap, arith, Result, Ok, Err, OnOk}
use Rattle.std.specs.Prelude.{decimal}
use Rattle.std.proofs.lemmas.List.{append_assoc, append-nil}
use Rattle.std.proofs.lemmas.List.Concat.{flat_map-append}
use Rattle.std.proofs.lemmas.List.FromFn.{map-range_with_len_more}
use Rattle.mp_model.specs.Log.{text_of}
use Rattle.mp_model.specs.Network.{numbers_to}

pub text_append : (xs ys : List (List ℕ)) → text_of (xs ++ ys) ≡ text_of xs ++ text_of ys
text_append xs ys = flat_map-append (λ line. line ++ 10 ∷ []) xs ys

pub lines_more : (f : ℕ → List ℕ) (i : ℕ) (old now next : List ℕ) → now ≡ old ++ text_of (map f (numbers_to i)) → next ≡ now ++ (f (i + 1) ++ 10 ∷ []) → next ≡ old ++ text_of (map f (numbers_to (i + 1)))
lines_more f i old now next so_far is =
    is ∙ ap (λ bs. bs ++ (f (i + 1) ++ 10 ∷ [])) so_far ∙ append_assoc old (text_of (map f (numbers_to i))) (f (i + 1) ++ 10 ∷ [])
    ∙ ap (λ bs. old ++ bs)
    (ap (λ bs. text_of (map f (numbers_to i)) ++ bs) (sym (append-nil (f (i + 1) ++ 10 ∷ []))) ∙ sym (text_append (map f (numbers_to i)) (f (i + 1) ∷ []))
    ∙ ap text_of (sym (map-range_with_len_more f 1 i (i + 1) (omega arith))))

-- the pieces of a line, appended one after another
pub pieces : (now word number space name space2 : List ℕ) (x y : ℕ) → x ≡ y → now ++ word ++ number ++ space ++ name ++ space2 ++ decimal x ++ 10 ∷ [] ≡ now ++ ((word ++ number ++ space ++ name ++ space2 ++ decimal y) ++ 10 ∷ [])
pieces now word number space name space2 x y same = rw same (simp append_assoc)

-- three parts of lines, appended one after another
pub parts : {E : Type 0} (r : Result (Unit {0}) E) (old first second now : List ℕ) (A B C : List (List ℕ)) → first ≡ old ++ text_of A → second ≡ first ++ text_of B → OnOk r (now ≡ second ++ text_of C) → OnOk r (now ≡ old ++ text_of (A ++ B ++ C))
parts (Ok done) old first second now A B C a b c =
    c ∙ ap (λ bs. bs ++ text_of C) (b ∙ ap (λ bs. bs ++ text_of B) a ∙ append_assoc old (text_of A) (text_of B)) ∙ append_assoc old (text_of A ++ text_of B) (text_of C)
    ∙ ap (λ bs. old ++ bs) (ap (λ bs. bs ++ text_of C) (sym (text_append A B)) ∙ sym (text_append (A ++ B) C))
parts (Err e) old first second now A B C a b c = tt
