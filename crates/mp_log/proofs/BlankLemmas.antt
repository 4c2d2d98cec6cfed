-- Blanks behind the bytes of a part.
use Rattle.std.proofs.Common.{◌≡◌, ◌<◌, ◌≤◌, ℕ, zero, suc, List, [], ◌∷◌, Bool, true, false, cond, length, take, get_or, refl, sym, ◌∙◌, ap, arith}
use Rattle.std.specs.Prelude.{◌&&◌}
use Rattle.std.specs.List.{list_all}
use Rattle.std.proofs.lemmas.List.{length-take-le, get_or-take}
use Rattle.mp_model.specs.Stream.{is_blank, without_blanks_behind}

and_false : (b : Bool) → (b && false) ≡ false
and_false true = refl
and_false false = refl

not_all : (xs : List ℕ) (n : ℕ) → n < length xs → is_blank (get_or xs n 0) ≡ false → list_all is_blank xs ≡ false
not_all [] n low last = absurd (omega arith)
not_all (b ∷ bs) zero low last = ap (λ v. v && list_all is_blank bs) last
not_all (b ∷ bs) (suc n) low last = ap (λ v. is_blank b && v) (not_all bs n (omega arith) last) ∙ and_false (is_blank b)

-- where the last byte is no blank all stay
pub no_blank_behind : (xs : List ℕ) (n : ℕ) → length xs ≡ suc n → is_blank (get_or xs n 0) ≡ false → without_blanks_behind xs ≡ xs
no_blank_behind [] n size last = absurd (omega arith)
no_blank_behind (b ∷ []) zero size last = rw last refl
no_blank_behind (b ∷ []) (suc n) size last = absurd (omega arith)
no_blank_behind (b ∷ c ∷ bs) zero size last = absurd (omega arith)
no_blank_behind (b ∷ c ∷ bs) (suc n) size last =
    ap (λ v. cond v [] (b ∷ without_blanks_behind (c ∷ bs))) (not_all (b ∷ c ∷ bs) (suc n) (omega arith) last)
    ∙ ap (λ xs. b ∷ xs) (no_blank_behind (c ∷ bs) n (omega arith) last)

all_same : (xs : List ℕ) (n : ℕ) → n < length xs → is_blank (get_or xs n 0) ≡ true → list_all is_blank (take n xs) ≡ list_all is_blank (take (suc n) xs)
all_same [] n low last = absurd (omega arith)
all_same (b ∷ bs) zero low last = sym (ap (λ v. v && true) last)
all_same (b ∷ bs) (suc n) low last = ap (λ v. is_blank b && v) (all_same bs n (omega arith) last)

-- a last blank is dropped
pub blank_behind : (xs : List ℕ) (n : ℕ) → n < length xs → is_blank (get_or xs n 0) ≡ true → without_blanks_behind (take n xs) ≡ without_blanks_behind (take (suc n) xs)
blank_behind [] n low last = absurd (omega arith)
blank_behind (b ∷ bs) zero low last = sym (ap (λ v. cond (v && true) [] (b ∷ [])) last)
blank_behind (b ∷ bs) (suc n) low last =
    ap (λ v. cond v [] (b ∷ without_blanks_behind (take n bs))) (all_same (b ∷ bs) (suc n) low last)
    ∙ ap (λ xs. cond (list_all is_blank (take (suc (suc n)) (b ∷ bs))) [] (b ∷ xs)) (blank_behind bs n (omega arith) last)

-- the same of the first bytes of a list
pub back_kept : (bytes : List ℕ) (e n : ℕ) → e ≡ suc n → e ≤ length bytes → is_blank (get_or bytes n 0) ≡ false → without_blanks_behind (take e bytes) ≡ take e bytes
back_kept bytes e n is within last =
    no_blank_behind (take e bytes) n (length-take-le e bytes within ∙ is) (rw (get_or-take e bytes n 0 (omega arith)) last)

pub back_dropped : (bytes : List ℕ) (e n : ℕ) → e ≡ suc n → e ≤ length bytes → is_blank (get_or bytes n 0) ≡ true → without_blanks_behind (take n bytes) ≡ without_blanks_behind (take e bytes)
back_dropped bytes e n is within last = blank_behind bytes n (omega arith) last ∙ ap (λ m. without_blanks_behind (take m bytes)) (sym is)
