-- The answers to counts, one after another, and what they say.
use Rattle.std.proofs.Common.{◌≡◌, ℕ, ◌+◌, List, [], ◌∷◌, ◌++◌, length, refl, ◌∙◌, ap, ap₂, arith}
use Rattle.std.proofs.lemmas.List.{append-nil}
use Rattle.mp_model.specs.Network.{Network, Junction, entry}
use Rattle.mp_model.specs.NetworkRules.{IsNetwork}
use Rattle.mp_model.specs.Pressure.{AllGreatest}
use Rattle.mp_model.specs.Run.{greatest_stages}
use Rattle.mp_model.specs.Log.{text_of}
use Rattle.mp_model.specs.ControlLog.{InputLine, counts_of_lines, first_control_line, answer_to, answers_from, answers, control_end_line, control_log_text, AreAnswers}
use Rattle.mp_model.specs.ControlLog.InputLine.{counts_line, skipped_line}
use Rattle.mp_laws.specs.Stages.{GreatestLaw, OneStageLaw}
use Rattle.mp_control.specs.Controlling.{answered_text}
use Rattle.mp_control.proofs.LineLemmas.{text-append, counts_more, counts_skipped}

-- one more answer
answers_more : (net : Network) (number : ℕ) (counted : List (List ℕ)) (counts : List ℕ) → answers_from net number (counted ++ counts ∷ []) ≡ answers_from net number counted ++ answer_to net (number + length counted) counts ∷ []
answers_more net number [] counts = ap (λ n. answer_to net n counts ∷ []) (omega arith)
answers_more net number (c ∷ counted) counts =
    ap (λ ls. answer_to net number c ∷ ls) (answers_more net (number + 1) counted counts
    ∙ ap (λ n. answers_from net (number + 1) counted ++ answer_to net n counts ∷ []) (omega arith))

pub answered_more : (net : Network) (lines : List InputLine) (counts : List ℕ) (number : ℕ) → length (counts_of_lines lines) + 1 ≡ number
    → answered_text net (lines ++ counts_line counts ∷ []) ≡ answered_text net lines ++ (answer_to net number counts ++ 10 ∷ [])
answered_more net lines counts number is =
    ap (λ c. text_of (first_control_line ∷ answers net c)) (counts_more lines counts)
    ∙ ap (λ ls. text_of (first_control_line ∷ ls)) (answers_more net 1 (counts_of_lines lines) counts)
    ∙ text-append (first_control_line ∷ answers net (counts_of_lines lines)) (answer_to net (1 + length (counts_of_lines lines)) counts ∷ [])
    ∙ ap (λ xs. answered_text net lines ++ xs) (append-nil (answer_to net (1 + length (counts_of_lines lines)) counts ++ 10 ∷ []) ∙ ap (λ n. answer_to net n counts ++ 10 ∷ []) (omega arith))

pub answered_skipped : (net : Network) (lines : List InputLine) → answered_text net (lines ++ skipped_line ∷ []) ≡ answered_text net lines
answered_skipped net lines = ap (λ c. text_of (first_control_line ∷ answers net c)) (counts_skipped lines)

-- the end line stands behind the answers
pub log_is : (net : Network) (lines : List InputLine) → control_log_text net (counts_of_lines lines) ≡ answered_text net lines ++ (control_end_line (length (counts_of_lines lines)) ++ 10 ∷ [])
log_is net lines =
    let last = control_end_line (length (counts_of_lines lines)) in
    text-append (first_control_line ∷ answers net (counts_of_lines lines)) (last ∷ []) ∙ ap (λ xs. answered_text net lines ++ xs) (append-nil (last ++ 10 ∷ []))

-- there is one list of greatest stages
one_list : OneStageLaw → (net : Network) (q : ℕ → ℕ) (js : List Junction) (ss others : List ℕ) → AllGreatest net q js ss → AllGreatest net q js others → others ≡ ss
one_list law net q [] [] [] a b = refl
one_list law net q [] [] (t ∷ ts) a b = absurd b
one_list law net q [] (s ∷ ss) others a b = absurd a
one_list law net q (j ∷ js) [] others a b = absurd a
one_list law net q (j ∷ js) (s ∷ ss) [] a b = absurd b
one_list law net q (j ∷ js) (s ∷ ss) (t ∷ ts) a b = ap₂ (λ x xs. x ∷ xs) (law net q j t s b.0 a.0) (one_list law net q js ss ts a.1 b.1)

-- each line answers its counts
pub are_answers : GreatestLaw → OneStageLaw → (net : Network) → IsNetwork net → (number : ℕ) (counted : List (List ℕ)) → AreAnswers net number counted (answers_from net number counted)
are_answers greatest one net ok number [] = tt
are_answers greatest one net ok number (counts ∷ counted) = (
  record {
    stages = greatest_stages net (entry counts);
    written = refl;
    greatest = greatest net ok (entry counts);
    alone = λ others are. one_list one net (entry counts) net.junctions (greatest_stages net (entry counts)) others (greatest net ok (entry counts)) are;
  },
  are_answers greatest one net ok (number + 1) counted,
)
