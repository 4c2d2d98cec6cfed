-- Worked cases of the controller's log, each computed from the definitions.
use Rattle.std.proofs.Common.{◌≡◌, ℕ, List, [], ◌∷◌, codes, refl, replicate}
use Rattle.std.specs.Fmt.{digits}
use Rattle.mp_model.specs.Network.{Network}
use Rattle.mp_model.specs.ControlLog.{input_line, input_lines, counts_of_lines, control_log_text}
use Rattle.mp_model.specs.ControlLog.InputLine.{long_line, skipped_line, counts_line, bad_line}
use Rattle.mp_model.specs.Worked.{two_approaches_at, tandem, delayed_merge}

-- the log of the counts of an input
abbrev log_of : Network → List ℕ → List ℕ
log_of net text = control_log_text net (counts_of_lines (input_lines net text))

tandem_log : log_of tandem (codes "3,0\n0,3\n1,2\n# x\n") ≡ codes "maxpressure control 1\nc 1 q 3 0 s 1 1\nc 2 q 0 3 s 1 1\nc 3 q 1 2 s 1 1\nend 3\n"
unfolding digits
tandem_log = refl

-- the longer queue is served, on a tie the first, and rates that can't be carried change nothing
overloaded_log : log_of (two_approaches_at 5) (codes "3,0\n0,3\n1,2\n2,2\n") ≡ codes "maxpressure control 1\nc 1 q 3 0 s 1\nc 2 q 0 3 s 2\nc 3 q 1 2 s 2\nc 4 q 2 2 s 1\nend 4\n"
unfolding digits
overloaded_log = refl

-- what is queued downstream counts against an approach
held_back_log : log_of delayed_merge (codes "1,1,0\n1,1,3\n") ≡ codes "maxpressure control 1\nc 1 q 1 1 0 s 1 1\nc 2 q 1 1 3 s 2 1\nend 2\n"
unfolding digits
held_back_log = refl

-- skipped lines have no number in the log
no_log : log_of tandem (codes "\n \t\n# 1,1\n") ≡ codes "maxpressure control 1\nend 0\n"
unfolding digits
no_log = refl

-- too few counts, too many, a leading zero, ten digits, no digits, and other words
bad_lines : input_lines tandem (codes "1\n1,2,3\n01,0\n1234567890,0\n,\nhear 1 2\n") ≡ bad_line ∷ bad_line ∷ bad_line ∷ bad_line ∷ bad_line ∷ bad_line ∷ []
bad_lines = refl

-- blanks round a count, CR LF, and no last line feed
good_lines : input_lines tandem (codes " 2 ,\t1\r\n0,999999999") ≡ counts_line (2 ∷ 1 ∷ []) ∷ counts_line (0 ∷ 999999999 ∷ []) ∷ []
good_lines = refl

-- the CR counts among the 16,384 bytes
longest : input_line tandem (35 ∷ replicate 16383 32) ≡ skipped_line
longest = refl

too_long : input_line tandem (35 ∷ replicate 16384 32) ≡ long_line
too_long = refl
