use Rattle.std.proofs.Common.{◌≡◌, ℕ, ◌+◌, ◌*◌, ◌%◌, ap, ◌∙◌, arith}
use Rattle.std.proofs.Math.Nat.{add-mul-mod_self_right}
use Rattle.rec_drill.proofs.Numerals.{numeral_length}
use Rattle.rec_drill.proofs.TermLines.{length-drill_lines, term_among}
use Rattle.rec_drill.proofs.Cutting.{text_cut}
use Rattle.rec_drill.proofs.Lengths.{text_short}
use Rattle.rec_drill.proofs.laws.drill_laws.Goals as goal

pub returns-clause-cut : goal.returns-clause-cut
returns-clause-cut c = text_cut

pub returns-clause-lines : goal.returns-clause-lines
returns-clause-lines c = length-drill_lines

pub returns-clause-terms : goal.returns-clause-terms
returns-clause-terms c = term_among

pub returns-clause-numbers : goal.returns-clause-numbers
returns-clause-numbers c = numeral_length

pub returns-clause-short : goal.returns-clause-short
returns-clause-short c = text_short

pub returns-clause-first_repeats : goal.returns-clause-first_repeats
returns-clause-first_repeats c i =
    let round : 7 * (i + 11) + 3 ≡ (7 * i + 3) + 7 * 11 = omega arith in
    ap (λ (k : ℕ). k % 11) round ∙ add-mul-mod_self_right (7 * i + 3) 7 11

pub returns-clause-second_repeats : goal.returns-clause-second_repeats
returns-clause-second_repeats c i =
    let round : 5 * (i + 13) + 1 ≡ (5 * i + 1) + 5 * 13 = omega arith in
    ap (λ (k : ℕ). k % 13) round ∙ add-mul-mod_self_right (5 * i + 1) 5 13
