use Rattle.std.proofs.Common.{◌≡◌, ◌++◌, codes, List, ℕ, sym, ap, ◌∙◌, arith}
use Rattle.rec_drill.proofs.Numerals.{opened, closed, numeral_is}
use Rattle.rec_drill.proofs.drill.push_numeral.Goals as goal

pub returns : goal.returns
returns c =
    let old : List ℕ = c.args.text.now.items in
    let count : ℕ = c.args.count in
    let all : c.loop-j._j ≡ count = omega arith in
    c.loop-j.invariant
    ∙ (ap (λ (k : ℕ). old ++ (opened count ++ (codes "z" ++ closed k))) all
    ∙ ap (λ (z : List ℕ). old ++ z) (sym (numeral_is count)))
