use Rattle.std.proofs.Common.{◌≡◌, ◌++◌, ◌+◌, ◌<◌, ◌^◌, ◌%◌, [], ◌∷◌, List, ℕ, sym, ap, ◌∙◌, append_assoc, arith}
use Rattle.std.proofs.lemmas.Fmt.{decimal_digit, decimal_step}
use Rattle.lock_core.proofs.writing.+push_decimal.Goals as goal
use Rattle.lock_core.proofs.writing.+push_decimal.Goals.{then-n-ge10+in_ok-push_decimal, else-n-ge10}

pub returns : goal.returns
returns t c =
    let n : ℕ = c.args.n in
    let fits : n < 2 ^ 64 = omega (arith, c.ranges.n) in
    let last : List ℕ = (48 + n % 10) ∷ [] in
    let old : List ℕ = c.args.out.now.items in
    elim c.if-n-ge10.branch [
      | then-n-ge10+in_ok-push_decimal w ↦
          c.in_ok-push.ensures.items
          ∙ (ap (λ (v : _). v.items ++ last) w.out-is
          ∙ (ap (λ (z : List ℕ). z ++ last) w.in_ok-push_decimal.ensures
          ∙ (append_assoc old _ last ∙ ap (λ (z : List ℕ). old ++ z) (sym (decimal_step n w.if-n-ge10.true fits)))))
      | else-n-ge10 w ↦
          let small : n % 10 ≡ n = omega arith in
          c.in_ok-push.ensures.items
          ∙ (ap (λ (v : _). v.items ++ last) w.out-is
          ∙ ap (λ (z : List ℕ). old ++ z) (ap (λ (k : ℕ). (48 + k) ∷ []) small ∙ sym (decimal_digit n w.if-n-ge10.false)))
    ]
