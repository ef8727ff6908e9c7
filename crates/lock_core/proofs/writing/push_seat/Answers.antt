use Rattle.std.proofs.Common.{◌++◌, List, ℕ, codes, ap, ◌∙◌, append_assoc}
use Rattle.std.specs.Fmt.{decimal}
use Rattle.lock_core.proofs.Appending.{appends_after}
use Rattle.lock_core.proofs.writing.push_seat.Goals as goal

pub returns : goal.returns
returns c =
    let old : List ℕ = c.args.out.now.items in
    let begun = ap (λ (z : List ℕ). z ++ decimal c.args.j) c.in_ok-push_all.ensures in
    let both = c.in_ok-push_decimal.ensures ∙ (begun ∙ append_assoc old (codes "seat ") (decimal c.args.j)) in
    let f = appends_after old _ _ _ _ c.push_all-2.result both c.push_all-2.ensures in
    rw (c.phase_word.ensures, c.flag_word.ensures, c.flag_word-2.ensures, c.standing_word.ensures) at f
