use Rattle.std.proofs.Common.{◌≡◌, ◌-◌, suc, ap, sym, ◌∙◌, arith}
use Rattle.std.proofs.lemmas.Result.{IfOk-weaker}
use Rattle.term_model.specs.Tree.{More}
use Rattle.plain_rewriting.specs.Boxed.{tree_of, trees_in}
use Rattle.plain_rewriting.proofs.Stacks.{more_taken}
use Rattle.plain_rewriting.proofs.reading.+take.Goals as goal

pub returns-in_ok-new-in-Next : goal.returns-in_ok-new-in-Next
returns-in_ok-new-in-Next t c =
    let below = trees_in c.into_inner.result in
    let one = tree_of c.in-Next.term.value in
    let stack : trees_in c.args.stack ≡ More one below = ap trees_in c.in-Next.is ∙ ap (λ r. More one (trees_in r)) (sym c.into_inner.ensures) in
    let onto : More one (trees_in c.in_ok-new-in-Next.field-0.value) ≡ More one (trees_in c.args.taken) = ap (λ r. More one (trees_in r)) c.in_ok-new-in-Next.ensures.ok in
    let count : c.args.count ≡ suc (c.args.count - 1) = omega arith in
    IfOk-weaker c.take.result _ _ (λ r h. more_taken c.args.count (c.args.count - 1) one (trees_in c.args.stack) below (trees_in c.args.taken) (More one (trees_in c.in_ok-new-in-Next.field-0.value)) (trees_in r.args) (trees_in r.rest) count stack onto h) c.take.ensures
