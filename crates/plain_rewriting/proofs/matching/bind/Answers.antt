use Rattle.std.proofs.Common.{◌≡◌, ap, sym, ◌∙◌, arith, length, Some}
use Rattle.plain_rewriting.specs.Boxed.{tree_of, trees}
use Rattle.plain_rewriting.proofs.Binding.{is_bound, is_beyond, is_next}
use Rattle.plain_rewriting.proofs.matching.bind.Goals as goal

pub returns-then-at-len : goal.returns-then-at-len
returns-then-at-len c = is_bound c.args.variable (tree_of c.args.term.now) c.args.bound.now.items c.index.result.now c.is_same.result (omega arith) c.index.ensures c.is_same.ensures

pub returns-then-at-len-2 : goal.returns-then-at-len-2
returns-then-at-len-2 c = is_beyond c.args.variable (tree_of c.args.term.now) c.args.bound.now.items (omega arith)

pub returns : goal.returns
returns c =
    let next : c.args.variable ≡ length c.args.bound.now.items = omega arith in
    is_next c.args.variable (tree_of c.args.term.now) c.args.bound.now.items c.in_ok-copy.field-0 next c.in_ok-copy.ensures ∙ ap (λ xs. Some (trees xs)) (sym c.in_ok-push.ensures.items)
