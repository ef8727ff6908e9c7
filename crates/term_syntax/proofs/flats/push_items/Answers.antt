use Rattle.std.proofs.Common.{◌++◌, ◌∷◌, [], ◌∙◌, ap, append_assoc, replicate}
use Rattle.std.proofs.lemmas.List.{replicate_more}
use Rattle.term_model.specs.declared.Item.TheVariants.{Cons}
use Rattle.term_syntax.proofs.flats.push_items.Goals as goal

pub loop-cell-preserved : goal.loop-cell-preserved
loop-cell-preserved c =
    let l = c.loop-cell in
    let was = c.args.items.now.items in
    c.in_ok-push-2.ensures.items
    ∙ ap (λ xs. xs ++ Cons ∷ []) l.invariant
    ∙ append_assoc was (c.args.item ∷ replicate l._cell Cons) (Cons ∷ [])
    ∙ ap (λ xs. was ++ c.args.item ∷ xs) (replicate_more l._cell Cons)
