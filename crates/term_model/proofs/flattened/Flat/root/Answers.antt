use Rattle.std.proofs.Common.{◌∙◌, sym}
use Rattle.term_model.proofs.Subtrees.{root_is_last}
use Rattle.term_model.proofs.flattened.Flat.root.Goals as goal

pub returns : goal.returns
returns c =
    let h = rw c.items.ensures.items at c.in_ok-last.ensures.value in
    c.head.ensures ∙ root_is_last c.args.self.now c.in_ok-last.field-0.now (sym h)
