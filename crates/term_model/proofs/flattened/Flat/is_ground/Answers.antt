use Rattle.std.proofs.Common.{◌∙◌, ap, sym}
use Rattle.std.specs.List.{list_all}
use Rattle.term_model.specs.Postorder.{has_head}
use Rattle.term_model.proofs.Subtrees.{all_heads}
use Rattle.term_model.proofs.flattened.Flat.is_ground.Goals as goal

pub returns : goal.returns
returns c =
    let e = c.all_have_heads.ensures ∙ ap (list_all has_head) c.items.ensures.items ∙ all_heads c.args.self.now in
    (λ h. sym e ∙ h, λ h. e ∙ h)
