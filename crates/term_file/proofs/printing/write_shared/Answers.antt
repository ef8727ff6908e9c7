use Rattle.std.proofs.Common.{◌∙◌, ap}
use Rattle.term_model.specs.Tree.{Tree, is_ground}
use Rattle.tree_text.specs.Text.{has_names}
use Rattle.term_file.specs.SharedView.{contents_of}
use Rattle.term_file.proofs.RootText.{term_at_root, text_is}
use Rattle.term_file.proofs.printing.write_shared.Goals as goal

pub flat_of-requires-clause-well_formed : goal.flat_of-requires-clause-well_formed
flat_of-requires-clause-well_formed c = (term_at_root c.args.shared.now (contents_of c.shared.inside) c.shared.view_is c.shared.invariant.right c.args.root c.requires c.index-number.result.now c.index-number.ensures).well_formed

pub write_term-requires-clause-ground : goal.write_term-requires-clause-ground
write_term-requires-clause-ground c = ap (λ (t : Tree). is_ground t) c.in_ok-term.ensures ∙ (term_at_root c.args.shared.now (contents_of c.shared.inside) c.shared.view_is c.shared.invariant.right c.args.root c.requires c.index-number.result.now c.index-number.ensures).ground

pub write_term-requires-clause-held : goal.write_term-requires-clause-held
write_term-requires-clause-held c = ap (λ (t : Tree). has_names c.shared.inside.symbols t) c.in_ok-term.ensures ∙ (term_at_root c.args.shared.now (contents_of c.shared.inside) c.shared.view_is c.shared.invariant.right c.args.root c.requires c.index-number.result.now c.index-number.ensures).named

pub returns-clause-whole : goal.returns-clause-whole
returns-clause-whole c = λ _.
    text_is c.args.shared.now (contents_of c.shared.inside) c.shared.view_is c.shared.invariant.right c.args.root c.requires c.index-number.result.now c.index-number.ensures
    c.write_term.new.out.items c.args.out.now.items c.in_ok-term.term c.in_ok-term.ensures c.in_ok-write_term.ensures.written
