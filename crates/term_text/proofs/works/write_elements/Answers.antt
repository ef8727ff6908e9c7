use Rattle.std.proofs.Common.{◌∙◌, ◌∷◌, [], Some, ap, sym}
use Rattle.terms_api.specs.Terms.{tree_at}
use Rattle.term_text.specs.Text.{plain_name}
use Rattle.term_text.proofs.Shapes.{is_cons, further_other}
use Rattle.term_text.proofs.Writing.{cell_begun, elements_closed}
use Rattle.term_text.proofs.works.write_elements.Goals as goal

pub returns-in_ok-push-2 : goal.returns-in_ok-push-2
returns-in_ok-push-2 g c =
    let s = g.T.Terms.store c.args.terms.now in
    let names = c.args.symbols.now in
    let none = further_other (plain_name names) (tree_at s c.args.row) c.head.result c.head.ensures.head (sym c.is_cell.ensures ∙ c.if-is_cell.false) in
    record {
      advances = elements_closed names s c.args.row _ _ _ none c.in_ok-push-2.ensures.items;
      grows = (93 ∷ [], c.in_ok-push-2.ensures.items);
      unchanged = c.head.ensures.unchanged;
      same = c.head.ensures.same;
    }

pub returns-in_ok-push : goal.returns-in_ok-push
returns-in_ok-push g c =
    let s = g.T.Terms.store c.args.terms.now in
    let cell = c.head.ensures.head ∙ ap Some (is_cons c.head.result (sym c.is_cell.ensures ∙ c.if-is_cell.true)) in
    record {
      advances = cell_begun c.push_cell.result c.args.symbols.now s _ c.args.row _ _ _ _ c.head.ensures.unchanged cell c.in_ok-push.ensures.items c.push_cell.ensures.cell;
      grows = (44 ∷ [], c.in_ok-push.ensures.items);
      unchanged = c.push_cell.ensures.unchanged ∙ c.head.ensures.unchanged;
      same = g.met.T.Terms.same_in_turn _ _ _ c.head.ensures.same c.push_cell.ensures.same;
    }
