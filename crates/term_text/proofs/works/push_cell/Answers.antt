use Rattle.std.proofs.Common.{◌∙◌, arith}
use Rattle.terms_api.specs.Terms.{tree_at}
use Rattle.term_text.proofs.Shapes.{cell_size}
use Rattle.term_text.proofs.Rows.{child_there, held_there, well_formed_at}
use Rattle.term_text.proofs.Writing.{cell_pushed}
use Rattle.term_text.proofs.works.push_cell.Goals as goal

pub child-list-requires-clause-below : goal.child-list-requires-clause-below
child-list-requires-clause-below g c =
    let s = g.T.Terms.store c.args.terms.now in
    let size = cell_size (tree_at s c.args.row) (well_formed_at s c.args.row c.depth.ensures.sound c.requires.held) c.requires.root in
    omega (arith, size)

pub returns : goal.returns
returns g c =
    let s = g.T.Terms.store c.args.terms.now in
    let e = c.child-list.ensures.unchanged in
    record {
      cell = cell_pushed c.args.symbols.now s c.args.row c.child-list.result c.child-first.result _ _ _
          c.requires.named c.child-list.ensures.held (held_there s _ c.child-first.result e c.child-first.ensures.held)
          (well_formed_at s c.args.row c.depth.ensures.sound c.requires.held) c.requires.root
          c.child-list.ensures.tree (child_there s _ c.args.row c.child-first.result 0 e c.child-first.ensures.tree)
          c.in_ok-push.ensures.items c.in_ok-push-2.ensures.items;
      unchanged = c.child-first.ensures.unchanged ∙ c.child-list.ensures.unchanged;
      same = g.met.T.Terms.same_in_turn _ _ _ c.child-list.ensures.same c.child-first.ensures.same;
    }

pub returns-in_err-push-clause-same : goal.returns-in_err-push-clause-same
returns-in_err-push-clause-same g c = g.met.T.Terms.same_in_turn _ _ _ c.child-list.ensures.same c.child-first.ensures.same

pub returns-in_err-push-2-clause-same : goal.returns-in_err-push-2-clause-same
returns-in_err-push-2-clause-same g c = g.met.T.Terms.same_in_turn _ _ _ c.child-list.ensures.same c.child-first.ensures.same
