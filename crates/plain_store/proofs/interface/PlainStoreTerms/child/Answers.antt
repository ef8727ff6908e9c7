use Rattle.std.proofs.Common.{◌≡◌, ◌<◌, Some, length, get_or, sym, subst, arith}
use Rattle.std.specs.Prelude.{slice_get}
use Rattle.term_model.specs.declared.Row.{Row}
use Rattle.term_model.specs.Tree.{arguments}
use Rattle.terms_api.specs.Terms.{IsHeld, tree_at}
use Rattle.plain_store.specs.Contents.{Contents, store_of}
use Rattle.plain_store.specs.View.{contents_of}
use Rattle.plain_store.proofs.Reaching.{count_rows, row_held, row_tree}
use Rattle.plain_store.proofs.interface.PlainStoreTerms.child.Goals as goal

pub bounds-arguments-j : goal.bounds-arguments-j
bounds-arguments-j c =
    let s = c.self.inside in
    let r = c.args.row in
    let held = subst (λ (x : Contents). IsHeld (store_of x) r) (sym c.self.view_is) c.requires.held in
    let same = subst (λ (x : Contents). length c.arguments.result.now ≡ length (arguments (tree_at (store_of x) r))) c.self.view_is
    (count_rows s.nodes (contents_of s) r c.arguments.result.now c.self.invariant.agree held c.arguments.ensures.arguments) in
    omega (arith, same, c.requires.below)

pub returns-clause-held : goal.returns-clause-held
returns-clause-held c =
    let s = c.self.inside in
    let r = c.args.row in
    let d : Row = record { 0 = 0 } in
    let held = subst (λ (x : Contents). IsHeld (store_of x) r) (sym c.self.view_is) c.requires.held in
    let same = subst (λ (x : Contents). length c.arguments.result.now ≡ length (arguments (tree_at (store_of x) r))) c.self.view_is
    (count_rows s.nodes (contents_of s) r c.arguments.result.now c.self.invariant.agree held c.arguments.ensures.arguments) in
    let below : c.args.j < length c.arguments.result.now = omega (arith, same, c.requires.below) in
    subst (λ (x : Contents). IsHeld (store_of x) (get_or c.arguments.result.now c.args.j d)) c.self.view_is
    (row_held s.nodes (contents_of s) r c.arguments.result.now c.args.j d c.self.invariant.agree held c.arguments.ensures.arguments below)

pub returns-clause-tree : goal.returns-clause-tree
returns-clause-tree c =
    let s = c.self.inside in
    let r = c.args.row in
    let d : Row = record { 0 = 0 } in
    let held = subst (λ (x : Contents). IsHeld (store_of x) r) (sym c.self.view_is) c.requires.held in
    let same = subst (λ (x : Contents). length c.arguments.result.now ≡ length (arguments (tree_at (store_of x) r))) c.self.view_is
    (count_rows s.nodes (contents_of s) r c.arguments.result.now c.self.invariant.agree held c.arguments.ensures.arguments) in
    let below : c.args.j < length c.arguments.result.now = omega (arith, same, c.requires.below) in
    subst (λ (x : Contents). slice_get (arguments (tree_at (store_of x) r)) c.args.j ≡ Some (tree_at (store_of x) (get_or c.arguments.result.now c.args.j d))) c.self.view_is
    (row_tree s.nodes (contents_of s) r c.arguments.result.now c.args.j d c.self.invariant.agree held c.arguments.ensures.arguments below)
