use Rattle.std.proofs.Common.{◌≡◌, length, sym, subst}
use Rattle.term_model.specs.Tree.{arguments}
use Rattle.terms_api.specs.Terms.{IsHeld, tree_at}
use Rattle.plain_store.specs.Contents.{Contents, store_of}
use Rattle.plain_store.specs.View.{contents_of}
use Rattle.plain_store.proofs.Reaching.{count_rows}
use Rattle.plain_store.proofs.interface.PlainStoreTerms.count.Goals as goal

pub returns-clause-count : goal.returns-clause-count
returns-clause-count c =
    let s = c.self.inside in
    let r = c.args.row in
    let held = subst (λ (x : Contents). IsHeld (store_of x) r) (sym c.self.view_is) c.requires.held in
    subst (λ (x : Contents). length c.arguments.result.now ≡ length (arguments (tree_at (store_of x) r))) c.self.view_is
    (count_rows s.nodes (contents_of s) r c.arguments.result.now c.self.invariant.agree held c.arguments.ensures.arguments)
