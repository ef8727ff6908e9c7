use Rattle.std.proofs.Common.{◌≡◌, Some, sym, subst}
use Rattle.std.specs.List.{slice_get}
use Rattle.terms_api.specs.Terms.{Store, tree_at}
use Rattle.terms_api.proofs.Callers.{held-stack}
use Rattle.term_text.specs.Text.{HasNames}
use Rattle.term_lines.proofs.Topmost.{top_row}
use Rattle.term_lines.proofs.rewriter.Rewriter.write_top.Goals as goal

pub write_value-written-requires-clause-held : goal.write_value-written-requires-clause-held
write_value-written-requires-clause-held g c =
    let at = subst (λ (s : Store). slice_get s.stack 0 ≡ Some c.at-row.result) (sym c.at-row.ensures.unchanged) c.at-row.ensures.row in
    held-stack (g.T.Terms.store c.at-row.new.self) 0 c.at-row.result c.at-row.ensures.sound at

pub write_value-written-requires-clause-named : goal.write_value-written-requires-clause-named
write_value-written-requires-clause-named g c =
    let old = g.T.Terms.store c.args.terms.now in
    let row = c.at-row.result in
    subst (λ (s : Store). HasNames c.args.symbols.now (tree_at s row)) (sym c.at-row.ensures.unchanged) (subst (HasNames c.args.symbols.now) (top_row old old.stack row c.at-row.ensures.row) c.requires.value.named)

pub returns-clause-same : goal.returns-clause-same
returns-clause-same g c = g.met.T.Terms.same_in_turn _ _ _ (g.met.T.Terms.same_in_turn _ _ _ c.at-row.ensures.same c.write_value-written.ensures.same) c.keep.ensures.same
