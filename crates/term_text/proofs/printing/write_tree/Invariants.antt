use Rattle.std.proofs.Common.{◌≡◌, ◌++◌}
use Rattle.std.specs.Prelude.{All}
use Rattle.terms_api.specs.Terms.{tree_at}
use Rattle.term_text.specs.Text.{text}
use Rattle.term_text.specs.Works.{text_of_all, steps_of_all, IsReady, Extends}
use Rattle.term_text.proofs.printing.write_tree.Given as goal

-- what is written, and what is still to be written, are the text
abbrev pub invariant-works : goal.invariant-works
invariant-works g l =
    let s = g.T.Terms.store l.fn.terms in
    let names = l.fn.symbols in
    record {
      store : g.T.Terms.store l.terms ≡ s;
      same : g.T.Terms.same l.fn.terms l.terms;
      text : l.out.items ++ text_of_all names s l.works.items ≡ l.fn.out.items ++ text names (tree_at s l.fn.row);
      grows : Extends l.fn.out.items l.out.items;
      ready : All (IsReady names s) l.works.items;
    }

abbrev pub decreases-works : goal.decreases-works
decreases-works g l = steps_of_all (g.T.Terms.store l.fn.terms) l.works.items
