use Rattle.std.proofs.Common.{◌≡◌, ◌<◌, ℕ, Some, length, take, []}
use Rattle.std.specs.Prelude.{slice_get, sum_by}
use Rattle.term_model.specs.Tree.{Tree, nodes}
use Rattle.terms_api.specs.Terms.{trees}
use Rattle.term_text.specs.Sizes.{saturated}
use Rattle.term_text.specs.Tally.{IsTally, HasRoom, HasCount, AreWithin}
use Rattle.term_text.proofs.measuring.stack_sizes.Given as goal

-- the trees before a place are counted
abbrev pub invariant-loop-place : goal.invariant-loop-place
invariant-loop-place g l =
    let s = g.T.Terms.store l.fn.terms in
    let counts = l.marks-inside.tally.counts.items in
    record {
      store : g.T.Terms.store l.terms ≡ s;
      same : g.T.Terms.same l.fn.terms l.terms;
      tally : IsTally s counts l.marks-inside.tally.rows.items;
      room : HasRoom l.marks-inside.tally;
      idle : l.marks-inside.tally.path.items ≡ [];
      size : length counts ≡ l.fn.marks;
      rows : l.marks-inside.rows ≡ l.fn.marks;
      counted : (i : ℕ) (t : Tree) → i < l.place → slice_get (trees s) i ≡ Some t → HasCount s counts t;
      within : AreWithin s (trees s) counts [];
      nodes : l.nodes ≡ saturated (sum_by nodes (take l.place (trees s)));
    }
