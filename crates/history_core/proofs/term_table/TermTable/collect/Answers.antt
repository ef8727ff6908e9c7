use Rattle.std.proofs.Common.{ℕ, List, subst}
use Rattle.std.specs.Prelude.{Contains}
use Rattle.history_core.specs.Marking.{joined}
use Rattle.history_core.proofs.Tables.{table_marked, table_kept}
use Rattle.history_core.proofs.term_table.TermTable.collect.Goals as goal

pub mark_all-requires-clause-within : goal.mark_all-requires-clause-within
mark_all-requires-clause-within c = λ n k.
    c.self.invariant.within n (subst (λ (r : List (List ℕ)). Contains (joined r) n) c.as_slice.ensures.value k)

pub invariant_of-self : goal.invariant_of-self
invariant_of-self c =
    table_marked c.self.inside.slots c.mark_all.new.slots c.self.inside.roots.items c.self.inside.marks c.mark_all.new.marks c.self.invariant
    c.mark_all.ensures.same c.mark_all.ensures.marked.rows

pub invariant_of-self-2 : goal.invariant_of-self-2
invariant_of-self-2 c =
    table_kept c.mark_all.new.slots c.keep_marked.new.slots c.self.inside.roots.items c.mark_all.new.marks
    (table_marked c.self.inside.slots c.mark_all.new.slots c.self.inside.roots.items c.self.inside.marks c.mark_all.new.marks c.self.invariant
    c.mark_all.ensures.same c.mark_all.ensures.marked.rows)
    c.keep_marked.ensures.size c.keep_marked.ensures.kept
