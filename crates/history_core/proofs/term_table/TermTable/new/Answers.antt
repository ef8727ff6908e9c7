use Rattle.std.proofs.Common.{Bool, List, ℕ, None, [], replicate, sym, subst}
use Rattle.history_core.specs.Slots.{Slots}
use Rattle.history_core.specs.Table.{Table, IsTable}
use Rattle.history_core.proofs.Tables.{table_start, table_size, shows_empty}
use Rattle.history_core.proofs.term_table.TermTable.new.Goals as goal

pub invariant_of-result : goal.invariant_of-result
invariant_of-result c =
    subst (λ (s : Slots). IsTable s c.in_ok-no_roots.field-0.items c.in_ok-new-2.field-0) (sym c.in_ok-new.ensures)
    (subst (λ (r : List (List ℕ)). IsTable (replicate c.args.rows None) r c.in_ok-new-2.field-0) (sym c.in_ok-no_roots.ensures)
    (subst (λ (m : List Bool). IsTable (replicate c.args.rows None) (replicate c.args.callers []) m) (sym c.in_ok-new-2.ensures) (table_start c.args.rows c.args.callers)))

pub returns : goal.returns
returns c =
    let view : Table = record { slots = c.in_ok-new.field-0; roots = c.in_ok-no_roots.field-0.items } in
    let size = table_size view c.args.rows c.args.callers c.in_ok-new.ensures c.in_ok-no_roots.ensures in
    record { empty = shows_empty view c.args.rows c.args.callers c.in_ok-new.ensures c.in_ok-no_roots.ensures; rows = size.0; callers = size.1 }
