use Rattle.std.proofs.Common.{◌≡◌, Some, sym, ap, subst}
use Rattle.std.specs.Prelude.{IfOk, IsTrue, ◌↔◌}
use Rattle.history_core.specs.Entry.{Entry}
use Rattle.history_core.specs.Slots.{Slots, slot_at, term_of}
use Rattle.history_core.specs.Table.{Table, Decides, MayCreateIn}
use Rattle.history_core.proofs.Tables.{decides_make, decides_find, decides_collect}
use Rattle.history_core.proofs.term_table.TermTable.step.Goals as goal

pub returns-in-Make-clause-decides : goal.returns-in-Make-clause-decides
returns-in-Make-clause-decides c =
    subst (λ (e : Entry). IfOk c.make.result (Decides c.args.self.now c.make.new.self c.args.caller e)) (sym c.in-Make.is)
    (decides_make c.args.self.now c.make.new.self c.args.caller c.in-Make.number c.in-Make.head c.in-Make.args c.in-Make.row c.make.result c.make.ensures.made c.make.ensures.roots)

pub returns-in-Find-clause-decides : goal.returns-in-Find-clause-decides
returns-in-Find-clause-decides c =
    let slots : c.self.inside.slots ≡ c.args.self.now.slots = ap (λ (t : Table). t.slots) c.self.view_is in
    let finds = subst (λ (s : Slots). IsTrue c.finds.result ↔ (MayCreateIn s c.in-Find.head c.in-Find.args × (slot_at s c.in-Find.row ≡ Some (term_of c.in-Find.head c.in-Find.args)))) slots c.finds.ensures in
    subst (λ (e : Entry). Decides c.args.self.now c.args.self.now c.args.caller e c.finds.result) (sym c.in-Find.is)
    (decides_find c.args.self.now c.args.caller c.in-Find.after c.in-Find.head c.in-Find.args c.in-Find.row c.finds.result finds)

pub returns-in-Roots-clause-decides : goal.returns-in-Roots-clause-decides
returns-in-Roots-clause-decides c =
    subst (λ (e : Entry). IfOk c.take_roots.result (Decides c.args.self.now c.take_roots.new.self c.args.caller e)) (sym c.in-Roots.is) (c.take_roots.ensures.decides c.in-Roots.after)

pub returns-in-Collect-clause-decides : goal.returns-in-Collect-clause-decides
returns-in-Collect-clause-decides c =
    subst (λ (e : Entry). Decides c.args.self.now c.collect.new.self c.args.caller e c.collect.result) (sym c.in-Collect.is)
    (decides_collect c.args.self.now c.collect.new.self c.args.caller c.in-Collect.number c.in-Collect.kept c.collect.result c.collect.ensures)
