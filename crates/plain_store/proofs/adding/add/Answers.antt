use Rattle.std.proofs.Common.{◌+◌, ℕ, None, get_or, sym, subst, take, arith}
use Rattle.std.proofs.lemmas.List.{length-take}
use Rattle.plain_store.specs.Index.{Index, IsIndexed, IsLinked}
use Rattle.plain_store.proofs.Indexing.{node_is, slot_free, added, added_empty}
use Rattle.plain_store.proofs.Linking.{linked_places, linked_tags}
use Rattle.plain_store.proofs.adding.add.Goals as goal

pub returns-in-Some-clause-indexed : goal.returns-in-Some-clause-indexed
returns-in-Some-clause-indexed c =
    let slots = c.args.table.now.slots in
    let x = c.args.index.now in
    let k = c.args.row in
    let is = node_is (get_or slots k.0 None) c.in-Some.head c.arguments.result.now c.in-Some.ensures c.arguments.ensures.arguments in
    added slots x c.link.new.self k (c.in-Some.head, c.arguments.result.now) c.requires.below is
    (subst (λ (h : ℕ). IsLinked x c.link.new.self h k) c.hash_of.ensures c.link.ensures) c.requires.before

pub returns-in-None-clause-indexed : goal.returns-in-None-clause-indexed
returns-in-None-clause-indexed c =
    let slots = c.args.table.now.slots in
    let x = c.args.index.now in
    let k = c.args.row in
    let is = slot_free (get_or slots k.0 None) c.head.result c.in-None.is c.head.ensures in
    subst (λ (y : Index). IsIndexed (take (k.0 + 1) slots) y) (sym c.free.ensures)
    (added_empty slots x k c.requires.below is c.requires.before)

pub link-requires-clause-places : goal.link-requires-clause-places
link-requires-clause-places c =
    omega (arith, c.requires.before.filled, length-take c.args.row.0 c.args.table.now.slots, c.requires.places)

pub free-requires : goal.free-requires
free-requires c =
    omega (arith, c.requires.before.fits, length-take c.args.row.0 c.args.table.now.slots, c.requires.below, c.requires.room)

pub returns-in-Some-clause-tags : goal.returns-in-Some-clause-tags
returns-in-Some-clause-tags c = linked_tags c.args.index.now c.link.new.self c.hash_of.result c.args.row c.link.ensures

pub returns-in-Some-clause-places : goal.returns-in-Some-clause-places
returns-in-Some-clause-places c = linked_places c.args.index.now c.link.new.self c.hash_of.result c.args.row c.link.ensures
