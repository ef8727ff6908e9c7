use Rattle.std.proofs.Common.{◌∙◌, ◌+◌, ◌<◌, ℕ, length, sym, subst, arith}
use Rattle.plain_store.specs.Slots.{Slots}
use Rattle.plain_store.specs.Index.{IsIndexedTo, IsLinked}
use Rattle.term_model.specs.declared.Row.{Row}
use Rattle.plain_store.proofs.Fronts.{none_fresh, front_grown, place_left}
use Rattle.plain_store.proofs.nodes.take_fresh.Goals as goal

pub returns-then-row-len-clause-full : goal.returns-then-row-len-clause-full
returns-then-row-len-clause-full c =
    none_fresh c.args.fresh.now c.args.table.now.slots c.args.index.now c.requires.none (c.if-row-len.true ∙ c.len.ensures) c.requires.indexed

pub link-requires-clause-places : goal.link-requires-clause-places
link-requires-clause-places c =
    place_left c.args.fresh.now c.args.table.now.slots c.make_places.new.index c.make_places.ensures.indexed

pub link-requires-clause-row : goal.link-requires-clause-row
link-requires-clause-row c =
    omega (arith, c.requires.indexed.front.fits, c.len.ensures, c.if-row-len.false, c.make_places.ensures.indexed.room)

pub returns-clause-indexed : goal.returns-clause-indexed
returns-clause-indexed c =
    let slots = c.args.table.now.slots in
    let x = c.make_places.new.index in
    let y = c.link.new.self in
    let fresh = c.args.fresh.now in
    let k : Row = record { 0 = fresh } in
    let lt : fresh < length slots = omega (arith, c.requires.indexed.front.fits, c.len.ensures, c.if-row-len.false) in
    let linked = subst (λ (h : ℕ). IsLinked x y h k) c.requires.hashed c.link.ensures in
    subst (λ (t : Slots). IsIndexedTo (fresh + 1) t.slots y) (sym c.set.ensures)
    (front_grown fresh slots x y (c.args.head, c.args.arguments.now) lt c.make_places.ensures.places linked c.make_places.ensures.indexed)
