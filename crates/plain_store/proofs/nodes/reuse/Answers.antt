use Rattle.std.proofs.Common.{◌∙◌, ℕ, ◌<◌, ◌++◌, ◌∷◌, [], length, ap, sym, subst, arith}
use Rattle.plain_store.specs.Slots.{Slots}
use Rattle.plain_store.specs.Index.{Index, filled_count, taken, IsIndexedTo, IsLinked}
use Rattle.plain_store.proofs.Fronts.{last_of_front, front_reused, place_left}
use Rattle.plain_store.proofs.nodes.reuse.Goals as goal

pub set-requires-clause-below : goal.set-requires-clause-below
set-requires-clause-below c =
    let own = last_of_front c.args.fresh c.args.table.now.slots c.args.index.now c.take_free.new.self.free c.in_ok-row.row c.in_ok-row.ensures.last c.requires.indexed in
    omega (arith, own.0, c.requires.indexed.front.fits)

pub link-requires-clause-places : goal.link-requires-clause-places
link-requires-clause-places c =
    subst (λ (i : Index). filled_count i.words < length i.words) (sym c.in_ok-row.ensures.taken)
    (place_left c.args.fresh c.args.table.now.slots c.args.index.now c.requires.indexed)

pub link-requires-clause-row : goal.link-requires-clause-row
link-requires-clause-row c =
    let own = last_of_front c.args.fresh c.args.table.now.slots c.args.index.now c.take_free.new.self.free c.in_ok-row.row c.in_ok-row.ensures.last c.requires.indexed in
    omega (arith, own.0, c.requires.indexed.front.fits, c.requires.indexed.room, ap (λ (x : Index). x.tags) c.in_ok-row.ensures.taken)

pub returns-clause-free : goal.returns-clause-free
returns-clause-free c =
    (last_of_front c.args.fresh c.args.table.now.slots c.args.index.now c.take_free.new.self.free c.in_ok-row.row c.in_ok-row.ensures.last c.requires.indexed).1

pub returns-clause-below : goal.returns-clause-below
returns-clause-below c =
    let own = last_of_front c.args.fresh c.args.table.now.slots c.args.index.now c.take_free.new.self.free c.in_ok-row.row c.in_ok-row.ensures.last c.requires.indexed in
    omega (arith, own.0, c.requires.indexed.front.fits)

pub returns-clause-indexed : goal.returns-clause-indexed
returns-clause-indexed c =
    let x = c.args.index.now in
    let k = c.in_ok-row.row in
    let y = c.link.new.self in
    let taken_is = c.in_ok-row.ensures.taken in
    let last = c.in_ok-row.ensures.last ∙ ap (λ (i : Index). i.free ++ k ∷ []) taken_is in
    let linked = subst (λ (h : ℕ). IsLinked (taken x) y h k) c.requires.hashed (subst (λ (i : Index). IsLinked i y c.args.hashed k) taken_is c.link.ensures) in
    let made = front_reused c.args.fresh c.args.table.now.slots x y (taken x).free k (c.args.head, c.args.arguments.now) last linked c.requires.indexed in
    subst (λ (t : Slots). IsIndexedTo c.args.fresh t.slots y) (sym c.set.ensures) made
