use Rattle.std.proofs.Common.{ℕ, ◌<◌, true, false, get_or, length, arith}
use Rattle.store_core.proofs.MarkedPlaces.{places_more, places_repeat, read_mark}
use Rattle.store_core.proofs.machine.marking.mark_places.Goals as goal

pub returns-then-index : goal.returns-then-index
returns-then-index c =
    let m = c.loop-row in
    let place : ℕ → ℕ = λ i. get_or c.args.places.now i 0 in
    let there = c.requires m.row-index c.loop-row-test.true in
    let inside : place m.row-index < length m.marks.items = (let s = m.invariant.size in omega arith) in
    places_repeat place m.row-index c.args.rows m.marks.items m.invariant there (length c.args.places.now) c.loop-row-test.true
    (read_mark m.marks.items (place m.row-index) c.index.result.now true inside c.index.ensures c.if-index.true)

pub loop-row-preserved : goal.loop-row-preserved
loop-row-preserved c =
    let m = c.loop-row in
    let place : ℕ → ℕ = λ i. get_or c.args.places.now i 0 in
    let there = c.requires m.row-index c.loop-row-test.true in
    let inside : place m.row-index < length m.marks.items = (let s = m.invariant.size in omega arith) in
    places_more place m.row-index c.args.rows m.marks.items m.invariant there
    (read_mark m.marks.items (place m.row-index) c.index.result.now false inside c.index.ensures c.if-index.false)
