use Rattle.std.proofs.Common.{◌≡◌, ℕ, refl, sym, ap, ◌∙◌, subst, arith}
use Rattle.store_model.specs.declared.view.Sizes.{Sizes}
use Rattle.store_model.specs.declared.view.Place.TheVariants.{FreePlace}
use Rattle.row_sweep.specs.Gathered.{sizes_of}
use Rattle.node_rows.specs.Collecting.{HasSeen}
use Rattle.row_sweep.specs.Turns.{row_in_turn}
use Rattle.row_sweep.specs.Compared.{unmarked_before, place_for}
use Rattle.row_sweep.specs.Stored.{ArePlaced, seen_of}
use Rattle.row_sweep.proofs.Writes.{stores_itself, stores_in_turn}
use Rattle.row_sweep.proofs.Placing.{placed_none}
use Rattle.row_sweep.proofs.Compares.{unmarked_next}
use Rattle.row_sweep.proofs.Turning.{turn_back, turn_below}
use Rattle.row_sweep.proofs.storing.store_places.Goals as goal

pub loop-turn-init : goal.loop-turn-init
loop-turn-init c = let s = c.args.seat.now in record { at = c.requires.at; more = stores_itself s.seat s.number s.seats; placed = placed_none (λ i. seen_of s.seat (FreePlace i)) c.args.marks.now (sizes_of c.args.sweep.now) c.args.order; has = λ i l. absurd (omega arith); few = omega arith; count = refl; later = λ i l. refl; others = λ p is. refl }

pub loop-turn-preserved : goal.loop-turn-preserved
loop-turn-preserved c =
    let a = c.args.seat.now in
    let t = c.loop-turn.seat in
    let s = c.store_place-count.new.seat in
    let i = c.loop-turn.invariant in
    let e = c.store_place-count.ensures in record {
      at = e.at;
      more = stores_in_turn a.seat a.number a.seats t.seat t.number t.seats s.seat s.number s.seats i.more e.more;
      placed = e.placed;
      has = e.has;
      few = e.few.1;
      count = e.count ∙ unmarked_next c.args.marks.now (sizes_of c.args.sweep.now) c.args.order c.loop-turn.turn c.loop-turn.count i.count;
      later = λ k l. e.later k l ∙ i.later k (let a = e.few.0 in omega arith);
      others = λ p is. e.others p is ∙ i.others p is;
    }

pub store_place-count-requires-clause-held : goal.store_place-count-requires-clause-held
store_place-count-requires-clause-held c = λ not is.
    let i = c.loop-turn.invariant in
    let z = (sizes_of c.args.sweep.now) in
    let d = ap (λ (z : Sizes). z.rows) c.args.sweep.now.at.told in
    let r = row_in_turn (sizes_of c.args.sweep.now) c.args.order c.loop-turn.turn in
    let h = c.requires.held r (turn_below z c.args.order c.loop-turn.turn (omega arith)) not is in
    let at : c.loop-turn.count ≡ place_for c.args.marks.now (sizes_of c.args.sweep.now) c.args.order (row_in_turn (sizes_of c.args.sweep.now) c.args.order c.loop-turn.turn) = i.count ∙ ap (unmarked_before c.args.marks.now (sizes_of c.args.sweep.now) c.args.order) (sym (turn_back z c.args.order c.loop-turn.turn)) in (
      i.later c.loop-turn.count (omega arith) ∙ (ap (λ (k : ℕ). seen_of c.args.seat.now.seat (FreePlace k)) at ∙ h.0),
      i.more.seen (FreePlace c.loop-turn.count) (subst (λ (k : ℕ). HasSeen c.args.seat.now.seat.me.0.store (FreePlace k)) (sym at) h.1),
    )

pub returns : goal.returns
returns c =
    let told = ap (λ (z : Sizes). z.rows) c.args.sweep.now.at.told in
    let past = c.loop-turn-test.false in
    let within = c.loop-turn.auto.turn-end in
    let all : c.loop-turn.turn ≡ (sizes_of c.args.sweep.now).rows = omega arith in
    record {
      at = c.loop-turn.invariant.at;
      more = c.loop-turn.invariant.more;
      placed = subst (λ (n : ℕ). ArePlaced (λ i. seen_of c.loop-turn.seat.seat (FreePlace i)) c.args.marks.now (sizes_of c.args.sweep.now) c.args.order n c.loop-turn.count) all c.loop-turn.invariant.placed;
      has = c.loop-turn.invariant.has;
      few = let few = c.loop-turn.invariant.few in omega arith;
      others = c.loop-turn.invariant.others;
    }
