use Rattle.std.proofs.Common.{◌≡◌, ℕ, false, refl, sym, ap, ◌∙◌, subst, ⊎_elim, get_or, true≢false, ◌+◌, Bool, cond, arith}
use Rattle.store_model.proofs.NamesLeft.{by_bool}
use Rattle.store_model.specs.declared.view.Place.TheVariants.{FreePlace}
use Rattle.node_rows.specs.Collecting.{HasSeen}
use Rattle.row_sweep.specs.Gathered.{sizes_of}
use Rattle.row_sweep.specs.Stored.{seen_of}
use Rattle.row_sweep.proofs.Writes.{place_here, place_before, place_later, place_others}
use Rattle.row_sweep.proofs.Placing.{placed_more, placed_same}
use Rattle.row_sweep.proofs.Gathering.{below_more}
use Rattle.row_sweep.proofs.storing.store_place.Goals as goal

pub returns : goal.returns
returns c =
    let u = seen_of c.args.seat.now.seat in
    let v = seen_of c.put_place.new.seat.seat in
    let ms = c.args.marks.now in
    let z = (sizes_of c.args.sweep.now) in
    let r = c.row_in_turn-row.result in
    let words = c.put_place.ensures.words in
    let is = c.row_in_turn-row.ensures.row in
    let not : get_or c.args.marks.now c.row_in_turn-row.result false ≡ false = ⊎_elim (λ m. absurd (true≢false (sym (c.has.ensures.1 m) ∙ c.if-has.false))) (λ e. e) (by_bool (get_or c.args.marks.now c.row_in_turn-row.result false)) in
    let t = c.put_place.new.seat.seat.me.0.store in
    record {
      at = c.put_place.ensures.at;
      more = c.put_place.ensures.more;
      placed = placed_more (λ i. u (FreePlace i)) (λ i. v (FreePlace i)) ms z c.args.order c.args.turn c.args.count (place_here u v r c.args.count words ∙ is) (place_before u v r c.args.count words)
          c.requires.below (sym (ap (λ (q : ℕ). get_or ms q false) is) ∙ not) c.requires.placed;
      has = below_more (λ (q : ℕ). HasSeen c.args.seat.now.seat.me.0.store (FreePlace q)) (λ (q : ℕ). HasSeen t (FreePlace q)) c.args.count c.requires.has (λ q. c.put_place.ensures.more.seen (FreePlace q)) c.put_place.ensures.has;
      few = (omega arith, (let f = c.requires.few in omega arith));
      count = sym (ap (λ (b : Bool). c.args.count + cond b 0 1) (ap (λ (q : ℕ). get_or ms q false) (sym is) ∙ not));
      later = place_later (seen_of c.args.seat.now.seat) (seen_of c.put_place.new.seat.seat) c.row_in_turn-row.result c.args.count c.put_place.ensures.words;
      others = place_others (seen_of c.args.seat.now.seat) (seen_of c.put_place.new.seat.seat) c.row_in_turn-row.result c.args.count c.put_place.ensures.words (seen_of c.args.seat.now.seat) (λ p is. refl);
    }

pub returns-then-has-clause-placed : goal.returns-then-has-clause-placed
returns-then-has-clause-placed c =
    let ms = c.args.marks.now in
    let marked = ap (λ (q : ℕ). get_or ms q false) (sym c.row_in_turn-row.ensures.row) ∙ c.has.ensures.0 c.if-has.true in
    placed_same (λ i. seen_of c.args.seat.now.seat (FreePlace i)) ms (sizes_of c.args.sweep.now) c.args.order c.args.turn c.args.count marked c.requires.placed

-- what is required of the row of the turn holds of the row that was worked out
pub put_place-requires-clause-held : goal.put_place-requires-clause-held
put_place-requires-clause-held c =
    let not : get_or c.args.marks.now c.row_in_turn-row.result false ≡ false = ⊎_elim (λ m. absurd (true≢false (sym (c.has.ensures.1 m) ∙ c.if-has.false))) (λ e. e) (by_bool (get_or c.args.marks.now c.row_in_turn-row.result false)) in
    subst (λ (r : ℕ). get_or c.args.marks.now r false ≡ false → get_or c.args.cells.now r 0 ≡ 4294967295 → (seen_of c.args.seat.now.seat (FreePlace c.args.count) ≡ r) × HasSeen c.args.seat.now.seat.me.0.store (FreePlace c.args.count))
    (sym c.row_in_turn-row.ensures.row) c.requires.held not
