use Rattle.std.proofs.Common.{◌≡◌, ℕ, get_or, refl, sym, ap, ◌∙◌, subst}
use Rattle.store_model.specs.declared.view.Place.TheVariants.{FreeCount, InUse, FreePlace, Bucket, Next}
use Rattle.store_model.specs.declared.view.Call.{Call}
use Rattle.store_model.specs.Steps.{loads}
use Rattle.row_sweep.specs.Loaded.{found}
use Rattle.store_model.specs.declared.view.Sizes.{Sizes}
use Rattle.row_sweep.specs.Gathered.{sizes_of, words_of}
use Rattle.row_sweep.specs.Read.{stays_in_turn}
use Rattle.row_sweep.specs.Compared.{told_by, place_for, Notes}
use Rattle.row_sweep.specs.Stored.{ArePlaced, seen_of}
use Rattle.row_sweep.specs.declared.turns.Order.{Order}
use Rattle.row_sweep.specs.Turns.{order_for}
use Rattle.row_sweep.proofs.Turning.{turn_below}
use Rattle.row_sweep.proofs.Compares.{gathered_seen, place_loaded}
use Rattle.row_sweep.proofs.Sweeping.{gathered_stores, seen_start, lists_stored}
use Rattle.row_sweep.proofs.collecting.store_lists.Goals as goal

pub store_nexts-requires-clause-at : goal.store_nexts-requires-clause-at
store_nexts-requires-clause-at c = let s = c.args.seat.now in gathered_stores c.args.sweep.now s.seat s.number s.seats c.requires.compared.out.gathered

pub store_nexts-requires-clause-marks : goal.store_nexts-requires-clause-marks
store_nexts-requires-clause-marks c = c.requires.compared.out.reached.size

pub store_places-requires-clause-held : goal.store_places-requires-clause-held
store_places-requires-clause-held c = λ r l not is.
    let a = c.args.seat.now in
    let h = c.requires.compared in
    let g = h.out.gathered in
    let s = c.args.sweep.now in
    let same : c.order_for-order.result ≡ order_for (sizes_of s) c.args.kept.live = c.order_for-order.ensures ∙ ap (λ (z : Sizes). order_for z c.args.kept.live) (sym s.at.told) in
    let notes = subst (λ (o : Order). Notes (words_of c.args.seat.now.seat) s.count c.args.marks.now h.new_nexts c.args.nexts.now (sizes_of s) o (sizes_of s).rows) (sym same) h.notes in
    let k = place_for c.args.marks.now (sizes_of c.args.sweep.now) c.order_for-order.result r in
    let p = notes.place r l (turn_below (sizes_of c.args.sweep.now) c.order_for-order.result r l) not is in
    let x = c.store_nexts.ensures in
    let y = c.store_heads.ensures in (
      y.others (FreePlace k) refl ∙ (x.others (FreePlace k) refl ∙ (seen_start c.args.sweep.now a.seat a.number a.seats g (FreePlace k) ∙ p.1)),
      y.more.seen (FreePlace k) (x.more.seen (FreePlace k) (gathered_seen c.args.sweep.now a.seat a.number a.seats g (FreePlace k) (place_loaded c.args.sweep.now a.seat a.number a.seats g k p.0))),
    )

pub returns : goal.returns
returns c =
    let a = c.args.seat.now in
    let b = c.store_nexts.new.seat in
    let d = c.store_heads.new.seat in
    let e = c.store_places.new.seat in
    let x = c.store_nexts.ensures in
    let y = c.store_heads.ensures in
    let z = c.store_places.ensures in
    let s = c.args.sweep.now in
    let same : c.order_for-order.result ≡ order_for (sizes_of s) c.args.kept.live = c.order_for-order.ensures ∙ ap (λ (z : Sizes). order_for z c.args.kept.live) (sym s.at.told) in
    let placed = subst (λ (o : Order). ArePlaced (λ i. seen_of e.seat (FreePlace i)) c.args.marks.now (sizes_of s) o (sizes_of s).rows c.store_places.result) same z.placed in
    record {
      stays = stays_in_turn a.seat a.number a.seats b.seat b.number b.seats e.seat e.number e.seats c.store_nexts.ensures.more.stays
          (stays_in_turn b.seat b.number b.seats d.seat d.number d.seats e.seat e.number e.seats c.store_heads.ensures.more.stays c.store_places.ensures.more.stays);
      stored = let h = c.requires.compared in
          let start = seen_start c.args.sweep.now a.seat a.number a.seats h.out.gathered in
          lists_stored c.args.sweep.now a.seat a.number a.seats c.args.marks.now h.new_nexts h.new_heads c.args.kept.live c.args.kept.buckets h.out
          b.seat b.number b.seats d.seat d.number d.seats e.seat e.number e.seats c.store_places.result x.more y.more z.more z.at
          (λ r l m. x.nexts r l m ∙ (ap (λ (n : ℕ). told_by n (get_or c.args.nexts.now r 0)) (start (Next r)) ∙ h.notes.next r l (turn_below (sizes_of c.args.sweep.now) (order_for (sizes_of c.args.sweep.now) c.args.kept.live) r l) m)) x.others
          (λ q l. y.heads q l ∙ (ap (λ (n : ℕ). told_by n (get_or c.args.heads.now q 0)) (x.others (Bucket q) refl ∙ start (Bucket q)) ∙ h.heads_are q l)) y.others placed z.has z.few z.others;
      count = let g = c.requires.compared.out.gathered in (
        z.others FreeCount refl ∙ (y.others FreeCount refl ∙ (x.others FreeCount refl ∙ (seen_start c.args.sweep.now a.seat a.number a.seats g FreeCount ∙ ap (λ (k : Call). found (loads k) FreeCount) g.gathers.call))),
        z.more.seen FreeCount (y.more.seen FreeCount (x.more.seen FreeCount (gathered_seen c.args.sweep.now a.seat a.number a.seats g FreeCount g.all.count))),
      );
      in_use = let h = c.requires.compared.out in
          let g = c.requires.compared.out.gathered in (
            z.others InUse refl ∙ (y.others InUse refl ∙ (x.others InUse refl ∙ (seen_start c.args.sweep.now a.seat a.number a.seats g InUse ∙ h.use_is))),
            z.more.seen InUse (y.more.seen InUse (x.more.seen InUse (gathered_seen c.args.sweep.now a.seat a.number a.seats g InUse g.all.in_use))),
          );
    }
