use Rattle.std.proofs.Common.{ℕ, sym, subst}
use Rattle.store_model.specs.declared.view.Place.{Place}
use Rattle.store_model.specs.Marks.{MarksReached}
use Rattle.row_sweep.specs.Gathered.{sizes_of}
use Rattle.row_sweep.specs.Read.{stays_in_turn}
use Rattle.row_sweep.proofs.collecting.load_and_mark.Goals as goal

pub returns : goal.returns
returns c =
    let a = c.args.seat.now in
    let b = c.load_all.new.seat in
    let d = c.mark_all.new.seat in
    record {
      at = c.mark_all.ensures.at;
      stays = stays_in_turn a.seat a.number a.seats b.seat b.number b.seats d.seat d.number d.seats c.load_all.ensures.more.stays c.mark_all.ensures.again.stays;
      marks = subst (λ (u : Place → ℕ). MarksReached u (sizes_of c.args.sweep.now).rows c.mark_all.new.marks) (sym c.mark_all.ensures.again.words) c.mark_all.ensures.marks;
    }
