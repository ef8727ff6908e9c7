use Rattle.std.proofs.Common.{sym, ap, ◌∙◌}
use Rattle.node_rows.specs.declared.view.NodeView.{NodeView}
use Rattle.row_sweep.specs.Read.{stays_in_turn}
use Rattle.row_sweep.proofs.Sweeping.{ends_after}
use Rattle.row_sweep.proofs.collecting.sweep_all.Goals as goal

pub work_out-kept-requires-clause-in_use : goal.work_out-kept-requires-clause-in_use
work_out-kept-requires-clause-in_use c = c.requires.in_use ∙ sym (ap (λ (v : NodeView). v.store.in_use) c.load_and_mark.ensures.stays.only)

pub returns : goal.returns
returns c =
    let a = c.args.seat.now in
    let b = c.load_and_mark.new.seat in
    let d = c.work_out-kept.new.seat in
    let g = c.compare_all.new.seat in
    let e = c.store_all.new.seat in
    let f = c.end.new.seat in
    record {
      ends = ends_after c.args.sweep.now a.seat a.number a.seats e.seat e.number e.seats f.seat f.number f.seats c.load_and_mark.new.marks c.work_out-kept.result.live c.work_out-kept.result.buckets
          (stays_in_turn a.seat a.number a.seats b.seat b.number b.seats e.seat e.number e.seats c.load_and_mark.ensures.stays
          (stays_in_turn b.seat b.number b.seats d.seat d.number d.seats e.seat e.number e.seats c.work_out-kept.ensures.stays
          (stays_in_turn d.seat d.number d.seats g.seat g.number g.seats e.seat e.number e.seats c.compare_all.ensures.stays c.store_all.ensures.stays))) c.end.ensures.ends;
      lengths = (c.compare_all.ensures.lengths.0 ∙ c.work_out-kept.ensures.lengths.0, c.compare_all.ensures.lengths.1 ∙ c.work_out-kept.ensures.lengths.1);
    }

pub store_all-requires-clause-in_use : goal.store_all-requires-clause-in_use
store_all-requires-clause-in_use c = c.requires.in_use
    ∙ (sym (ap (λ (v : NodeView). v.store.in_use) c.load_and_mark.ensures.stays.only)
    ∙ (sym (ap (λ (v : NodeView). v.store.in_use) c.work_out-kept.ensures.stays.only) ∙ sym (ap (λ (v : NodeView). v.store.in_use) c.compare_all.ensures.stays.only)))
