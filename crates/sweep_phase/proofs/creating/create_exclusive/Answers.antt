use Rattle.std.proofs.Common.{◌∙◌, inr, map, sym}
use Rattle.sweep_phase.proofs.Since.{since_collected}
use Rattle.sweep_phase.proofs.CrowdFull.{refused_crowds}
use Rattle.sweep_phase.proofs.creating.create_exclusive.Goals as goal

pub create_inside-requires-clause-access : goal.create_inside-requires-clause-access
create_inside-requires-clause-access c = inr c.requires.fresh

pub returns : goal.returns
returns c = record {
  inside = c.create_inside.ensures.inside;
  same = c.create_inside.ensures.same;
  seats = c.create_inside.ensures.inside.pass.count ∙ sym c.requires.inside.pass.count;
  only = c.create_inside.ensures.only;
  notes = c.create_inside.ensures.notes;
  gets = c.create_inside.ensures.gets;
  full_only_where_filled = since_collected c.create_inside.result _ _ c.requires.fresh c.create_inside.ensures.full_after_collection_only_where_filled;
  full_only_where_crowded = refused_crowds c.create_inside.result c.args.store.now.sizes c.args.pass.now.seat.number c.args.pass.now.seat.seat.me.0 c.args.head (map (λ r. r.0) c.args.args.now)
      (since_collected c.create_inside.result _ _ c.requires.fresh c.create_inside.ensures.full_after_collection_only_where_filled);
  full_only_where_read_full = c.create_inside.ensures.full_only_where_read_full;
  full_gets_none = c.create_inside.ensures.full_gets_none;
  rest = c.create_inside.ensures.rest;
}
