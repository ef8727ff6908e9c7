use Rattle.std.proofs.Common.{◌∙◌, sym}
use Rattle.node_rows.specs.Rows.{names}
use Rattle.term_create.proofs.Told.{ends_idle, ends_notes, ends_gets, ends_cause, ends_none, ends_rest, ends_only}
use Rattle.term_create.proofs.creating.create_counted.Goals as goal

pub returns : goal.returns
returns g c =
    let v = c.args.pass.now.seat.seat.me.0 in
    let w = c.create_whole.new.pass.seat.seat.me.0 in
    let f = c.args.head in
    let rs = names c.args.args.now in
    let r = c.create_whole.result in
    let e = c.create_whole.ensures in
    let was = c.requires.inside.ready in
    let kept = ends_rest v w f rs r e.view in
    record {
      inside = record {
        store = c.requires.inside.store;
        pass = e.pass;
        ready = record {
          rest = record { call = ends_idle v w f rs r e.view; stay = kept.stay ∙ was.rest.stay };
          has_base = e.loaded.0 ∙ (was.has_base ∙ sym kept.base);
          has_in_use = e.loaded.1 ∙ (was.has_in_use ∙ sym kept.in_use);
          known = e.known;
        };
        told = e.told;
      };
      same = (e.same.same, e.same.number);
      only = ends_only v w f rs r e.view;
      notes = ends_notes v w f rs r e.view;
      gets = ends_gets v w f rs r e.view;
      full_only_where_read_full = ends_cause v w f rs r e.view;
      full_alone_only_where_absent = e.alone;
      full_alone_only_where_all_rows_are_held = e.all;
      full_after_collection_only_where_filled = e.filled;
      full_gets_none = ends_none v w f rs r e.view;
      rest = kept;
      bound = e.cost;
    }
