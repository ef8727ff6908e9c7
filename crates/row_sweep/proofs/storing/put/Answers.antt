use Rattle.row_sweep.proofs.Writes.{may_store, stored_at, stored_more, stored_is, stored_has, stored_words}
use Rattle.row_sweep.proofs.storing.put.Goals as goal

pub store_any-requires-clause-may : goal.store_any-requires-clause-may
store_any-requires-clause-may c = let s = c.args.seat.now in may_store c.args.sweep.now s.seat s.number s.seats c.requires.at c.args.place c.args.value c.requires.there c.args.word c.requires.stored c.requires.word

pub returns : goal.returns
returns c =
    let s = c.args.seat.now in
    let t = c.store_any.new.seat in
    let e = c.store_any.ensures in
    record {
      at = stored_at c.args.sweep.now s.seat s.number s.seats c.requires.at c.args.place c.args.value c.requires.there t.seat t.number t.seats e.same.0 e.same.1 e.same.2 e.view;
      more = stored_more c.args.sweep.now s.seat s.number s.seats c.requires.at c.args.place c.args.value c.requires.there t.seat t.number t.seats e.same.0 e.same.1 e.same.2 e.view;
      storing = stored_is c.args.sweep.now s.seat s.number s.seats c.requires.at c.args.place c.args.value c.requires.there t.seat t.number t.seats e.same.0 e.same.1 e.same.2 e.view;
      has = stored_has c.args.sweep.now s.seat s.number s.seats c.requires.at c.args.place c.args.value c.requires.there t.seat t.number t.seats e.same.0 e.same.1 e.same.2 e.view;
      words = stored_words c.args.sweep.now s.seat s.number s.seats c.requires.at c.args.place c.args.value c.requires.there t.seat t.number t.seats e.same.0 e.same.1 e.same.2 e.view;
    }
