use Rattle.row_sweep.proofs.Loads.{may_load, loads_after, loaded_gathers, loaded_more, loaded_value}
use Rattle.row_sweep.proofs.loading.load.Goals as goal

pub load_any-requires-clause-may : goal.load_any-requires-clause-may
load_any-requires-clause-may c = let s = c.args.seat.now in may_load c.args.sweep.now s.seat s.number s.seats c.requires.at c.args.place c.args.word c.requires.there c.requires.word

pub returns : goal.returns
returns c =
    let s = c.args.seat.now in
    let t = c.load_any.new.seat in
    let e = c.load_any.ensures in
    record {
      at = loaded_gathers c.args.sweep.now s.seat s.number s.seats c.requires.at t.seat t.number t.seats c.args.place c.load_any.result e.same.0 e.same.1 e.same.2 e.view e.known e.has_store;
      more = loaded_more c.args.sweep.now s.seat s.number s.seats c.requires.at t.seat t.number t.seats c.args.place c.load_any.result e.same.0 e.same.1 e.same.2 e.view e.known e.has_store;
      pushed = loads_after c.args.sweep.now s.seat s.number s.seats c.requires.at t.seat t.number t.seats c.args.place c.load_any.result e.same.0 e.same.1 e.same.2 e.view e.known e.has_store;
      loaded = loaded_value c.args.sweep.now s.seat s.number s.seats c.requires.at t.seat t.number t.seats c.args.place c.load_any.result e.same.0 e.same.1 e.same.2 e.view e.known e.has_store;
    }
