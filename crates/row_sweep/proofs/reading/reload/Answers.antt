use Rattle.row_sweep.proofs.Gathering.{again_gathered, again_loads, again_value}
use Rattle.row_sweep.proofs.reading.reload.Goals as goal

pub returns : goal.returns
returns c =
    let s = c.args.seat.now in
    let t = c.load.new.seat in
    let e = c.load.ensures in
    record {
      at = again_gathered c.args.sweep.now s.seat s.number s.seats c.requires.at t.seat t.number t.seats c.args.place c.load.result c.requires.loaded e.at e.more e.pushed e.loaded;
      again = again_loads c.args.sweep.now s.seat s.number s.seats c.requires.at t.seat t.number t.seats c.args.place c.load.result c.requires.loaded e.at e.more e.pushed e.loaded;
      value = again_value c.args.sweep.now s.seat s.number s.seats c.requires.at t.seat t.number t.seats c.args.place c.load.result c.requires.loaded e.at e.more e.pushed e.loaded;
    }
