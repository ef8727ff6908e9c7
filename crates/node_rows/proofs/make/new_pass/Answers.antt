use Rattle.std.proofs.Common.{refl}
use Rattle.node_rows.proofs.Tellings.{told_new}
use Rattle.node_rows.proofs.make.new_pass.Goals as goal

pub returns : goal.returns
returns c =
    let v = c.args.seat.seat.me.0 in
    record {
      seat = (refl, refl, refl);
      told = λ is none. told_new v.sizes v.store c.args.rows c.args.room.marks is none;
    }
