use Rattle.std.proofs.Common.{arith}
use Rattle.worker_crew.proofs.Dealing.{cut_allowed}
use Rattle.worker_crew.proofs.draws.cut.Goals as goal

pub split_seat-requires : goal.split_seat-requires
split_seat-requires c =
    let seat = c.requires.seat in let one = seat.one_word in
    (seat.table_is, omega arith, cut_allowed c.args.draws.now.shared.key c.args.seat.now.id c.args.seat.now.me.0 c.requires.share c.requires.none.0 c.requires.none.1)
