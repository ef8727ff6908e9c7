use Rattle.std.proofs.Common.{arith}
use Rattle.worker_crew.proofs.Dealing.{look_allowed}
use Rattle.worker_crew.proofs.draws.count_drawn.Goals as goal

pub load-requires : goal.load-requires
load-requires c =
    let seat = c.requires.seat in let one = seat.one_word in
    (seat.table_is, omega arith, look_allowed c.args.draws.now.shared.key c.args.draws.now.shared.table_id.slots c.args.seat.now.id c.args.seat.now.me c.requires.all)
