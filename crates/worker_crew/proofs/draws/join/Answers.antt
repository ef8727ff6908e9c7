use Rattle.std.proofs.Common.{ap, arith}
use Rattle.worker_crew.proofs.Dealing.{join_allowed}
use Rattle.worker_crew.proofs.draws.join.Goals as goal

pub join_seat-requires : goal.join_seat-requires
join_seat-requires c =
    let seat = c.requires.seat in let one = seat.one_word in let other = c.requires.other in
    (seat.table_is, other.table_is, ap (λ m. m.1) other.me_is, omega arith, join_allowed c.args.draws.now.shared.key c.args.seat.now.id c.args.seat.now.me.0 c.args.other.id c.args.other.me.0 c.requires.share)
