use Rattle.std.proofs.Common.{ap, arith}
use Rattle.worker_crew.proofs.Dealing.{draw_allowed}
use Rattle.worker_crew.proofs.draws.draw.Goals as goal

pub fetch_add-requires : goal.fetch_add-requires
fetch_add-requires c =
    let seat = c.requires.seat in let one = seat.one_word in
    (seat.table_is, omega arith, draw_allowed c.args.draws.now.shared.key c.args.draws.now.shared.table_id.slots c.args.seat.now.id c.args.seat.now.me (ap (λ m. m.1) seat.me_is) c.requires.share)
