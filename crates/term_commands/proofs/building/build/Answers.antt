use Rattle.std.proofs.Common.{Err, ap}
use Rattle.term_commands.proofs.Fitting.{too_full}
use Rattle.term_commands.proofs.building.build.Goals as goal

pub returns-in-Err-StoreFull-clause-full : goal.returns-in-Err-StoreFull-clause-full
returns-in-Err-StoreFull-clause-full c =
    too_full c.args.store.now c.args.head c.args.n (c.in-Err-StoreFull.ensures.store_full_only_where_filled (ap Err c.in-Err-StoreFull.field-0-is))
