use Rattle.shared_work.proofs.Outcome.{nothing}
use Rattle.shared_work.proofs.sharing.rewrite_new.Goals as goal

pub returns-in-Ok : goal.returns-in-Ok
returns-in-Ok g c = c.rewrite_at.ensures

pub returns-in-Err : goal.returns-in-Err
returns-in-Err g c =
    let none = c.nothing in
    nothing c.args.work.now none.result.lines none.result.chronicle none.result.log none.ensures.lines none.ensures.chronicle none.ensures.log
