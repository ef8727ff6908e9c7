use Rattle.std.proofs.lemmas.Result.{err_from_is_err_and}
use Rattle.std.proofs.Common.{◌∙◌, refl, arith}
use Rattle.innermost.proofs.Trails.{told_trail}
use Rattle.innermost.proofs.trail.tell.Goals as goal

pub returns-in_err-list_use : goal.returns-in_err-list_use
returns-in_err-list_use c =
    let p = err_from_is_err_and c.from_residual.result c.from_residual.ensures.1 in
    rw p.1 (record { events = tt; untold = refl; cursor = tt; trail = tt })

pub returns-in_err-go_along : goal.returns-in_err-go_along
returns-in_err-go_along c =
    let p = err_from_is_err_and c.from_residual-in_err-go_along.result c.from_residual-in_err-go_along.ensures.1 in
    rw p.1 (record { events = tt; untold = refl; cursor = tt; trail = tt })

pub returns-clause-trail : goal.returns-clause-trail
returns-clause-trail c = λ steps base frames t. told_trail steps base frames c.args.trail.now _ refl refl (c.in_ok-go_along.ensures ∙ c.deref-3.ensures.value) (omega (arith, c.len-trail.ensures)) t
