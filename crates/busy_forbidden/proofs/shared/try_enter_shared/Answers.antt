use Rattle.std.proofs.Common.{ap, ◌∙◌, refl}
use Rattle.lock_core.specs.declared.parts.LockStep.TheVariants.{Look, Lower}
use Rattle.busy_forbidden.proofs.Clearing.{turned_away_clears}
use Rattle.busy_forbidden.proofs.shared.try_enter_shared.Goals as goal

pub returns-clause-steps : goal.returns-clause-steps
returns-clause-steps g c =
    let next = g.K.HasLock.next in
    let f = c.look.result in
    let looked = c.look.ensures.made.view ∙ ap (next Look f) c.raise.ensures.made.view in
    (refl, (f, c.if-look-eq0.false, c.lower.ensures.made.view ∙ ap (next Lower 0) looked, turned_away_clears f))
