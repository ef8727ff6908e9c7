use Rattle.std.proofs.Common.{refl, sym, subst}
use Rattle.log_check.specs.Filed.{IsFiled}
use Rattle.log_check.proofs.Rising.{filed_end}
use Rattle.log_check.proofs.log.Log.note.Goals as goal

pub invariant_of-self-then-self-gt0 : goal.invariant_of-self-then-self-gt0
invariant_of-self-then-self-gt0 c =
    subst (IsFiled c.self.inside.callers c.self.inside.begun) (sym c.in_ok-push.ensures.items)
    (filed_end c.self.inside.callers c.self.inside.begun c.self.inside.noted.items _ c.if-self-gt0.true refl c.self.invariant)
