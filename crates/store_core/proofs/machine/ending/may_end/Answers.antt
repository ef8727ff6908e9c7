use Rattle.std.proofs.Common.{refl}
use Rattle.store_model.proofs.Ending.{ends_by, base_followed, use_followed, ends_whole}
use Rattle.store_core.proofs.Outcomes.{at_none, at_some, never}
use Rattle.store_core.proofs.machine.ending.may_end.Goals as goal

pub returns-in_default : goal.returns-in_default
returns-in_default c = λ s i h.
    let broken = at_none c.in_ok-kept.field-0 _ _ c.in_default.is c.in_ok-kept.ensures in
    ((λ t. absurd (never _ refl t)), λ e. absurd (ends_whole _ _ _ s i h broken e))

pub returns-then-not-base_follows : goal.returns-then-not-base_follows
returns-then-not-base_follows c = λ s i h.
    ((λ t. absurd (never _ refl t)), λ e. absurd (never c.base_follows.result c.if-not-base_follows.true (c.base_follows.ensures.1 (base_followed _ _ _ s i h e))))

pub returns : goal.returns
returns c = λ s i h.
    let kept = at_some c.in_ok-kept.field-0 c.in-Some.kept _ _ c.in-Some.is c.in_ok-kept.ensures in
    let base = c.base_follows.ensures.0 c.if-not-base_follows.false in
    ((λ t. ends_by _ _ _ s i h c.in-Some.kept kept base (c.use_follows.ensures.0 t)), λ e. c.use_follows.ensures.1 (use_followed _ _ _ s i h c.in-Some.kept kept e))
