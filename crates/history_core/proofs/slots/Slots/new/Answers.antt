use Rattle.std.proofs.Common.{◌∙◌, arith}
use Rattle.history_core.proofs.SlotLemmas.{kept_first, one_free_more}
use Rattle.history_core.proofs.slots.Slots.new.Goals as goal

pub loop-name-preserved : goal.loop-name-preserved
loop-name-preserved c = c.in_ok-push.ensures.items ∙ one_free_more c.loop-name.terms.items c.loop-name.name c.loop-name.invariant

pub invariant_of-result : goal.invariant_of-result
invariant_of-result c =
    kept_first c.loop-name.terms.items c.loop-name.name c.new.result c.loop-name.invariant c.new.ensures.empty (omega (arith, c.ranges.names.fits, c.loop-name.auto.name-end))
