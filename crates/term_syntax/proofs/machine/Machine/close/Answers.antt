use Rattle.std.proofs.Common.{sym, subst, ◌∙◌}
use Rattle.term_syntax.specs.Few.{AreCountsFew}
use Rattle.term_syntax.proofs.Opened.{few_left}
use Rattle.term_syntax.proofs.machine.Machine.close.Goals as goal

pub end-requires : goal.end-requires
end-requires c = subst (AreCountsFew 1) (sym (c.tell_count.ensures.groups ∙ c.close.ensures)) (few_left c.args.self.now.groups c.requires)
