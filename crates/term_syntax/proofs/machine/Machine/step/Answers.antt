use Rattle.term_syntax.proofs.Fewness.{fewer}
use Rattle.term_syntax.proofs.machine.Machine.step.Goals as goal

pub after_term-requires : goal.after_term-requires
after_term-requires c = fewer c.args.self.now.groups c.requires

pub in_brackets-requires : goal.in_brackets-requires
in_brackets-requires c = fewer c.args.self.now.groups c.requires

pub on_term-requires : goal.on_term-requires
on_term-requires c = fewer c.args.self.now.groups c.requires
