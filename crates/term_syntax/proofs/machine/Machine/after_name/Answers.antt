use Rattle.term_syntax.specs.Shown.{machine_in}
use Rattle.term_syntax.proofs.Fewness.{few_ended, fewer}
use Rattle.term_syntax.proofs.machine.Machine.after_name.Goals as goal

pub after_term-requires : goal.after_term-requires
after_term-requires c = few_ended c.args.part 0 (machine_in c.args.text.now c.args.self.now) (machine_in c.args.text.now c.end.new.self) c.in_ok-end-in_default.ensures c.requires

pub end-requires : goal.end-requires
end-requires c = fewer c.args.self.now.groups c.requires
