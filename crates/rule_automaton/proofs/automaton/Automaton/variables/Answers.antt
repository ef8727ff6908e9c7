use Rattle.std.proofs.Common.{sym, ◌∙◌}
use Rattle.rule_automaton.specs.Running.{made}
use Rattle.rule_automaton.proofs.Trying.{read_shape}
use Rattle.rule_automaton.proofs.automaton.Automaton.variables.Goals as goal

pub returns : goal.returns
returns c = c.deref.ensures.value ∙ sym (read_shape (made c.args.self.now).shapes c.args.rule c.index-shape.result.now c.requires c.index-shape.ensures).variables
