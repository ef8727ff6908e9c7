use Rattle.rule_automaton.proofs.Blocks.{only_root}
use Rattle.rule_automaton.proofs.table.Table.new.Goals as goal

pub returns : goal.returns
returns c = only_root c.new.result c.new.ensures.empty
