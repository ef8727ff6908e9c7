use Rattle.rec_check.proofs.Common.{common_steps, ◌∙◌, arith, bytes_eq, text_of}
use Rattle.rec_check.proofs.Heads.{no_variable}
use Rattle.rec_check.proofs.Declaring.{place_of_name}
use Rattle.rec_check.proofs.scope.Scope.variable_of.Goals as goal

pub returns-then-node-eq0 : goal.returns-then-node-eq0
returns-then-node-eq0 c =
    let v = c.args.self.now.variables.now in
    c.place.ensures ∙ place_of_name v.bytes (bytes_eq (text_of v.bytes c.args.node.head)) v.names

pub returns-else-node-eq0 : goal.returns-else-node-eq0
returns-else-node-eq0 c = grind (arith, common_steps, no_variable)
