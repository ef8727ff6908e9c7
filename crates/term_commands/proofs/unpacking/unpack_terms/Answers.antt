use Rattle.term_commands.specs.declared.unpacking.Unpacked.{Unpacked}
use Rattle.term_commands.proofs.Ends.{unpacks, closed}
use Rattle.term_commands.proofs.unpacking.unpack_terms.Goals as goal

pub returns-clause-unpacked : goal.returns-clause-unpacked
returns-clause-unpacked c = unpacks c.in_ok-shared.shared (λ (u : Unpacked). u.text.items) c.lines_of.result c.args.file.now (λ (u : Unpacked). u.whole) c.in_ok-shared.ensures.found c.lines_of.ensures.text c.lines_of.ensures.whole

pub returns-clause-closed : goal.returns-clause-closed
returns-clause-closed c = closed c.args.file.now c.lines_of.result c.lines_of.ensures.memory
