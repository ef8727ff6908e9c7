use Rattle.std.proofs.Common.{ℕ}
use Rattle.std.specs.Global.{Vec}
use Rattle.term_commands.proofs.Ends.{packs, uncounted}
use Rattle.term_commands.proofs.packing.packed.Goals as goal

pub returns-clause-packed : goal.returns-clause-packed
returns-clause-packed c = packs c.in_ok-shared.shared (λ (v : Vec ℕ). v.items) c.file_of.result c.args.symbols.now c.args.terms.now c.in_ok-shared.ensures.shared c.file_of.ensures.file

pub returns-clause-uncounted : goal.returns-clause-uncounted
returns-clause-uncounted c = uncounted c.args.rows c.args.terms.now c.file_of.result c.file_of.ensures.memory
