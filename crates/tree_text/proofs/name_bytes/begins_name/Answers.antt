use Rattle.std.proofs.Common.{◌≡◌, arith, refl}
use Rattle.tree_text.specs.declared.name_bytes.TheConstants.{FIRST_BYTES}
use Rattle.tree_text.specs.NameBytes.{begins_name}
use Rattle.tree_text.proofs.Tables.{agree_below, from_table}
use Rattle.tree_text.proofs.name_bytes.begins_name.Goals as goal

pub returns : goal.returns
unfolding agree_below
returns c = from_table begins_name FIRST_BYTES c.args.byte (omega arith) refl
