use Rattle.std.proofs.Common.{◌≡◌, arith, refl}
use Rattle.tree_text.specs.declared.name_bytes.TheConstants.{NAME_BYTES}
use Rattle.tree_text.specs.NameBytes.{continues_name}
use Rattle.tree_text.proofs.Tables.{agree_below, from_table}
use Rattle.tree_text.proofs.name_bytes.continues_name.Goals as goal

pub returns : goal.returns
unfolding agree_below
returns c = from_table continues_name NAME_BYTES c.args.byte (omega arith) refl
