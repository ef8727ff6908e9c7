use Rattle.run_checks.proofs.Texts.{takes_byte, takes_term}
use Rattle.run_checks.proofs.text.take.Goals as goal

pub returns-in-Byte : goal.returns-in-Byte
returns-in-Byte c = takes_byte c.args.table.now c.args.pieces.now.items c.args.piece c.in-Byte.byte c.args.bytes.now c.after_byte.result c.in-Byte.is c.requires c.after_byte.ensures

pub returns-in_ok-push_arguments-in-Term : goal.returns-in_ok-push_arguments-in-Term
returns-in_ok-push_arguments-in-Term c =
    takes_term c.args.table.now c.args.pieces.now.items c.push_arguments.new.pieces.items c.args.piece c.in-Term.number c.at.result.0 c.at.result.1.now c.name.result.now c.args.bytes.now c.after_name.result c.in-Term.is c.requires c.at.ensures.term c.at.ensures.there c.name.ensures c.in_ok-push_arguments-in-Term.ensures c.after_name.ensures
