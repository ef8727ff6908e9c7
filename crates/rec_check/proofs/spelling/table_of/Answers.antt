use Rattle.rec_check.proofs.Common.{sym, ap, ◌∙◌, is_some, entries_of}
use Rattle.rec_check.proofs.Declaring.{all_declared}
use Rattle.rec_check.proofs.spelling.table_of.Goals as goal

pub add_symbols-requires : goal.add_symbols-requires
add_symbols-requires c =
    ap is_some (all_declared c.args.text.now _ c.deref.result.now _ (ap entries_of c.deref.ensures.value ∙ c.in_ok-symbols.ensures) c.new-table.ensures) ∙ c.requires

pub returns : goal.returns
returns c =
    sym (all_declared c.args.text.now _ c.deref.result.now _ (ap entries_of c.deref.ensures.value ∙ c.in_ok-symbols.ensures) c.new-table.ensures) ∙ c.in_ok-add_symbols.ensures
