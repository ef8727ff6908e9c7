use Rattle.std.proofs.Common.{sym, subst}
use Rattle.std.specs.Prelude.{All}
use Rattle.tree_text.specs.Writing.{IsItemHeld}
use Rattle.tree_text.proofs.Writings.{items_held}
use Rattle.text_trials.proofs.inputs.build_term.Goals as goal

pub build_items-requires-clause-held : goal.build_items-requires-clause-held
build_items-requires-clause-held g c =
    let names = c.args.symbols.now in
    subst (All (IsItemHeld names)) (sym c.items.ensures.items) (items_held names c.args.term.now c.requires.held)
