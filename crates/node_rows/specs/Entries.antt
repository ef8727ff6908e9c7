-- What an entry of a legal history tells of the rows that it names.
use Rattle.std.specs.Prelude.{ℕ, Contains}
use Rattle.std.specs.List.{AllByRecursion}
use Rattle.term_model.specs.Tree.{Tree}
use Rattle.history_core.specs.declared.entry.Entry.{Entry}
use Rattle.history_core.specs.declared.entry.Entry.TheVariants.{Make, Find, Roots, Collect}
use Rattle.history_core.specs.TermSet.{TermSet, Holds, IsHeld, tree_over}
use Rattle.history_core.specs.Entry.{after}

-- Where an entry of this caller comes upon the set s: the row of a Make then has the tree that it
-- names, that of a Find has it, the rows of Roots have trees, and those that a Collect keeps have
-- the same trees after it.
abbrev pub NamesTrees : TermSet → ℕ → Entry → Type 0
NamesTrees s caller (Make number head args row) =
    Holds (after s caller (Make number head args row)).held row (tree_over s.held head args)
NamesTrees s caller (Find seen head args row) = Holds s.held row (tree_over s.held head args)
NamesTrees s caller (Roots seen names) = AllByRecursion (IsHeld s.held) names
NamesTrees s caller (Collect number kept) =
    (n : ℕ) → Contains kept n → (t : Tree) × Holds s.held n t
    × Holds (after s caller (Collect number kept)).held n t
