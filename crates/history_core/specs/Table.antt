-- A term set as a program keeps it.
use Rattle.std.specs.Prelude.{◌≡◌, ℕ, ◌<◌, ◌≤◌, ◌+◌, take, Bool, true, false, Some, None, List, [], length, slice_index_or, slice_set, replicate, Contains}
use Rattle.std.specs.List.{AllByRecursion}
use Rattle.term_model.specs.declared.Head.{Head}
use Rattle.history_core.specs.TermSet.{Names, TermSet, Holds, IsHeld, IsFree, tree_over, IsSound}
use Rattle.history_core.specs.Entry.{Entry, IsStep, after}
use Rattle.history_core.specs.Chronicle.{History, IsLegal}
use Rattle.history_core.specs.declared.slots.Term.{Term}
use Rattle.history_core.specs.Slots.{Slots, slot_at, head_of, term_of, are_taken, stands_over, children, is_marked, kept_if}
use Rattle.history_core.specs.Marking.{AddsAll, ArgsWithin, joined, marked_names}

-- the slots of the names below the bound, and each caller's root names
pub record Table : Type 0 where
  pub slots : Slots
  pub roots : List (List ℕ)

-- the arguments of a term are held, and under the name is the tree of its head over them
pub record IsTermOf (h : Names) (n : ℕ) (term : Term) : Type 0 where
  pub args : AllByRecursion (IsHeld h) term.args
  pub tree : Holds h n (tree_over h (head_of term.root) term.args)

-- The table has the set: a free name has no pair, the term of a taken one spells its tree, and the
-- root names are the same.
pub record Shows (t : Table) (s : TermSet) : Type 0 where
  pub sound : IsSound (length t.slots) s
  pub free : (n : ℕ) → slot_at t.slots n ≡ None → IsFree s.held n
  pub taken : (n : ℕ) (term : Term) → slot_at t.slots n ≡ Some term → IsTermOf s.held n term
  pub roots : (caller : ℕ) → s.roots caller ≡ slice_index_or t.roots caller []

-- Where the entry is a step of the set that the table shows, the answer is true, and the table then
-- shows the set after it. Where it is none, the answer is false, and the table stays as it was.
abbrev pub Decides : Table → Table → ℕ → Entry → Bool → Type 0
Decides old new caller e true =
    (s : TermSet) → Shows old s → IsStep (length old.slots) s e × Shows new (after s caller e)
Decides old new caller e false =
    (new ≡ old) × ((s : TermSet) → Shows old s → IsStep (length old.slots) s e → ⊥)

-- as many names and callers
pub record IsAsLarge (old new : Table) : Type 0 where
  pub names : length new.slots ≡ length old.slots
  pub callers : length new.roots ≡ length old.roots

-- What a creation needs of the slots, and what more a new term does.
pub record MayCreateIn (slots : Slots) (head : Head) (args : List ℕ) : Type 0 where
  pub taken : are_taken slots args ≡ true
  pub stands : stands_over slots head args ≡ true

pub record MayPut (slots : Slots) (row : ℕ) (term : Term) : Type 0 where
  pub below : row < length slots
  pub free : slot_at slots row ≡ None
  pub absent : (n : ℕ) → slot_at slots n ≡ Some term → ⊥

abbrev pub Makes : Slots → Slots → Head → List ℕ → ℕ → Bool → Type 0
Makes old new head args row true = MayCreateIn old head args × MayPut old row (term_of head args)
    × (new ≡ slice_set old row (Some (term_of head args)))
Makes old new head args row false =
    (new ≡ old) × (MayCreateIn old head args → MayPut old row (term_of head args) → ⊥)

-- What is marked from the roots decides which names a collection keeps.
pub record MarksRoots (t : Table) (marks : List Bool) : Type 0 where
  pub adds : AddsAll (children t.slots) (joined t.roots) (replicate (length t.slots) false) marks

abbrev pub Collects : Table → Table → List ℕ → Bool → Type 0
Collects old new kept true =
    (marks : List Bool) × MarksRoots old marks × (kept ≡ marked_names 0 marks)
    × (length new.slots ≡ length old.slots)
    × ((n : ℕ) → slot_at new.slots n ≡ kept_if (is_marked marks n) (slot_at old.slots n))
    × (new.roots ≡ old.roots)
Collects old new kept false =
    (marks : List Bool) × MarksRoots old marks × (new ≡ old) × (kept ≡ marked_names 0 marks → ⊥)

-- What holds of the fields of a table: a mark for each name, and all names are below the bound.
pub record IsTable (slots : Slots) (roots : List (List ℕ)) (marks : List Bool) : Type 0 where
  pub marked : length marks ≡ length slots
  pub args : ArgsWithin slots
  pub within : (n : ℕ) → Contains (joined roots) n → n < length slots

-- So many entries from the start are legal, and with one more they are not.
pub record IsLegalUpTo (rows : ℕ) (history : History) (n : ℕ) : Type 0 where
  pub within : n ≤ length history
  pub legal : IsLegal rows (take n history)
  pub next : n < length history → IsLegal rows (take (n + 1) history) → ⊥
