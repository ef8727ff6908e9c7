-- Names with the terms that they stand for, as a program keeps them: each name below a bound is
-- free, or has a root over names.
use Rattle.std.specs.Prelude.{ℕ, Bool, true, false, List, [], ◌∷◌, Option, Some, None, is_some, slice_index_or, map}
use Rattle.std.specs.List.{list_all}
use Rattle.term_model.specs.declared.Head.{Head}
use Rattle.term_model.specs.declared.Head.TheVariants as head
use Rattle.term_model.specs.declared.Row.{Row}
use Rattle.history_core.specs.declared.slots.Root.{Root}
use Rattle.history_core.specs.declared.slots.Root.TheVariants.{App, Int, Nil, Cons}
use Rattle.history_core.specs.declared.slots.Term.{Term}

abbrev pub Slots : Type 0
Slots = List (Option Term)

abbrev pub slot_at : Slots → ℕ → Option Term
slot_at slots n = slice_index_or slots n None

-- the root of a head, and the head of a root
abbrev pub root_of : Head → Root
root_of (head.App f) = App f.0
root_of (head.Int v) = Int v
root_of head.Nil = Nil
root_of head.Cons = Cons

abbrev pub head_of : Root → Head
head_of (App f) = head.App (record { 0 = f })
head_of (Int v) = head.Int v
head_of Nil = head.Nil
head_of Cons = head.Cons

-- the term of a head over names
abbrev pub term_of : Head → List ℕ → Term
term_of h args = record { root = root_of h; args = args }

-- whether the term of a slot has the root of a list
abbrev pub is_list : Option Term → Bool
is_list None = false
is_list (Some term) = is_list_root term.root
  where
    is_list_root : Root → Bool
    is_list_root (App f) = false
    is_list_root (Int v) = false
    is_list_root Nil = true
    is_list_root Cons = true

abbrev pub is_none : List ℕ → Bool
is_none [] = true
is_none (n ∷ ns) = false

-- whether these are two names, the second of a list
abbrev pub second_is_list : Slots → List ℕ → Bool
second_is_list slots (a ∷ b ∷ []) = is_list (slot_at slots b)
second_is_list slots _ = false

-- whether a head may stand over the terms of these names
abbrev pub stands_over : Slots → Head → List ℕ → Bool
stands_over slots (head.App f) args = true
stands_over slots (head.Int v) args = is_none args
stands_over slots head.Nil args = is_none args
stands_over slots head.Cons args = second_is_list slots args

-- whether these names are taken
abbrev pub are_taken : Slots → List ℕ → Bool
are_taken slots names = list_all (λ n. is_some (slot_at slots n)) names

-- the rows of the arguments of a row's term
abbrev pub args_of : Option Term → List ℕ
args_of None = []
args_of (Some term) = term.args

abbrev pub row : ℕ → Row
row n = record { 0 = n }

abbrev pub children : Slots → Row → List Row
children slots r = map row (args_of (slot_at slots r.0))

abbrev pub is_marked : List Bool → ℕ → Bool
is_marked marks n = slice_index_or marks n false

abbrev pub kept_if : Bool → Option Term → Option Term
kept_if true slot = slot
kept_if false slot = None
