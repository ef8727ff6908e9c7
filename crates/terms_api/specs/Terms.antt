-- A store of terms, as one caller sees it: a stack of rows, and the trees that rows have.
use Rattle.std.specs.Prelude.{◌≡◌, ℕ, ◌+◌, ◌-◌, ◌^◌, ◌<◌, ◌≤◌, ◌⊎◌, Bool, true, false, List, [], ◌∷◌, ◌++◌, Option, Some, None, Result, Ok, Err, IsSome, Contains, All, length, take, drop, map, max}
use Rattle.std.specs.List.{flat_map}
use Rattle.term_model.specs.declared.Row.{Row}
use Rattle.term_model.specs.declared.Head.{Head}
use Rattle.term_model.specs.Tree.{Tree, Node, trees_of, arguments, subtrees, distinct, may_stand_over, IsWellFormed, IsGround}
use Rattle.term_model.specs.Postorder.{tree_or_leaf}
use Rattle.terms_api.specs.declared.terms.BuildFault.{BuildFault}
use Rattle.terms_api.specs.declared.terms.BuildFault.TheVariants.{Deep, StoreFull, Worn}

pub record Store : Type 0 where
  -- the rows in use, the top of the stack last
  pub stack : List Row
  -- the tree of each row that has one
  pub held : Row → Option Tree
  -- whether the caller is inside
  pub inside : Bool
  -- the trees that were built, in order
  pub built : List Tree
  -- how often building collected, how often it was refused for want of rows or numbers, and the
  -- most different subtrees that were ever protected at once
  pub sweeps : ℕ
  pub refusals : ℕ
  pub load : ℕ
  -- how many rows there are, how many arguments a term may have, and how many places the stack has
  pub rows : ℕ
  pub widest : ℕ
  pub room : ℕ
  -- the trees that filled the store when it was last full, those that were protected then, and
  -- whether its numbers are used up
  pub crowd : List Tree
  pub hand : List Tree
  pub spent : Bool
  -- a number that rises when a row is lost; without one nothing may be remembered by its row
  pub epoch : Option ℕ

abbrev pub HasTree : Store → Row → Tree → Type 0
HasTree s r t = s.held r ≡ Some t

abbrev pub IsHeld : Store → Row → Type 0
IsHeld s r = IsSome (s.held r)

-- the tree of a held row
abbrev pub tree_at : Store → Row → Tree
tree_at s r = tree_or_leaf (s.held r)

-- the trees of the stack
abbrev pub trees : Store → List Tree
trees s = map (tree_at s) s.stack

-- the trees that can be reached from the stack
abbrev pub reachable : Store → List Tree
reachable s = flat_map subtrees (trees s)

-- the last n, and those before them
abbrev pub last : {A : Type 0} → ℕ → List A → List A
last n xs = drop (length xs - n) xs

abbrev pub but_last : {A : Type 0} → ℕ → List A → List A
but_last n xs = take (length xs - n) xs

-- the tree of a head over the last n trees of the stack
abbrev pub asked : Store → Head → ℕ → Tree
asked s h n = Node h (trees_of (last n (trees s)))

-- Each row has one tree and each tree one row, the arguments of a held tree are held, and so are
-- the rows of the stack.
pub record IsSound (s : Store) : Type 0 where
  pub stack : All (IsHeld s) s.stack
  pub depth : length s.stack ≤ s.room
  pub room : s.room < 2 ^ 32
  pub below : (r : Row) (t : Tree) → HasTree s r t → r.0 < s.rows
  pub one_row : (r q : Row) (t : Tree) → HasTree s r t → HasTree s q t → r ≡ q
  pub arguments : (r : Row) (t u : Tree) → HasTree s r t → Contains (arguments t) u
      → (q : Row) × HasTree s q u
  pub well_formed : (r : Row) (t : Tree) → HasTree s r t → IsWellFormed t
  pub ground : (r : Row) (t : Tree) → HasTree s r t → IsGround t

-- a later epoch: a greater number, or none any more
abbrev pub IsLater : Option ℕ → Option ℕ → Type 0
IsLater old None = Unit {0}
IsLater None (Some n) = ⊥
IsLater (Some m) (Some n) = m < n

-- every row keeps its tree
abbrev pub KeepsAll : Store → Store → Type 0
KeepsAll old new = (r : Row) (t : Tree) → HasTree old r t → HasTree new r t

-- no row has a tree that it hadn't
abbrev pub GainsNone : Store → Store → Type 0
GainsNone old new = (r : Row) (t : Tree) → HasTree new r t → HasTree old r t

-- Rows may be lost. The reachable trees keep their rows, and when any row is lost the epoch is
-- later.
pub record Loses (old new : Store) : Type 0 where
  pub reachable : (r : Row) (t : Tree) → HasTree old r t → Contains (reachable old) t
      → HasTree new r t
  pub epoch : ((new.epoch ≡ old.epoch) × KeepsAll old new) ⊎ IsLater old.epoch new.epoch

-- The load rises at most to the different subtrees of these trees.
pub record Loads (old new : Store) (protected : List Tree) : Type 0 where
  pub least : old.load ≤ new.load
  pub most : new.load ≤ max old.load (distinct (flat_map subtrees protected))

-- what `enter` leaves
pub record Entered (old new : Store) : Type 0 where
  pub rest : new ≡ record old { inside = true; held = new.held; epoch = new.epoch }
  pub none : GainsNone old new
  pub rows : Loses old new

-- what `leave` leaves
pub record Left (old new : Store) : Type 0 where
  pub rest : new ≡ record old { inside = false; load = new.load }
  pub load : Loads old new (trees old)

-- what `breathe` leaves
pub record Breathed (old new : Store) : Type 0 where
  pub rest : new ≡ record old { held = new.held; load = new.load; epoch = new.epoch }
  pub none : GainsNone old new
  pub rows : Loses old new
  pub load : Loads old new (trees old)

-- with a row on top
abbrev pub pushed : Store → Row → Store
pushed s r = record s { stack = s.stack ++ r ∷ [] }

-- with rows on top, the last one topmost
abbrev pub pushed_all : Store → List Row → Store
pushed_all s rs = record s { stack = s.stack ++ rs }

-- with the lowest and the last places of the stack alone
abbrev pub kept : Store → ℕ → ℕ → Store
kept s from top = record s { stack = take from s.stack ++ last top s.stack }

-- the head may stand over the last n trees of the stack
pub record MayBuild (s : Store) (h : Head) (n : ℕ) : Type 0 where
  pub depth : n ≤ length s.stack
  pub width : n ≤ s.widest
  pub head : may_stand_over h (trees_of (last n (trees s))) ≡ true

-- what a build changes of the store's numbers
pub record Counts (old new : Store) (h : Head) (n : ℕ) : Type 0 where
  pub inside : new.inside ≡ old.inside
  pub least_sweeps : old.sweeps ≤ new.sweeps
  pub most_sweeps : new.sweeps ≤ old.sweeps + 1
  pub load : Loads old new (trees old ++ asked old h n ∷ [])
  pub rows : new.rows ≡ old.rows
  pub widest : new.widest ≡ old.widest
  pub room : new.room ≡ old.room

-- The last n places of the stack have become the row of the tree over them.
pub record Built (old new : Store) (h : Head) (n : ℕ) : Type 0 where
  pub row : Row
  pub stack : new.stack ≡ but_last n old.stack ++ row ∷ []
  pub tree : HasTree new row (asked old h n)
  pub built : new.built ≡ old.built ++ asked old h n ∷ []
  pub only : (r : Row) (t : Tree) → HasTree new r t → HasTree old r t ⊎ (t ≡ asked old h n)
  pub rows : Loses old new
  pub counts : Counts old new h n

-- Nothing was built.
pub record NotBuilt (old new : Store) (h : Head) (n : ℕ) : Type 0 where
  pub stack : new.stack ≡ old.stack
  pub built : new.built ≡ old.built
  pub none : GainsNone old new
  pub rows : Loses old new
  pub counts : Counts old new h n

-- No place is free for a tree without arguments.
abbrev pub NeedsPlace : Store → ℕ → Type 0
NeedsPlace s n = (n ≡ 0) × (length s.stack ≡ s.room)

-- The store has as many other trees as rows, while the stack's trees were protected.
pub record IsCrowded (old new : Store) (h : Head) (n : ℕ) : Type 0 where
  pub full : distinct new.crowd ≡ new.rows
  pub absent : Contains new.crowd (asked old h n) → ⊥
  pub hand : new.hand ≡ trees old

-- Want of rows or numbers is counted, and nothing else is.
abbrev pub CountsRefusal : Result (Unit {0}) BuildFault → Store → Store → Type 0
CountsRefusal (Ok _) old new = new.refusals ≡ old.refusals
CountsRefusal (Err Deep) old new = new.refusals ≡ old.refusals
CountsRefusal (Err StoreFull) old new = old.refusals < new.refusals
CountsRefusal (Err Worn) old new = old.refusals < new.refusals
