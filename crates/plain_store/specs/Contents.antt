-- A store of one thread: its stack, the trees of its rows, and what has happened.
use Rattle.std.specs.Prelude.{◌≡◌, ℕ, ◌+◌, ◌-◌, ◌^◌, ◌<◌, ◌⊎◌, ◌==◌, min, Bool, false, List, [], ◌∷◌, ◌++◌, Option, Some, None, Contains, map, length, slice_index_or, slice_set, replicate, if◌then◌else◌, refl}
use Rattle.std.proofs.Common.{◌∙◌}
use Rattle.std.specs.List.{flat_map}
use Rattle.term_model.specs.declared.Row.{Row}
use Rattle.term_model.specs.declared.Head.{Head}
use Rattle.term_model.specs.Tree.{Tree, Node, trees_of, subtrees, among, distinct}
use Rattle.term_model.specs.Postorder.{tree_or_leaf}
use Rattle.terms_api.specs.Terms.{Store, HasTree, KeepsAll, trees, reachable, last, but_last, asked}
use Rattle.plain_store.specs.declared.event.Event.{Event}
use Rattle.plain_store.specs.declared.event.Event.TheVariants.{Built, Swept, Refused}

-- the trees of the rows, the trees that were built, those that were protected when the store was
-- last full, and how often it was full
pub record Past : Type 0 where
  pub trees : List (Option Tree)
  pub built : List Tree
  pub hand : List Tree
  pub refusals : ℕ

abbrev pub at_first : ℕ → Past
at_first rows = record { trees = replicate rows None; built = []; hand = []; refusals = 0 }

abbrev pub tree_in : List (Option Tree) → Row → Tree
tree_in trees r = tree_or_leaf (slice_index_or trees r.0 None)

abbrev pub trees_on : List (Option Tree) → List Row → List Tree
trees_on trees stack = map (tree_in trees) stack

-- the row's tree, if it is one of these
abbrev pub kept_among : List Tree → Option Tree → Option Tree
kept_among ts None = None
kept_among ts (Some t) = if among t ts then Some t else None

-- What happened, with the stack of that moment: a tree over its last places got or had a row, or
-- the rows of all trees were freed that can't be reached from it, or the store was full.
abbrev pub after : Past → List Row → Event → Past
after p stack (Built h n r) =
    let t = Node h (trees_of (last n (trees_on p.trees stack))) in
    record p { trees = slice_set p.trees r.0 (Some t); built = p.built ++ t ∷ [] }
after p stack Swept =
    record p { trees = map (kept_among (flat_map subtrees (trees_on p.trees stack))) p.trees }
after p stack Refused = record p { hand = trees_on p.trees stack; refusals = p.refusals + 1 }

-- what contracts see of the store
pub record Contents : Type 0 where
  pub stack : List Row
  pub trees : List (Option Tree)
  pub inside : Bool
  pub built : List Tree
  pub hand : List Tree
  pub refusals : ℕ
  pub widest : ℕ
  pub room : ℕ
  -- how often the epoch was raised, at most 2^64 - 1 times
  pub raised : ℕ

-- the epoch after it was raised so often
abbrev pub epoch_after : ℕ → Option ℕ
epoch_after raised = if raised == 2 ^ 64 - 1 then None else Some raised

abbrev pub store_of : Contents → Store
store_of c =
    record {
      stack = c.stack;
      held = λ r. slice_index_or c.trees r.0 None;
      inside = c.inside;
      built = c.built;
      sweeps = 0;
      refusals = c.refusals;
      load = 0;
      rows = length c.trees;
      widest = c.widest;
      room = c.room;
      crowd = flat_map subtrees c.hand;
      hand = c.hand;
      spent = false;
      epoch = epoch_after c.raised;
    }

-- a store at first
abbrev pub empty : ℕ → ℕ → ℕ → Contents
empty rows room widest =
    record {
      stack = [];
      trees = replicate rows None;
      inside = false;
      built = [];
      hand = [];
      refusals = 0;
      widest = widest;
      room = room;
      raised = 0;
    }

-- with the tree of the head over the last n places at row r, and that row in their place
abbrev pub placed : Contents → Head → ℕ → Row → Contents
placed c h n r =
    let t = asked (store_of c) h n in
    record c {
      stack = but_last n c.stack ++ r ∷ [];
      trees = slice_set c.trees r.0 (Some t);
      built = c.built ++ t ∷ [];
    }

-- no row has the tree
abbrev pub IsAbsent : Contents → Tree → Type 0
IsAbsent c t = (r : Row) → HasTree (store_of c) r t → ⊥

pub record IsFreeRow (c : Contents) (r : Row) : Type 0 where
  pub below : r.0 < length c.trees
  pub free : slice_index_or c.trees r.0 None ≡ None

-- every row has a tree
abbrev pub HasNoFree : Contents → Type 0
HasNoFree c = (k : ℕ) → k < length c.trees → slice_index_or c.trees k None ≡ None → ⊥

-- the rows with the trees alone that can be reached from the stack
abbrev pub kept_trees : Contents → List (Option Tree)
kept_trees c = map (kept_among (reachable (store_of c))) c.trees

abbrev pub collected : Contents → ℕ → Contents
collected c raised = record c { trees = kept_trees c; raised = raised }

-- a row has no longer the tree that it had
pub record LosesRow (old new : Store) : Type 0 where
  pub row : Row
  pub tree : Tree
  pub had : HasTree old row tree
  pub gone : HasTree new row tree → ⊥

-- raised once more, up to 2^64 - 1 times
abbrev pub once_more : ℕ → ℕ
once_more raised = min (raised + 1) (2 ^ 64 - 1)

-- The epoch is raised once where a row is lost, and nowhere else.
pub record CountsLosses (old new : Contents) : Type 0 where
  pub lost : LosesRow (store_of old) (store_of new) → new.raised ≡ once_more old.raised
  pub kept : KeepsAll (store_of old) (store_of new) → new.raised ≡ old.raised

-- Every row has a tree, and none has the asked one.
pub record IsUsedUp (c : Contents) (h : Head) (n : ℕ) : Type 0 where
  pub full : HasNoFree c
  pub absent : IsAbsent c (asked (store_of c) h n)

-- after a collection: no row was lost, or one was, and the epoch was raised once
pub record Collected (old new : Contents) : Type 0 where
  pub new_is : new ≡ collected old new.raised
  pub raises : ((new.raised ≡ old.raised) × (new.trees ≡ old.trees))
      ⊎ ((new.raised ≡ once_more old.raised)
      × LosesRow (store_of old) (store_of (collected old new.raised)))

abbrev pub refused : Contents → Contents
refused c = record c { hand = trees (store_of c); refusals = c.refusals + 1 }

-- The trees under the stack fill all rows, and the asked one isn't among them.
pub record IsFilled (s : Store) (h : Head) (n : ℕ) : Type 0 where
  pub full : distinct (reachable s) ≡ s.rows
  pub absent : Contains (reachable s) (asked s h n) → ⊥

-- a store of one thread is the same while its rows, room and width are
abbrev pub IsSame : Contents → Contents → Type 0
IsSame old new =
    (length new.trees ≡ length old.trees) × (new.room ≡ old.room) × (new.widest ≡ old.widest)

pub same_itself : (c : Contents) → IsSame c c
same_itself c = (refl, refl, refl)

pub same_turn : (c d e : Contents) → IsSame c d → IsSame d e → IsSame c e
same_turn c d e f g = (g.0 ∙ f.0, g.1 ∙ f.1, g.2 ∙ f.2)
