-- What a pass knows of the rows that it may use, by the words that it has read or stored of them;
-- and, where it is the only one, what its entries tell of all rows.
use Rattle.std.specs.Prelude.{ℕ, ◌<◌, List, [], ◌∷◌, length, get_or}
use Rattle.term_model.specs.Tree.{Tree, Leaf, Node, Trees, End, More}
use Rattle.term_model.specs.declared.Head.{Head}
use Rattle.history_core.specs.declared.entry.Entry.{Entry}
use Rattle.history_core.specs.TermSet.{Names, Lacks, tree_over}
use Rattle.history_core.specs.Chronicle.{chronicle, set_of}
use Rattle.hash_buckets.specs.Spelled.{spelled}
use Rattle.store_model.specs.declared.view.Call.{Call}
use Rattle.store_model.specs.declared.view.Call.TheVariants.{Ended, Counting, Drawing}
use Rattle.store_model.specs.declared.view.Content.{Content}
use Rattle.store_model.specs.declared.view.KnownWord.{KnownWord}
use Rattle.store_model.specs.Calls.{IsOver}
use Rattle.store_model.specs.ByView.{KnowsWord}

-- it knows all words of row r as those of a head over these rows
pub record KnowsRow (ks : List KnownWord) (r : ℕ) (f : Head) (rs : List ℕ) : Type 0 where
  pub over : IsOver f rs
  pub words : (k : ℕ) → k < length (spelled f rs) → KnowsWord r k (get_or (spelled f rs) k 0) ks

-- and so the tree of r: a head over rows whose trees it knows
abbrev mutual
  pub KnowsTree : List KnownWord → ℕ → Tree → Type 0
  KnowsTree ks r (Leaf x) = ⊥
  KnowsTree ks r (Node f ts) = (rs : List ℕ) × KnowsRow ks r f rs × KnowsTrees ks rs ts

  pub KnowsTrees : List KnownWord → List ℕ → Trees → Type 0
  KnowsTrees ks [] End = Unit {0}
  KnowsTrees ks [] (More t ts) = ⊥
  KnowsTrees ks (r ∷ rs) End = ⊥
  KnowsTrees ks (r ∷ rs) (More t ts) = KnowsTree ks r t × KnowsTrees ks rs ts

-- the trees under their names that the entries of one pass leave, where no other pass has any
abbrev pub held_alone : List Entry → Names
held_alone es = (set_of (chronicle (es ∷ []))).held

-- none of them is this head over the trees of these rows
abbrev pub IsAbsent : List Entry → Content → Type 0
IsAbsent es c = Lacks (held_alone es) (tree_over (held_alone es) c.head c.arguments)

-- a creation has read its chain to the end, and its tree is absent
abbrev pub EndsAbsent : List Entry → Call → Type 0
EndsAbsent es (Ended c from) = IsAbsent es c
EndsAbsent es (Counting c from n) = IsAbsent es c
EndsAbsent es (Drawing c from n) = IsAbsent es c
EndsAbsent es x = Unit {0}
