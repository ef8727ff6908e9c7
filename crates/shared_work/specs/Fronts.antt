-- What the chronicle of a store tells of the trees that workers made or found, whether or not all
-- lines were made.
use Rattle.std.specs.Prelude.{◌≡◌, ◌⊎◌, ℕ, ◌<◌, List, [], ◌++◌, Some, Result, All, Contains, length, slice_get}
use Rattle.term_model.specs.Tree.{Tree}
use Rattle.history_core.specs.declared.entry.Entry.{Entry}
use Rattle.rewrite_model.specs.Rule.{Rule}
use Rattle.settings.specs.declared.parts.Settings.{Settings}
use Rattle.work_order.specs.Drawn.{numbered, AreApart}
use Rattle.work_order.specs.Works.{built_of, AreBuilt}
use Rattle.worker_crew.specs.declared.fault.AllFault.{AllFault}
use Rattle.worker_crew.specs.declared.lines.Lines.{Lines}
use Rattle.shared_work.specs.Running.{WantsMemory}
use Rattle.shared_work.specs.Sharing.{named_by}

-- What the entries of worker k name is a front of what the terms with these numbers build, or of a
-- cached list of it.
pub record NamesFront (s : Settings) (rules : List Rule) (terms : List Tree)
    (lists : List (List Entry)) (k : ℕ) (drawn : List ℕ) : Type 0 where
  pub rest : List Tree
  pub built : AreBuilt s rules (numbered terms drawn) [] (named_by lists k ++ rest)

-- Each worker drew terms, upwards, and none was drawn twice; what its entries name is a front of
-- what they build.
pub record NamesFronts (s : Settings) (rules : List Rule) (terms : List Tree)
    (lists : List (List Entry)) : Type 0 where
  pub drawn : List (List ℕ)
  pub apart : AreApart (length terms) s.workers drawn
  pub front : (k : ℕ) (numbers : List ℕ) → slice_get drawn k ≡ Some numbers
      → NamesFront s rules terms lists k numbers

-- Workers made and found no other trees than those that the terms build.
abbrev pub NamesOnlyBuilt : Settings → List Rule → List Tree → List (List Entry) → Type 0
NamesOnlyBuilt s rules terms lists = (k : ℕ) → k < s.workers
    → All (Contains (built_of s rules terms)) (named_by lists k)

-- There are the entries of each worker, or none, where there was no memory to begin with.
abbrev pub TellsEach : Settings → Result Lines AllFault → List (List Entry) → Type 0
TellsEach s lines lists = (length lists ≡ s.workers) ⊎ (WantsMemory lines × (lists ≡ []))
