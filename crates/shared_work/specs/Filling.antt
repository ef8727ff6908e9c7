-- Why workers on one store stop for want of rows.
use Rattle.std.specs.Prelude.{◌≡◌, ℕ, ◌<◌, List, [], ◌∷◌, ◌++◌, Some, All, Contains, length, slice_get}
use Rattle.term_model.specs.Tree.{Tree, list_of, distinct}
use Rattle.history_core.specs.declared.entry.Entry.{Entry}
use Rattle.history_core.specs.Chronicle.{chronicle, set_of}
use Rattle.history_core.specs.TermSet.{trees_at}
use Rattle.rewrite_model.specs.Rule.{Rule}
use Rattle.settings.specs.declared.parts.Settings.{Settings}
use Rattle.node_rows.specs.Crowding.{IsLastCollect}
use Rattle.work_order.specs.Drawn.{numbered, AreApart}
use Rattle.work_order.specs.Works.{AreBuilt}
use Rattle.worker_crew.specs.declared.fault.AllFault.{AllFault}
use Rattle.worker_crew.specs.declared.fault.AllFault.TheVariants.{StoreFull}
use Rattle.shared_work.specs.Sharing.{named_by}

-- a worker has made or found the tree
pub record IsMade (s : Settings) (lists : List (List Entry)) (t : Tree) : Type 0 where
  pub worker : ℕ
  pub below : worker < s.workers
  pub named : Contains (named_by lists worker) t

-- The last Collect of some worker kept as many different trees as there are rows, those of its
-- names at its place in the chronicle, all of them made or found by workers; and the tree that the
-- worker was to build next isn't among them, at the terms that it drew, where each worker drew
-- terms upwards, and none was drawn twice.
pub record FillsRows (s : Settings) (rules : List Rule) (terms : List Tree)
    (lists : List (List Entry)) : Type 0 where
  pub worker : ℕ
  pub below : worker < s.workers
  pub hands : List (List ℕ)
  pub apart : AreApart (length terms) s.workers hands
  pub drawn : List ℕ
  pub drawn_is : slice_get hands worker ≡ Some drawn
  pub next : Tree
  pub rest : List Tree
  pub built : AreBuilt s rules (numbered terms drawn) [] (named_by lists worker ++ next ∷ rest)
  pub collect : IsLastCollect (chronicle lists) worker
  pub crowd : List Tree
  pub crowd_is : crowd ≡ list_of (trees_at (set_of collect.before).held collect.kept)
  pub full : distinct crowd ≡ s.rows
  pub made : All (IsMade s lists) crowd
  pub absent : Contains crowd next → ⊥

-- want of rows is told only where a worker so fills them
abbrev pub TellsFull : Settings → List Rule → List Tree → List (List Entry) → AllFault → Type 0
TellsFull s rules terms lists fault = fault ≡ StoreFull → FillsRows s rules terms lists
