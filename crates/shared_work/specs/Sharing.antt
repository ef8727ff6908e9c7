-- What the chronicle of a store tells of the workers that rewrote terms on it.
use Rattle.std.specs.Prelude.{◌≡◌, ℕ, ◌+◌, ◌≤◌, ◌<◌, List, [], length}
use Rattle.term_model.specs.Tree.{Tree}
use Rattle.history_core.specs.declared.entry.Entry.{Entry}
use Rattle.history_core.specs.Chronicle.{chronicle, part_of, entries_of, KeysRise}
use Rattle.history_core.specs.TermSet.{empty}
use Rattle.history_core.specs.Told.{told, named}
use Rattle.rewrite_model.specs.Rule.{Rule}
use Rattle.settings.specs.declared.parts.Settings.{Settings}
use Rattle.work_order.specs.Lined.{drawn_by}
use Rattle.work_order.specs.Works.{AreBuilt}
use Rattle.shared_desk.specs.Telling.{collects_by}

-- the trees that the Make and Find entries of worker k name, in order, each at its place in the
-- chronicle
abbrev pub named_by : List (List Entry) → ℕ → List Tree
named_by lists k = told named k empty (chronicle lists)

-- They are, in order, the built lists of the terms that the worker drew, where these workers drew
-- the terms; where results are remembered, a cached list of them.
abbrev pub NamesWhatItBuilt : Settings → List Rule → List Tree → (workers : List ℕ)
    → List (List Entry) → Type 0
NamesWhatItBuilt s rules terms workers lists = (k : ℕ) → k < s.workers
    → AreBuilt s rules (drawn_by k workers terms) [] (named_by lists k)

-- each worker collected at most once more than it made or found a tree
abbrev pub CollectsFew : Settings → List (List Entry) → Type 0
CollectsFew s lists =
    (k : ℕ) → k < s.workers → collects_by k (chronicle lists) ≤ length (named_by lists k) + 1

-- Each worker's entries stand in the chronicle in its own order: those that are there under its
-- number are its list.
abbrev pub KeepsOrders : Settings → List (List Entry) → Type 0
KeepsOrders s lists = (k : ℕ) → k < s.workers → part_of k (chronicle lists) ≡ entries_of lists k

-- The keys of each caller's entries rise: none is below an earlier one of its own, and those of
-- Make and Collect are above all of these.
abbrev pub EachRises : List (List Entry) → Type 0
EachRises lists = (caller : ℕ) → KeysRise (entries_of lists caller)
