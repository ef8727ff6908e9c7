-- Which heads over rows a row has room for.
use Rattle.std.specs.Prelude.{ℕ, ◌+◌, ◌≤◌, List, length}
use Rattle.term_model.specs.declared.Head.{Head}
use Rattle.store_model.specs.declared.view.Sizes.{Sizes}
use Rattle.store_model.specs.Calls.{words_of}
use Rattle.store_model.specs.Machine.{widest}
use Rattle.node_rows.specs.Steps.{over}

-- a row has room for the words of a head over rows
abbrev pub Fits : Sizes → Head → List ℕ → Type 0
Fits z f rs = length (words_of (over f rs)) ≤ widest z + 2
