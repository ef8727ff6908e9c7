use Rattle.std.proofs.Common.{◌≡◌, ◌<◌, Some, length}
use Rattle.plain_store.specs.Index.{place_of}
use Rattle.plain_store.proofs.Indexing.{Passed}
use Rattle.plain_store.proofs.nodes.Nodes.find.Given as goal

-- the row isn't at one of the places before
abbrev pub invariant-loop-passed : goal.invariant-loop-passed
invariant-loop-passed l =
    record {
      place : l.place ≡ place_of l.self-inside.index l.hashed l.passed;
      below : l.place < length l.self-inside.index.words;
      none : Passed l.self.slots l.self-inside.index l.hashed (Some (l.head, l.arguments)) l.passed;
    }
