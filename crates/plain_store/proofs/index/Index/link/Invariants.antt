use Rattle.std.proofs.Common.{◌≡◌, ◌<◌, length}
use Rattle.plain_store.specs.Index.{place_of, HasNoneVacant}
use Rattle.plain_store.proofs.index.Index.link.Given as goal

-- no place before is vacant
abbrev pub invariant-loop-passed : goal.invariant-loop-passed
invariant-loop-passed l =
    record {
      same : l.self ≡ l.fn.self;
      place : l.place ≡ place_of l.fn.self l.hash l.passed;
      below : l.place < length l.fn.self.words;
      filled : HasNoneVacant l.fn.self l.hash l.passed;
    }
