-- A source and a sink in memory, as their callers see them, and what a call leaves.
use Rattle.std.specs.Prelude.{ℕ, ◌-◌, min, List, [], ◌++◌, length, take, drop, Result, Ok, Err}
use Rattle.faults.specs.Count.{next_count}

-- what is left, how many bytes a read gives at most, the numbers of the calls that fail, the calls
-- and the faults so far
pub record SourceState : Type 0 where
  pub left : List ℕ
  pub most : ℕ
  pub failing : List ℕ
  pub calls : ℕ
  pub faults : ℕ

-- a source of these bytes before its first call
abbrev pub source_of : List ℕ → ℕ → List ℕ → SourceState
source_of bytes most failing =
    record { left = bytes; most = most; failing = failing; calls = 0; faults = 0 }

-- how many bytes the next read gives to a buffer of this length
abbrev pub read_count : SourceState → ℕ → ℕ
read_count s room = min (min (length s.left) s.most) room

-- what a read leaves
abbrev pub source_after : {E : Type 0} → SourceState → Result ℕ E → SourceState
source_after s (Ok n) = record s { left = drop n s.left; calls = next_count s.calls }
source_after s (Err _) = record s { calls = next_count s.calls; faults = next_count s.faults }

-- what was taken, the space that is left, how many bytes a write takes at most, and the rest as at
-- a source
pub record SinkState : Type 0 where
  pub taken : List ℕ
  pub space : ℕ
  pub most : ℕ
  pub failing : List ℕ
  pub calls : ℕ
  pub faults : ℕ

-- a sink with this space before its first call
abbrev pub sink_of : ℕ → ℕ → List ℕ → SinkState
sink_of space most failing =
    record { taken = []; space = space; most = most; failing = failing; calls = 0; faults = 0 }

-- how many bytes of a piece of this length the next write takes
abbrev pub write_count : SinkState → ℕ → ℕ
write_count s size = min (min s.most size) s.space

-- what a write of the piece leaves
abbrev pub sink_after : {E : Type 0} → SinkState → List ℕ → Result ℕ E → SinkState
sink_after s piece (Ok n) =
    record s { taken = s.taken ++ take n piece; space = s.space - n; calls = next_count s.calls }
sink_after s piece (Err _) = record s { calls = next_count s.calls; faults = next_count s.faults }
