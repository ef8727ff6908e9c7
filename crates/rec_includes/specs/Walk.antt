-- The walk over what a specification includes.
use Rattle.std.specs.Prelude.{ℕ, ◌+◌, List, Option, Some, None, nat_eq, slice_get, if◌then◌else◌}
use Rattle.std.specs.List.{list_any}
use Rattle.std.specs.Option.{option_map, option_and_then}
use Rattle.rec_reader.specs.declared.token.Name.{Name}
use Rattle.rec_reader.specs.declared.syntax_tree.Specification.{Specification}
use Rattle.rec_includes.specs.declared.gathering.Frame.{Frame}
use Rattle.rec_includes.specs.Numbered.{includes_at, target}

-- the frame after its next entry
abbrev pub after : Frame → Frame
after v = record { number = v.number; next = v.next + 1 }

-- an entry, and the frame after it
abbrev pub entry_in : Frame → Name → Name × Frame
entry_in v entry = (entry, after v)

-- the entry that comes next in a frame, and the frame after it
abbrev pub next_in : List Specification → Frame → Option (Name × Frame)
next_in specifications v = option_map (entry_in v) (slice_get (includes_at specifications v.number) v.next)

-- the specification that an entry of the one with this number includes, unless the material has it
abbrev pub missing : (bytes : List ℕ) (headers : List Name) (material : List ℕ) → ℕ → Name → Option ℕ
missing bytes headers material number entry =
    option_and_then (λ n. if list_any (nat_eq n) material then None else Some n) (target bytes headers number entry)
