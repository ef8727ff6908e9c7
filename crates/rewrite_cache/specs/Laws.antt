-- What is true of all reductions, and of all cached lists.
use Rattle.std.specs.Prelude.{◌≡◌, ℕ, ◌+◌, ◌-◌, ◌≤◌, List, ◌++◌}
use Rattle.term_model.specs.Tree.{Tree}
use Rattle.rewrite_model.specs.Rule.{Rule}
use Rattle.rewrite_model.specs.Run.{Done, TooDeep}
use Rattle.rewrite_model.specs.Evaluation.{Point, reduction}
use Rattle.rewrite_model.specs.Built.{trees_at}
use Rattle.rewrite_cache.specs.Cached.{IsCached, IsKnown, IsLeastRoom, AreNew}

-- A reduction that ended in a value is known, with the fuel that it took and its room.
abbrev pub ReductionsAreKnown : Type 0
ReductionsAreKnown = (rules : List Rule) (given kept : List Tree) (t value : Tree)
    (fuel room left : ℕ) → (reduction rules given kept t fuel room).end ≡ Done value left →
    (left ≤ fuel) × IsKnown rules t value (fuel - left) room

-- And it builds the same trees each time.
abbrev pub KnownBuildsTheSame : Type 0
KnownBuildsTheSame = (rules : List Rule) (given kept given' kept' : List Tree) (t value : Tree)
    (fuel room left more wider : ℕ) → (reduction rules given kept t fuel room).end
    ≡ Done value left →
    trees_at (reduction rules given' kept' t (fuel - left + more) (room + wider)).notes
    ≡ trees_at (reduction rules given kept t fuel room).notes

-- Where a reduction ends in a value, and in a room one smaller with the same fuel for want of room,
-- its room is the least.
abbrev pub NoLessRoomServes : Type 0
NoLessRoomServes = (rules : List Rule) (given kept given' kept' : List Tree) (t value : Tree)
    (fuel room left : ℕ) → (reduction rules given kept t fuel (room + 1)).end ≡ Done value left
    → (reduction rules given' kept' t fuel room).end ≡ TooDeep →
    IsLeastRoom rules t (room + 1)

-- A tree has one least room at most.
abbrev pub LeastRoomIsOne : Type 0
LeastRoomIsOne = (rules : List Rule) (t value value' : Tree) (used used' room room' : ℕ)
    → IsKnown rules t value used room → IsLeastRoom rules t room
    → IsKnown rules t value' used' room' → IsLeastRoom rules t room' → room ≡ room'

-- The trees of points are a cached list of them, of which nothing is left out.
abbrev pub NothingNeedBeLeftOut : Type 0
NothingNeedBeLeftOut = (rules : List Rule) (earlier : List Tree) (points : List Point)
    → IsCached rules earlier points (trees_at points)

-- Where no tree stands before its point nothing may be left out.
abbrev pub NewTreesAreBuilt : Type 0
NewTreesAreBuilt = (rules : List Rule) (earlier trees : List Tree) (points : List Point)
    → AreNew earlier points → IsCached rules earlier points trees → trees ≡ trees_at points

-- A cached list goes on with another, which may look back on it.
abbrev pub CachedListsJoin : Type 0
CachedListsJoin = (rules : List Rule) (earlier trees more : List Tree) (points others : List Point)
    → IsCached rules earlier points trees → IsCached rules (earlier ++ trees) others more →
    IsCached rules earlier (points ++ others) (trees ++ more)
