-- The workers before they begin.
use Rattle.std.specs.Prelude.{◌≡◌, ℕ, ◌<◌, List, [], Some, length, slice_get}
use Rattle.atomic_table.specs.Table.{Me}
use Rattle.atomic_table.specs.Seated.{TableId}
use Rattle.worker_crew.specs.declared.draws.Drawn.{Drawn}
use Rattle.worker_crew.specs.declared.share.Numbered.{Numbered}
use Rattle.worker_crew.specs.declared.share.Share.{Share}
use Rattle.worker_crew.specs.declared.crew.Crew.{Crew}
use Rattle.worker_crew.specs.Dealt.{IsIn}

-- what a share's seat has drawn
abbrev pub drawn_of : Share → List ℕ
drawn_of share = share.seat.me.0.numbers

abbrev pub number_of : Numbered → ℕ
number_of x = x.number

-- one share of the draws, which has drawn nothing, and no lines
pub record IsFresh (table : TableId) (count : ℕ) (share : Share) : Type 0 where
  pub seat : IsIn table share.seat.table_id share.seat.me share.seat.me.0
  pub shares : share.seat.me.0.shares ≡ 1
  pub end : share.seat.me.0.end ≡ count
  pub past : share.seat.me.0.past ≡ 0
  pub none : drawn_of share ≡ []
  pub no_lines : share.lines.items ≡ []

-- the share of worker k is at place k, and has drawn nothing
pub record IsAt (table : TableId) (count k : ℕ) (shares : List Share) : Type 0 where
  pub share : Share
  pub at : slice_get shares k ≡ Some share
  pub worker : share.worker ≡ k
  pub fresh : IsFresh table count share

-- a seat that has drawn nothing
pub record IsUncut (table of : TableId) (me : Me (Unit {0}) Drawn) (v : Drawn) : Type 0 where
  pub seat : IsIn table of me v
  pub none : v.numbers ≡ []
  pub past : v.past ≡ 0

-- so many workers for so many terms, none of which is drawn
pub record IsCrew (workers terms : ℕ) (crew : Crew) : Type 0 where
  pub all : IsUncut crew.draws.shared.table_id crew.all.table_id crew.all.me crew.all.me.0
  pub cut : crew.all.me.0.shares ≡ 0
  pub key : crew.draws.shared.key.shares ≡ workers
  pub count : length crew.shares.items ≡ workers
  pub shares : (k : ℕ) → k < workers → IsAt crew.draws.shared.table_id terms k crew.shares.items
  pub lines : length crew.lines.items ≡ terms
