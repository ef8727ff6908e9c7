-- What a collection leaves.
use Rattle.std.specs.Prelude.{◌≡◌, ◌↔◌, ℕ, ◌+◌, ◌<◌, ◌≤◌, ◌^◌, Bool, true, false, Some, List, length, Contains}
use Rattle.atomic_table.specs.declared.shared.Seat.{Seat}
use Rattle.history_core.specs.Entry.{IsAscending}
use Rattle.store_model.specs.declared.view.Sizes.{Sizes}
use Rattle.store_model.specs.declared.view.View.{View}
use Rattle.store_model.specs.declared.view.Place.{Place}
use Rattle.store_model.specs.declared.view.Place.TheVariants.{Base, FreeCount, Claim, InUse, FreePlace, Bucket, Next}
use Rattle.store_model.specs.Collection.{collected}
use Rattle.store_model.specs.Invariant.{span}
use Rattle.store_model.specs.Machine.{Each, In}
use Rattle.store_model.specs.Marks.{IsMarked, MarksReached}
use Rattle.store_model.specs.Steps.{value_at, grown_use, is_stored, is_storing}
use Rattle.store_model.specs.ByView.{HasAll}
use Rattle.node_rows.specs.declared.view.NodeView.{NodeView}
use Rattle.busy_forbidden.specs.Calls.{IsSame}
use Rattle.node_rows.specs.Collecting.{HasSeen, IsKept}
use Rattle.node_rows.specs.Crowding.{kept_in, swept}
use Rattle.node_rows.specs.Steps.{Known}
use Rattle.row_sweep.specs.declared.sweep.Sweep.{Sweep}
use Rattle.row_sweep.specs.Gathered.{sizes_of, loads_of, words_of, HasGathered, LoadsClaim}
use Rattle.row_sweep.specs.Marked.{marked_below}
use Rattle.row_sweep.specs.Chained.{LeadsTo, Belongs, ChainsTo}
use Rattle.row_sweep.specs.Turns.{order_for}
use Rattle.row_sweep.specs.Stored.{Stores, ArePlaced, seen_of}

-- Seat i has noted a collection: its number is the base and the claim that it loaded, and the next
-- base is one more. The rows kept are so many, and so many buckets are in use.
pub record Collects (z : Sizes) (i : ℕ) (v w : View) (live buckets : ℕ) : Type 0 where
  pub claim : ℕ
  pub loads : LoadsClaim z i v claim
  pub kept : List ℕ
  pub room : v.base + claim + 1 + span z ≤ 2 ^ 62
  -- their names ascend, and each is below the rows
  pub ascends : IsAscending kept
  pub below : (r : ℕ) → Contains kept r → r < z.rows
  pub live_is : live ≡ length kept
  pub buckets_are : buckets ≡ grown_use z v.in_use live
  pub view : w ≡ collected v (v.base + claim + 1) (v.base + claim) buckets kept

-- The crowd has as many trees as rows were kept, all different; and a tree that the pass knows of a
-- row is that of the row, which was kept.
pub record HasKept (v : NodeView) (live : ℕ) : Type 0 where
  pub crowd : IsKept (kept_in v.store.entries) v.store.knows v.crowd
  pub live_is : length v.crowd ≡ live

-- All words are loaded, exactly the rows that are reached are marked, and the new chains and the
-- counts are worked out.
pub record IsWorkedOut (c : Sweep) (seat : Seat (Unit {0}) NodeView) (i n : ℕ) (marks : List Bool)
    (nexts heads : List ℕ) (live buckets : ℕ) : Type 0 where
  pub gathered : HasGathered c seat i n
  pub reached : MarksReached (words_of seat) (sizes_of c).rows marks
  pub chains : ChainsTo (words_of seat) marks buckets (sizes_of c).rows heads nexts
  pub live_is : live ≡ marked_below marks (sizes_of c).rows
  pub buckets_are : buckets ≡ grown_use (sizes_of c) (words_of seat InUse) live
  pub use_is : words_of seat InUse ≡ seat.me.0.store.in_use
  pub used : 0 < buckets
  pub within : buckets ≤ (sizes_of c).buckets
  pub more : words_of seat InUse ≤ buckets

-- The chains, the heads and the free places are stored.
pub record HasStored (c : Sweep) (seat : Seat (Unit {0}) NodeView) (i n : ℕ) (marks : List Bool)
    (live buckets count : ℕ) : Type 0 where
  pub stores : Stores c seat i n
  pub all : HasAll (sizes_of c) (loads_of seat)
  pub base_loaded : value_at Base (loads_of seat) ≡ Some c.base
  pub claim_loaded : value_at Claim (loads_of seat) ≡ Some c.claim
  pub reached : MarksReached (words_of seat) (sizes_of c).rows marks
  pub rows : ℕ → List ℕ
  pub leads : (b : ℕ) → b < buckets
      → LeadsTo (λ r. seen_of seat (Next r)) (seen_of seat (Bucket b)) (rows b)
  pub belong : (b : ℕ) → b < buckets
      → Each (Belongs (words_of seat) marks buckets (sizes_of c).rows b) (rows b)
  pub chained : (r : ℕ) → IsMarked marks r → (b : ℕ) × (b < buckets) × In r (rows b)
  pub beyond : (b : ℕ) → buckets ≤ b → b < (sizes_of c).buckets → seen_of seat (Bucket b) ≡ 0
  pub placed : ArePlaced (λ i. seen_of seat (FreePlace i)) marks (sizes_of c)
      (order_for (sizes_of c) live) (sizes_of c).rows count
  pub seen_places : (k : ℕ) → k < count → HasSeen seat.me.0.store (FreePlace k)
  pub few : count ≤ (sizes_of c).rows
  pub others : (p : Place) → is_stored p ≡ false → seen_of seat p ≡ words_of seat p
  pub live_is : live ≡ marked_below marks (sizes_of c).rows
  pub buckets_are : buckets ≡ grown_use (sizes_of c) (words_of seat InUse) live
  pub use_is : words_of seat InUse ≡ seat.me.0.store.in_use
  pub used : 0 < buckets
  pub within : buckets ≤ (sizes_of c).buckets

-- and the numbers
pub record HasSwept (c : Sweep) (seat : Seat (Unit {0}) NodeView) (i n : ℕ) (marks : List Bool)
    (live buckets : ℕ) : Type 0 where
  pub count : ℕ
  pub stored : HasStored c seat i n marks live buckets count
  pub storing : is_storing seat.me.0.store.call ≡ true
  pub base : seen_of seat Base ≡ c.base + c.claim + 1
  pub count_is : seen_of seat FreeCount ≡ count
  pub in_use : seen_of seat InUse ≡ buckets
  pub seen_base : HasSeen seat.me.0.store Base
  pub seen_count : HasSeen seat.me.0.store FreeCount
  pub seen_in_use : HasSeen seat.me.0.store InUse

-- The same seat, whose collection has ended, with a Collect noted; the rows kept are those that are
-- marked.
pub record Ends (c : Sweep) (a : Seat (Unit {0}) NodeView) (i n : ℕ) (b : Seat (Unit {0}) NodeView)
    (j m : ℕ) (marks : List Bool) (live buckets : ℕ) : Type 0 where
  pub same : IsSame a b
  pub number : j ≡ i
  pub seats : m ≡ n
  pub kept : List ℕ
  pub live_is : live ≡ length kept
  pub buckets_are : buckets ≡ grown_use (sizes_of c) a.me.0.store.in_use live
  pub view : b.me.0
      ≡ swept a.me.0
      (collected a.me.0.store (c.base + c.claim + 1) (c.base + c.claim)
      buckets kept) b.me.0.crowd
  pub crowd : IsKept (kept_in b.me.0.store.entries) b.me.0.store.knows b.me.0.crowd
  pub ascends : IsAscending (kept_in b.me.0.store.entries)
  pub marked : (r : ℕ) → IsMarked marks r ↔ Contains kept r
  pub size : length marks ≡ (sizes_of c).rows
  pub known : Known (sizes_of c) b.me.0.store

-- the same, whichever rows are marked
abbrev pub EndsSo : Sweep → Seat (Unit {0}) NodeView → (i n : ℕ) → Seat (Unit {0}) NodeView
    → (j m live buckets : ℕ) → Type 0
EndsSo c a i n b j m live buckets = (marks : List Bool) × Ends c a i n b j m marks live buckets
