-- The stages of a creation, as they show in the own view.
use Rattle.std.specs.Prelude.{◌≡◌, ◌≢◌, ◌⊎◌, ◌==◌, if◌then◌else◌, true, ℕ, suc, pred, max, ◌<◌, ◌≤◌, ◌+◌, Option, List, [], ◌∷◌, ◌++◌, length}
use Rattle.atomic_table.specs.declared.shared.Seat.{Seat}
use Rattle.term_model.specs.declared.Head.{Head}
use Rattle.term_model.specs.declared.Row.{Row}
use Rattle.history_core.specs.declared.entry.Entry.TheVariants.{Make, Find}
use Rattle.store_model.specs.declared.view.View.{View}
use Rattle.store_model.specs.declared.view.Content.{Content}
use Rattle.store_model.specs.declared.view.Passed.{Passed}
use Rattle.store_model.specs.declared.view.Call.{Call}
use Rattle.store_model.specs.declared.view.Call.TheVariants.{Comparing, Passing, Finding, Filling, Numbering}
use Rattle.store_model.specs.Calls.{words_of, bucket}
use Rattle.store_model.specs.Machine.{with_call, with_path, passing, gained, refusing, overdrawn, arrived}
use Rattle.store_model.specs.Reads.{Differs, PathTo}
use Rattle.busy_forbidden.specs.Calls.{IsSame}
use Rattle.node_rows.specs.declared.view.NodeView.{NodeView}
use Rattle.term_create.specs.Created.{WasFilled}
use Rattle.term_create.specs.declared.asked.Asked.{Asked}
use Rattle.term_create.specs.declared.asked.Noted.{Noted}
use Rattle.term_create.specs.declared.asked.Noted.TheVariants.{Made, Found}
use Rattle.node_rows.specs.Full.{HoldsAll}
use Rattle.node_rows.specs.Rows.{names}
use Rattle.node_rows.specs.Steps.{IsOf, Known, with_store, over}

-- what is asked
abbrev pub content : Asked → Content
content a = over a.head (names a.args.now)

-- the seat is one of the store, and what its view says by itself holds
pub record IsAt (a : Asked) (seat : Seat (Unit {0}) NodeView) : Type 0 where
  pub of : IsOf a.store.now.table.shared.table_id a.store.now.table.shared.key seat
  pub known : Known a.store.now.sizes seat.me.0.store

-- it is at the base, and has the bucket, that are told
pub record IsBased (a : Asked) (v : View) : Type 0 where
  pub base : a.base ≡ v.base
  pub place : a.place ≡ bucket (content a) v.in_use

-- where the pass is the only one of the store, each row has a tree, by its entries
abbrev pub HoldsAllAlone : Asked → NodeView → Type 0
HoldsAllAlone a v = a.store.now.sizes.seats ≡ 1 → HoldsAll a.store.now.sizes.rows v.store.entries

-- where seat i has collected in its access, the store was filled at some moment, without the tree
-- that is asked
abbrev pub FillsAfter : Asked → ℕ → NodeView → Type 0
FillsAfter a i v = v.store.fresh ≡ true → WasFilled a.store.now.sizes i v a.head (names a.args.now)

-- the same seat of the same store
pub record SameSeat (a b : Seat (Unit {0}) NodeView) (i j m n : ℕ) : Type 0 where
  pub same : IsSame a b
  pub number : j ≡ i
  pub seats : n ≡ m

-- the view v with this call
abbrev pub at_call : NodeView → Call → NodeView
at_call v x = with_store v (with_call v.store x)

-- the view v with this call, whose walks have passed these rows
abbrev pub at_walk : NodeView → ℕ → List Passed → Call → NodeView
at_walk v n ps x = with_store v (with_call (with_path v.store n ps) x)

-- the first k words were compared
abbrev pub stage : Content → Option (ℕ × ℕ) → ℕ → ℕ → ℕ → ℕ → Call
stage c d from old at k =
    if k == length (words_of c) then Finding c d (pred at) else Comparing c d from old at k

-- the first k words of the drawn row were stored
abbrev pub storing : Content → ℕ → ℕ → ℕ → ℕ → Call
storing c from i r k =
    if k == length (words_of c) then Numbering c from i r else Filling c from i r k

-- the row that the walk is at differs in a word
pub record IsOther (v w : NodeView) (c : Content) (d : Option (ℕ × ℕ))
    (from old at : ℕ) : Type 0 where
  pub word : ℕ
  pub found : ℕ
  pub differs : Differs c word found
  pub view : w ≡ at_call v (Passing c d from old at (word, found))

-- and the walk has gone on to the next one
pub record GoesOn (v w : NodeView) (c : Content) (d : Option (ℕ × ℕ))
    (from old at next : ℕ) : Type 0 where
  pub word : ℕ
  pub found : ℕ
  pub differs : Differs c word found
  pub view : w ≡ at_walk v (suc v.store.passed) (v.store.path ++ passing at (word, found) next ∷ [])
      (arrived c d from old next)

-- a walk from the head `from` has come to the word `at`, past n rows that each differ in a word
pub record HasWalked (v w : NodeView) (c : Content) (d : Option (ℕ × ℕ))
    (from old at n : ℕ) : Type 0 where
  pub path : List Passed
  pub leads : PathTo c from path at
  pub view : w ≡ at_walk v (v.store.passed + n) (v.store.path ++ path) (arrived c d from old at)

-- The walk has come to its end, the word `old`, without the row. Where it began elsewhere it has
-- passed some.
pub record HasPassed (v w : NodeView) (c : Content) (x : Call) (from old : ℕ) : Type 0 where
  pub passed : ℕ
  pub path : List Passed
  pub no_fewer : v.store.passed ≤ passed
  pub some : from ≢ old → v.store.passed < passed
  pub leads : PathTo c from path old
  pub view : w ≡ at_walk v passed (v.store.path ++ path) x

-- the exchange was lost, and the walk from there has passed some row
pub record Relinks (v w : NodeView) (x : Call) : Type 0 where
  pub passed : ℕ
  pub path : List Passed
  pub more : v.store.passed < passed
  pub view : w ≡ at_walk v passed path x

-- the walk has found the row, with this birth number, and noted it
pub record Finds (v w : NodeView) (f : Head) (rs : List ℕ) (r birth : ℕ) : Type 0 where
  pub passed : ℕ
  pub path : List Passed
  pub view : w ≡ with_store v
      (gained (with_path v.store passed path) (over f rs) r birth
      (Find (max v.store.seen birth) f rs r))

-- the row was made, with this number, and that was noted
pub record Makes (v w : NodeView) (f : Head) (rs : List ℕ) (r number : ℕ) : Type 0 where
  pub passed : ℕ
  pub path : List Passed
  pub later : v.store.seen < number
  pub view : w ≡ with_store v
      (gained (with_path v.store passed path) (over f rs) r number (Make number f rs r))

-- one of both
abbrev pub Notes : NodeView → NodeView → Head → List ℕ → Noted → Type 0
Notes v w f rs (Made r number) = Makes v w f rs r number
Notes v w f rs (Found r birth) = Finds v w f rs r birth

abbrev pub row_of : Noted → ℕ
row_of (Made r number) = r
row_of (Found r birth) = r

-- one of both, with this row
abbrev pub NotesRow : NodeView → NodeView → Head → List ℕ → Row → Type 0
NotesRow v w f rs row = (n : Noted) × (row.0 ≡ row_of n) × Notes v w f rs n

-- a step of the call read the claim, or drew a number, of at least the free count, after the whole
-- chain from the head `from`
pub record IsFull (v w : NodeView) (c : Content) (from : ℕ) : Type 0 where
  pub claim : ℕ
  pub count : ℕ
  pub full : count ≤ claim
  pub view : (w ≡ with_store v (refusing v.store c from claim count))
      ⊎ (w ≡ with_store v (overdrawn v.store c from claim count))

-- and that chain was walked to its end, by rows that each differ
pub record IsRefused (v w : NodeView) (c : Content) : Type 0 where
  pub head : ℕ
  pub passed : ℕ
  pub path : List Passed
  pub leads : PathTo c head path 0
  pub full : IsFull (with_store v (with_path v.store passed (v.store.path ++ path))) w c head
