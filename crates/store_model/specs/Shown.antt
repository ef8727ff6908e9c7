-- The words of a store as those of a table: after the words of the lock, block by block.
use Rattle.std.specs.Prelude.{ℕ, zero, suc, ◌+◌, ◌*◌, Bool, false, nat_lt, if◌then◌else◌, List, slice_index}
use Rattle.store_model.specs.Words.{Place, Base, FreeCount, Claim, InUse, FreePlace, Bucket, RowWord, Birth, Next, RootCount, Root}
use Rattle.store_model.specs.Machine.{Sizes, widest}

-- the four single words, the free places, the buckets, the rows, the seats
abbrev pub block : Place → ℕ
block Base = 0
block FreeCount = 0
block Claim = 0
block InUse = 0
block (FreePlace i) = 1
block (Bucket b) = 2
block (RowWord r k) = 3
block (Birth r) = 3
block (Next r) = 3
block (RootCount j) = 4
block (Root j k) = 4

abbrev pub line : Place → ℕ
line (RowWord r k) = r
line (Birth r) = r
line (Next r) = r
line (RootCount j) = j
line (Root j k) = j
line p = 0

abbrev pub column : Sizes → Place → ℕ
column z Base = 0
column z FreeCount = 1
column z Claim = 2
column z InUse = 3
column z (FreePlace i) = i
column z (Bucket b) = b
column z (RowWord r k) = k
column z (Birth r) = widest z + 2
column z (Next r) = widest z + 3
column z (RootCount j) = 0
column z (Root j k) = suc k

abbrev pub lines : Sizes → ℕ → ℕ
lines z zero = 1
lines z (suc zero) = 1
lines z (suc (suc zero)) = 1
lines z (suc (suc (suc zero))) = z.rows
lines z (suc (suc (suc (suc k)))) = z.seats

abbrev pub columns : Sizes → ℕ → ℕ
columns z zero = 4
columns z (suc zero) = z.rows
columns z (suc (suc zero)) = z.buckets
columns z (suc (suc (suc zero))) = widest z + 4
columns z (suc (suc (suc (suc k)))) = z.depth + 1

-- where a block begins
abbrev pub begin : Sizes → ℕ → ℕ
begin z zero = 1 + 2 * z.seats
begin z (suc b) = begin z b + lines z b * columns z b

abbrev pub index_of : Sizes → Place → ℕ
index_of z p = begin z (block p) + (line p * columns z (block p) + column z p)

-- the columns of a row before its birth number
abbrev pub last_column : Sizes → Place → ℕ
last_column z (RowWord r k) = widest z + 2
last_column z p = columns z (block p)

abbrev pub in_table : Sizes → Place → Bool
in_table z p =
    if nat_lt (line p) (lines z (block p)) then nat_lt (column z p) (last_column z p) else false

-- the words by their places; a place that the table hasn't got has 0
abbrev pub shown : Sizes → List ℕ → Place → ℕ
shown z words p = if in_table z p then slice_index words (index_of z p) else 0

-- how many words a table has
abbrev pub total : Sizes → ℕ
total z = begin z 5
