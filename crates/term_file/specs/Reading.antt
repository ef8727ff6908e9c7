-- Reading a file from left to right, up to the first field that breaks a rule. `total` is the
-- length of the file, and the place of a field is told by the bytes from the field on.
use Rattle.std.specs.Prelude.{ℕ, zero, suc, ◌-◌, List, [], ◌∷◌, ◌++◌, length, take, drop, unwrap_or, is_some, Result, Ok, Err, Bool, true, false, ◌&&◌, ◌==◌, nat_lt, nat_le, nat_eq, if◌then◌else◌}
use Rattle.std.specs.List.{list_all}
use Rattle.std.specs.Cmp.Lexicographic.{pointwise}
use Rattle.byteorder.specs.Endian.{big_number}
use Rattle.term_model.specs.declared.Head.{Head}
use Rattle.term_model.specs.declared.Head.TheVariants.{App, Int, Nil, Cons}
use Rattle.symbol_pool.specs.Pool.{Named, named}
use Rattle.faults.specs.declared.refusal.Refusal.{Refusal}
use Rattle.read_faults.specs.Fault.{fault}
use Rattle.tree_text.specs.NameBytes.{is_printable}
use Rattle.term_file.specs.Contents.{Record, Contents}
use Rattle.term_file.specs.InOrder.{came_after, used_by, visits, visits_at}
use Rattle.term_file.specs.Right.{is_new_symbol, is_new_record, arity_in, may_be_argument}
use Rattle.term_file.specs.File.{magic}

infixl 10 ◌>>=◌
abbrev pub ◌>>=◌ : {A B : Type 0} → Result A Refusal → (A → Result B Refusal) → Result B Refusal
(Ok x) >>= f = f x
(Err e) >>= f = Err e

-- a field that begins these bytes keeps its rule, or the file is bad there
abbrev pub checked : {A : Type 0} → ℕ → List ℕ → Bool → A → Result A Refusal
checked total bytes rule x = if rule then Ok x else Err (fault 18 (total - length bytes))

-- a field of so many bytes and the bytes after it; a field that is cut is told at the length of the
-- file
abbrev pub text_at : ℕ → ℕ → List ℕ → Result (List ℕ × List ℕ) Refusal
text_at total n bytes =
    if nat_lt (length bytes) n then Err (fault 3 total) else Ok (take n bytes, drop n bytes)

abbrev pub number_at : ℕ → ℕ → List ℕ → Result (ℕ × List ℕ) Refusal
number_at total n bytes =
    if nat_lt (length bytes) n then Err (fault 3 total) else Ok (big_number n bytes, drop n bytes)

-- the same for a field that has a rule
unfoldable pub text_where : ℕ → ℕ → (List ℕ → Bool) → List ℕ → Result (List ℕ × List ℕ) Refusal
text_where total n rule bytes = text_at total n bytes >>= λ t. checked total bytes (rule t.0) t

unfoldable pub number_where : ℕ → ℕ → (ℕ → Bool) → List ℕ → Result (ℕ × List ℕ) Refusal
number_where total n rule bytes = number_at total n bytes >>= λ x. checked total bytes (rule x.0) x

-- a symbol behind those before it
unfoldable pub symbol_at : ℕ → List Named → List ℕ → Result (List Named × List ℕ) Refusal
symbol_at total before bytes = do
  size ← number_at total 1 bytes
  name ← text_where total size.0 (list_all is_printable) size.1
  arity ← number_where total 1 (λ n. nat_le n 16 && is_new_symbol before (named name.0 n)) name.1
  Ok (before ++ named name.0 arity.0 ∷ [], arity.1)

unfoldable pub symbols_at : ℕ → ℕ → List Named → List ℕ → Result (List Named × List ℕ) Refusal
symbols_at total zero before bytes = Ok (before, bytes)
symbols_at total (suc n) before bytes =
    symbol_at total before bytes >>= λ s. symbols_at total n s.0 s.1

-- what was read of a record: the head, the arguments, the bytes from its last field on, the bytes
-- after it
pub record Body : Type 0 where
  pub head : Head
  pub arguments : List ℕ
  pub last : List ℕ
  pub rest : List ℕ

abbrev pub body : Head → List ℕ → List ℕ → Body
body h last rest = record { head = h; arguments = []; last = last; rest = rest }

-- the head behind a tag. The symbol is one that was used, or the next one
unfoldable pub head_at : ℕ → List Named → ℕ → List ℕ → ℕ × List ℕ → Result Body Refusal
head_at total symbols used bytes (zero, rest) = do
  f ← number_where total 4 (λ n. nat_lt n (length symbols) && is_some (came_after used (n ∷ []))) rest
  Ok (body (App (record { 0 = f.0 })) rest f.1)
head_at total symbols used bytes (suc zero, rest) = do
  v ← number_at total 8 rest
  Ok (body (Int v.0) rest v.1)
head_at total symbols used bytes (suc (suc zero), rest) = Ok (body Nil bytes rest)
head_at total symbols used bytes (suc (suc (suc n)), rest) = Ok (body Cons bytes rest)

-- so many arguments of a head
unfoldable pub arguments_at : ℕ → List Record → ℕ → Body → Result Body Refusal
arguments_at total before zero b = Ok b
arguments_at total before (suc more) b = do
  i ← number_where total 4 (may_be_argument before b.head more) b.rest
  arguments_at total before more (record b { arguments = b.arguments ++ i.0 ∷ []; last = b.rest; rest = i.1 })

-- records with how many symbols they use
pub record Records : Type 0 where
  pub records : List Record
  pub used : ℕ

abbrev pub record_of : Body → Record
record_of b = record { head = b.head; arguments = b.arguments }

abbrev pub with_record : Records → Record → Records
with_record before r = record {
  records = before.records ++ r ∷ [];
  used = unwrap_or (came_after before.used (used_by r.head)) before.used;
}

-- a record behind those before it, which is none of them
unfoldable pub record_at : ℕ → List Named → Records → List ℕ → Result (Records × List ℕ) Refusal
record_at total symbols before bytes = do
  tag ← number_where total 1 (λ n. nat_le n 3) bytes
  head ← head_at total symbols before.used bytes tag
  b ← arguments_at total before.records (arity_in symbols head.head) head
  checked total b.last (is_new_record before.records (record_of b)) (with_record before (record_of b), b.rest)

unfoldable pub records_at : ℕ → List Named → ℕ → Records → List ℕ → Result (Records × List ℕ) Refusal
records_at total symbols zero before bytes = Ok (before, bytes)
records_at total symbols (suc n) before bytes =
    record_at total symbols before bytes >>= λ r. records_at total symbols n r.0 r.1

-- roots with how many records a walk from them visits
pub record Roots : Type 0 where
  pub roots : List ℕ
  pub visited : ℕ

abbrev pub may_be_root : List (List ℕ) → ℕ → ℕ → Bool
may_be_root visits visited r =
    nat_lt r (length visits) && is_some (came_after visited (visits_at visits r))

abbrev pub with_root : List (List ℕ) → Roots → ℕ → Roots
with_root visits before r = record {
  roots = before.roots ++ r ∷ [];
  visited = unwrap_or (came_after before.visited (visits_at visits r)) before.visited;
}

unfoldable pub roots_at : ℕ → List (List ℕ) → ℕ → Roots → List ℕ → Result (Roots × List ℕ) Refusal
roots_at total visits zero before bytes = Ok (before, bytes)
roots_at total visits (suc n) before bytes = do
  r ← number_where total 4 (may_be_root visits before.visited) bytes
  roots_at total visits n (with_root visits before r.0) r.1

abbrev pub is_nil : List ℕ → Bool
is_nil [] = true
is_nil (b ∷ bs) = false

abbrev pub no_records : Records
no_records = record { records = []; used = 0 }

abbrev pub no_roots : Roots
no_roots = record { roots = []; visited = 0 }

-- The roots behind the records, and the contents of the file. An unused symbol is told at the count
-- of the roots; records that no walk visits, and surplus bytes, are told after the last root
unfoldable pub roots_to_end : ℕ → List Named → Records → List ℕ → Result Contents Refusal
roots_to_end total symbols found bytes = do
  root_count ← number_where total 4 (λ n. found.used == length symbols) bytes
  roots ← roots_at total (visits found.records) root_count.0 no_roots root_count.1
  checked total roots.1 (roots.0.visited == length found.records && is_nil roots.1)
      (record { symbols = symbols; records = found.records; roots = roots.0.roots })

-- the records behind the symbols, and what follows
unfoldable pub records_to_end : ℕ → List Named → List ℕ → Result Contents Refusal
records_to_end total symbols bytes = do
  record_count ← number_where total 4 (λ n. nat_le n 262144) bytes
  found ← records_at total symbols record_count.0 no_records record_count.1
  roots_to_end total symbols found.0 found.1

-- the contents of a right file, or the first fault of another
unfoldable pub read_file : List ℕ → Result Contents Refusal
read_file bytes = do
  start ← text_where (length bytes) 8 (pointwise nat_eq magic) bytes
  symbol_count ← number_where (length bytes) 4 (λ n. nat_le n 65535) start.1
  symbols ← symbols_at (length bytes) symbol_count.0 [] symbol_count.1
  records_to_end (length bytes) symbols.0 symbols.1
