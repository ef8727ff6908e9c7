-- What is right in a file: each symbol and each record, given those before it, and the order of
-- all.
use Rattle.std.specs.Prelude.{◌≡◌, ℕ, ◌<◌, ◌≤◌, ◌^◌, zero, suc, List, [], ◌∷◌, ◌++◌, length, slice_get, Some, Bool, true, false, not, ◌&&◌, ◌==◌, nat_lt, nat_le, nat_eq}
use Rattle.std.specs.Option.{option_map_or}
use Rattle.std.specs.List.{list_all, list_any}
use Rattle.std.specs.Cmp.Lexicographic.{pointwise}
use Rattle.term_model.specs.declared.Head.{Head}
use Rattle.term_model.specs.declared.Head.TheVariants.{App, Int, Nil, Cons}
use Rattle.term_model.specs.Tree.{head_eq}
use Rattle.symbol_pool.specs.Pool.{Named}
use Rattle.symbol_pool.specs.Taking.{named_eq}
use Rattle.tree_text.specs.NameBytes.{is_printable}
use Rattle.term_file.specs.Contents.{Record, Contents}
use Rattle.term_file.specs.InOrder.{came_after, walk, uses}

-- each passes a test, given those before it
abbrev pub all_after : {X : Type 0} → (List X → X → Bool) → List X → List X → Bool
all_after passes before [] = true
all_after passes before (x ∷ xs) = passes before x && all_after passes (before ++ x ∷ []) xs

-- a symbol has a name of at most 255 printable bytes and at most 16 arguments, and is none before
-- it
abbrev pub is_new_symbol : List Named → Named → Bool
is_new_symbol before s = not (list_any (named_eq s) before)

abbrev pub is_right_symbol : List Named → Named → Bool
is_right_symbol before s =
    nat_le (length s.name) 255 &&
    (list_all is_printable s.name && (nat_le s.arity 16 && is_new_symbol before s))

abbrev pub record_eq : Record → Record → Bool
record_eq r s = head_eq r.head s.head && pointwise nat_eq r.arguments s.arguments

abbrev pub is_new_record : List Record → Record → Bool
is_new_record before r = not (list_any (record_eq r) before)

-- whether a record is a list: the empty list or a cell
abbrev pub is_list : Head → Bool
is_list (App f) = false
is_list (Int v) = false
is_list Nil = true
is_list Cons = true

abbrev pub is_list_at : List Record → ℕ → Bool
is_list_at records i = option_map_or (λ r. is_list r.head) (slice_get records i) false

-- whether a record may be an argument, with so many more after it: it has a lesser number, and the
-- last argument of a cell is a list
abbrev pub may_be_argument : List Record → Head → ℕ → ℕ → Bool
may_be_argument before Cons zero i = is_list_at before i
may_be_argument before Cons (suc more) i = nat_lt i (length before)
may_be_argument before (App f) more i = nat_lt i (length before)
may_be_argument before (Int v) more i = nat_lt i (length before)
may_be_argument before Nil more i = nat_lt i (length before)

abbrev pub may_be_arguments : List Record → Head → List ℕ → Bool
may_be_arguments before h [] = true
may_be_arguments before h (i ∷ is) =
    may_be_argument before h (length is) i && may_be_arguments before h is

-- how many arguments a head has
abbrev pub arity_in : List Named → Head → ℕ
arity_in symbols (App f) = option_map_or (λ s. s.arity) (slice_get symbols f.0) 0
arity_in symbols (Int v) = 0
arity_in symbols Nil = 0
arity_in symbols Cons = 2

-- whether its symbol has a number of the file's, and its integer is below 2^64
abbrev pub is_right_head : List Named → Head → Bool
is_right_head symbols (App f) = nat_lt f.0 (length symbols)
is_right_head symbols (Int v) = nat_lt v 18446744073709551616
is_right_head symbols Nil = true
is_right_head symbols Cons = true

-- a record has a head of the file with as many arguments as it takes, and is none before it
abbrev pub is_right_record : List Named → List Record → Record → Bool
is_right_record symbols before r =
    is_right_head symbols r.head
    && (length r.arguments == arity_in symbols r.head
    && (may_be_arguments before r.head r.arguments && is_new_record before r))

-- All symbols are used, and each is used first only after all lesser ones. A walk from the roots
-- visits all records, each first only after all lesser ones.
pub record IsRight (c : Contents) : Type 0 where
  pub few_symbols : length c.symbols ≤ 65535
  pub symbols_right : all_after is_right_symbol [] c.symbols ≡ true
  pub few_records : length c.records ≤ 262144
  pub records_right : all_after (is_right_record c.symbols) [] c.records ≡ true
  pub uses_in_order : came_after 0 (uses c.records) ≡ Some (length c.symbols)
  pub few_roots : length c.roots < 2 ^ 32
  pub roots_right : list_all (λ r. nat_lt r (length c.records)) c.roots ≡ true
  pub visits_in_order : came_after 0 (walk c) ≡ Some (length c.records)
