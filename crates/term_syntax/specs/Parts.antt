-- The parts of written terms, as the machine has them: one for each term in the order of the text.
use Rattle.std.specs.Prelude.{ℕ, ◌+◌, List, [], ◌∷◌, ◌++◌, length, Bool, true, false, ◌&&◌, ◌||◌, ◌==◌, nat_lt, if◌then◌else◌, Option, Some, None, Result, Ok, Err}
use Rattle.symbol_pool.specs.Pool.{Named, named}
use Rattle.term_syntax.specs.State.{Kind, Symbol, Integer, Brackets, Part}
use Rattle.faults.specs.declared.refusal.Refusal.{Refusal}
use Rattle.read_faults.specs.Fault.{fault}
use Rattle.term_syntax.specs.Written.{Written, Call, Digits, Listed, Writtens, End, More, count_of}
use Rattle.symbol_pool.specs.Taking.{with_symbol, is_full_for}

-- the parts of a term, and of terms of which so many came before; of a name's arguments the 17th is
-- marked
abbrev mutual
  pub parts_of : Bool → Written → List Part
  parts_of over (Call p n ws) =
      record { place = p; over = over; kind = Symbol n; count = count_of ws }
      ∷ parts_of_all true 0 ws
  parts_of over (Digits p v) = record { place = p; over = over; kind = Integer v; count = 0 } ∷ []
  parts_of over (Listed p ws) =
      record { place = p; over = over; kind = Brackets; count = count_of ws }
      ∷ parts_of_all false 0 ws

  pub parts_of_all : Bool → ℕ → Writtens → List Part
  parts_of_all called n End = []
  parts_of_all called n (More w ws) =
      parts_of (called && n == 16) w ++ parts_of_all called (n + 1) ws

abbrev pub parts_of_input : List Written → List Part
parts_of_input [] = []
parts_of_input (w ∷ ws) = parts_of false w ++ parts_of_input ws

-- the symbols after a part
abbrev pub pool_after : List Named → Kind → ℕ → List Named
pool_after pool (Symbol n) count = with_symbol pool (named n count)
pool_after pool (Integer v) count = pool
pool_after pool Brackets count = pool

-- a name of more than 255 bytes, or one symbol more than may be
abbrev pub is_too_much : List Named → Kind → ℕ → Bool
is_too_much pool (Symbol n) count = nat_lt 255 (length n) || is_full_for pool (named n count)
is_too_much pool (Integer v) count = false
is_too_much pool Brackets count = false

abbrev pub is_bad_number : Kind → Bool
is_bad_number (Integer None) = true
is_bad_number (Integer (Some v)) = false
is_bad_number (Symbol n) = false
is_bad_number Brackets = false

-- the fault of a part, where it has one: of two the lesser kind
abbrev pub part_fault : List Named → Part → Option Refusal
part_fault pool p =
    if p.over || is_too_much pool p.kind p.count then Some (fault 13 p.place)
    else (if is_bad_number p.kind then Some (fault 17 p.place)
    else None)

abbrev pub unless_fault : Option Refusal → Result (List Named) Refusal → Result (List Named) Refusal
unless_fault (Some f) r = Err f
unless_fault None r = r

-- the symbols after parts, taken up in the order of the text, or the fault of the first part that
-- has one
abbrev pub taken_up : List Named → List Part → Result (List Named) Refusal
taken_up pool [] = Ok pool
taken_up pool (p ∷ ps) =
    unless_fault (part_fault pool p) (taken_up (pool_after pool p.kind p.count) ps)

-- the symbol of a part, if it has one
abbrev pub symbol_of : Kind → ℕ → List Named
symbol_of (Symbol n) count = named n count ∷ []
symbol_of (Integer v) count = []
symbol_of Brackets count = []

abbrev pub symbols_of_parts : List Part → List Named
symbols_of_parts [] = []
symbols_of_parts (p ∷ ps) = symbol_of p.kind p.count ++ symbols_of_parts ps
