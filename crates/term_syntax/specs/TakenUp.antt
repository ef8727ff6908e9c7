-- How the symbols of terms are taken up, in the order of the text: a name comes before its
-- arguments.
use Rattle.std.specs.Prelude.{◌≡◌, ℕ, ◌+◌, List, [], ◌∷◌, ◌++◌, length, ◌||◌, ◌==◌, nat_lt, if◌then◌else◌, Option, Some, None, Result, Ok, Err}
use Rattle.term_model.specs.Tree as tree
use Rattle.term_model.specs.Tree.{Tree, Trees, Node}
use Rattle.term_model.specs.declared.Head.TheVariants.{App, Int, Nil, Cons}
use Rattle.symbol_pool.specs.Pool.{Named, named}
use Rattle.symbol_pool.specs.Taking.{number_of, with_symbol, with_symbols, is_full_for}
use Rattle.faults.specs.declared.refusal.Refusal.{Refusal}
use Rattle.read_faults.specs.Fault.{fault}
use Rattle.term_syntax.specs.Written.{Written, Call, Digits, Listed, Writtens, End, More, count_of, place_of}

-- first one, and where it isn't refused the next
abbrev pub and_then : Result (List Named) Refusal → (List Named → Result (List Named) Refusal)
    → Result (List Named) Refusal
and_then (Ok pool) next = next pool
and_then (Err f) next = Err f

-- a name with its number of arguments: of more than 255 bytes it is refused, and where it is one
-- symbol too many
abbrev pub take_name : ℕ → List ℕ → ℕ → List Named → Result (List Named) Refusal
take_name place name count pool =
    if nat_lt 255 (length name) || is_full_for pool (named name count) then Err (fault 13 place)
    else Ok (with_symbol pool (named name count))

-- a number that has no value is refused
abbrev pub take_number : ℕ → Option ℕ → List Named → Result (List Named) Refusal
take_number place (Some v) pool = Ok pool
take_number place None pool = Err (fault 17 place)

-- the symbols after a term was taken up, or the first refusal in it; of the arguments of a name so
-- many came before, and the 17th is refused
abbrev mutual
  pub take_term : Written → List Named → Result (List Named) Refusal
  take_term (Call p n ws) pool = and_then (take_name p n (count_of ws) pool) (take_arguments 0 ws)
  take_term (Digits p v) pool = take_number p v pool
  take_term (Listed p ws) pool = take_elements ws pool

  pub take_arguments : ℕ → Writtens → List Named → Result (List Named) Refusal
  take_arguments n End pool = Ok pool
  take_arguments n (More w ws) pool =
      if n == 16 then Err (fault 13 (place_of w))
      else and_then (take_term w pool) (take_arguments (n + 1) ws)

  pub take_elements : Writtens → List Named → Result (List Named) Refusal
  take_elements End pool = Ok pool
  take_elements (More w ws) pool = and_then (take_term w pool) (take_elements ws)

-- the symbols after all terms of an input
abbrev pub take_input : List Written → List Named → Result (List Named) Refusal
take_input [] pool = Ok pool
take_input (w ∷ ws) pool = and_then (take_term w pool) (take_input ws)

-- the symbols that a term spells, in the order of the text
abbrev mutual
  pub symbols_in : Written → List Named
  symbols_in (Call p n ws) = named n (count_of ws) ∷ symbols_in_all ws
  symbols_in (Digits p v) = []
  symbols_in (Listed p ws) = symbols_in_all ws

  pub symbols_in_all : Writtens → List Named
  symbols_in_all End = []
  symbols_in_all (More w ws) = symbols_in w ++ symbols_in_all ws

abbrev pub symbols_in_input : List Written → List Named
symbols_in_input [] = []
symbols_in_input (w ∷ ws) = symbols_in w ++ symbols_in_input ws

-- a front of these symbols was taken up, and no other
pub record TookFront (spelled old new : List Named) : Type 0 where
  pub front : List Named
  pub rest : List Named
  pub split : spelled ≡ front ++ rest
  pub taken : new ≡ with_symbols old front

abbrev pub value_or_zero : Option ℕ → ℕ
value_or_zero (Some v) = v
value_or_zero None = 0

-- the tree that a written term is, where a name with its number of arguments is a symbol of the
-- pool, and a list is cells that end in the empty list
abbrev mutual
  pub tree_in : List Named → Written → Tree
  tree_in pool (Call p n ws) =
      Node (App (record { 0 = number_of pool (named n (count_of ws)) })) (trees_in pool ws)
  tree_in pool (Digits p v) = Node (Int (value_or_zero v)) tree.End
  tree_in pool (Listed p ws) = cells_in pool ws

  pub trees_in : List Named → Writtens → Trees
  trees_in pool End = tree.End
  trees_in pool (More w ws) = tree.More (tree_in pool w) (trees_in pool ws)

  pub cells_in : List Named → Writtens → Tree
  cells_in pool End = Node Nil tree.End
  cells_in pool (More w ws) =
      Node Cons (tree.More (tree_in pool w) (tree.More (cells_in pool ws) tree.End))
