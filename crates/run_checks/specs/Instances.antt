-- Putting the instance of a pattern item by item: on a stack stand the numbers of the instances of
-- the patterns that the items so far spell.
use Rattle.std.specs.Prelude.{◌≡◌, ℕ, List, [], ◌∷◌, ◌++◌, length, map, All, Bool, true, false, nat_lt}
use Rattle.std.specs.List.{list_all}
use Rattle.symbol_pool.specs.Pool.{Named}
use Rattle.term_model.specs.declared.Item.{Item}
use Rattle.term_model.specs.declared.Item.TheVariants.{Var, App, Int, Nil, Cons}
use Rattle.term_model.specs.declared.Symbol.{Symbol}
use Rattle.term_model.specs.Tree.{Tree}
use Rattle.term_model.specs.Postorder.{postorder}
use Rattle.rewrite_model.specs.Matching.{instance}
use Rattle.term_file.specs.Sharing.{Pushes, IsCutInto}
use Rattle.run_checks.specs.Held.{Held, Grows, IsPut, IsThere, term_at, term_over}

-- a variable below a number, or a symbol that is held
abbrev pub may_be_put : List Named → ℕ → Item → Bool
may_be_put names vars (Var x) = nat_lt x vars
may_be_put names vars (App f n) = nat_lt f.0 (length names)
may_be_put names vars (Int v) = false
may_be_put names vars Nil = false
may_be_put names vars Cons = false

-- a pattern of such items
abbrev pub MayBePut : List Named → ℕ → Tree → Type 0
MayBePut names vars p = list_all (may_be_put names vars) (postorder p) ≡ true

-- the numbers on a stack are those of the instances of these patterns
pub record Stands (h : Held) (bound : List ℕ) (patterns : List Tree) (stack : List ℕ) : Type 0 where
  pub terms : map (term_at h) stack ≡ map (λ p. instance p (map (term_at h) bound)) patterns
  pub there : All (IsThere h) stack
  pub bound_there : All (IsThere h) bound

-- an item that may be put comes to the patterns of a stack
pub record ComesOn (h : Held) (bound : List ℕ) (i : Item) (stack : List ℕ) : Type 0 where
  pub may : may_be_put h.symbols (length bound) i ≡ true
  pub before : List Tree
  pub next : List Tree
  pub stands : Stands h bound before stack
  pub pushes : Pushes i before next

-- whatever patterns a stack has, it has then those after the item
pub record Comes (old new : Held) (bound : List ℕ) (i : Item) (stack after : List ℕ) : Type 0 where
  pub grows : Grows old new
  pub stands : (ps us : List Tree) → Stands old bound ps stack → Pushes i ps us
      → Stands new bound us after

-- a symbol over the last terms of a stack, in their place
pub record PutsOver (old new : Held) (f : Symbol) (count : ℕ) (stack after : List ℕ) : Type 0 where
  pub front : List ℕ
  pub arguments : List ℕ
  pub number : ℕ
  pub cut : IsCutInto stack front arguments count
  pub put : IsPut old new number (term_over old f arguments)
  pub after_is : after ≡ front ++ number ∷ []
