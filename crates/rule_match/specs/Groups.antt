-- The rules whose left sides have one head, in written order.
use Rattle.std.specs.Prelude.{◌≡◌, ◌≢◌, ℕ, zero, suc, ◌+◌, ◌<◌, ◌≤◌, List, [], ◌∷◌, length, Option, Some, None, IfSome, IsSome, unwrap_or, slice_index_or}
use Rattle.term_model.specs.Tree.{Tree, root}
use Rattle.term_model.specs.declared.Head.{Head}
use Rattle.term_model.specs.declared.Head.TheVariants.{App, Int, Nil, Cons}
use Rattle.term_model.specs.declared.Symbol.{Symbol}
use Rattle.rewrite_model.specs.Rule.{Rule}
use Rattle.rule_match.specs.Planned.{IsPlan, planned, match_at}

-- the head of the left side of the rule at a place; none past the last rule
abbrev pub head_at : List Rule → ℕ → Option Head
head_at [] k = None
head_at (r ∷ rs) zero = root r.left
head_at (r ∷ rs) (suc k) = head_at rs k

-- The first rule with this head from a place on; none where no rule from there on has it.
pub record IsNext (rules : List Rule) (head : Head) (from : ℕ) (next : Option ℕ) : Type 0 where
  pub passed : (k : ℕ) → from ≤ k → k < unwrap_or next (length rules) → head_at rules k ≢ Some head
  pub found : IfSome next (λ k. (from ≤ k) × (head_at rules k ≡ Some head))

-- The rules from a place on, up to the next of this head, match no tree with this head, so that
-- going over the rules of one head is the same as going over all.
abbrev pub MatchNone : List Rule → Head → ℕ → Option ℕ → Type 0
MatchNone rules head from next =
    (k : ℕ) → from ≤ k → k < unwrap_or next (length rules) → (t : Tree) → root t ≡ Some head
    → match_at rules k t ≡ None

-- the symbol of a head that is one
abbrev pub symbol_of : Option Head → Option Symbol
symbol_of None = None
symbol_of (Some (App f)) = Some f
symbol_of (Some (Int n)) = None
symbol_of (Some Nil) = None
symbol_of (Some Cons) = None

-- the head is a symbol whose number is below this
abbrev pub IsBelow : ℕ → Option Head → Type 0
IsBelow n None = ⊥
IsBelow n (Some (App f)) = f.0 < n
IsBelow n (Some (Int v)) = ⊥
IsBelow n (Some Nil) = ⊥
IsBelow n (Some Cons) = ⊥

abbrev pub HeadsAreBelow : ℕ → List Rule → Type 0
HeadsAreBelow n rules = (k : ℕ) → k < length rules → IsBelow n (head_at rules k)

-- every rule has a symbol at the root of its left side
abbrev pub HaveSymbols : List Rule → Type 0
HaveSymbols rules = (k : ℕ) → k < length rules → IsSome (symbol_of (head_at rules k))

-- what a table of rules has at a place
abbrev pub entry : List (Option ℕ) → ℕ → Option ℕ
entry table k = slice_index_or table k None

-- For the rules from a place on: the first of each symbol, and after each rule the next of its
-- head.
pub record IsLinked (rules : List Rule) (from : ℕ) (firsts nexts : List (Option ℕ)) : Type 0 where
  pub first : (f : Symbol) → f.0 < length firsts → IsNext rules (App f) from (entry firsts f.0)
  pub next : (k : ℕ) → from ≤ k → (h : Head) → head_at rules k ≡ Some h
      → IsNext rules h (k + 1) (entry nexts k)

-- a plan whose rules are linked
pub record IsIndexed (rules : List Rule) (widest : ℕ)
    (firsts nexts : List (Option ℕ)) : Type 0 where
  pub plan : IsPlan (planned rules widest)
  pub size : length nexts ≡ length rules
  pub heads : HeadsAreBelow (length firsts) rules
  pub linked : IsLinked rules 0 firsts nexts
