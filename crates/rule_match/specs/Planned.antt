-- What a plan has: rules in order, which have symbols alone, and the greatest arity of a symbol.
use Rattle.std.specs.Prelude.{◌≡◌, ℕ, zero, suc, ◌<◌, ◌≤◌, ◌^◌, List, [], ◌∷◌, length, Option, None, Bool, true, false, nat_le, nat_lt, All, refl}
use Rattle.std.specs.List.{list_all}
use Rattle.std.specs.Coded.{Coded, code_by, coded×, coded_ℕ, coded_list}
use Rattle.term_model.specs.Tree.{Tree}
use Rattle.term_model.specs.Postorder.{postorder}
use Rattle.term_model.specs.declared.Item.{Item}
use Rattle.term_model.specs.declared.Item.TheVariants.{Var, App, Int, Nil, Cons}
use Rattle.rewrite_model.specs.Rule.{Rule, Condition, IsRule, IsBelow}
use Rattle.rewrite_model.specs.Matching.{match_of}
use Rattle.rewrite_model.specs.Code.{rule_code}

pub record Planned : Type 0 where
  pub rules : List Rule
  pub widest : ℕ

abbrev pub planned_code : Coded Planned
planned_code =
    code_by (List Rule × ℕ) (coded× (coded_list rule_code) coded_ℕ) (λ p. (p.rules, p.widest))
    (λ p. record { rules = p.0; widest = p.1 }) (λ _. refl)

abbrev pub planned : List Rule → ℕ → Planned
planned rules widest = record { rules = rules; widest = widest }

-- a variable, or a symbol over no more than so many
abbrev pub is_plain : ℕ → Item → Bool
is_plain widest (Var x) = true
is_plain widest (App f n) = nat_le n widest
is_plain widest (Int v) = false
is_plain widest Nil = false
is_plain widest Cons = false

-- a pattern of symbols alone, each over no more than so many
abbrev pub IsPlain : ℕ → Tree → Type 0
IsPlain widest p = list_all (λ (i : Item). is_plain widest i) (postorder p) ≡ true

-- all patterns of a rule are of symbols alone
pub record HasSymbolsAlone (widest : ℕ) (r : Rule) : Type 0 where
  pub left : IsPlain widest r.left
  pub right : IsPlain widest r.right
  pub firsts : All (λ (c : Condition). IsPlain widest c.first) r.conditions
  pub seconds : All (λ (c : Condition). IsPlain widest c.second) r.conditions

-- a rule that a plan may have
pub record IsFit (widest : ℕ) (r : Rule) : Type 0 where
  pub rule : IsRule r
  pub symbols : HasSymbolsAlone widest r

-- a condition whose sides are patterns of symbols alone, with variables below a count
pub record HasSides (vars widest : ℕ) (c : Condition) : Type 0 where
  pub first_below : IsBelow vars c.first
  pub first : IsPlain widest c.first
  pub second_below : IsBelow vars c.second
  pub second : IsPlain widest c.second

-- a variable below a count, or a head
abbrev pub is_item_below : ℕ → Item → Bool
is_item_below vars (Var x) = nat_lt x vars
is_item_below vars (App f n) = true
is_item_below vars (Int v) = true
is_item_below vars Nil = true
is_item_below vars Cons = true

-- The rules are rules of symbols alone, and a rule's number fits 32 bits.
pub record IsPlan (p : Planned) : Type 0 where
  pub rules : All IsRule p.rules
  pub symbols : All (HasSymbolsAlone p.widest) p.rules
  pub count : length p.rules < 2 ^ 32

-- what the left side of the rule at a place binds in a tree; none where there is no such rule
abbrev pub match_at : List Rule → ℕ → Tree → Option (List Tree)
match_at [] k t = None
match_at (r ∷ rs) zero t = match_of r.left t
match_at (r ∷ rs) (suc k) t = match_at rs k t
