-- Rules of another head match no tree of a head.
use Rattle.std.proofs.Common.{◌≡◌, ℕ, zero, suc, ◌+◌, ◌<◌, ◌≤◌, List, [], ◌∷◌, length, get_or, Option, Some, None, Bool, true, false, refl, sym, ◌∙◌, ap, arith, subst}
use Rattle.std.specs.Prelude.{All, if◌then◌else◌}
use Rattle.std.proofs.lemmas.List.Elements.{All-head, All-tail}
use Rattle.term_model.specs.Tree.{Tree, Leaf, Node, root, head_eq}
use Rattle.term_model.specs.declared.Head.{Head}
use Rattle.term_model.specs.declared.Head.TheVariants.{App, Int, Nil, Cons}
use Rattle.term_model.specs.declared.Symbol.{Symbol}
use Rattle.std.proofs.lemmas.List.{get_or_default}
use Rattle.term_model.proofs.Equality.{head_eq_sound}
use Rattle.rewrite_model.specs.Rule.{Rule, IsRule, IsNode}
use Rattle.rewrite_model.specs.Matching.{match_of, match_all}
use Rattle.rule_match.specs.Planned.{Planned, planned, IsPlan, match_at}
use Rattle.rule_match.specs.Groups.{head_at, IsNext, MatchNone, IsBelow, HeadsAreBelow, IsIndexed}

-- a pattern with another head doesn't match
other_head : (p t : Tree) (h : Head) → IsNode p → (root p ≡ Some h → ⊥) → root t ≡ Some h → match_of p t ≡ None
other_head (Leaf x) t h node n e = absurd node
other_head (Node f ps) (Leaf y) h node n e = refl
other_head (Node f ps) (Node g ts) h node n e = go (head_eq f g) refl
  where
    go : (b : Bool) → head_eq f g ≡ b → (if b then match_all ps ts [] else None) ≡ None
    go true k = absurd (n (ap Some (head_eq_sound f g k) ∙ e))
    go false k = refl

pub none_at : (rules : List Rule) (k : ℕ) (h : Head) (t : Tree) → All IsRule rules → (head_at rules k ≡ Some h → ⊥) → root t ≡ Some h → match_at rules k t ≡ None
none_at [] k h t all n e = refl
none_at (r ∷ rs) zero h t all n e = other_head r.left t h (All-head IsRule r rs all).node n e
none_at (r ∷ rs) (suc k) h t all n e = none_at rs k h t (All-tail IsRule r rs all) n e

-- so the rules that are passed on the way to the next match none
pub passed_none : (rules : List Rule) (h : Head) (from : ℕ) (next : Option ℕ) → All IsRule rules → IsNext rules h from next → MatchNone rules h from next
passed_none rules h from next all is = λ k low high t e. none_at rules k h t all (is.passed k low high) e

pub match_at-get : (rules : List Rule) (k : ℕ) (r : Rule) (t : Tree) → k < length rules → r ≡ get_or rules k r → match_at rules k t ≡ match_of r.left t
match_at-get [] k r t l e = absurd (omega arith)
match_at-get (q ∷ qs) zero r t l e = ap (λ (v : Rule). match_of v.left t) (sym e)
match_at-get (q ∷ qs) (suc k) r t l e = match_at-get qs k r t (omega arith) e

pub head_at-get : (rules : List Rule) (k : ℕ) (r : Rule) → k < length rules → r ≡ get_or rules k r → head_at rules k ≡ root r.left
head_at-get [] k r l e = absurd (omega arith)
head_at-get (q ∷ qs) zero r l e = ap (λ (v : Rule). root v.left) (sym e)
head_at-get (q ∷ qs) (suc k) r l e = head_at-get qs k r (omega arith) e

pub head_at_rule : (rules : List Rule) (k : ℕ) (r : Rule) (left : Tree) → k < length rules → r ≡ get_or rules k r → left ≡ r.left → head_at rules k ≡ root left
head_at_rule rules k r left l e is = head_at-get rules k r l e ∙ ap root (sym is)

-- What the index of a plan says of the plan.
pub plan_of : (p q : Planned) → q ≡ p → IsPlan q → IsPlan p
plan_of p q e is = subst (λ (v : Planned). IsPlan v) e is

-- a head that is no symbol below a bound stands at no rule
within : (rules : List Rule) (k : ℕ) (h : Head) → head_at rules k ≡ Some h → k < length rules
within [] k h e = cc
within (r ∷ rs) zero h e = omega arith
within (r ∷ rs) (suc k) h e = let l = within rs k h e in omega (arith, l)

pub never_there : (rules : List Rule) (n : ℕ) (h : Head) → HeadsAreBelow n rules → (IsBelow n (Some h) → ⊥) → IsNext rules h 0 None
never_there rules n h below none =
    record {
      passed = λ k low high e. none (subst (IsBelow n) e (below k (within rules k h e)));
      found = tt;
    }

-- the index of a plan, where it has an entry
pub first_none : (p q : Planned) (h : Head) (next : Option ℕ) → q ≡ p → IsPlan q → IsNext q.rules h 0 next → IsNext p.rules h 0 next × MatchNone p.rules h 0 next
first_none p q h next e plan n =
    let n' = subst (λ (v : Planned). IsNext v.rules h 0 next) e n in
    (n', passed_none p.rules h 0 next (plan_of p q e plan).rules n')

pub next_none : (p q : Planned) (k : ℕ) (h : Head) (next : Option ℕ) → q ≡ p → IsPlan q → ((g : Head) → head_at q.rules k ≡ Some g → IsNext q.rules g (k + 1) next) → head_at p.rules k ≡ Some h → IsNext p.rules h (k + 1) next × MatchNone p.rules h (k + 1) next
next_none p q k h next e plan n at =
    let n' = subst (λ (v : Planned). IsNext v.rules h (k + 1) next) e (n h (subst (λ (v : Planned). head_at v.rules k ≡ Some h) (sym e) at)) in
    (n', passed_none p.rules h (k + 1) next (plan_of p q e plan).rules n')

-- what a table has at a place that was read
pub at_index : (table : List (Option ℕ)) (k : ℕ) (r : Option ℕ) → k < length table → r ≡ get_or table k r → get_or table k None ≡ r
at_index table k r l e = get_or_default table k None r l ∙ sym e

pub first_read : (rules : List Rule) (widest : ℕ) (firsts nexts : List (Option ℕ)) (f : Symbol) (h : Head) (r : Option ℕ) → IsIndexed rules widest firsts nexts → h ≡ App f → f.0 < length firsts → r ≡ get_or firsts f.0 r → IsNext rules h 0 r
first_read rules widest firsts nexts f h r indexed is l e =
    subst (λ g. IsNext rules g 0 r) (sym is) (subst (IsNext rules (App f) 0) (at_index firsts f.0 r l e) (indexed.linked.first f l))

-- no rule has a symbol that the table lacks
pub first_past : (rules : List Rule) (widest : ℕ) (firsts nexts : List (Option ℕ)) (f : Symbol) (h : Head) → IsIndexed rules widest firsts nexts → h ≡ App f → length firsts ≤ f.0 → IsNext rules h 0 None
first_past rules widest firsts nexts f h indexed is l =
    subst (λ g. IsNext rules g 0 None) (sym is) (never_there rules (length firsts) (App f) indexed.heads (λ b. absurd (omega arith)))

pub first_other : (rules : List Rule) (widest : ℕ) (firsts nexts : List (Option ℕ)) (h : Head) → IsIndexed rules widest firsts nexts → ((f : Symbol) → h ≡ App f → ⊥) → IsNext rules h 0 None
first_other rules widest firsts nexts h indexed other = never_there rules (length firsts) h indexed.heads (go h other)
  where
    go : (g : Head) → ((f : Symbol) → g ≡ App f → ⊥) → IsBelow (length firsts) (Some g) → ⊥
    go (App f) o b = o f refl
    go (Int v) o b = b
    go Nil o b = b
    go Cons o b = b

pub next_read : (p : Planned) (rules : List Rule) (widest : ℕ) (firsts nexts : List (Option ℕ)) (k : ℕ) (h : Head) (r : Option ℕ) → planned rules widest ≡ p → IsIndexed rules widest firsts nexts → k < length p.rules → r ≡ get_or nexts k r → head_at p.rules k ≡ Some h → IsNext p.rules h (k + 1) r × MatchNone p.rules h (k + 1) r
next_read p rules widest firsts nexts k h r e indexed l read at =
    let same : length rules ≡ length p.rules = ap (λ (v : Planned). length v.rules) e in
    let within' : k < length nexts = omega (arith, same, indexed.size, l) in
    next_none p (planned rules widest) k h r e indexed.plan
    (λ g at'. subst (IsNext rules g (k + 1)) (at_index nexts k r within' read) (indexed.linked.next k (omega arith) g at')) at
