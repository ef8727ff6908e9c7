-- Rules linked from the last to the first.
use Rattle.std.proofs.Common.{◌≡◌, ℕ, zero, suc, ◌+◌, ◌<◌, ◌≤◌, inl, inr, List, [], ◌∷◌, length, get_or, set, Option, Some, None, Bool, true, refl, sym, ◌∙◌, ap, arith, subst, get_or-set_other, ◌++◌, take, drop}
use Rattle.std.specs.Prelude.{All, IsSome, IfSome, replicate}
use Rattle.std.specs.List.{list_all}
use Rattle.std.proofs.lemmas.Option.{same_Some, IfSome_then}
use Rattle.std.proofs.lemmas.Grind.{get_or-set_at}
use Rattle.std.proofs.lemmas.Bool.{cases_eq}
use Rattle.std.proofs.lemmas.List.{get_or-replicate, length-set, append-nil, drop_all, take_all}
use Rattle.std.proofs.lemmas.List.Folds.{list_all-append}
use Rattle.std.proofs.lemmas.List.Elements.{All-head, All-tail}
use Rattle.term_model.specs.Tree.{Tree, Leaf, Node, root, count_of}
use Rattle.term_model.specs.Postorder.{postorder_all, item_of}
use Rattle.term_model.specs.declared.Head.{Head}
use Rattle.term_model.specs.declared.Head.TheVariants.{App, Int, Nil, Cons}
use Rattle.term_model.specs.declared.Symbol.{Symbol}
use Rattle.term_model.specs.declared.Item.{Item}
use Rattle.term_model.proofs.Order.{both_hold}
use Rattle.rewrite_model.specs.Rule.{Rule, IsRule, IsNode}
use Rattle.rule_match.specs.Planned.{planned, IsPlan, IsPlain, is_plain, HasSymbolsAlone}
use Rattle.rule_match.specs.Groups.{head_at, IsNext, IsLinked, IsIndexed, IsBelow, HeadsAreBelow, HaveSymbols, symbol_of}
use Rattle.rule_match.proofs.Skipping.{head_at-get}

-- a plain pattern that is no variable has a symbol at its root
plain_root : (w : ℕ) (p : Tree) → IsNode p → IsPlain w p → (f : Symbol) × (root p ≡ Some (App f))
plain_root w (Leaf x) node plain = absurd node
plain_root w (Node h ts) node plain =
    let test : Item → Bool = λ i. is_plain w i in
    let both = both_hold (list_all test (postorder_all ts)) (list_all test (item_of h (count_of ts) ∷ [])) (sym (list_all-append test (postorder_all ts) (item_of h (count_of ts) ∷ [])) ∙ plain) in
    go h both.1
  where
    go : (g : Head) → list_all (λ i. is_plain w i) (item_of g (count_of ts) ∷ []) ≡ true → (f : Symbol) × (Some g ≡ Some (App f))
    go (App f) e = (f, refl)
    go (Int v) e = cc
    go Nil e = cc
    go Cons e = cc

pub plain_symbol : (w : ℕ) (r : Rule) → IsRule r → HasSymbolsAlone w r → (f : Symbol) × (root r.left ≡ Some (App f))
plain_symbol w r is plain = plain_root w r.left is.node plain.left

-- no link where no rule is left
pub linked_none : (rules : List Rule) (from : ℕ) (firsts nexts : List (Option ℕ)) → length rules ≤ from → firsts ≡ replicate (length firsts) None → IsLinked rules from firsts nexts
linked_none rules from firsts nexts l e =
    record {
      first = λ f k. subst (IsNext rules (App f) from) (sym (ap (λ t. get_or t f.0 None) e ∙ get_or-replicate (length firsts) f.0 None None k))
          (record { passed = λ i low high. absurd (omega arith); found = tt });
      next = λ k low h at. absurd (past rules k h at (omega arith));
    }
  where
    past : (rs : List Rule) (k : ℕ) (h : Head) → head_at rs k ≡ Some h → length rs ≤ k → ⊥
    past [] k h at m = cc
    past (r ∷ rs) zero h at m = absurd (omega arith)
    past (r ∷ rs) (suc k) h at m = past rs k h at (omega arith)

-- a rule of another head is passed over
earlier : (rules : List Rule) (h : Head) (from : ℕ) (next : Option ℕ) → (head_at rules from ≡ Some h → ⊥) → IsNext rules h (from + 1) next → IsNext rules h from next
earlier rules h from next other n =
    record {
      passed = λ k low high e. elim (cases_eq k from) [ inl i ↦ other (subst (λ j. head_at rules j ≡ Some h) i e) | inr i ↦ n.passed k (omega arith) high e ];
      found = IfSome_then next n.found (λ x p. (omega (arith, p.0), p.1));
    }

same_symbol : (f g : Symbol) → f.0 ≡ g.0 → f ≡ g
same_symbol f g e = let named : ℕ → Symbol = λ n. record { 0 = n } in ap named e

symbols_equal : (f g : Symbol) → Some (App f) ≡ Some (App g) → f.0 ≡ g.0
symbols_equal f g e = cc

-- one rule more, before those that are linked
pub linked_more : (rules : List Rule) (at : ℕ) (firsts nexts : List (Option ℕ)) (f : Symbol) → at < length nexts → head_at rules at ≡ Some (App f) → f.0 < length firsts → IsLinked rules (at + 1) firsts nexts → IsLinked rules at (set firsts f.0 (Some at)) (set nexts at (get_or firsts f.0 None))
linked_more rules at firsts nexts f l is b linked = record { first = first'; next = next' }
  where
    first' : (g : Symbol) → g.0 < length (set firsts f.0 (Some at)) → IsNext rules (App g) at (get_or (set firsts f.0 (Some at)) g.0 None)
    first' g k =
        let k' : g.0 < length firsts = omega (arith, length-set firsts f.0 (Some at)) in
        elim (cases_eq g.0 f.0) [
          | inl e ↦ subst (IsNext rules (App g) at) (sym (get_or-set_at firsts f.0 g.0 (Some at) None e b)) (record {
            passed = λ i low high. absurd (omega arith);
            found = (omega arith, is ∙ ap (λ s. Some (App s)) (same_symbol f g (sym e)));
          })
          | inr n ↦ subst (IsNext rules (App g) at) (sym (get_or-set_other firsts f.0 g.0 (Some at) None n))
              (earlier rules (App g) at (get_or firsts g.0 None) (λ e. n (sym (symbols_equal f g (sym is ∙ e)))) (linked.first g k'))
        ]

    next' : (k : ℕ) → at ≤ k → (h : Head) → head_at rules k ≡ Some h → IsNext rules h (k + 1) (get_or (set nexts at (get_or firsts f.0 None)) k None)
    next' k low h e =
        elim (cases_eq k at) [
          | inl i ↦ (let same : App f ≡ h = same_Some (App f) h (sym is ∙ ap (head_at rules) (sym i) ∙ e) in
              subst (IsNext rules h (k + 1)) (sym (get_or-set_at nexts at k (get_or firsts f.0 None) None i l))
              (subst (λ g. IsNext rules g (k + 1) (get_or firsts f.0 None)) same (subst (λ j. IsNext rules (App f) (j + 1) (get_or firsts f.0 None)) (sym i) (linked.first f b))))
          | inr n ↦ subst (IsNext rules h (k + 1)) (sym (get_or-set_other nexts at k (get_or firsts f.0 None) None n)) (linked.next k (omega arith) h e)
        ]

-- the head at a place that is a symbol below a bound
pub record SymbolAt (rules : List Rule) (k n : ℕ) (f : Symbol) : Type 0 where
  pub head : head_at rules k ≡ Some (App f)
  pub below : f.0 < n

pub symbol_at : (rules : List Rule) (k n : ℕ) (o : Option Head) (f : Symbol) → HeadsAreBelow n rules → k < length rules → head_at rules k ≡ o → symbol_of o ≡ Some f → SymbolAt rules k n f
symbol_at rules k n o f below l e is = go o e is (subst (IsBelow n) e (below k l))
  where
    go : (o : Option Head) → head_at rules k ≡ o → symbol_of o ≡ Some f → IsBelow n o → SymbolAt rules k n f
    go None e is b = cc
    go (Some (App g)) e is b =
        let same : g ≡ f = same_Some g f is in
        record { head = e ∙ ap (λ s. Some (App s)) same; below = subst (λ (s : Symbol). s.0 < n) same b }
    go (Some (Int v)) e is b = cc
    go (Some Nil) e is b = cc
    go (Some Cons) e is b = cc

-- there is always a symbol
pub symbol_there : (rules : List Rule) (k n : ℕ) (o : Option Head) → HeadsAreBelow n rules → k < length rules → head_at rules k ≡ o → symbol_of o ≡ None → ⊥
symbol_there rules k n o below l e is = go o is (subst (IsBelow n) e (below k l))
  where
    go : (o : Option Head) → symbol_of o ≡ None → IsBelow n o → ⊥
    go None is b = b
    go (Some (App g)) is b = cc
    go (Some (Int v)) is b = b
    go (Some Nil) is b = b
    go (Some Cons) is b = b

-- a greater bound holds too
pub weaker : (m n : ℕ) (o : Option Head) → m ≤ n → IsBelow m o → IsBelow n o
weaker m n None l b = b
weaker m n (Some (App f)) l b = omega arith
weaker m n (Some (Int v)) l b = b
weaker m n (Some Nil) l b = b
weaker m n (Some Cons) l b = b

pub below_here : (rules : List Rule) (i n : ℕ) (r : Rule) → HaveSymbols rules → i < length rules → r ≡ get_or rules i r → IfSome (symbol_of (root r.left)) (λ f. f.0 < n) → IsBelow n (head_at rules i)
below_here rules i n r have l read past = go (head_at rules i) (have i l) (subst (λ o. IfSome (symbol_of o) (λ f. f.0 < n)) (sym (head_at-get rules i r l read)) past)
  where
    go : (o : Option Head) → IsSome (symbol_of o) → IfSome (symbol_of o) (λ f. f.0 < n) → IsBelow n o
    go None h p = absurd (cc)
    go (Some (App f)) h p = p
    go (Some (Int v)) h p = absurd (cc)
    go (Some Nil) h p = absurd (cc)
    go (Some Cons) h p = absurd (cc)

pub plan_symbols : (w : ℕ) (rules : List Rule) → All IsRule rules → All (HasSymbolsAlone w) rules → HaveSymbols rules
plan_symbols w [] all plain k l = absurd (omega arith)
plan_symbols w (r ∷ rs) all plain zero l =
    let s = plain_symbol w r (All-head IsRule r rs all) (All-head (HasSymbolsAlone w) r rs plain) in
    rw s.1 refl
plan_symbols w (r ∷ rs) all plain (suc k) l = plan_symbols w rs (All-tail IsRule r rs all) (All-tail (HasSymbolsAlone w) r rs plain) k (omega arith)

-- what was written through a slice is the whole
pub written_back : {A : Type 0} (items new : List A) (n : ℕ) → n ≡ length items → length new ≡ length items → take n (new ++ drop (length new) items) ≡ new
written_back {A = A} items new n long same =
    ap (λ (xs : List A). take n (new ++ xs)) (drop_all (length new) items (omega arith)) ∙ (ap (take n) (append-nil new) ∙ take_all n new (omega arith))

-- rules that are linked are indexed by what was written
pub indexed : (rules : List Rule) (w : ℕ) (firsts nexts written_firsts written_nexts : List (Option ℕ)) → IsPlan (planned rules w) → length nexts ≡ length rules → HeadsAreBelow (length firsts) rules → IsLinked rules 0 firsts nexts → written_firsts ≡ firsts → written_nexts ≡ nexts → IsIndexed rules w written_firsts written_nexts
indexed rules w firsts nexts written_firsts written_nexts plan size heads linked f n =
    rw (f, n) (record { plan = plan; size = size; heads = heads; linked = linked })
