-- The symbols of parts, taken up one after another.
use Rattle.std.proofs.Common.{◌≡◌, ◌≤◌, ◌<◌, ◌∙◌, ℕ, ◌+◌, List, [], ◌∷◌, ◌++◌, length, take, drop, map, get_or, true, refl, ap, sym, subst, Some, None, Ok, Err, All}
use Rattle.std.proofs.lemmas.List.{take_more, drop_more, map_push, take_all, drop_all}
use Rattle.std.proofs.lemmas.List.Elements.{All-head, All-tail, All-nil, All-cons, All-push}
use Rattle.read_faults.specs.declared.fail.ReadFail.{ReadFail}
use Rattle.read_faults.specs.declared.fail.ReadFail.TheVariants.{Refused, Memory}
use Rattle.term_model.specs.declared.Item.{Item}
use Rattle.term_model.specs.declared.Item.TheVariants as item
use Rattle.symbol_pool.specs.Pool.{Named, named}
use Rattle.term_syntax.specs.State.{Kind, Symbol, Integer, Brackets, Part}
use Rattle.faults.specs.declared.refusal.Refusal.{Refusal}
use Rattle.read_faults.specs.Fault.{fault, IsDue}
use Rattle.term_syntax.specs.Parts.{pool_after, part_fault, unless_fault, taken_up, symbols_of_parts}
use Rattle.term_syntax.specs.Items.{is_there, IsThere, item_of_kind, item_in, IsTakenUp, IsPartFault}
use Rattle.symbol_pool.specs.Taking.{GrowsPool, with_symbols}
use Rattle.term_syntax.specs.TakenUp.{TookFront}
use Rattle.term_syntax.proofs.TakingTerms.{after_symbol, with_more, symbols_append, front_of}
use Rattle.symbol_pool.proofs.Taking.{with_symbol_grows, stays_in, has_taken, grows_itself, grows_on}

after_grows : (pool : List Named) (kind : Kind) (count : ℕ) → GrowsPool pool (pool_after pool kind count)
after_grows pool (Symbol n) count = with_symbol_grows pool (named n count)
after_grows pool (Integer v) count = grows_itself pool
after_grows pool Brackets count = grows_itself pool

after_there : (pool : List Named) (kind : Kind) (count : ℕ) → is_there (pool_after pool kind count) kind count ≡ true
after_there pool (Symbol n) count = has_taken pool (named n count)
after_there pool (Integer v) count = refl
after_there pool Brackets count = refl

stays_there : (pool new : List Named) (kind : Kind) (count : ℕ) → GrowsPool pool new → is_there pool kind count ≡ true → (item_of_kind new kind count ≡ item_of_kind pool kind count) × (is_there new kind count ≡ true)
stays_there pool new (Symbol n) count g h =
    let s = stays_in pool new (named n count) g h in
    (ap (λ k. item.App (record { 0 = k }) count) s.0, s.1)
stays_there pool new (Integer v) count g h = (refl, refl)
stays_there pool new Brackets count g h = (refl, refl)

items_stay : (pool new : List Named) → GrowsPool pool new → (ps : List Part) → All (IsThere pool) ps → (map (item_in new) ps ≡ map (item_in pool) ps) × All (IsThere new) ps
items_stay pool new g [] h = (refl, All-nil (IsThere new))
items_stay pool new g (p ∷ ps) h =
    let one = stays_there pool new p.kind p.count g (All-head (IsThere pool) p ps h) in
    let rest = items_stay pool new g ps (All-tail (IsThere pool) p ps h) in
    ((λ i. one.0 i ∷ rest.0 i), All-cons (IsThere new) p ps one.1 rest.1)

-- a part without a fault, and one with a fault
pub taken_one : (pool : List Named) (p : Part) (ps : List Part) → part_fault pool p ≡ None → taken_up pool (p ∷ ps) ≡ taken_up (pool_after pool p.kind p.count) ps
taken_one pool p ps e = ap (λ f. unless_fault f (taken_up (pool_after pool p.kind p.count) ps)) e

pub taken_not : (pool : List Named) (p : Part) (ps : List Part) (f : Refusal) → part_fault pool p ≡ Some f → taken_up pool (p ∷ ps) ≡ Err f
taken_not pool p ps f e = ap (λ g. unless_fault g (taken_up (pool_after pool p.kind p.count) ps)) e

-- so many parts were taken up, which gave these symbols and items
pub record Taking (old pool : List Named) (parts : List Part) (i : ℕ) (items : List Item) : Type 0 where
  pub rest : taken_up pool (drop i parts) ≡ taken_up old parts
  pub items_are : items ≡ map (item_in pool) (take i parts)
  pub there : All (IsThere pool) (take i parts)
  pub grows : GrowsPool old pool
  pub pool_is : pool ≡ with_symbols old (symbols_of_parts (take i parts))

pub taking_none : (old : List Named) (parts : List Part) → Taking old old parts 0 []
taking_none old parts = record { rest = refl; items_are = refl; there = All-nil (IsThere old); grows = grows_itself old; pool_is = refl }

pub taking_more : (old pool new : List Named) (parts : List Part) (i : ℕ) (items : List Item) (p : Part) (item : Item) → Taking old pool parts i items → i < length parts → p ≡ get_or parts i p → IsTakenUp pool p item new → Taking old new parts (i + 1) (items ++ item ∷ [])
taking_more old pool new parts i items p item t l at u =
    let front : take (i + 1) parts ≡ take i parts ++ p ∷ [] = take_more parts i p l ∙ ap (λ q. take i parts ++ q ∷ []) (sym at) in
    let back : drop i parts ≡ p ∷ drop (i + 1) parts = drop_more parts i p l ∙ ap (λ q. q ∷ drop (i + 1) parts) (sym at) in
    let g : GrowsPool pool new = subst (GrowsPool pool) (sym u.pool_is) (after_grows pool p.kind p.count) in
    let stay = items_stay pool new g (take i parts) t.there in
    let here : IsThere new p = ap (λ q. is_there q p.kind p.count) u.pool_is ∙ after_there pool p.kind p.count in
    record {
      rest =
          ap (λ q. taken_up q (drop (i + 1) parts)) u.pool_is
          ∙ sym (taken_one pool p (drop (i + 1) parts) u.faultless)
          ∙ ap (taken_up pool) (sym back)
          ∙ t.rest;
      items_are =
          ap (λ xs. xs ++ item ∷ []) (t.items_are ∙ sym stay.0)
          ∙ ap (λ x. map (item_in new) (take i parts) ++ x ∷ []) u.item_is
          ∙ sym (map_push (item_in new) (take i parts) p)
          ∙ ap (map (item_in new)) (sym front);
      there = subst (All (IsThere new)) (sym front) (All-push (IsThere new) (take i parts) p stay.1 here);
      grows = grows_on old pool new t.grows g;
      pool_is =
          u.pool_is
          ∙ after_symbol pool p.kind p.count
          ∙ ap (λ q. with_symbols q (symbols_of_parts (p ∷ []))) t.pool_is
          ∙ sym (with_more old (symbols_of_parts (take i parts)) (symbols_of_parts (p ∷ [])))
          ∙ ap (with_symbols old) (sym (symbols_append (take i parts) (p ∷ [])))
          ∙ ap (λ qs. with_symbols old (symbols_of_parts qs)) (sym front);
    }

-- a part is refused
pub part_due : (old pool : List Named) (parts : List Part) (i : ℕ) (items : List Item) (p : Part) (e : ReadFail) → Taking old pool parts i items → i < length parts → p ≡ get_or parts i p → IsPartFault pool p e → IsDue (taken_up old parts) e
part_due old pool parts i items p (Refused kind offset) t l at h =
    let back : drop i parts ≡ p ∷ drop (i + 1) parts = drop_more parts i p l ∙ ap (λ q. q ∷ drop (i + 1) parts) (sym at) in
    sym t.rest ∙ ap (taken_up pool) back ∙ taken_not pool p (drop (i + 1) parts) (fault kind offset) h
part_due old pool parts i items p Memory t l at h = tt

-- all parts were taken up
pub taking_all : (old pool : List Named) (parts : List Part) (i : ℕ) (items : List Item) → Taking old pool parts i items → length parts ≤ i → (taken_up old parts ≡ Ok pool) × (items ≡ map (item_in pool) parts) × All (IsThere pool) parts
taking_all old pool parts i items t l =
    (sym t.rest ∙ ap (taken_up pool) (drop_all i parts l), t.items_are ∙ ap (map (item_in pool)) (take_all i parts l), subst (All (IsThere pool)) (take_all i parts l) t.there)

pub part_grows : (pool new : List Named) (p : Part) (item : Item) → IsTakenUp pool p item new → GrowsPool pool new
part_grows pool new p item u = subst (GrowsPool pool) (sym u.pool_is) (after_grows pool p.kind p.count)

-- the symbols of a front of the parts were taken up
pub took_front : (old pool : List Named) (parts : List Part) (i : ℕ) (items : List Item) → Taking old pool parts i items → TookFront (symbols_of_parts parts) old pool
took_front old pool parts i items t = front_of parts i old pool t.pool_is
