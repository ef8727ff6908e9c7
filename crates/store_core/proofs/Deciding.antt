-- What the conditions of steps read: lists of rows, free places, and entries.
use Rattle.std.proofs.Common.{◌≡◌, ◌≢◌, ℕ, zero, suc, ◌+◌, ◌<◌, ◌≤◌, Bool, true, false, cond, List, [], ◌∷◌, ◌++◌, length, get_or, refl, sym, ap, ◌∙◌, subst, arith, true≢false, eqb, ne_eqb, add-one, map, Bor, replicate}
use Rattle.std.specs.Prelude.{◌↔◌, ◌&&◌, IsTrue}
use Rattle.std.specs.List.{list_all}
use Rattle.history_core.specs.declared.entry.Entry.{Entry}
use Rattle.history_core.specs.Chronicle.{last_roots, roots_after}
use Rattle.store_model.specs.declared.view.Place.{Place}
use Rattle.store_model.specs.Calls.{IsOver}
use Rattle.store_model.specs.declared.view.Content.{Content}
use Rattle.store_model.specs.declared.view.View.{View}
use Rattle.store_model.specs.Machine.{Each, SecondIsList, MayName, MayBegin, widest}
use Rattle.store_model.specs.declared.view.Sizes.{Sizes}
use Rattle.store_model.specs.Steps.{is_free, rows_left}
use Rattle.store_core.specs.Naming.{IsMarked}
use Rattle.store_model.proofs.Basics.{choose, eqb_not, each_map}

and_true : (a b : Bool) → (a && b) ≡ true → (a ≡ true) × (b ≡ true)
and_true true b h = (refl, h)
and_true false b h = absurd (true≢false (sym h))

true_and : (a b : Bool) → a ≡ true → b ≡ true → (a && b) ≡ true
true_and true b e f = f
true_and false b e f = e

on : (names : List ℕ) (es : List (Bor Entry)) (e : Bor Entry) → roots_after (last_roots names (map (λ x. x.now) es)) e.now ≡ last_roots names (map (λ x. x.now) (es ++ e ∷ []))
on names [] e = refl
on names (d ∷ es) e = on (roots_after names d.now) es e

-- all are marked, by a test
pub all_is : (m : List Bool) (rs : List ℕ) → list_all (λ r. get_or m r false) rs ≡ true → Each (IsMarked m) rs
all_is m [] h = tt
all_is m (r ∷ rs) h = let k = and_true (get_or m r false) (list_all (λ q. get_or m q false) rs) h in (k.0, all_is m rs k.1)

pub is_all : (m : List Bool) (rs : List ℕ) → Each (IsMarked m) rs → list_all (λ r. get_or m r false) rs ≡ true
is_all m [] h = refl
is_all m (r ∷ rs) h = true_and (get_or m r false) (list_all (λ q. get_or m q false) rs) h.0 (is_all m rs h.1)

-- the last Roots with one entry more
pub last_on : (es : List (Bor Entry)) (e : Bor Entry) (rows next : List ℕ) → rows ≡ last_roots [] (map (λ x. x.now) es) → next ≡ roots_after rows e.now → next ≡ last_roots [] (map (λ x. x.now) (es ++ e ∷ []))
last_on es e rows next old new = new ∙ (ap (λ (rs : List ℕ). roots_after rs e.now) old ∙ on [] es e)

-- a row that is free, and one that isn't in one more place
pub free_here : (place : ℕ → ℕ) (n r i : ℕ) → i < n → place i ≡ r → is_free place n r ≡ true
free_here place zero r i l e = absurd (omega arith)
free_here place (suc n) r i l e = choose (λ (b : Bool). b ≡ true) (eqb (place n) r) true (is_free place n r) (λ _. refl)
    (λ no'. free_here place n r i (let ne : n ≢ i = (λ (q : n ≡ i). eqb_not (place n) r no' (ap place q ∙ e)) in omega arith) e)

pub free_past : (place : ℕ → ℕ) (n r : ℕ) → is_free place n r ≡ false → place n ≢ r → is_free place (n + 1) r ≡ false
free_past place n r e ne = ap (λ (k : ℕ). is_free place k r) (add-one n) ∙ (ap (λ (b : Bool). cond b true (is_free place n r)) (ne_eqb (place n) r ne) ∙ e)

-- one row more
pub left_more : (place : ℕ → ℕ) (count n : ℕ) (kept : List ℕ) (free : Bool) → kept ≡ rows_left place count n → free ≡ is_free place count n → cond free kept (kept ++ n ∷ []) ≡ rows_left place count (n + 1)
left_more place count n kept free e f = sym (ap (rows_left place count) (add-one n)
    ∙ (ap (λ (b : Bool). cond b (rows_left place count n) (rows_left place count n ++ n ∷ [])) (sym f) ∙ ap (λ (ks : List ℕ). cond free ks (ks ++ n ∷ [])) (sym e)))

-- a creation may begin where its content is formed and its rows are marked
pub may_begin_by : (z : Sizes) (w : Place → ℕ) (i : ℕ) (v : View) (c : Content) (a b : List ℕ) (m : List Bool) (named' : Bool) → a ≡ c.arguments → b ≡ c.arguments
    → (length a ≤ widest z) × IsOver c.head a × SecondIsList w c.head a → ((r : ℕ) → IsMarked m r ↔ MayName w i v r) → named' ≡ list_all (λ r. get_or m r false) b → IsTrue named' ↔ MayBegin z w i v c
may_begin_by z w i v c a b m named' ea eb formed marked is =
    let f = subst (λ (rs : List ℕ). (length rs ≤ widest z) × IsOver c.head rs × SecondIsList w c.head rs) ea formed in
    let tells : named' ≡ list_all (λ r. get_or m r false) c.arguments = is ∙ ap (list_all (λ r. get_or m r false)) eb in (
      λ t. record { few = f.0; second = f.2; over = f.1; named = each_map (IsMarked m) (MayName w i v) c.arguments (λ r h. (marked r).0 h) (all_is m c.arguments (sym tells ∙ t)) },
      λ h. tells ∙ is_all m c.arguments (each_map (MayName w i v) (IsMarked m) c.arguments (λ r k. (marked r).1 k) h.named),
    )

last_of : (n : ℕ) (v : View) → replicate n v ++ v ∷ [] ≡ replicate (suc n) v
last_of zero v = refl
last_of (suc n) v = ap (λ (vs : List View). v ∷ vs) (last_of n v)

-- one view more
pub views_more : (n : ℕ) (v u : View) (vs us : List View) → vs ≡ replicate n v → u ≡ v → us ≡ vs ++ u ∷ [] → us ≡ replicate (n + 1) v
views_more n v u vs us e f g = g ∙ (ap (λ (xs : List View). xs ++ u ∷ []) e ∙ (ap (λ (x : View). replicate n v ++ x ∷ []) f ∙ (last_of n v ∙ ap (λ (k : ℕ). replicate k v) (sym (add-one n)))))
