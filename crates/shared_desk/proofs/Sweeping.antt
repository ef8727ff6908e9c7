-- A collection, and what a build comes to.
use Rattle.std.proofs.Common.{◌≡◌, ℕ, ◌+◌, true, List, refl, ap, sym, ◌∙◌, subst, arith}
use Rattle.std.specs.Prelude.{Contains, Result, Ok, Err}
use Rattle.term_model.specs.declared.Row.{Row}
use Rattle.term_model.specs.declared.Head.{Head}
use Rattle.term_model.specs.Tree.{Tree, Node, trees_of, distinct, may_stand_over}
use Rattle.terms_api.specs.declared.terms.BuildFault.{BuildFault}
use Rattle.terms_api.specs.declared.terms.BuildFault.TheVariants.{Deep, StoreFull, Worn}
use Rattle.terms_api.specs.Terms.{trees, reachable, last, asked, IsSound, MayBuild, NeedsPlace, IsCrowded}
use Rattle.row_stack.specs.Places.{Places}
use Rattle.shared_desk.specs.Pass.{PassView, store, own, over, IsWorn, Swept, IsFilled}
use Rattle.shared_desk.specs.Desk.{IsAlone, Passed, Placed, Outcome, worn_still}
use Rattle.shared_desk.proofs.Passing.{no_earlier, trees_same, passed_twice, rooted}
use Rattle.shared_desk.proofs.Placing.{over_asked}
use Rattle.shared_desk.proofs.Following.{placed_after, placed_then}

-- a build may still be tried
pub may_after : (k : ℕ) (v w : PassView) (xs : List Row) (h : Head) (n : ℕ) → IsSound (store v xs) → Passed k v w xs → MayBuild (store v xs) h n → MayBuild (store w xs) h n
may_after k v w xs h n s p may =
    record {
      depth = may.depth;
      width = omega (arith, may.width, p.same.arity);
      head = subst (λ ts. may_stand_over h (trees_of (last n ts)) ≡ true) (sym (trees_same k v w xs s p)) may.head;
    }

pub place_after : (k : ℕ) (v w : PassView) (xs : List Row) (n : ℕ) → Passed k v w xs → (NeedsPlace (store v xs) n → ⊥) → NeedsPlace (store w xs) n → ⊥
place_after k v w xs n p place x = place (x.0, x.1 ∙ p.same.depth)

-- the same where nothing has changed
pub may_still : (v x : PassView) (p q : Places) (h : Head) (n : ℕ) → x ≡ v → q ≡ p → MayBuild (store v p.items) h n → MayBuild (store x q.items) h n
may_still v x p q h n e same may = subst (λ (z : PassView). MayBuild (store z q.items) h n) (sym e) (subst (λ (z : Places). MayBuild (store v z.items) h n) (sym same) may)

pub place_still : (v x : PassView) (p q : Places) (n : ℕ) → x ≡ v → q ≡ p → (NeedsPlace (store v p.items) n → ⊥) → NeedsPlace (store x q.items) n → ⊥
place_still v x p q n e same place = subst (λ (z : PassView). NeedsPlace (store z q.items) n → ⊥) (sym e) (subst (λ (z : Places). NeedsPlace (store v z.items) n → ⊥) (sym same) place)

pub outcome_still : (v x w : PassView) (p q : Places) (ys : List Row) (h : Head) (n : ℕ) (r : Result (Unit {0}) BuildFault) → x ≡ v → q ≡ p → Outcome x w q.items ys h n r → Outcome v w p.items ys h n r
outcome_still v x w p q ys h n r e same o = subst (λ (z : Places). Outcome v w z.items ys h n r) same (subst (λ (z : PassView). Outcome z w q.items ys h n r) e o)

-- the collection
pub swept : (v m : PassView) (p : Places) → IsAlone v p → Swept v m → IsSound (own m) → Passed 1 v m p.items
swept v m p i a sound =
    let roots : m.roots ≡ p.items = ap (λ (x : PassView). x.roots) a.rest ∙ i.roots in
    let load : m.load ≡ v.load = ap (λ (x : PassView). x.load) a.rest in
    let sweeps : m.sweeps ≡ v.sweeps + 1 = ap (λ (x : PassView). x.sweeps) a.rest in
    record {
      none = a.none;
      rows = record {
        reachable = λ r t h k. a.rows.reachable r t h (subst (λ ys. Contains (reachable (store v ys)) t) (sym i.roots) k);
        epoch = a.rows.epoch;
      };
      built = ap (λ (x : PassView). x.built) a.rest;
      sweeps = sweeps;
      load = record { least = omega (arith, load); most = omega (arith, load) };
      same = record {
        rows = ap (λ (x : PassView). x.rows) a.rest;
        arity = ap (λ (x : PassView). x.arity) a.rest;
        depth = ap (λ (x : PassView). x.depth) a.rest;
        store = ap (λ (x : PassView). x.store) a.rest;
        seat = ap (λ (x : PassView). x.seat) a.rest;
        base = no_earlier v m v.roots m.roots a.rows;
      };
      sound = subst (λ ys. IsSound (store m ys)) roots sound;
    }

pub swept_alone : (v m : PassView) (p : Places) → IsAlone v p → Swept v m → IsSound (own m) → IsAlone m p
swept_alone v m p i a sound =
    let passed = swept v m p i a sound in
    record {
      sound = passed.sound;
      alone = ap (λ (x : PassView). x.alone) a.rest ∙ i.alone;
      shared = ap (λ (x : PassView). x.shared) a.rest ∙ i.shared;
      roots = ap (λ (x : PassView). x.roots) a.rest ∙ i.roots;
      room = omega (arith, passed.same.depth, i.room);
    }

-- the new stack is protected
pub placed_rooted : (v w : PassView) (xs ys : List Row) (n : ℕ) (t : Tree) → Placed 0 v w xs ys n t → Placed 0 v (rooted w ys) xs ys n t
placed_rooted v w xs ys n t b =
    let s = b.sound in
    record {
      row = b.row;
      stack = b.stack;
      tree = b.tree;
      built = b.built;
      only = b.only;
      rows = record { reachable = b.rows.reachable; epoch = b.rows.epoch };
      sweeps = b.sweeps;
      load = record { least = b.load.least; most = b.load.most };
      same = record { rows = b.same.rows; arity = b.same.arity; depth = b.same.depth; store = b.same.store; seat = b.same.seat; base = b.same.base };
      sound = record { stack = s.stack; depth = s.depth; room = s.room; below = s.below; one_row = s.one_row; arguments = s.arguments; well_formed = s.well_formed; ground = s.ground };
    }

pub placed_alone : (v w : PassView) (p q : Places) (n : ℕ) (t : Tree) → IsAlone v p → Placed 0 v w p.items q.items n t → w.shared ≡ v.shared → w.alone ≡ v.alone → q.room ≡ p.room → IsAlone (rooted w q.items) q
placed_alone v w p q n t i b sh al room =
    record { sound = (placed_rooted v w p.items q.items n t b).sound; alone = al ∙ i.alone; shared = sh ∙ i.shared; roots = refl; room = omega (arith, b.same.depth, i.room, room) }

pub outcome_swept : (v m x w : PassView) (xs ys : List Row) (h : Head) (n : ℕ) → IsSound (store v xs) → Passed 1 v m xs → Placed 0 m x xs ys n (asked (store m xs) h n) → Passed 0 x w ys → Outcome v w xs ys h n (Ok tt)
outcome_swept v m x w xs ys h n s p b q = (1, omega arith, placed_then 1 0 v x w xs ys h n s (placed_after 1 0 v m x xs ys h n s p b) q)

pub outcome_full : (v m w : PassView) (xs : List Row) (h : Head) (n : ℕ) → IsSound (store v xs) → v.rooted ≡ trees (store v xs) → Passed 1 v m xs → m.hand ≡ v.rooted → IsFilled m h (last n xs) → Passed 0 m w xs → w.crowd ≡ m.crowd → w.hand ≡ m.hand → Passed 1 v w xs × IsCrowded (store v xs) (store w xs) h n
outcome_full v m w xs h n s noted p hand filled q crowd kept =
    let same = trees_same 1 v m xs s p in
    let e : over m h (last n xs) ≡ asked (store v xs) h n = over_asked m h n xs ∙ ap (λ ts. Node h (trees_of (last n ts))) same in (
      passed_twice 1 0 v m w xs s p q,
      record {
        full = ap distinct crowd ∙ filled.full ∙ sym q.same.rows;
        absent = λ c. filled.absent (subst (Contains m.crowd) (sym e) (subst (λ (ts : List Tree). Contains ts (asked (store v xs) h n)) crowd c));
        hand = kept ∙ hand ∙ noted;
      },
    )

-- what a build comes to, after other steps
pub outcome_after : (v m w : PassView) (xs ys : List Row) (h : Head) (n : ℕ) (r : Result (Unit {0}) BuildFault) → IsSound (store v xs) → Passed 0 v m xs → Outcome m w xs ys h n r → Outcome v w xs ys h n r
outcome_after v m w xs ys h n (Ok u) s p (k, le, b) = (0 + k, omega (arith, le), placed_after 0 k v m w xs ys h n s p b)
outcome_after v m w xs ys h n (Err Deep) s p o = o
outcome_after v m w xs ys h n (Err StoreFull) s p (e, q, c) =
    let same = trees_same 0 v m xs s p in
    let f : asked (store m xs) h n ≡ asked (store v xs) h n = ap (λ ts. Node h (trees_of (last n ts))) same in
    (e, passed_twice 0 1 v m w xs s p q, record { full = c.full; absent = λ x. c.absent (subst (Contains w.crowd) (sym f) x); hand = c.hand ∙ same })
outcome_after v m w xs ys h n (Err Worn) s p (e, q, worn) = (e, passed_twice 0 0 v m w xs s p q, worn)

-- numbers used up are told after the pass has come back
pub outcome_worn : (v w : PassView) (xs : List Row) (h : Head) (n : ℕ) → IsWorn v → Passed 0 v w xs → Outcome v w xs xs h n (Err Worn)
outcome_worn v w xs h n worn q = (refl, q, worn_still v w q.same worn)
