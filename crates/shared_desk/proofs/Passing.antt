-- Steps of a desk, one after another.
use Rattle.std.proofs.Common.{◌≡◌, ℕ, ◌+◌, ◌<◌, ◌≤◌, inl, inr, true, false, List, Some, refl, ap, sym, ◌∙◌, subst, arith}
use Rattle.std.specs.Prelude.{Contains, max}
use Rattle.std.specs.List.{flat_map}
use Rattle.term_model.specs.declared.Row.{Row}
use Rattle.term_model.specs.Tree.{Tree, subtrees, distinct}
use Rattle.terms_api.specs.Terms.{trees, reachable, IsSound, Loses}
use Rattle.terms_api.proofs.Staying.{trees-lost}
use Rattle.row_stack.specs.Places.{Places}
use Rattle.shared_desk.specs.Pass.{PassView, store, own, Arrived, left}
use Rattle.shared_desk.specs.Desk.{IsRight, IsIn, IsAlone, IsReady, Passed, pass_in_turn}

some_same : (m n : ℕ) → Some m ≡ Some n → m ≡ n
some_same m n e = cc

-- where rows may have been lost the base isn't an earlier one
pub no_earlier : (v w : PassView) (xs ys : List Row) → Loses (store v xs) (store w ys) → v.base ≤ w.base
no_earlier v w xs ys l =
    elim (l.epoch) [
      | inl a ↦ (let e : w.base ≡ v.base = some_same w.base v.base a.0 in omega (arith, e))
      | inr a ↦ (let c : v.base < w.base = a in omega (arith, c))
    ]

pub trees_same : (k : ℕ) (v w : PassView) (xs : List Row) → IsSound (store v xs) → Passed k v w xs → trees (store w xs) ≡ trees (store v xs)
trees_same k v w xs sound p = trees-lost (store v xs) (store w xs) sound p.rows refl

-- rows are lost twice
pub lost_twice : (v w x : PassView) (xs ys zs : List Row) → Loses (store v xs) (store w ys) → Loses (store w ys) (store x zs) → ((t : Tree) → Contains (reachable (store v xs)) t → Contains (reachable (store w ys)) t) → Loses (store v xs) (store x zs)
lost_twice v w x xs ys zs f g reach =
    record {
      reachable = λ r t h k. g.reachable r t (f.reachable r t h k) (reach t k);
      epoch = elim (f.epoch) [
        | inl a ↦ elim (g.epoch) [
          | inl b ↦ inl (b.0 ∙ a.0, λ r t h. b.1 r t (a.1 r t h))
          | inr b ↦ inr (let e : w.base ≡ v.base = some_same w.base v.base a.0 in let c : w.base < x.base = b in omega (arith, e, c))
        ]
        | inr a ↦ elim (g.epoch) [
          | inl b ↦ inr (let e : x.base ≡ w.base = some_same x.base w.base b.0 in let c : v.base < w.base = a in omega (arith, e, c))
          | inr b ↦ inr (let d : w.base < x.base = b in let c : v.base < w.base = a in omega (arith, d, c))
        ]
      ];
    }

-- a load rises twice
pub most_twice : (a b c d e : ℕ) → b ≤ max a d → c ≤ max b e → e ≤ d → c ≤ max a d
most_twice a b c d e f g h = omega (arith, f, g, h)

pub passed_twice : (j k : ℕ) (v w x : PassView) (xs : List Row) → IsSound (store v xs) → Passed j v w xs → Passed k w x xs → Passed (j + k) v x xs
passed_twice j k v w x xs sound f g =
    let e = trees_same j v w xs sound f in
    record {
      none = λ r t h. f.none r t (g.none r t h);
      rows = lost_twice v w x xs xs xs f.rows g.rows (λ t h. subst (λ ts. Contains (flat_map subtrees ts) t) (sym e) h);
      built = g.built ∙ f.built;
      sweeps = omega (arith, f.sweeps, g.sweeps);
      load = record {
        least = omega (arith, f.load.least, g.load.least);
        most = most_twice v.load w.load x.load (distinct (flat_map subtrees (trees (store v xs)))) (distinct (flat_map subtrees (trees (store w xs)))) f.load.most g.load.most
            (let d : distinct (flat_map subtrees (trees (store w xs))) ≡ distinct (flat_map subtrees (trees (store v xs))) = ap (λ ts. distinct (flat_map subtrees ts)) e in omega (arith, d));
      };
      same = pass_in_turn v w x f.same g.same;
      sound = g.sound;
    }

-- an access was granted
pub arrived : (v w : PassView) (xs : List Row) → v.roots ≡ xs → Arrived v w → IsSound (own w) → Passed 0 v w xs
arrived v w xs e a sound =
    let roots : w.roots ≡ xs = ap (λ (x : PassView). x.roots) a.rest ∙ e in
    let load : w.load ≡ v.load = ap (λ (x : PassView). x.load) a.rest in
    let sweeps : w.sweeps ≡ v.sweeps = ap (λ (x : PassView). x.sweeps) a.rest in
    record {
      none = a.none;
      rows = record {
        reachable = λ r t h k. a.rows.reachable r t h (subst (λ ys. Contains (reachable (store v ys)) t) (sym e) k);
        epoch = a.rows.epoch;
      };
      built = ap (λ (x : PassView). x.built) a.rest;
      sweeps = omega (arith, sweeps);
      load = record { least = omega (arith, load); most = omega (arith, load) };
      same = record {
        rows = ap (λ (x : PassView). x.rows) a.rest;
        arity = ap (λ (x : PassView). x.arity) a.rest;
        depth = ap (λ (x : PassView). x.depth) a.rest;
        store = ap (λ (x : PassView). x.store) a.rest;
        seat = ap (λ (x : PassView). x.seat) a.rest;
        base = no_earlier v w v.roots w.roots a.rows;
      };
      sound = subst (λ ys. IsSound (store w ys)) roots sound;
    }

-- no step was made
pub passed_none : (v : PassView) (xs : List Row) → IsSound (store v xs) → Passed 0 v v xs
passed_none v xs s =
    record {
      none = λ r t h. h;
      rows = record { reachable = λ r t h k. h; epoch = inl (refl, λ r t h. h) };
      built = refl;
      sweeps = omega arith;
      load = record { least = omega arith; most = omega arith };
      same = record { rows = refl; arity = refl; depth = refl; store = refl; seat = refl; base = omega arith };
      sound = s;
    }

abbrev pub rooted : PassView → List Row → PassView
rooted v xs = record v { roots = xs }

-- the stack was protected, and an access has ended
pub ended : (v : PassView) (xs : List Row) → IsSound (store v xs) → Passed 0 v (left (rooted v xs)) xs
ended v xs s =
    record {
      none = λ r t h. h;
      rows = record { reachable = λ r t h k. h; epoch = inl (refl, λ r t h. h) };
      built = refl;
      sweeps = omega arith;
      load = record { least = omega arith; most = omega arith };
      same = record { rows = refl; arity = refl; depth = refl; store = refl; seat = refl; base = omega arith };
      sound = record { stack = s.stack; depth = s.depth; room = s.room; below = s.below; one_row = s.one_row; arguments = s.arguments; well_formed = s.well_formed; ground = s.ground };
    }

-- from one access to the other
pub crossed : (v w : PassView) (xs : List Row) → IsSound (store v xs) → Arrived (left (rooted v xs)) w → IsSound (own w) → Passed 0 v w xs
crossed v w xs s a sound = passed_twice 0 0 v (left (rooted v xs)) w xs s (ended v xs s) (arrived (left (rooted v xs)) w xs refl a sound)

-- then in exclusive access
pub ready : (v w : PassView) (p : Places) → IsIn v p → Arrived (left (rooted v p.items)) w → IsSound (own w) → w.shared ≡ false → w.alone ≡ true → IsReady w p
ready v w p i a sound out alone =
    let xs = p.items in
    let roots : w.roots ≡ xs = ap (λ (x : PassView). x.roots) a.rest in
    let depth : w.depth ≡ v.depth = ap (λ (x : PassView). x.depth) a.rest in
    let passed = arrived (left (rooted v xs)) w xs refl a sound in
    record {
      alone = record { sound = passed.sound; alone = alone; shared = out; roots = roots; room = omega (arith, depth, i.right.room) };
      noted = roots ∙ sym (ap (λ (x : PassView). x.noted) a.rest);
      rooted = ap (λ (x : PassView). x.rooted) a.rest ∙ sym (trees_same 0 (left (rooted v xs)) w xs (ended v xs i.right.sound).sound passed);
    }

-- inside again
pub right_in : (k : ℕ) (v w : PassView) (p : Places) → v.depth ≤ p.room → Passed k v w p.items → w.shared ≡ true → w.alone ≡ false → IsRight w p
right_in k v w p room passed in_it alone =
    record { sound = passed.sound; roots = λ e. absurd (let x : true ≡ false = sym in_it ∙ e in cc); alone = alone; room = omega (arith, passed.same.depth, room) }

-- outside and back
pub round_in : (v w : PassView) (p : Places) → IsIn v p → Arrived (left (rooted v p.items)) w → IsSound (own w) → w.shared ≡ true → w.alone ≡ false → IsIn w p
round_in v w p i a sound in_it alone =
    record { right = right_in 0 v w p i.right.room (crossed v w p.items i.right.sound a sound) in_it alone; shared = in_it }

rooted_same : (v : PassView) (xs : List Row) → v.roots ≡ xs → v ≡ rooted v xs
rooted_same v xs e = subst (λ ys. v ≡ rooted v ys) e refl

-- back from exclusive access
pub back : (v w : PassView) (p : Places) → IsAlone v p → Arrived (left v) w → IsSound (own w) → Passed 0 v w p.items
back v w p i a sound = crossed v w p.items i.sound (subst (λ x. Arrived (left x) w) (rooted_same v p.items i.roots) a) sound

pub back_in : (v w : PassView) (p : Places) → IsAlone v p → Arrived (left v) w → IsSound (own w) → w.shared ≡ true → w.alone ≡ false → IsIn w p
back_in v w p i a sound in_it alone =
    record { right = right_in 0 v w p i.room (back v w p i a sound) in_it alone; shared = in_it }
