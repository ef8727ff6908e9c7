-- A creation over the last places of a stack.
use Rattle.std.proofs.Common.{◌≡◌, ◌≢◌, ℕ, zero, suc, ◌+◌, ◌-◌, ◌<◌, ◌≤◌, ◌⊎◌, inl, inr, true, false, List, [], ◌∷◌, ◌++◌, Some, length, drop, map, get_or, refl, ap, sym, ◌∙◌, subst, arith}
use Rattle.std.specs.Prelude.{All}
use Rattle.std.proofs.lemmas.Bool.Decides.{eqb_tells}
use Rattle.std.proofs.lemmas.List.{length-map, length-take, length-drop, length-append, drop-map}
use Rattle.std.proofs.lemmas.List.Elements.{All-append, All-take}
use Rattle.term_model.specs.declared.Row.{Row}
use Rattle.term_model.specs.declared.Head.{Head}
use Rattle.term_model.specs.Tree.{Tree, Node, trees_of, may_stand_over}
use Rattle.terms_api.specs.Terms.{HasTree, IsHeld, tree_at, last, but_last, asked, IsSound, MayBuild, NeedsPlace}
use Rattle.terms_api.proofs.Callers.{held-has, has-held}
use Rattle.row_stack.specs.Places.{Places}
use Rattle.shared_desk.specs.Pass.{PassView, store, own, over, MayCreate, Got}
use Rattle.shared_desk.specs.Desk.{IsIn, Placed}

pub last_map : {A B : Type 0} (f : A → B) (n : ℕ) (xs : List A) → last n (map f xs) ≡ map f (last n xs)
last_map f n xs = ap (λ m. drop (m - n) (map f xs)) (length-map xs f) ∙ drop-map f (length xs - n) xs

pub over_asked : (v : PassView) (h : Head) (n : ℕ) (xs : List Row) → over v h (last n xs) ≡ asked (store v xs) h n
over_asked v h n xs = ap (λ ts. Node h (trees_of ts)) (sym (last_map (tree_at (store v xs)) n xs))

pub all_drop : {A : Type 0} (P : A → Type 0) (n : ℕ) (xs : List A) → All P xs → All P (drop n xs)
all_drop P zero xs all = all
all_drop P (suc n) [] all = all
all_drop P (suc n) (x ∷ xs) all = all_drop P n xs (λ k d lt. all (suc k) d (omega arith))

all_map : {A : Type 0} (P Q : A → Type 0) (xs : List A) → ((x : A) → P x → Q x) → All P xs → All Q xs
all_map P Q xs f all = λ k d lt. f (get_or xs k d) (all k d lt)

pub one_held : (P : Row → Type 0) (r : Row) (k : ℕ) (d : Row) → k < length (r ∷ []) → P r → P (get_or (r ∷ []) k d)
one_held P r zero d lt h = h
one_held P r (suc k) d lt h = absurd (omega arith)

depth_fits : (len n room : ℕ) → n ≤ len → len ≤ room → ((n ≡ 0) × (len ≡ room) → ⊥) → (len - n) + 1 ≤ room
depth_fits len zero room h k never =
    elim (eqb_tells len room) [ inl e ↦ absurd (never (refl, e.1)) | inr ne ↦ (let d : len ≢ room = ne.1 in omega arith) ]
depth_fits len (suc n) room h k never = omega arith

pub place_alone : (v : PassView) (p : Places) (n : ℕ) (h : Head) → length p.items ≤ v.depth → v.depth ≤ p.room → MayBuild (store v p.items) h n → (NeedsPlace (store v p.items) n → ⊥) → length p.items - n < p.room
place_alone v p n h few room may place = omega (arith, depth_fits (length p.items) n v.depth may.depth few place, room)

pub place_there : (v : PassView) (p : Places) (n : ℕ) (h : Head) → IsIn v p → MayBuild (store v p.items) h n → (NeedsPlace (store v p.items) n → ⊥) → length p.items - n < p.room
place_there v p n h i may place = place_alone v p n h i.right.sound.depth i.right.room may place

pub may_create : (v : PassView) (xs : List Row) (h : Head) (n : ℕ) → IsSound (store v xs) → MayBuild (store v xs) h n → MayCreate v h (last n xs)
may_create v xs h n s may =
    record {
      held = all_drop (IsHeld (own v)) (length xs - n) xs s.stack;
      width = omega (arith, length-drop (length xs - n) xs, may.width, may.depth);
      head = subst (λ ts. may_stand_over h (trees_of ts) ≡ true) (last_map (tree_at (store v xs)) n xs) may.head;
    }

pub placed : (v w : PassView) (xs ys : List Row) (h : Head) (n : ℕ) (row : Row) → IsSound (store v xs) → MayBuild (store v xs) h n → (NeedsPlace (store v xs) n → ⊥) → Got v w h (last n xs) row → IsSound (own w) → ys ≡ but_last n xs ++ row ∷ [] → Placed 0 v w xs ys n (asked (store v xs) h n)
placed v w xs ys h n row s may place g so is =
    let e = over_asked v h n xs in
    let t = asked (store v xs) h n in
    let P = IsHeld (store w ys) in
    let load : w.load ≡ v.load = ap (λ (x : PassView). x.load) g.rest in
    let sweeps : w.sweeps ≡ v.sweeps = ap (λ (x : PassView). x.sweeps) g.rest in
    let depth : w.depth ≡ v.depth = ap (λ (x : PassView). x.depth) g.rest in
    let base : w.base ≡ v.base = ap (λ (x : PassView). x.base) g.rest in
    let tree : HasTree (store w ys) row t = subst (λ u. HasTree (own w) row u) e g.tree in
    let all : All P xs = all_map (IsHeld (store v xs)) P xs (λ r k. held-has (store w ys) r (tree_at (store v xs) r) (g.all r (tree_at (store v xs) r) (has-held (store v xs) r k))) s.stack in
    let whole : All P (but_last n xs ++ row ∷ []) = All-append P (but_last n xs) (row ∷ []) (All-take P (length xs - n) xs all) (λ k d lt. one_held P row k d lt (held-has (store w ys) row t tree)) in
    record {
      row = row;
      stack = is;
      tree = tree;
      built = ap (λ (x : PassView). x.built) g.rest ∙ ap (λ u. v.built ++ u ∷ []) e;
      only = λ r u k. subst (λ z. HasTree (store v xs) r u ⊎ (u ≡ z)) e (g.only r u k);
      rows = record { reachable = λ r u k h. g.all r u k; epoch = inl (ap (λ (x : PassView). Some x.base) g.rest, g.all) };
      sweeps = omega (arith, sweeps);
      load = record { least = omega (arith, load); most = omega (arith, load) };
      same = record {
        rows = ap (λ (x : PassView). x.rows) g.rest;
        arity = ap (λ (x : PassView). x.arity) g.rest;
        depth = depth;
        store = ap (λ (x : PassView). x.store) g.rest;
        seat = ap (λ (x : PassView). x.seat) g.rest;
        base = omega (arith, base);
      };
      sound = record {
        stack = subst (All P) (sym is) whole;
        depth = omega (arith, depth_fits (length xs) n v.depth may.depth s.depth place, length-append (but_last n xs) (row ∷ []), length-take (length xs - n) xs, ap (λ (zs : List Row). length zs) is, depth);
        room = so.room;
        below = so.below;
        one_row = so.one_row;
        arguments = so.arguments;
        well_formed = so.well_formed;
        ground = so.ground;
      };
    }

pub placed_in : (v w : PassView) (p q : Places) (n : ℕ) (t : Tree) → IsIn v p → Placed 0 v w p.items q.items n t → w.shared ≡ v.shared → w.alone ≡ v.alone → q.room ≡ p.room → IsIn w q
placed_in v w p q n t i pl sh al room =
    let in_it : w.shared ≡ true = sh ∙ i.shared in
    record {
      right = record { sound = pl.sound; roots = λ e. absurd (let x : true ≡ false = sym in_it ∙ e in cc); alone = al ∙ i.right.alone; room = omega (arith, pl.same.depth, i.right.room, room) };
      shared = in_it;
    }
