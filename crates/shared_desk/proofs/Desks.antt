-- What a desk's steps are to its callers.
use Rattle.std.proofs.Math.Nat.{le_refl, le-max_left}
use Rattle.std.proofs.Common.{◌≡◌, ℕ, ◌≤◌, inl, inr, Bool, true, List, [], ◌∷◌, ◌++◌, Option, Some, refl, ap, sym, ◌∙◌, subst, arith}
use Rattle.std.specs.Prelude.{max}
use Rattle.std.specs.List.{flat_map}
use Rattle.term_model.specs.declared.Row.{Row}
use Rattle.term_model.specs.declared.Head.{Head}
use Rattle.term_model.specs.Tree.{Tree, distinct, subtrees}
use Rattle.terms_api.specs.Terms.{Store, trees, asked, IsSound, Entered, Left, Breathed, Built, NotBuilt, IsCrowded, Loses}
use Rattle.shared_desk.specs.Pass as pass
use Rattle.shared_desk.specs.Pass.{PassView, shown, store, own, IsWorn, Arrived, left}
use Rattle.shared_desk.specs.Code.{Contents}
use Rattle.shared_desk.specs.Desk.{store_of, IsSame, IsRight, Passed, Placed, same_itself}
use Rattle.std.proofs.lemmas.List.Elements.{Contains-append_left}
use Rattle.term_model.proofs.Members.{distinct_of_part}
use Rattle.row_stack.specs.Places.{Places}
use Rattle.shared_desk.proofs.Passing.{rooted, crossed, ended, trees_same}
use Rattle.shared_desk.proofs.Following.{wider}

abbrev pub desk_of : PassView → List Row → ℕ → Bool → Option (List ℕ) → Contents
desk_of v xs k s log = record { pass = v; stack = xs; refusals = k; spent = s; log = log }

-- what a refusal counts changes no rows
pub sound_shown : (v : PassView) (xs : List Row) (k : ℕ) (s : Bool) → IsSound (store v xs) → IsSound (shown v xs k s)
sound_shown v xs k s so =
    record { stack = so.stack; depth = so.depth; room = so.room; below = so.below; one_row = so.one_row; arguments = so.arguments; well_formed = so.well_formed; ground = so.ground }

pub sound_desk : (c : Contents) → IsSound (store c.pass c.stack) → IsSound (store_of c)
sound_desk c so = sound_shown c.pass c.stack c.refusals c.spent so

-- what its callers see is sound
pub sound_seen : (v : PassView) (xs : List Row) (k : ℕ) (s : Bool) (l : Option (List ℕ)) (c : Contents) → desk_of v xs k s l ≡ c → IsSound (store v xs) → IsSound (store_of c)
sound_seen v xs k s l c is so = subst (λ (x : Contents). IsSound (store_of x)) is (sound_shown v xs k s so)

pub loses_shown : (v w : PassView) (xs ys : List Row) (k m : ℕ) (s t : Bool) → Loses (store v xs) (store w ys) → Loses (shown v xs k s) (shown w ys m t)
loses_shown v w xs ys k m s t l = record { reachable = l.reachable; epoch = l.epoch }

pub breathed : (v w : PassView) (xs : List Row) (k : ℕ) (s : Bool) → IsSound (store v xs) → Arrived (left (rooted v xs)) w → IsSound (own w) → w.shared ≡ v.shared → Breathed (shown v xs k s) (shown w xs k s)
breathed v w xs k s so a sound sh =
    let p = crossed v w xs so a sound in
    let most = max v.load (distinct (flat_map subtrees (trees (store v xs)))) in
    let load : w.load ≡ most = ap (λ (x : PassView). x.load) a.rest in
    let to : Store = record (shown v xs k s) { held = (shown w xs k s).held; load = most; epoch = Some w.base } in
    record {
      rest = ap (λ (x : PassView). shown x xs k s) a.rest
          ∙ ap (λ b. record to { inside = b }) sh
          ∙ ap (λ l. record to { load = l }) (sym load);
      none = p.none;
      rows = loses_shown v w xs xs k k s s p.rows;
      load = record { least = p.load.least; most = p.load.most };
    }

-- a breath may be none at all
pub breathed_not : (s : Store) → Breathed s s
breathed_not s = record {
  rest = refl;
  none = λ r t h. h;
  rows = record { reachable = λ r t h in_reach. h; epoch = inl (refl, λ r t h. h) };
  load = record { least = le_refl s.load; most = le-max_left s.load (distinct (flat_map subtrees (trees s))) };
}

pub built_shown : (j : ℕ) (v w : PassView) (xs ys : List Row) (k m : ℕ) (s t : Bool) (h : Head) (n : ℕ) → j ≤ 1 → Placed j v w xs ys n (asked (store v xs) h n) → w.shared ≡ v.shared → Built (shown v xs k s) (shown w ys m t) h n
built_shown j v w xs ys k m s t h n le b sh =
    record {
      row = b.row;
      stack = b.stack;
      tree = b.tree;
      built = b.built;
      only = b.only;
      rows = loses_shown v w xs ys k m s t b.rows;
      counts = record {
        inside = sh;
        least_sweeps = omega (arith, b.sweeps);
        most_sweeps = omega (arith, b.sweeps, le);
        load = record { least = b.load.least; most = b.load.most };
        rows = b.same.rows;
        widest = b.same.arity;
        room = b.same.depth;
      };
    }

more_trees : (ts : List Tree) (t : Tree) → distinct (flat_map subtrees ts) ≤ distinct (flat_map subtrees (ts ++ t ∷ []))
more_trees ts t = distinct_of_part _ _ (wider ts (ts ++ t ∷ []) (λ u k. Contains-append_left ts (t ∷ []) u k))

not_built_here : (j : ℕ) (v w : PassView) (xs : List Row) (k m : ℕ) (s t : Bool) (h : Head) (n : ℕ) → j ≤ 1 → Passed j v w xs → w.shared ≡ v.shared → NotBuilt (shown v xs k s) (shown w xs m t) h n
not_built_here j v w xs k m s t h n le p sh =
    record {
      stack = refl;
      built = p.built;
      none = p.none;
      rows = loses_shown v w xs xs k m s t p.rows;
      counts = record {
        inside = sh;
        least_sweeps = omega (arith, p.sweeps);
        most_sweeps = omega (arith, p.sweeps, le);
        load = record { least = p.load.least; most = omega (arith, p.load.most, more_trees (trees (store v xs)) (asked (store v xs) h n)) };
        rows = p.same.rows;
        widest = p.same.arity;
        room = p.same.depth;
      };
    }

pub not_built_shown : (j : ℕ) (v w : PassView) (xs ys : List Row) (k m : ℕ) (s t : Bool) (h : Head) (n : ℕ) → j ≤ 1 → ys ≡ xs → Passed j v w xs → w.shared ≡ v.shared → NotBuilt (shown v xs k s) (shown w ys m t) h n
not_built_shown j v w xs ys k m s t h n le e p sh = subst (λ zs. NotBuilt (shown v xs k s) (shown w zs m t) h n) (sym e) (not_built_here j v w xs k m s t h n le p sh)

pub trees_not_built : (j : ℕ) (v w : PassView) (xs ys : List Row) → IsSound (store v xs) → ys ≡ xs → Passed j v w xs → trees (store w ys) ≡ trees (store v xs)
trees_not_built j v w xs ys so e p = ap (λ zs. trees (store w zs)) e ∙ trees_same j v w xs so p

pub crowded_shown : (v w : PassView) (xs ys : List Row) (k m : ℕ) (s t : Bool) (h : Head) (n : ℕ) → IsCrowded (store v xs) (store w xs) h n → IsCrowded (shown v xs k s) (shown w ys m t) h n
crowded_shown v w xs ys k m s t h n c = record { full = c.full; absent = c.absent; hand = c.hand }

-- outside, the stack is protected
pub right_left : (v : PassView) (p : Places) → IsRight v p → IsRight (left (rooted v p.items)) p
right_left v p i = record { sound = (ended v p.items i.sound).sound; roots = λ e. refl; alone = refl; room = i.room }

-- what a refusal for want of rows, or none, leaves of the desk
pub same_told : (v w : PassView) (xs ys : List Row) (k m : ℕ) (s : Bool) (l n : Option (List ℕ)) → pass.IsSame v w → IsSame (desk_of v xs k s l) (desk_of w ys m s n)
same_told v w xs ys k m s l n same = record { pass = same; worn = λ e. inl e }

-- and one for want of numbers
pub same_worn : (v w : PassView) (xs ys : List Row) (k m : ℕ) (s : Bool) (l n : Option (List ℕ)) → pass.IsSame v w → IsWorn w → IsSame (desk_of v xs k s l) (desk_of w ys m true n)
same_worn v w xs ys k m s l n same worn = record { pass = same; worn = λ e. inr worn }

-- the desk is as it was, where its pass is
module _ (v w : PassView) (xs : List Row) (k : ℕ) (s : Bool) (l m : Option (List ℕ)) (c : Contents) (is : desk_of v xs k s l ≡ c) (same : w ≡ v) where
  pub still_seen : store_of (desk_of w xs k s m) ≡ store_of c
  still_seen = ap (λ (x : PassView). shown x xs k s) same ∙ ap store_of is

  pub still_sound : IsSound (store v xs) → IsSound (shown w xs k s)
  still_sound so = subst (λ (x : PassView). IsSound (shown x xs k s)) (sym same) (sound_shown v xs k s so)

  pub still_same : IsSame c (desk_of w xs k s m)
  still_same =
      subst (λ (x : Contents). IsSame x (desk_of w xs k s m)) is
      (same_told v w xs xs k k s l m (subst (pass.IsSame v) (sym same) (same_itself (desk_of v xs k s l)).pass))

pub still_right : (v w : PassView) (p : Places) → w ≡ v → IsRight v p → IsRight w p
still_right v w p same i = subst (λ (x : PassView). IsRight x p) (sym same) i

-- an entry of its pass, by callers
pub entered : (v w : PassView) (xs : List Row) (k : ℕ) (s : Bool) → Arrived v w → Passed 0 v w xs → w.shared ≡ true → Entered (shown v xs k s) (shown w xs k s)
entered v w xs k s a p sh =
    let to : Store = record (shown v xs k s) { held = (shown w xs k s).held; epoch = Some w.base } in
    record {
      rest = ap (λ (x : PassView). shown x xs k s) a.rest ∙ ap (λ b. record to { inside = b }) sh;
      none = p.none;
      rows = loses_shown v w xs xs k k s s p.rows;
    }

-- and a leave
pub gone : (v : PassView) (xs : List Row) (k : ℕ) (s : Bool) → IsSound (store v xs) → Left (shown v xs k s) (shown (left (rooted v xs)) xs k s)
gone v xs k s so =
    let p = ended v xs so in
    record { rest = refl; load = record { least = p.load.least; most = p.load.most } }
