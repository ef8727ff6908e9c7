-- A creation over rows that aren't on the stack yet.
use Rattle.std.proofs.Common.{◌≡◌, ℕ, ◌+◌, ◌-◌, ◌<◌, ◌≤◌, true, false, List, take, [], ◌∷◌, ◌++◌, length, map, refl, ap, sym, ◌∙◌, subst, arith}
use Rattle.std.specs.Prelude.{All}
use Rattle.std.proofs.lemmas.List.{length-append, length-drop, length-map, length-take, map-append}
use Rattle.std.proofs.lemmas.List.Elements.{All-append, All-take}
use Rattle.term_model.specs.declared.Row.{Row}
use Rattle.term_model.specs.declared.Head.{Head}
use Rattle.terms_api.specs.Terms.{IsHeld, IsSound, MayBuild, NeedsPlace, last, but_last, asked, tree_at, trees}
use Rattle.terms_api.proofs.Callers.{last-append, but_last-append, but_last-none}
use Rattle.row_stack.specs.Places.{Places}
use Rattle.shared_desk.specs.Pass.{PassView, store, own, MayCreate, Got}
use Rattle.shared_desk.specs.Desk.{IsIn, Placed}
use Rattle.shared_desk.proofs.Placing.{all_drop, one_held, may_create, placed, place_there}

-- held rows may be put on the stack
pub pushed_sound : (v : PassView) (xs rs : List Row) → IsSound (store v xs) → All (IsHeld (store v xs)) rs → length xs + length rs ≤ v.depth → IsSound (store v (xs ++ rs))
pushed_sound v xs rs s held fits =
    record {
      stack = All-append (IsHeld (store v xs)) xs rs s.stack held;
      depth = omega (arith, length-append xs rs, fits);
      room = s.room;
      below = s.below;
      one_row = s.one_row;
      arguments = s.arguments;
      well_formed = s.well_formed;
      ground = s.ground;
    }

pub pushed_in : (v : PassView) (p q : Places) (rs : List Row) → IsIn v p → All (IsHeld (store v p.items)) rs → length p.items + length rs ≤ v.depth → q.items ≡ p.items ++ rs → q.room ≡ p.room → IsIn v q
pushed_in v p q rs i held fits items room =
    record {
      right = record {
        sound = subst (λ (zs : List Row). IsSound (store v zs)) (sym items) (pushed_sound v p.items rs i.right.sound held fits);
        roots = λ e. absurd (let x : true ≡ false = sym i.shared ∙ e in cc);
        alone = i.right.alone;
        room = omega (arith, i.right.room, room);
      };
      shared = i.shared;
    }

-- one held row more
pub pushed_one : (v : PassView) (p q : Places) (r : Row) → IsIn v p → IsHeld (store v p.items) r → length p.items < v.depth → q.items ≡ p.items ++ r ∷ [] → q.room ≡ p.room → IsIn v q
pushed_one v p q r i held below items room = pushed_in v p q (r ∷ []) i (λ k d lt. one_held (IsHeld (store v p.items)) r k d lt held) (omega (arith, below)) items room

-- the lowest and the last places alone
pub kept_in : (v : PassView) (p q : Places) (from top : ℕ) → IsIn v p → from + top ≤ length p.items → q.items ≡ take from p.items ++ last top p.items → q.room ≡ p.room → IsIn v q
kept_in v p q from top i fits items room =
    let xs = p.items in
    let s = i.right.sound in
    let P = IsHeld (store v xs) in
    let sound : IsSound (store v (take from xs ++ last top xs)) = record {
      stack = All-append P (take from xs) (last top xs) (All-take P from xs s.stack) (all_drop P (length xs - top) xs s.stack);
      depth = omega (arith, length-append (take from xs) (last top xs), length-take from xs, length-drop (length xs - top) xs, s.depth, fits);
      room = s.room;
      below = s.below;
      one_row = s.one_row;
      arguments = s.arguments;
      well_formed = s.well_formed;
      ground = s.ground;
    } in
    record {
      right = record {
        sound = subst (λ (zs : List Row). IsSound (store v zs)) (sym items) sound;
        roots = λ e. absurd (let x : true ≡ false = sym i.shared ∙ e in cc);
        alone = i.right.alone;
        room = omega (arith, i.right.room, room);
      };
      shared = i.shared;
    }

pub may_create_over : (v : PassView) (p : Places) (rs : List Row) (h : Head) → IsIn v p → All (IsHeld (store v p.items)) rs → length p.items + length rs ≤ v.depth → MayBuild (store v (p.items ++ rs)) h (length rs) → MayCreate v h rs
may_create_over v p rs h i held fits may =
    subst (MayCreate v h) (last-append (length rs) p.items rs refl) (may_create v (p.items ++ rs) h (length rs) (pushed_sound v p.items rs i.right.sound held fits) may)

-- the trees below the rows
pub trees_under : (v : PassView) (xs rs : List Row) → but_last (length rs) (trees (store v (xs ++ rs))) ≡ trees (store v xs)
trees_under v xs rs =
    let f = tree_at (store v xs) in
    ap (but_last (length rs)) (map-append f xs rs) ∙ but_last-append (length rs) (map f xs) (map f rs) (length-map rs f)

-- where a place is needed there is one
pub place_over : (v : PassView) (p : Places) (rs : List Row) (h : Head) → IsIn v p → All (IsHeld (store v p.items)) rs → length p.items + length rs ≤ v.depth → MayBuild (store v (p.items ++ rs)) h (length rs) → (NeedsPlace (store v (p.items ++ rs)) (length rs) → ⊥) → length p.items < p.room
place_over v p rs h i held fits may place =
    let q : Places = record { items = p.items ++ rs; room = p.room } in
    let there = place_there v q (length rs) h (pushed_in v p q rs i held fits refl refl) may place in
    omega (arith, there, length-append p.items rs)

pub placed_over : (v w : PassView) (p : Places) (rs ys : List Row) (h : Head) (row : Row) → IsIn v p → All (IsHeld (store v p.items)) rs → length p.items + length rs ≤ v.depth → MayBuild (store v (p.items ++ rs)) h (length rs) → (NeedsPlace (store v (p.items ++ rs)) (length rs) → ⊥) → Got v w h rs row → IsSound (own w) → ys ≡ but_last 0 p.items ++ row ∷ []
    → Placed 0 v w (p.items ++ rs) ys (length rs) (asked (store v (p.items ++ rs)) h (length rs))
placed_over v w p rs ys h row i held fits may place got so is =
    let n = length rs in
    let top = last-append n p.items rs refl in
    let below = but_last-append n p.items rs refl in
    placed v w (p.items ++ rs) ys h n row (pushed_sound v p.items rs i.right.sound held fits) may place
    (subst (λ (zs : List Row). Got v w h zs row) (sym top) got) so
    (is ∙ ap (λ (zs : List Row). zs ++ row ∷ []) (but_last-none p.items ∙ sym below))
