-- What a pattern matches is its instance, and the match is the only one.
use Rattle.std.proofs.Common.{◌≡◌, ℕ, zero, suc, ◌+◌, ◌<◌, ◌≤◌, List, [], ◌∷◌, ◌++◌, length, take, get_or, append_assoc, append-nil, Option, Some, None, refl, sym, ◌∙◌, ap, arith, Bool, true, false}
use Rattle.std.specs.Prelude.{if◌then◌else◌, option_and_then, nat_lt, ◌==◌}
use Rattle.std.specs.Option.{option_map}
use Rattle.std.proofs.lemmas.Option.{same_Some, option_and_then_some}
use Rattle.std.proofs.lemmas.Bool.{eqb-true, ltb-true}
use Rattle.std.proofs.lemmas.List.{take_all}
use Rattle.term_model.specs.Tree.{Tree, Leaf, Node, Trees, End, More, head_eq, tree_eq}
use Rattle.term_model.proofs.Equality.{tree_eq_sound, tree_eq_same, head_eq_sound, head_eq_refl}
use Rattle.rewrite_model.specs.Rule.{count_from, count_all_from, IsNumbered}
use Rattle.rewrite_model.specs.Matching.{bind, match_from, match_all, match_of, instance, instances, tree_at}

pub chosen : {A : Type 0} (b : Bool) (x : A) (y : A) → (if b then Some x else None) ≡ Some y → (b ≡ true) × (x ≡ y)
chosen true x y h = (refl, same_Some x y h)
chosen false x y h = cc

pub mapped : (u : Tree) (o : Option (List Tree)) (y : List Tree) → option_map (λ vs. u ∷ vs) o ≡ Some y → (vs : List Tree) × (o ≡ Some vs) × (u ∷ vs ≡ y)
mapped u None y h = cc
mapped u (Some vs) y h = (vs, refl, same_Some (u ∷ vs) y h)

pub if_some : (b : Bool) (o : Option (List Tree)) (y : List Tree) → (if b then o else None) ≡ Some y → (b ≡ true) × (o ≡ Some y)
if_some true o y h = (refl, h)
if_some false o y h = cc

-- what is bound grows at its end
record Grew (before after : List Tree) : Type 0 where
  more : List Tree
  is : after ≡ before ++ more

bind_grows : (x : ℕ) (t : Tree) (before after : List Tree) → bind x t before ≡ Some after → Grew before after
bind_grows zero t [] after h = record { more = t ∷ []; is = sym (same_Some (t ∷ []) after h) }
bind_grows (suc x) t [] after h = cc
bind_grows zero t (u ∷ us) after h =
    let c = chosen (tree_eq u t) (u ∷ us) after h in
    record { more = []; is = sym c.1 ∙ sym (append-nil (u ∷ us)) }
bind_grows (suc x) t (u ∷ us) after h =
    let m = mapped u (bind x t us) after h in
    let g = bind_grows x t us m.0 m.1 in
    record { more = g.more; is = sym m.2 ∙ ap (λ ts. u ∷ ts) g.is }

bound_at : (x : ℕ) (t d : Tree) (before after more : List Tree) → bind x t before ≡ Some after → get_or (after ++ more) x d ≡ t
bound_at zero t d [] after more h = ap (λ ts. get_or (ts ++ more) 0 d) (sym (same_Some (t ∷ []) after h))
bound_at (suc x) t d [] after more h = cc
bound_at zero t d (u ∷ us) after more h =
    let c = chosen (tree_eq u t) (u ∷ us) after h in
    ap (λ ts. get_or (ts ++ more) 0 d) (sym c.1) ∙ tree_eq_sound u t c.0
bound_at (suc x) t d (u ∷ us) after more h =
    let m = mapped u (bind x t us) after h in
    ap (λ ts. get_or (ts ++ more) (suc x) d) (sym m.2) ∙ bound_at x t d us m.0 more m.1

mutual
  grows : (p t : Tree) (before after : List Tree) → match_from p t before ≡ Some after → Grew before after
  grows (Leaf x) t before after h = bind_grows x t before after h
  grows (Node f ps) (Leaf y) before after h = cc
  grows (Node f ps) (Node g ts) before after h = all_grow ps ts before after (if_some (head_eq f g) (match_all ps ts before) after h).1

  all_grow : (ps ts : Trees) (before after : List Tree) → match_all ps ts before ≡ Some after → Grew before after
  all_grow End End before after h = record { more = []; is = sym (same_Some before after h) ∙ sym (append-nil before) }
  all_grow End (More t ts) before after h = cc
  all_grow (More p ps) End before after h = cc
  all_grow (More p ps) (More t ts) before after h = option_and_then_some (λ b. match_all ps ts b) (match_from p t before) after h (λ mid e e'.
      let g = grows p t before mid e in
      let g' = all_grow ps ts mid after e' in
      record { more = g.more ++ g'.more; is = g'.is ∙ ap (λ bs. bs ++ g'.more) g.is ∙ append_assoc before g.more g'.more })

mutual
  stands : (p t : Tree) (before after more : List Tree) → match_from p t before ≡ Some after → instance p (after ++ more) ≡ t
  stands (Leaf x) t before after more h = bound_at x t (Leaf x) before after more h
  stands (Node f ps) (Leaf y) before after more h = cc
  stands (Node f ps) (Node g ts) before after more h =
      let c = if_some (head_eq f g) (match_all ps ts before) after h in
      ap (Node f) (all_stand ps ts before after more c.1) ∙ ap (λ k. Node k ts) (head_eq_sound f g c.0)

  all_stand : (ps ts : Trees) (before after more : List Tree) → match_all ps ts before ≡ Some after → instances ps (after ++ more) ≡ ts
  all_stand End End before after more h = refl
  all_stand End (More t ts) before after more h = cc
  all_stand (More p ps) End before after more h = cc
  all_stand (More p ps) (More t ts) before after more h = option_and_then_some (λ b. match_all ps ts b) (match_from p t before) after h (λ mid e e'.
      let g = all_grow ps ts mid after e' in
      let here : instance p (after ++ more) ≡ t = ap (λ bs. instance p (bs ++ more)) g.is ∙ ap (instance p) (append_assoc mid g.more more) ∙ stands p t before mid (g.more ++ more) e in
      ap (λ v. More v (instances ps (after ++ more))) here ∙ ap (More t) (all_stand ps ts mid after more e'))

pub match_gives_instance : (p t : Tree) (bound : List Tree) → match_of p t ≡ Some bound → instance p bound ≡ t
match_gives_instance p t bound h = ap (instance p) (sym (append-nil bound)) ∙ stands p t [] bound [] h

-- The count of variables is the count of bound trees.
bind_old : (x : ℕ) (t : Tree) (before after : List Tree) → x < length before → bind x t before ≡ Some after → length after ≡ length before
bind_old x t [] after l h = absurd (omega arith)
bind_old zero t (u ∷ us) after l h = ap length (sym (chosen (tree_eq u t) (u ∷ us) after h).1)
bind_old (suc x) t (u ∷ us) after l h =
    let m = mapped u (bind x t us) after h in
    ap length (sym m.2) ∙ ap suc (bind_old x t us m.0 (omega arith) m.1)

bind_new : (x : ℕ) (t : Tree) (before after : List Tree) → x ≡ length before → bind x t before ≡ Some after → length after ≡ length before + 1
bind_new zero t [] after l h = ap length (sym (same_Some (t ∷ []) after h))
bind_new (suc x) t [] after l h = cc
bind_new zero t (u ∷ us) after l h = absurd (omega arith)
bind_new (suc x) t (u ∷ us) after l h =
    let m = mapped u (bind x t us) after h in
    let r : length m.0 ≡ length us + 1 = bind_new x t us m.0 (omega arith) m.1 in
    ap length (sym m.2) ∙ omega (arith, r)

-- a variable that is counted is an old one, or the next one
data Counted (x n m : ℕ) : Type 0 where
  old : x < n → n ≡ m → Counted x n m
  next : x ≡ n → n + 1 ≡ m → Counted x n m

counted : (x n m : ℕ) → count_from (Leaf x) n ≡ Some m → Counted x n m
counted x n m h = go (nat_lt x n) (x == n) refl refl h
  where
    go : (a b : Bool) → nat_lt x n ≡ a → (x == n) ≡ b → (if a then Some n else if b then Some (n + 1) else None) ≡ Some m → Counted x n m
    go true b e e' h' = old (ltb-true x n e) (same_Some n m h')
    go false true e e' h' = next (eqb-true x n e') (same_Some (n + 1) m h')
    go false false e e' h' = cc

mutual
  counts : (p t : Tree) (n m : ℕ) (before after : List Tree) → count_from p n ≡ Some m → length before ≡ n → match_from p t before ≡ Some after → length after ≡ m
  counts (Leaf x) t n m before after k l h = go (counted x n m k)
    where
      go : Counted x n m → length after ≡ m
      go (old a e) = bind_old x t before after (omega arith) h ∙ l ∙ e
      go (next a e) = bind_new x t before after (a ∙ sym l) h ∙ ap (λ i. i + 1) l ∙ e
  counts (Node f ps) (Leaf y) n m before after k l h = cc
  counts (Node f ps) (Node g ts) n m before after k l h = all_count ps ts n m before after k l (if_some (head_eq f g) (match_all ps ts before) after h).1

  all_count : (ps ts : Trees) (n m : ℕ) (before after : List Tree) → count_all_from ps n ≡ Some m → length before ≡ n → match_all ps ts before ≡ Some after → length after ≡ m
  all_count End End n m before after k l h = ap length (sym (same_Some before after h)) ∙ l ∙ same_Some n m k
  all_count End (More t ts) n m before after k l h = cc
  all_count (More p ps) End n m before after k l h = cc
  all_count (More p ps) (More t ts) n m before after k l h = option_and_then_some (λ b. match_all ps ts b) (match_from p t before) after h (λ mid e e'.
      option_and_then_some (λ i. count_all_from ps i) (count_from p n) m k (λ i c c'.
      all_count ps ts i m mid after c' (counts p t n i before mid c l e) e'))

pub match_binds_variables : (p t : Tree) (k : ℕ) (bound : List Tree) → IsNumbered p k → match_of p t ≡ Some bound → length bound ≡ k
match_binds_variables p t k bound c h = counts p t 0 k [] bound c refl h

-- A pattern matches its instances.
finds_old : (x n : ℕ) (d : Tree) (bound : List Tree) → x < n → n ≤ length bound → bind x (get_or bound x d) (take n bound) ≡ Some (take n bound)
finds_old x zero d bound l h = absurd (omega arith)
finds_old x (suc n) d [] l h = absurd (omega arith)
finds_old zero (suc n) d (u ∷ us) l h = ap (λ (b : Bool). if b then Some (u ∷ take n us) else None) (tree_eq_same u u refl)
finds_old (suc x) (suc n) d (u ∷ us) l h = ap (λ o. option_map (λ vs. u ∷ vs) o) (finds_old x n d us (omega arith) (omega arith))

finds_new : (n : ℕ) (d : Tree) (bound : List Tree) → n < length bound → bind n (get_or bound n d) (take n bound) ≡ Some (take (suc n) bound)
finds_new n d [] h = absurd (omega arith)
finds_new zero d (u ∷ us) h = refl
finds_new (suc n) d (u ∷ us) h = ap (λ o. option_map (λ vs. u ∷ vs) o) (finds_new n d us (omega arith))

mutual
  finds : (p : Tree) (n m : ℕ) (bound : List Tree) → count_from p n ≡ Some m → m ≤ length bound → (n ≤ m) × (match_from p (instance p bound) (take n bound) ≡ Some (take m bound))
  finds (Leaf x) n m bound k h = go (counted x n m k)
    where
      go : Counted x n m → (n ≤ m) × (bind x (tree_at x bound) (take n bound) ≡ Some (take m bound))
      go (old a e) = (omega arith, finds_old x n (Leaf x) bound a (omega arith) ∙ ap (λ i. Some (take i bound)) e)
      go (next a e) =
          let s : suc n ≡ m = omega arith in
          (omega arith, ap (λ i. bind i (tree_at i bound) (take n bound)) a ∙ finds_new n (Leaf n) bound (omega arith) ∙ ap (λ i. Some (take i bound)) s)
  finds (Node f ps) n m bound k h =
      let r = all_found ps n m bound k h in
      (r.0, rw (head_eq_refl f) r.1)

  all_found : (ps : Trees) (n m : ℕ) (bound : List Tree) → count_all_from ps n ≡ Some m → m ≤ length bound → (n ≤ m) × (match_all ps (instances ps bound) (take n bound) ≡ Some (take m bound))
  all_found End n m bound k h =
      let e = same_Some n m k in
      (omega arith, ap (λ i. Some (take i bound)) e)
  all_found (More p ps) n m bound k h = option_and_then_some (λ i. count_all_from ps i) (count_from p n) m k (λ i c c'.
      let r = all_found ps i m bound c' h in
      let q = finds p n i bound c (omega (arith, r.0)) in
      (omega (arith, q.0, r.0), ap (λ o. option_and_then (λ b. match_all ps (instances ps bound) b) o) q.1 ∙ r.1))

pub instances_match : (p : Tree) (k : ℕ) (bound : List Tree) → IsNumbered p k → length bound ≡ k → match_of p (instance p bound) ≡ Some bound
instances_match p k bound c l =
    let r = finds p 0 k bound c (omega arith) in
    r.1 ∙ ap Some (take_all k bound (omega arith))
