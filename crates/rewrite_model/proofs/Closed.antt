-- Whatever is in hand at a point was built before, with all its subtrees.
use Rattle.std.proofs.Common.{◌≡◌, ℕ, zero, suc, ◌+◌, ◌-◌, ◌<◌, ◌≤◌, List, [], ◌∷◌, ◌++◌, length, get_or, Option, Some, None, refl, sym, ◌∙◌, ap, subst, arith, Bool, true, false, append_assoc, append-nil, inl, inr}
use Rattle.std.specs.Prelude.{if◌then◌else◌, nat_lt, map, All, Contains}
use Rattle.std.specs.List.{flat_map}
use Rattle.std.proofs.lemmas.Option.{same_Some, option_and_then_some}
use Rattle.std.proofs.lemmas.Bool.{ltb-true}
use Rattle.std.proofs.lemmas.List.Elements.{All-head, All-tail}
use Rattle.term_model.specs.Tree.{Tree, Leaf, Node, Trees, End, More, list_of, arguments, subtrees, subtrees_all, tree_eq, head_eq, among, distinct, is_ground, all_ground, IsGround}
use Rattle.term_model.specs.Laws.{IsSubtree}
use Rattle.term_model.specs.declared.Head.{Head}
use Rattle.term_model.proofs.Order.{both_hold}
use Rattle.term_model.proofs.Equality.{among_here, among_there, among_cases, contains_from_among, among_from_contains}
use Rattle.term_model.proofs.Subtrees.{among_left, among_right, among_either}
use Rattle.term_model.proofs.Members.{distinct_of_part}
use Rattle.rewrite_model.specs.Rule.{Rule, Condition, IsRule, IsBelow, is_below, all_below}
use Rattle.rewrite_model.specs.Matching.{bind, match_from, match_all, match_of, if_matched, tree_at}
use Rattle.rewrite_model.specs.Run.{Ended, Done, OutOfFuel, TooDeep, done, ends, after, ◌>>=◌, in_room}
use Rattle.rewrite_model.specs.Evaluation.{Point, Evaluated, Reducer, evaluate, evaluate_all, holds, hold, replace, apply, reduce_by, begin, reduce_within, reduction, evaluation}
use Rattle.rewrite_model.specs.Built.{trees_at, built_list, trees_in_hand, greatest, need, built_of_all, distinct_built, need_of_all}
use Rattle.rewrite_model.proofs.Matches.{chosen, mapped, if_some, match_binds_variables}

-- all subtrees of a tree are in a list
abbrev pub Holds : List Tree → Tree → Type 0
Holds b t = (u : Tree) → among u (subtrees t) ≡ true → among u b ≡ true

abbrev pub HoldsAll : List Tree → List Tree → Type 0
HoldsAll b [] = Unit {0}
HoldsAll b (t ∷ ts) = Holds b t × HoldsAll b ts

pub holds_more : (b c : List Tree) (t : Tree) → Holds b t → Holds (b ++ c) t
holds_more b c t h = λ u i. among_left u b c (h u i)

pub all_more : (b c : List Tree) (ts : List Tree) → HoldsAll b ts → HoldsAll (b ++ c) ts
all_more b c [] h = tt
all_more b c (t ∷ ts) h = (holds_more b c t h.0, all_more b c ts h.1)

all_both : (b ts us : List Tree) → HoldsAll b ts → HoldsAll b us → HoldsAll b (ts ++ us)
all_both b [] us h k = k
all_both b (t ∷ ts) us h k = (h.0, all_both b ts us h.1 k)

-- a node is held where its arguments are, and it is in the list itself
args_held : (b : List Tree) (ts : Trees) (u : Tree) → HoldsAll b (list_of ts) → among u (subtrees_all ts) ≡ true → among u b ≡ true
args_held b End u h i = cc
args_held b (More t ts) u h i =
    elim (among_either u (subtrees t) (subtrees_all ts) i) [ inl l ↦ h.0 u l | inr r ↦ args_held b ts u h.1 r ]

pub built_held : (b : List Tree) (t : Tree) → HoldsAll b (arguments t) → Holds (b ++ t ∷ []) t
built_held b (Leaf x) h = λ u i. among_right u b (Leaf x ∷ []) i
built_held b (Node g ts) h = λ u i.
    elim (among_cases u (Node g ts) (subtrees_all ts) i) [
      | inl e ↦ among_right u b (Node g ts ∷ []) (among_here u (Node g ts) [] e)
      | inr r ↦ among_left u b (Node g ts ∷ []) (args_held b ts u h r)
    ]

-- what a pattern binds is part of what it matches
pub node_args : (b : List Tree) (g : Head) (ts : Trees) → Holds b (Node g ts) → HoldsAll b (list_of ts)
node_args b g ts h = go ts (λ u i. h u (among_there u (Node g ts) (subtrees_all ts) i))
  where
    go : (us : Trees) → ((u : Tree) → among u (subtrees_all us) ≡ true → among u b ≡ true) → HoldsAll b (list_of us)
    go End k = tt
    go (More t us) k = ((λ u i. k u (among_left u (subtrees t) (subtrees_all us) i)), go us (λ u i. k u (among_right u (subtrees t) (subtrees_all us) i)))

bind_held : (b : List Tree) (x : ℕ) (t : Tree) (before bound : List Tree) → Holds b t → HoldsAll b before → bind x t before ≡ Some bound → HoldsAll b bound
bind_held b zero t [] bound h k e = subst (HoldsAll b) (same_Some (t ∷ []) bound e) (h, tt)
bind_held b (suc x) t [] bound h k e = cc
bind_held b zero t (u ∷ us) bound h k e = subst (HoldsAll b) (chosen (tree_eq u t) (u ∷ us) bound e).1 k
bind_held b (suc x) t (u ∷ us) bound h k e =
    let m = mapped u (bind x t us) bound e in
    subst (HoldsAll b) m.2 (k.0, bind_held b x t us m.0 h k.1 m.1)

mutual
  pub match_held : (b : List Tree) (p t : Tree) (before bound : List Tree) → Holds b t → HoldsAll b before → match_from p t before ≡ Some bound → HoldsAll b bound
  match_held b (Leaf x) t before bound h k e = bind_held b x t before bound h k e
  match_held b (Node f ps) (Leaf y) before bound h k e = cc
  match_held b (Node f ps) (Node g ts) before bound h k e = matches_held b ps ts before bound (node_args b g ts h) k (if_some (head_eq f g) (match_all ps ts before) bound e).1

  matches_held : (b : List Tree) (ps ts : Trees) (before bound : List Tree) → HoldsAll b (list_of ts) → HoldsAll b before → match_all ps ts before ≡ Some bound → HoldsAll b bound
  matches_held b End End before bound h k e = subst (HoldsAll b) (same_Some before bound e) k
  matches_held b End (More t ts) before bound h k e = cc
  matches_held b (More p ps) End before bound h k e = cc
  matches_held b (More p ps) (More t ts) before bound h k e = option_and_then_some (λ m. match_all ps ts m) (match_from p t before) bound e (λ mid i i'.
      matches_held b ps ts mid bound h.1 (match_held b p t before mid h.0 k i) i')

pub tree_held : (b : List Tree) (x : ℕ) (bound : List Tree) → nat_lt x (length bound) ≡ true → HoldsAll b bound → Holds b (tree_at x bound)
tree_held b x bound l h = go x bound (ltb-true x (length bound) l) h
  where
    go : (y : ℕ) (ts : List Tree) → y < length ts → HoldsAll b ts → Holds b (get_or ts y (Leaf x))
    go y [] m k = absurd (omega arith)
    go zero (t ∷ ts) m k = k.0
    go (suc y) (t ∷ ts) m k = go y ts (omega arith) k.1

-- each point has in hand what was built before it
abbrev pub PointsHeld : List Tree → List Point → Type 0
PointsHeld b [] = Unit {0}
PointsHeld b (p ∷ ps) = HoldsAll b p.hand × HoldsAll b (arguments p.tree) × PointsHeld (b ++ p.tree ∷ []) ps

points_both : (b : List Tree) (ps qs : List Point) → PointsHeld b ps → PointsHeld (b ++ trees_at ps) qs → PointsHeld b (ps ++ qs)
points_both b [] qs h k = subst (λ c. PointsHeld c qs) (append-nil b) k
points_both b (p ∷ ps) qs h k = (h.0, h.1, points_both (b ++ p.tree ∷ []) ps qs h.2 (subst (λ c. PointsHeld c qs) (sym (append_assoc b (p.tree ∷ []) (trees_at ps))) k))

trees_at-append : (ps qs : List Point) → trees_at (ps ++ qs) ≡ trees_at ps ++ trees_at qs
trees_at-append [] qs = refl
trees_at-append (p ∷ ps) qs = ap (λ ts. p.tree ∷ ts) (trees_at-append ps qs)

-- of the value, where there is one
abbrev pub OfValue : {A : Type 0} → (A → Type 0) → Ended A → Type 0
OfValue P (Done a left) = P a
OfValue P OutOfFuel = Unit {0}
OfValue P TooDeep = Unit {0}

record Sound {A : Type 0} (P : List Tree → A → Type 0) (b : List Tree) (notes : List Point) (e : Ended A) : Type 0 where
  points : PointsHeld b notes
  value : OfValue (P (b ++ trees_at notes)) e

abbrev Runs : {A : Type 0} → (List Tree → A → Type 0) → List Tree → Evaluated A → Type 0
Runs P b x = Sound P b x.notes x.end

behind : {A : Type 0} (P : List Tree → A → Type 0) (b : List Tree) (front notes : List Point) (e : Ended A) → PointsHeld b front → Sound P (b ++ trees_at front) notes e → Sound P b (front ++ notes) e
behind {A} P b front notes e h s =
    let same : (b ++ trees_at front) ++ trees_at notes ≡ b ++ trees_at (front ++ notes) = append_assoc b (trees_at front) (trees_at notes) ∙ ap (λ ts. b ++ ts) (sym (trees_at-append front notes)) in
    record { points = points_both b front notes h s.points; value = subst (λ c. OfValue (P c) e) same s.value }

runs_after : {A B : Type 0} (P : List Tree → A → Type 0) (Q : List Tree → B → Type 0) (b : List Tree) (notes : List Point) (e : Ended A) (g : A → ℕ → Evaluated B) → Sound P b notes e → ((a : A) (left : ℕ) → P (b ++ trees_at notes) a → Runs Q (b ++ trees_at notes) (g a left)) → Runs Q b (after notes e g)
runs_after P Q b notes (Done a left) g s go = behind Q b notes (g a left).notes (g a left).end s.points (go a left s.value)
runs_after P Q b notes OutOfFuel g s go = record { points = s.points; value = tt }
runs_after P Q b notes TooDeep g s go = record { points = s.points; value = tt }

runs_then : {A B : Type 0} (P : List Tree → A → Type 0) (Q : List Tree → B → Type 0) (b : List Tree) (x : Evaluated A) (g : A → ℕ → Evaluated B) → Runs P b x → ((a : A) (left : ℕ) → P (b ++ trees_at x.notes) a → Runs Q (b ++ trees_at x.notes) (g a left)) → Runs Q b (x >>= g)
runs_then P Q b x g s go = runs_after P Q b x.notes x.end g s go

runs_done : {A : Type 0} (P : List Tree → A → Type 0) (b : List Tree) (a : A) (fuel : ℕ) → P b a → Runs P b (done a fuel)
runs_done P b a fuel p = record { points = tt; value = subst (λ c. P c a) (sym (append-nil b)) p }

runs_in_room : {A : Type 0} (P : List Tree → A → Type 0) (b : List Tree) (room : ℕ) (x : Evaluated A) → Runs P b x → Runs P b (in_room room x)
runs_in_room P b zero x s = record { points = tt; value = tt }
runs_in_room P b (suc n) x s = s

runs_if : {A : Type 0} (P : List Tree → A → Type 0) (b : List Tree) (c : Bool) (x y : Evaluated A) → Runs P b x → Runs P b y → Runs P b (if c then x else y)
runs_if P b true x y s r = s
runs_if P b false x y s r = r

abbrev AllHeld : List Tree → Trees → Type 0
AllHeld b ts = HoldsAll b (list_of ts)

abbrev Nothing : List Tree → Bool → Type 0
Nothing b c = Unit {0}

abbrev Good : Reducer → Type 0
Good red = (given kept : List Tree) (t : Tree) (fuel room : ℕ) (b : List Tree) → HoldsAll b given → HoldsAll b kept → HoldsAll b (arguments t) → Runs Holds b (red given kept t fuel room)

module _ (red : Reducer) (good : Good red) where
  module _ (bound : List Tree) where
    mutual
      evaluate_runs : (p : Tree) (kept : List Tree) (fuel room : ℕ) (b : List Tree) → IsBelow (length bound) p → HoldsAll b bound → HoldsAll b kept → Runs Holds b (evaluate red bound p kept fuel room)
      evaluate_runs (Leaf x) kept fuel room b l h k = runs_in_room Holds b room _ (runs_done Holds b (tree_at x bound) fuel (tree_held b x bound l h))
      evaluate_runs (Node g ps) kept fuel room b l h k =
          runs_in_room Holds b room _ (runs_then AllHeld Holds b _ _ (all_run ps kept fuel room b l h k) (λ ts left a.
          good [] kept (Node g ts) left room _ tt (all_more b _ kept k) a))

      all_run : (ps : Trees) (kept : List Tree) (fuel room : ℕ) (b : List Tree) → all_below (length bound) ps ≡ true → HoldsAll b bound → HoldsAll b kept → Runs AllHeld b (evaluate_all red bound ps kept fuel room)
      all_run End kept fuel room b l h k = runs_done AllHeld b End fuel tt
      all_run (More p ps) kept fuel room b l h k =
          let q = both_hold (is_below (length bound) p) (all_below (length bound) ps) l in
          runs_then Holds AllHeld b _ _ (evaluate_runs p kept fuel (room - 1) b q.0 h k) (λ t left a.
          runs_then AllHeld AllHeld _ _ _ (all_run ps (t ∷ kept) left (room - 1) _ q.1 (all_more b _ bound h) (a, all_more b _ kept k)) (λ ts rest a'.
          runs_done AllHeld _ (More t ts) rest (holds_more _ _ t a, a')))

    hold_runs : (cs : List Condition) (kept : List Tree) (fuel room : ℕ) (b : List Tree) → All (λ c. IsBelow (length bound) c.first) cs → All (λ c. IsBelow (length bound) c.second) cs → HoldsAll b bound → HoldsAll b kept → Runs Nothing b (hold red bound cs kept fuel room)
    hold_runs [] kept fuel room b f s h k = runs_done Nothing b true fuel tt
    hold_runs (c ∷ cs) kept fuel room b f s h k =
        runs_then Holds Nothing b _ _ (evaluate_runs c.first kept fuel (room - 2) b (All-head (λ (d : Condition). IsBelow (length bound) d.first) c cs f) h k) (λ t left a.
        runs_then Holds Nothing _ _ _ (evaluate_runs c.second (t ∷ kept) left (room - 3) _ (All-head (λ (d : Condition). IsBelow (length bound) d.second) c cs s) (all_more b _ bound h) (a, all_more b _ kept k)) (λ u rest a'.
        runs_if Nothing _ (holds c t u) _ _
        (hold_runs cs kept rest room _ (All-tail (λ (d : Condition). IsBelow (length bound) d.first) c cs f) (All-tail (λ (d : Condition). IsBelow (length bound) d.second) c cs s) (all_more _ _ bound (all_more b _ bound h)) (all_more _ _ kept (all_more b _ kept k)))
        (runs_done Nothing _ false rest tt)))

    replace_runs : (p : Tree) (kept : List Tree) (fuel room : ℕ) (b : List Tree) → IsBelow (length bound) p → HoldsAll b bound → HoldsAll b kept → Runs Holds b (replace red bound p kept fuel room)
    replace_runs (Leaf x) kept fuel room b l h k = runs_done Holds b (tree_at x bound) fuel (tree_held b x bound l h)
    replace_runs (Node g ps) kept fuel room b l h k =
        runs_then AllHeld Holds b _ _ (all_run ps (bound ++ kept) fuel (room - length bound) b l h (all_both b bound kept h k)) (λ ts left a.
        good bound kept (Node g ts) left room _ (all_more b _ bound h) (all_more b _ kept k) a)

  apply_runs : (r : Rule) (bound kept : List Tree) (t : Tree) (fuel room : ℕ) (rest : ℕ → Evaluated Tree) (b : List Tree) → IsRule r → length bound ≡ r.vars → Holds b t → HoldsAll b bound → HoldsAll b kept → ((left : ℕ) (c : List Tree) → Holds c t → HoldsAll c kept → Runs Holds c (rest left)) → Runs Holds b (apply red r bound kept t fuel room rest)
  apply_runs r bound kept t zero room rest b w n h hb hk go = record { points = tt; value = tt }
  apply_runs r bound kept t (suc fuel) room rest b w n h hb hk go =
      runs_if Holds b (nat_lt room (1 + length bound)) _ _ (record { points = tt; value = tt })
      (runs_then Nothing Holds b _ _ (hold_runs bound r.conditions (t ∷ bound ++ kept) fuel (room - length bound) b (subst (λ k. All (λ (c : Condition). IsBelow k c.first) r.conditions) (sym n) w.firsts) (subst (λ k. All (λ (c : Condition). IsBelow k c.second) r.conditions) (sym n) w.seconds) hb (h, all_both b bound kept hb hk)) (λ c left u.
      runs_if Holds _ c _ _ (replace_runs bound r.right kept left room _ (subst (λ k. IsBelow k r.right) (sym n) w.right) (all_more b _ bound hb) (all_more b _ kept hk)) (go left _ (holds_more b _ t h) (all_more b _ kept hk))))

  reduce_by_runs : (rs : List Rule) (kept : List Tree) (t : Tree) (fuel room : ℕ) (b : List Tree) → All IsRule rs → Holds b t → HoldsAll b kept → Runs Holds b (reduce_by red rs kept t fuel room)
  reduce_by_runs [] kept t fuel room b w h k = runs_done Holds b t fuel h
  reduce_by_runs (r ∷ rs) kept t fuel room b w h k =
      go (match_of r.left t) refl (reduce_by_runs rs kept t fuel room b (All-tail IsRule r rs w) h k) (λ left c h' k'. reduce_by_runs rs kept t left room c (All-tail IsRule r rs w) h' k')
    where
      go : (o : Option (List Tree)) → match_of r.left t ≡ o → Runs Holds b (reduce_by red rs kept t fuel room) → ((left : ℕ) (c : List Tree) → Holds c t → HoldsAll c kept → Runs Holds c (reduce_by red rs kept t left room)) → Runs Holds b (if_matched o (reduce_by red rs kept t fuel room) (λ bound. apply red r bound kept t fuel room (λ left. reduce_by red rs kept t left room)))
      go None m s later = s
      go (Some bound) m s later =
          let wr = All-head IsRule r rs w in
          apply_runs r bound kept t fuel room _ b wr (match_binds_variables r.left t r.vars bound wr.numbered m) h (match_held b r.left t [] bound h tt m) k later

begin_good : (red : Reducer) (rules : List Rule) → All IsRule rules → Good red → Good (begin red rules)
begin_good red rules w good given kept t fuel room b hg hk ha =
    let p : Point = record { tree = t; hand = arguments t ++ given ++ kept; room = room } in
    let front : PointsHeld b (p ∷ []) = (all_both b (arguments t ++ given) kept (all_both b (arguments t) given ha hg) hk, ha, tt) in
    let x = reduce_by red rules kept t fuel room in
    behind Holds b (p ∷ []) x.notes x.end front (reduce_by_runs red good rules kept t fuel room (b ++ t ∷ []) w (built_held b t ha) (all_more b (t ∷ []) kept hk))

within_good : (n : ℕ) (rules : List Rule) → All IsRule rules → Good (reduce_within n rules)
within_good zero rules w = begin_good (λ given kept t fuel room. ends OutOfFuel) rules w (λ given kept t fuel room b hg hk ha. record { points = tt; value = tt })
within_good (suc n) rules w = begin_good (reduce_within n rules) rules w (within_good n rules w)

-- a ground term has its variables below 0
mutual
  pub ground_below : (t : Tree) → IsGround t → IsBelow 0 t
  ground_below (Leaf x) g = cc
  ground_below (Node h ts) g = all_ground_below ts g

  all_ground_below : (ts : Trees) → all_ground ts ≡ true → all_below 0 ts ≡ true
  all_ground_below End g = refl
  all_ground_below (More t ts) g =
      let p = both_hold (is_ground t) (all_ground ts) g in
      rw (ground_below t p.0) (all_ground_below ts p.1)

pub evaluation_held : (rules : List Rule) (term : Tree) (fuel room : ℕ) → All IsRule rules → IsGround term → PointsHeld [] (evaluation rules term fuel room).notes
evaluation_held rules term fuel room w g =
    (evaluate_runs (reduction rules) (λ given kept t f r b. within_good f rules w given kept t f r b) [] term [] fuel room [] (ground_below term g) tt tt).points

-- in the order of building
in_order : (b : List Tree) (ps : List Point) (front : List Tree) (t : Tree) (back : List Tree) → PointsHeld b ps → trees_at ps ≡ front ++ t ∷ back → Holds (b ++ (front ++ t ∷ [])) t
in_order b [] [] t back h e = cc
in_order b [] (f ∷ fs) t back h e = cc
in_order b (p ∷ ps) [] t back h e =
    let same : p.tree ≡ t = cc in
    subst (λ u. Holds (b ++ u ∷ []) u) same (built_held b p.tree h.1)
in_order b (p ∷ ps) (f ∷ fs) t back h e =
    let same : p.tree ≡ f = cc in
    let rest : trees_at ps ≡ fs ++ t ∷ back = cc in
    let r = in_order (b ++ p.tree ∷ []) ps fs t back h.2 rest in
    subst (λ c. Holds c t) (append_assoc b (p.tree ∷ []) (fs ++ t ∷ []) ∙ ap (λ u. b ++ u ∷ (fs ++ t ∷ [])) same) r

pub subtrees_are_built : (rules : List Rule) (term : Tree) (fuel room : ℕ) → All IsRule rules → IsGround term → (front back : List Tree) (t u : Tree) → built_list rules term fuel room ≡ front ++ t ∷ back → IsSubtree u t → Contains (front ++ t ∷ []) u
subtrees_are_built rules term fuel room w g front back t u e s =
    contains_from_among u (front ++ t ∷ []) (in_order [] _ front t back (evaluation_held rules term fuel room w g) e u (among_from_contains u (subtrees t) s))

-- what is in hand is among what is built
hand_held : (b ts : List Tree) (u : Tree) → HoldsAll b ts → among u (flat_map subtrees ts) ≡ true → among u b ≡ true
hand_held b [] u h i = cc
hand_held b (t ∷ ts) u h i = elim (among_either u (subtrees t) (flat_map subtrees ts) i) [ inl l ↦ h.0 u l | inr r ↦ hand_held b ts u h.1 r ]

point_bounded : (b : List Tree) (p : Point) (ps : List Point) → PointsHeld b (p ∷ ps) → trees_in_hand p ≤ distinct (b ++ trees_at (p ∷ ps))
point_bounded b p ps h =
    distinct_of_part (flat_map subtrees (p.tree ∷ p.hand)) (b ++ p.tree ∷ trees_at ps) (λ u c.
    let i = among_from_contains u (flat_map subtrees (p.tree ∷ p.hand)) c in
    let r = hand_held (b ++ p.tree ∷ []) (p.tree ∷ p.hand) u (built_held b p.tree h.1, all_more b (p.tree ∷ []) p.hand h.0) i in
    contains_from_among u (b ++ p.tree ∷ trees_at ps) (ap (λ c'. among u c') (sym (append_assoc b (p.tree ∷ []) (trees_at ps))) ∙ among_left u (b ++ p.tree ∷ []) (trees_at ps) r))

need_bounded : (b : List Tree) (ps : List Point) → PointsHeld b ps → greatest (map trees_in_hand ps) ≤ distinct (b ++ trees_at ps)
need_bounded b [] h = omega arith
need_bounded b (p ∷ ps) h =
    let here = point_bounded b p ps h in
    let later = need_bounded (b ++ p.tree ∷ []) ps h.2 in
    let same : (b ++ p.tree ∷ []) ++ trees_at ps ≡ b ++ p.tree ∷ trees_at ps = append_assoc b (p.tree ∷ []) (trees_at ps) in
    let later' : greatest (map trees_in_hand ps) ≤ distinct (b ++ p.tree ∷ trees_at ps) = subst (λ c. greatest (map trees_in_hand ps) ≤ distinct c) same later in
    omega (arith, here, later')

pub need_is_bounded : (rules : List Rule) (term : Tree) (fuel room : ℕ) → All IsRule rules → IsGround term → need rules term fuel room ≤ distinct (built_list rules term fuel room)
need_is_bounded rules term fuel room w g = need_bounded [] (evaluation rules term fuel room).notes (evaluation_held rules term fuel room w g)

-- of many terms
distinct_left : (ts us : List Tree) → distinct ts ≤ distinct (ts ++ us)
distinct_left ts us = distinct_of_part ts (ts ++ us) (λ t c. contains_from_among t (ts ++ us) (among_left t ts us (among_from_contains t ts c)))

distinct_right : (ts us : List Tree) → distinct us ≤ distinct (ts ++ us)
distinct_right ts us = distinct_of_part us (ts ++ us) (λ t c. contains_from_among t (ts ++ us) (among_right t ts us (among_from_contains t us c)))

pub need_of_all_is_bounded : (rules : List Rule) (terms : List Tree) (fuel room : ℕ) → All IsRule rules → All IsGround terms → need_of_all rules terms fuel room ≤ distinct_built rules terms fuel room
need_of_all_is_bounded rules [] fuel room w g = omega arith
need_of_all_is_bounded rules (t ∷ ts) fuel room w g =
    let here = need_is_bounded rules t fuel room w (All-head IsGround t ts g) in
    let later = need_of_all_is_bounded rules ts fuel room w (All-tail IsGround t ts g) in
    let a = distinct_left (built_list rules t fuel room) (built_of_all rules ts fuel room) in
    let c = distinct_right (built_list rules t fuel room) (built_of_all rules ts fuel room) in
    omega (arith, here, later, a, c)
