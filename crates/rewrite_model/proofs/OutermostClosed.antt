-- What outermost evaluation builds stands over trees that were built before.
use Rattle.std.proofs.Common.{◌≡◌, ℕ, zero, suc, ◌+◌, ◌-◌, List, [], ◌∷◌, ◌++◌, length, Option, Some, None, refl, sym, ◌∙◌, ap, subst, Bool, true, false, append_assoc, append-nil}
use Rattle.std.specs.Prelude.{if◌then◌else◌, nat_lt, All, Contains}
use Rattle.std.proofs.lemmas.List.Elements.{All-head, All-tail}
use Rattle.term_model.specs.Tree.{Tree, Leaf, Node, Trees, End, More, list_of, arguments, subtrees, count_of, IsGround}
use Rattle.term_model.specs.Laws.{IsSubtree}
use Rattle.term_model.specs.declared.Head.{Head}
use Rattle.term_model.proofs.Order.{both_hold}
use Rattle.term_model.proofs.Equality.{contains_from_among, among_from_contains}
use Rattle.rewrite_model.specs.Rule.{Rule, IsRule, IsBelow, is_below, all_below}
use Rattle.rewrite_model.specs.Matching.{match_of, if_matched, tree_at}
use Rattle.rewrite_model.specs.Run.{Ended, Done, OutOfFuel, TooDeep, done, ends, noting, after, ◌>>=◌, in_room}
use Rattle.rewrite_model.specs.Outermost.{Building, build, build_all, Stepped, Same, Changed, use_right, step_at_root, rebuild, in_front, if_same, step, step_all, go_on, steps, outermost, outermost_built}
use Rattle.rewrite_model.proofs.Matches.{match_binds_variables}
use Rattle.rewrite_model.proofs.Closed.{Holds, HoldsAll, holds_more, all_more, built_held, node_args, match_held, tree_held, OfValue, ground_below}

abbrev AllHeld : List Tree → Trees → Type 0
AllHeld b ts = HoldsAll b (list_of ts)

-- the arguments of each tree are held by what was built before it
abbrev TreesHeld : List Tree → List Tree → Type 0
TreesHeld b [] = Unit {0}
TreesHeld b (t ∷ ts) = HoldsAll b (arguments t) × TreesHeld (b ++ t ∷ []) ts

trees_both : (b ts us : List Tree) → TreesHeld b ts → TreesHeld (b ++ ts) us → TreesHeld b (ts ++ us)
trees_both b [] us h k = subst (λ c. TreesHeld c us) (append-nil b) k
trees_both b (t ∷ ts) us h k = (h.0, trees_both (b ++ t ∷ []) ts us h.1 (subst (λ c. TreesHeld c us) (sym (append_assoc b (t ∷ []) ts)) k))

record Sound {A : Type 0} (P : List Tree → A → Type 0) (b : List Tree) (notes : List Tree) (e : Ended A) : Type 0 where
  trees : TreesHeld b notes
  value : OfValue (P (b ++ notes)) e

abbrev Runs : {A : Type 0} → (List Tree → A → Type 0) → List Tree → Building A → Type 0
Runs P b x = Sound P b x.notes x.end

behind : {A : Type 0} (P : List Tree → A → Type 0) (b front notes : List Tree) (e : Ended A) → TreesHeld b front → Sound P (b ++ front) notes e → Sound P b (front ++ notes) e
behind {A} P b front notes e h s =
    record { trees = trees_both b front notes h s.trees; value = subst (λ c. OfValue (P c) e) (append_assoc b front notes) s.value }

runs_after : {A B : Type 0} (P : List Tree → A → Type 0) (Q : List Tree → B → Type 0) (b notes : List Tree) (e : Ended A) (g : A → ℕ → Building B) → Sound P b notes e → ((a : A) (left : ℕ) → P (b ++ notes) a → Runs Q (b ++ notes) (g a left)) → Runs Q b (after notes e g)
runs_after P Q b notes (Done a left) g s go = behind Q b notes (g a left).notes (g a left).end s.trees (go a left s.value)
runs_after P Q b notes OutOfFuel g s go = record { trees = s.trees; value = tt }
runs_after P Q b notes TooDeep g s go = record { trees = s.trees; value = tt }

runs_then : {A B : Type 0} (P : List Tree → A → Type 0) (Q : List Tree → B → Type 0) (b : List Tree) (x : Building A) (g : A → ℕ → Building B) → Runs P b x → ((a : A) (left : ℕ) → P (b ++ x.notes) a → Runs Q (b ++ x.notes) (g a left)) → Runs Q b (x >>= g)
runs_then P Q b x g s go = runs_after P Q b x.notes x.end g s go

runs_done : {A : Type 0} (P : List Tree → A → Type 0) (b : List Tree) (a : A) (fuel : ℕ) → P b a → Runs P b (done a fuel)
runs_done P b a fuel p = record { trees = tt; value = subst (λ c. P c a) (sym (append-nil b)) p }

runs_in_room : {A : Type 0} (P : List Tree → A → Type 0) (b : List Tree) (room : ℕ) (x : Building A) → Runs P b x → Runs P b (in_room room x)
runs_in_room P b zero x s = record { trees = tt; value = tt }
runs_in_room P b (suc n) x s = s

module _ (bound : List Tree) where
  mutual
    build_runs : (p : Tree) (fuel room : ℕ) (b : List Tree) → IsBelow (length bound) p → HoldsAll b bound → Runs Holds b (build bound p fuel room)
    build_runs (Leaf x) fuel room b l h = runs_in_room Holds b room _ (runs_done Holds b (tree_at x bound) fuel (tree_held b x bound l h))
    build_runs (Node g ps) fuel room b l h =
        runs_in_room Holds b room _ (runs_then AllHeld Holds b _ _ (all_run ps fuel room b l h) (λ ts left a.
        record { trees = (a, tt); value = built_held _ (Node g ts) a }))

    all_run : (ps : Trees) (fuel room : ℕ) (b : List Tree) → all_below (length bound) ps ≡ true → HoldsAll b bound → Runs AllHeld b (build_all bound ps fuel room)
    all_run End fuel room b l h = runs_done AllHeld b End fuel tt
    all_run (More p ps) fuel room b l h =
        let q = both_hold (is_below (length bound) p) (all_below (length bound) ps) l in
        runs_then Holds AllHeld b _ _ (build_runs p fuel (room - 1) b q.0 h) (λ t left a.
        runs_then AllHeld AllHeld _ _ _ (all_run ps left (room - 1) _ q.1 (all_more b _ bound h)) (λ ts rest a'.
        runs_done AllHeld _ (More t ts) rest (holds_more _ _ t a, a')))

abbrev Left : List Tree → Stepped Tree → Type 0
Left b Same = Unit {0}
Left b (Changed u) = Holds b u

abbrev LeftIn : List Tree → Stepped Trees → Type 0
LeftIn b Same = Unit {0}
LeftIn b (Changed us) = AllHeld b us

right_runs : (r : Rule) (bound : List Tree) (fuel room : ℕ) (b : List Tree) → IsRule r → length bound ≡ r.vars → HoldsAll b bound → Runs Left b (use_right r.right bound fuel room)
right_runs r bound zero room b w n h = record { trees = tt; value = tt }
right_runs r bound (suc fuel) room b w n h =
    runs_then Holds Left b _ _ (build_runs bound r.right fuel (room - 1) b (subst (λ k. IsBelow k r.right) (sym n) w.right) h) (λ u left a.
    runs_done Left _ (Changed u) left a)

root_runs : (rs : List Rule) (t : Tree) (fuel room : ℕ) (otherwise : Building (Stepped Tree)) (b : List Tree) → All IsRule rs → Holds b t → Runs Left b otherwise → Runs Left b (step_at_root rs t fuel room otherwise)
root_runs [] t fuel room otherwise b w h s = s
root_runs (r ∷ rs) t fuel room otherwise b w h s = go (match_of r.left t) refl (root_runs rs t fuel room otherwise b (All-tail IsRule r rs w) h s)
  where
    go : (o : Option (List Tree)) → match_of r.left t ≡ o → Runs Left b (step_at_root rs t fuel room otherwise) → Runs Left b (if_matched o (step_at_root rs t fuel room otherwise) (λ bound. use_right r.right bound fuel room))
    go None m later = later
    go (Some bound) m later =
        let wr = All-head IsRule r rs w in
        right_runs r bound fuel room b wr (match_binds_variables r.left t r.vars bound wr.numbered m) (match_held b r.left t [] bound h tt m)

rebuild_runs : (h : Head) (count : ℕ) (s : Stepped Trees) (fuel room : ℕ) (b : List Tree) → LeftIn b s → Runs Left b (rebuild count (λ us. Node h us) s fuel room)
rebuild_runs h count Same fuel room b a = runs_done Left b Same fuel tt
rebuild_runs h count (Changed us) fuel room b a = go (nat_lt room (1 + count))
  where
    go : (c : Bool) → Runs Left b (if c then ends TooDeep else noting (Node h us) (done (Changed (Node h us)) fuel))
    go true = record { trees = tt; value = tt }
    go false = record { trees = (a, tt); value = built_held b (Node h us) a }

module _ (rules : List Rule) (w : All IsRule rules) where
  if_same_runs : (s : Stepped Tree) (ts : Trees) (otherwise : Building (Stepped Trees)) (fuel : ℕ) (b : List Tree) → Left b s → AllHeld b ts → Runs LeftIn b otherwise → Runs LeftIn b (if_same s ts otherwise fuel)
  if_same_runs Same ts otherwise fuel b a h s = s
  if_same_runs (Changed u) ts otherwise fuel b a h s = runs_done LeftIn b (Changed (More u ts)) fuel (a, h)

  in_front_held : (t : Tree) (s : Stepped Trees) (b : List Tree) → Holds b t → LeftIn b s → LeftIn b (in_front t s)
  in_front_held t Same b h a = tt
  in_front_held t (Changed us) b h a = (h, a)

  mutual
    step_runs : (t : Tree) (fuel room : ℕ) (b : List Tree) → Holds b t → Runs Left b (step rules t fuel room)
    step_runs (Leaf x) fuel room b h = runs_in_room Left b room _ (root_runs rules (Leaf x) fuel room _ b w h (runs_done Left b Same fuel tt))
    step_runs (Node g ts) fuel room b h =
        runs_in_room Left b room _ (root_runs rules (Node g ts) fuel room _ b w h (runs_then LeftIn Left b _ _ (step_all_runs ts fuel room b (node_args b g ts h)) (λ s left a.
        rebuild_runs g (count_of ts) s left room _ a)))

    step_all_runs : (ts : Trees) (fuel room : ℕ) (b : List Tree) → AllHeld b ts → Runs LeftIn b (step_all rules ts fuel room)
    step_all_runs End fuel room b h = runs_done LeftIn b Same fuel tt
    step_all_runs (More t ts) fuel room b h =
        runs_then Left LeftIn b _ _ (step_runs t fuel (room - 1) b h.0) (λ s left a.
        if_same_runs s ts _ left _ a (all_more b _ (list_of ts) h.1) (runs_then LeftIn LeftIn _ _ _ (step_all_runs ts left (room - 1) _ (all_more b _ (list_of ts) h.1)) (λ s' rest a'.
        runs_done LeftIn _ (in_front t s') rest (in_front_held t s' _ (holds_more _ _ t (holds_more b _ t h.0)) a'))))

  go_on_runs : (t : Tree) (s : Stepped Tree) (fuel : ℕ) (go : Tree → Building Tree) (b : List Tree) → Holds b t → Left b s → ((u : Tree) → Holds b u → Runs Holds b (go u)) → Runs Holds b (go_on rules t s fuel go)
  go_on_runs t Same fuel go b h a later = runs_done Holds b t fuel h
  go_on_runs t (Changed u) fuel go b h a later = later u a

  steps_run : (fuel : ℕ) (t : Tree) (room : ℕ) (b : List Tree) → Holds b t → Runs Holds b (steps rules fuel t room)
  steps_run zero t room b h = runs_then Left Holds b _ _ (step_runs t zero room b h) (λ s left a.
      go_on_runs t s left _ _ (holds_more b _ t h) a (λ u k. record { trees = tt; value = tt }))
  steps_run (suc fuel) t room b h = runs_then Left Holds b _ _ (step_runs t (suc fuel) room b h) (λ s left a.
      go_on_runs t s left _ _ (holds_more b _ t h) a (λ u k. steps_run fuel u room _ k))

  outermost_held : (term : Tree) (fuel room : ℕ) → IsGround term → TreesHeld [] (outermost_built rules term fuel room)
  outermost_held term fuel room g =
      let r : Runs Holds [] (outermost rules term fuel room) =
      runs_then Holds Holds [] _ _ (build_runs [] term fuel room [] (ground_below term g) tt) (λ t left a. steps_run left t room _ a) in
      r.trees

-- in the order of building
in_order : (b ts front : List Tree) (t : Tree) (back : List Tree) → TreesHeld b ts → ts ≡ front ++ t ∷ back → Holds (b ++ (front ++ t ∷ [])) t
in_order b [] [] t back h e = cc
in_order b [] (f ∷ fs) t back h e = cc
in_order b (s ∷ ss) [] t back h e =
    let same : s ≡ t = cc in
    subst (λ u. Holds (b ++ u ∷ []) u) same (built_held b s h.0)
in_order b (s ∷ ss) (f ∷ fs) t back h e =
    let same : s ≡ f = cc in
    let rest : ss ≡ fs ++ t ∷ back = cc in
    let r = in_order (b ++ s ∷ []) ss fs t back h.1 rest in
    subst (λ c. Holds c t) (append_assoc b (s ∷ []) (fs ++ t ∷ []) ∙ ap (λ u. b ++ u ∷ (fs ++ t ∷ [])) same) r

pub outermost_subtrees_are_built : (rules : List Rule) (term : Tree) (fuel room : ℕ) → All IsRule rules → IsGround term → (front back : List Tree) (t u : Tree) → outermost_built rules term fuel room ≡ front ++ t ∷ back → IsSubtree u t → Contains (front ++ t ∷ []) u
outermost_subtrees_are_built rules term fuel room w g front back t u e s =
    contains_from_among u (front ++ t ∷ []) (in_order [] _ front t back (outermost_held rules w term fuel room g) e u (among_from_contains u (subtrees t) s))
