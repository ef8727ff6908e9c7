-- The symbols of a value are those of its term and of the rules' right sides.
use Rattle.std.proofs.Common.{◌≡◌, ℕ, zero, suc, ◌+◌, ◌-◌, List, [], ◌∷◌, ◌++◌, length, get_or, Option, Some, None, refl, subst, Bool, true, false}
use Rattle.std.specs.Prelude.{if◌then◌else◌, nat_lt, ◌&&◌, All}
use Rattle.std.proofs.lemmas.Option.{same_Some, option_and_then_some}
use Rattle.std.proofs.lemmas.List.Elements.{All-head, All-tail}
use Rattle.term_model.specs.Tree.{Tree, Leaf, Node, Trees, End, More, tree_eq, head_eq}
use Rattle.term_model.proofs.Order.{both_hold}
use Rattle.symbol_pool.specs.Pool.{Named}
use Rattle.rewrite_model.specs.Rule.{Rule}
use Rattle.rewrite_model.specs.Matching.{bind, match_from, match_all, match_of, if_matched, tree_at}
use Rattle.rewrite_model.specs.Run.{Run, Ended, Done, OutOfFuel, TooDeep, done, ends, after, ◌>>=◌, in_room}
use Rattle.rewrite_model.specs.Evaluation.{Evaluated, Reducer, evaluate, evaluate_all, hold, replace, apply, reduce_by, reduce_within, reduction, evaluation}
use Rattle.rewrite_model.proofs.Matches.{chosen, mapped, if_some}
use Rattle.rewrite_model.proofs.Closed.{OfValue}
use Rattle.term_text.specs.Text.{is_named, has_names, all_have_names, HasNames}
use Rattle.term_lines.specs.Laws.{WritesNames}

abbrev pub AllNamed : List Named → List Tree → Type 0
AllNamed names [] = Unit {0}
AllNamed names (t ∷ ts) = HasNames names t × AllNamed names ts

pub both : (a b : Bool) → a ≡ true → b ≡ true → (a && b) ≡ true
both true b e f = f
both false b e f = e

module _ (names : List Named) where
  bind_named : (x : ℕ) (t : Tree) (before bound : List Tree) → HasNames names t → AllNamed names before → bind x t before ≡ Some bound → AllNamed names bound
  bind_named zero t [] bound h k e = subst (AllNamed names) (same_Some (t ∷ []) bound e) (h, tt)
  bind_named (suc x) t [] bound h k e = cc
  bind_named zero t (u ∷ us) bound h k e = subst (AllNamed names) (chosen (tree_eq u t) (u ∷ us) bound e).1 k
  bind_named (suc x) t (u ∷ us) bound h k e =
      let m = mapped u (bind x t us) bound e in
      subst (AllNamed names) m.2 (k.0, bind_named x t us m.0 h k.1 m.1)

  mutual
    pub match_named : (p t : Tree) (before bound : List Tree) → HasNames names t → AllNamed names before → match_from p t before ≡ Some bound → AllNamed names bound
    match_named (Leaf x) t before bound h k e = bind_named x t before bound h k e
    match_named (Node f ps) (Leaf y) before bound h k e = cc
    match_named (Node f ps) (Node g ts) before bound h k e =
        matches_named ps ts before bound (both_hold (is_named names g) (all_have_names names ts) h).1 k (if_some (head_eq f g) (match_all ps ts before) bound e).1

    matches_named : (ps ts : Trees) (before bound : List Tree) → all_have_names names ts ≡ true → AllNamed names before → match_all ps ts before ≡ Some bound → AllNamed names bound
    matches_named End End before bound h k e = subst (AllNamed names) (same_Some before bound e) k
    matches_named End (More t ts) before bound h k e = cc
    matches_named (More p ps) End before bound h k e = cc
    matches_named (More p ps) (More t ts) before bound h k e =
        let q = both_hold (has_names names t) (all_have_names names ts) h in
        option_and_then_some (λ m. match_all ps ts m) (match_from p t before) bound e (λ mid i i'.
        matches_named ps ts mid bound q.1 (match_named p t before mid q.0 k i) i')

  -- a variable that isn't bound stays itself
  got_named : (x y : ℕ) (ts : List Tree) → AllNamed names ts → HasNames names (get_or ts y (Leaf x))
  got_named x y [] k = refl
  got_named x zero (t ∷ ts) k = k.0
  got_named x (suc y) (t ∷ ts) k = got_named x y ts k.1

  pub tree_named : (x : ℕ) (bound : List Tree) → AllNamed names bound → HasNames names (tree_at x bound)
  tree_named x bound k = got_named x x bound k

  pub value_after : {N A B : Type 0} (P : A → Type 0) (Q : B → Type 0) (notes : List N) (e : Ended A) (g : A → ℕ → Run N B) → OfValue P e → ((a : A) (left : ℕ) → P a → OfValue Q (g a left).end) → OfValue Q (after notes e g).end
  value_after P Q notes (Done a left) g v go = go a left v
  value_after P Q notes OutOfFuel g v go = tt
  value_after P Q notes TooDeep g v go = tt

  pub value_then : {N A B : Type 0} (P : A → Type 0) (Q : B → Type 0) (x : Run N A) (g : A → ℕ → Run N B) → OfValue P x.end → ((a : A) (left : ℕ) → P a → OfValue Q (g a left).end) → OfValue Q (x >>= g).end
  value_then P Q x g v go = value_after P Q x.notes x.end g v go

  pub value_if : {N A : Type 0} (P : A → Type 0) (c : Bool) (x y : Run N A) → OfValue P x.end → OfValue P y.end → OfValue P (if c then x else y).end
  value_if P true x y s r = s
  value_if P false x y s r = r

  pub value_in_room : {N A : Type 0} (P : A → Type 0) (room : ℕ) (x : Run N A) → OfValue P x.end → OfValue P (in_room room x).end
  value_in_room P zero x v = tt
  value_in_room P (suc n) x v = v

  abbrev Nothing : {A : Type 0} → A → Type 0
  Nothing a = Unit {0}

  any_value : {A : Type 0} (e : Ended A) → OfValue Nothing e
  any_value (Done a left) = tt
  any_value OutOfFuel = tt
  any_value TooDeep = tt

  abbrev pub AllHaveNames : Trees → Type 0
  AllHaveNames ts = all_have_names names ts ≡ true

  abbrev Good : Reducer → Type 0
  Good red = (given kept : List Tree) (t : Tree) (fuel room : ℕ) → HasNames names t → OfValue (HasNames names) (red given kept t fuel room).end

  module _ (red : Reducer) (good : Good red) where
    module _ (bound : List Tree) (bound_named : AllNamed names bound) where
      mutual
        evaluate_named : (p : Tree) (kept : List Tree) (fuel room : ℕ) → HasNames names p → OfValue (HasNames names) (evaluate red bound p kept fuel room).end
        evaluate_named (Leaf x) kept fuel room h = value_in_room (HasNames names) room (done (tree_at x bound) fuel) (tree_named x bound bound_named)
        evaluate_named (Node g ps) kept fuel room h =
            let q = both_hold (is_named names g) (all_have_names names ps) h in
            value_in_room (HasNames names) room _ (value_then AllHaveNames (HasNames names) (evaluate_all red bound ps kept fuel room) _ (all_named ps kept fuel room q.1) (λ ts left a.
            good [] kept (Node g ts) left room (both (is_named names g) (all_have_names names ts) q.0 a)))

        all_named : (ps : Trees) (kept : List Tree) (fuel room : ℕ) → AllHaveNames ps → OfValue AllHaveNames (evaluate_all red bound ps kept fuel room).end
        all_named End kept fuel room h = refl
        all_named (More p ps) kept fuel room h =
            let q = both_hold (has_names names p) (all_have_names names ps) h in
            value_then (HasNames names) AllHaveNames (evaluate red bound p kept fuel (room - 1)) _ (evaluate_named p kept fuel (room - 1) q.0) (λ t left a.
            value_then AllHaveNames AllHaveNames (evaluate_all red bound ps (t ∷ kept) left (room - 1)) _ (all_named ps (t ∷ kept) left (room - 1) q.1) (λ ts rest a'.
            both (has_names names t) (all_have_names names ts) a a'))

      replace_named : (p : Tree) (kept : List Tree) (fuel room : ℕ) → HasNames names p → OfValue (HasNames names) (replace red bound p kept fuel room).end
      replace_named (Leaf x) kept fuel room h = tree_named x bound bound_named
      replace_named (Node g ps) kept fuel room h =
          let q = both_hold (is_named names g) (all_have_names names ps) h in
          value_then AllHaveNames (HasNames names) (evaluate_all red bound ps (bound ++ kept) fuel (room - length bound)) _ (all_named ps (bound ++ kept) fuel (room - length bound) q.1) (λ ts left a.
          good bound kept (Node g ts) left room (both (is_named names g) (all_have_names names ts) q.0 a))

    apply_named : (r : Rule) (bound kept : List Tree) (t : Tree) (fuel room : ℕ) (rest : ℕ → Evaluated Tree) → WritesNames names r → AllNamed names bound → ((left : ℕ) → OfValue (HasNames names) (rest left).end) → OfValue (HasNames names) (apply red r bound kept t fuel room rest).end
    apply_named r bound kept t zero room rest w hb go = tt
    apply_named r bound kept t (suc fuel) room rest w hb go =
        value_if (HasNames names) (nat_lt room (1 + length bound)) (ends TooDeep) _ tt
        (value_then Nothing (HasNames names) (hold red bound r.conditions (t ∷ bound ++ kept) fuel (room - length bound)) _ (any_value (hold red bound r.conditions (t ∷ bound ++ kept) fuel (room - length bound)).end) (λ c left u.
        value_if (HasNames names) c _ _ (replace_named bound hb r.right kept left room w) (go left)))

    by_matched : (o : Option (List Tree)) (r : Rule) (rs : List Rule) (kept : List Tree) (t : Tree) (fuel room : ℕ) → match_of r.left t ≡ o → WritesNames names r → HasNames names t → ((left : ℕ) → OfValue (HasNames names) (reduce_by red rs kept t left room).end) → OfValue (HasNames names) (if_matched o (reduce_by red rs kept t fuel room) (λ bound. apply red r bound kept t fuel room (λ left. reduce_by red rs kept t left room))).end
    by_matched None r rs kept t fuel room e w h go = go fuel
    by_matched (Some bound) r rs kept t fuel room e w h go =
        apply_named r bound kept t fuel room _ w (match_named r.left t [] bound h tt e) go

    reduce_by_named : (rs : List Rule) (kept : List Tree) (t : Tree) (fuel room : ℕ) → All (WritesNames names) rs → HasNames names t → OfValue (HasNames names) (reduce_by red rs kept t fuel room).end
    reduce_by_named [] kept t fuel room w h = h
    reduce_by_named (r ∷ rs) kept t fuel room w h =
        by_matched (match_of r.left t) r rs kept t fuel room refl (All-head (WritesNames names) r rs w) h (λ left. reduce_by_named rs kept t left room (All-tail (WritesNames names) r rs w) h)

  within_named : (n : ℕ) (rules : List Rule) → All (WritesNames names) rules → Good (reduce_within n rules)
  within_named zero rules w given kept t fuel room h = reduce_by_named (λ g k u f s. ends OutOfFuel) (λ g k u f s i. tt) rules kept t fuel room w h
  within_named (suc n) rules w given kept t fuel room h = reduce_by_named (reduce_within n rules) (within_named n rules w) rules kept t fuel room w h

  reduction_named : (rules : List Rule) → All (WritesNames names) rules → Good (reduction rules)
  reduction_named rules w given kept t fuel room h = within_named fuel rules w given kept t fuel room h

pub of_done : {A : Type 0} (P : A → Type 0) (e : Ended A) (a : A) (left : ℕ) → OfValue P e → e ≡ Done a left → P a
of_done P e a left v is = subst (OfValue P) is v

pub evaluated_have_names : (names : List Named) (rules : List Rule) (term value : Tree) (fuel room left : ℕ) → All (WritesNames names) rules → HasNames names term → (evaluation rules term fuel room).end ≡ Done value left → HasNames names value
evaluated_have_names names rules term value fuel room left w h e =
    of_done (HasNames names) (evaluation rules term fuel room).end value left (evaluate_named names (reduction rules) (reduction_named names rules w) [] tt term [] fuel room h) e
