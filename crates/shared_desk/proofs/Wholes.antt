-- The own list stays whole.
use Rattle.std.proofs.Common.{◌≡◌, ◌⊎◌, inl, inr, ℕ, ◌<◌, ◌≤◌, Bool, true, cond, Option, Some, None, List, [], ◌∷◌, ◌++◌, length, map, refl, sym, ap, ◌∙◌, subst, ⊎_elim, arith}
use mathlib.Core.Logic.{dite}
use native.Mathlib.Decide.{ℕ_discrete}
use Rattle.std.proofs.lemmas.List.{length-map}
use Rattle.term_model.specs.declared.Head.{Head}
use Rattle.term_model.specs.Tree.{Tree, trees_of, list_of, arguments, may_stand_over, is_well_formed, all_well_formed, IsWellFormed}
use Rattle.term_model.proofs.Order.{both}
use Rattle.hash_buckets.specs.Spelled.{spelled}
use Rattle.history_core.specs.declared.entry.Entry.{Entry}
use Rattle.store_model.specs.declared.view.Sizes.{Sizes}
use Rattle.store_model.specs.declared.view.View.{View}
use Rattle.store_model.specs.declared.view.KnownWord.{KnownWord}
use Rattle.store_model.specs.Words.{put}
use Rattle.store_model.specs.Calls.{IsOver}
use Rattle.store_model.specs.Machine.{Each, In, widest, protected_in, words_known}
use Rattle.node_rows.specs.Knowing.{KnowsTree}
use Rattle.store_model.proofs.Basics.{put_same, put_other, each_map, choose}
use Rattle.store_model.specs.Told.{Told, told_from, after, tree_over}
use Rattle.shared_desk.specs.Held.{names, held_in, tree_in, Has, IsOwn, IsOnce, HasOneRow, IsWhole, Forgets}
use Rattle.shared_desk.proofs.Trees.{Within, tree_within, names_within, tree_names, tree_once, trees_known, row_there, known_before, named_there}

-- what one entry more tells
pub told_more : (t : Told) (es : List Entry) (e : Entry) → told_from t (es ++ e ∷ []) ≡ after (told_from t es) e
told_more t [] e = refl
told_more t (x ∷ es) e = told_more (after t x) es e

pub has_held : (v : View) (r : ℕ) → Has v r → held_in v r ≡ Some (tree_in v r)
has_held v r h = ap (λ (b : Bool). cond b (Some (tree_in v r)) None) h

pub held_has : (v : View) (r : ℕ) (t : Tree) → held_in v r ≡ Some t → Has v r × (tree_in v r ≡ t)
held_has v r t h = choose (λ (o : Option Tree). o ≡ Some t → Has v r × (tree_in v r ≡ t)) (names r v.knows) (Some (tree_in v r)) None
    (λ has e. (has, let k : tree_in v r ≡ t = cc in k)) (λ _ e. absurd (cc)) h

-- the own list is what is known
pub known_held : (z : Sizes) (v : View) → IsWhole z v → (r : ℕ) (t : Tree) → KnowsTree v.knows r t → held_in v r ≡ Some t
known_held z v h r t k =
    let has = tree_names v.knows r t k in
    has_held v r has ∙ ap Some (tree_once v.knows h.once (tree_in v r) t r (h.rows r has).known k)

pub held_known : (z : Sizes) (v : View) → IsWhole z v → (r : ℕ) (t : Tree) → held_in v r ≡ Some t → KnowsTree v.knows r t
held_known z v h r t e = let x = held_has v r t e in subst (KnowsTree v.knows r) x.1 (h.rows r x.0).known

own_moves : (z : Sizes) (v w : View) (r : ℕ) → tree_in w r ≡ tree_in v r → KnowsTree w.knows r (tree_in v r) → In r w.got → IsOwn z v r → IsOwn z w r
own_moves z v w r e k u o =
    record {
      known = subst (KnowsTree w.knows r) (sym e) k;
      uses = u;
      below = o.below;
      formed = subst IsWellFormed (sym e) o.formed;
      width = subst (λ (t : Tree). length (arguments t) ≤ widest z) (sym e) o.width;
    }

-- words were read, or rows protected
pub record Grows (v w : View) : Type 0 where
  pub knows : Within v.knows w.knows
  pub none : (r : ℕ) → Has w r → Has v r
  pub uses : (r : ℕ) → In r v.got → In r w.got
  pub tree : (r : ℕ) → tree_in w r ≡ tree_in v r

pub whole_grows : (z : Sizes) (v w : View) → IsWhole z v → Grows v w → IsOnce w.knows → HasOneRow w.knows → Each (Has v) (protected_in w) → length (protected_in w) ≤ z.depth → IsWhole z w
whole_grows z v w h g once one_row protects few =
    record {
      rows = λ r has.
          (let o = h.rows r (g.none r has) in
          own_moves z v w r (g.tree r) (tree_within v.knows w.knows g.knows (tree_in v r) r o.known) (g.uses r o.uses) o);
      once = once;
      one_row = one_row;
      protects = each_map (Has v) (Has w) (protected_in w) (λ r i. names_within v.knows w.knows g.knows r i) protects;
      few = few;
    }

pub whole_forgets : (z : Sizes) (v w : View) → IsWhole z v → Forgets v w → ((r : ℕ) → tree_in w r ≡ tree_in v r) → protected_in w ≡ protected_in v → IsWhole z w
whole_forgets z v w h f tree e =
    record {
      rows = λ r has.
          (let o = h.rows r (names_within w.knows v.knows f.knows r has) in
          own_moves z v w r (tree r) (f.trees r (tree_in v r) has o.known) (f.uses r has) o);
      once = λ r k m n a b. h.once r k m n (f.knows r k m a) (f.knows r k n b);
      one_row = λ r q t a b. h.one_row r q t (tree_within w.knows v.knows f.knows t r a) (tree_within w.knows v.knows f.knows t q b);
      protects = subst (Each (Has w)) (sym e) (f.protects h.protects);
      few = subst (λ (rs : List ℕ). length rs ≤ z.depth) (sym e) h.few;
    }

pub list_trees : (ts : List Tree) → list_of (trees_of ts) ≡ ts
list_trees [] = refl
list_trees (t ∷ ts) = ap (λ us. t ∷ us) (list_trees ts)

all_formed : (ks : ℕ → Tree) (rs : List ℕ) → Each (λ r. IsWellFormed (ks r)) rs → all_well_formed (trees_of (map ks rs)) ≡ true
all_formed tree [] h = refl
all_formed tree (r ∷ rs) h = both (is_well_formed (tree r)) (all_well_formed (trees_of (map tree rs))) h.0 (all_formed tree rs h.1)

-- a creation that gave row r
pub record Gives (v w : View) (f : Head) (rs : List ℕ) (r : ℕ) : Type 0 where
  pub got : w.got ≡ r ∷ v.got
  pub knows : w.knows ≡ words_known r 0 (spelled f rs) ++ v.knows
  pub tree : (q : ℕ) → tree_in w q ≡ put (tree_in v) r (tree_over (tree_in v) f rs) q
  pub roots : protected_in w ≡ protected_in v

-- it was made over rows of the own list
pub record IsMade (z : Sizes) (v : View) (f : Head) (rs : List ℕ) (r : ℕ) : Type 0 where
  pub held : Each (Has v) rs
  pub over : IsOver f rs
  pub width : length rs ≤ widest z
  pub formed : may_stand_over f (trees_of (map (tree_in v) rs)) ≡ true
  pub below : r < z.rows

module _ (z : Sizes) (v w : View) (f : Head) (rs : List ℕ) (r : ℕ) (h : IsWhole z v) (m : IsMade z v f rs r) (g : Gives v w f rs r) where
  grown : Within v.knows w.knows
  grown = subst (Within v.knows) (sym g.knows) (known_before (words_known r 0 (spelled f rs)) v.knows)

  pub given_is : tree_in w r ≡ tree_over (tree_in v) f rs
  given_is = g.tree r ∙ put_same (tree_in v) r (tree_over (tree_in v) f rs)

  given_known : KnowsTree w.knows r (tree_over (tree_in v) f rs)
  given_known = subst (λ (ks : List KnownWord). KnowsTree ks r (tree_over (tree_in v) f rs)) (sym g.knows)
      (let all = words_known r 0 (spelled f rs) ++ v.knows in
      let more = known_before (words_known r 0 (spelled f rs)) v.knows in (
        rs,
        row_there r f rs v.knows m.over,
        trees_known all (tree_in v) rs
            (each_map (Has v) (λ q. KnowsTree all q (tree_in v q)) rs (λ q i. tree_within v.knows all more (tree_in v q) q (h.rows q i).known) m.held),
      ))

  pub given_has : Has w r
  given_has = tree_names w.knows r (tree_over (tree_in v) f rs) given_known

  -- no other row has joined the own list
  pub given_only : (q : ℕ) → Has w q → (q ≡ r) ⊎ Has v q
  given_only q has = named_there r 0 q (spelled f rs) v.knows (subst (λ (ks : List KnownWord). names q ks ≡ true) g.knows has)

  pub given_more : (q : ℕ) → Has v q → Has w q
  given_more q has = names_within v.knows w.knows grown q has

  -- and each that was on it has its tree
  pub given_keeps : IsOnce w.knows → (q : ℕ) → Has v q → tree_in w q ≡ tree_in v q
  given_keeps once q has = dite (ℕ_discrete q r)
      (λ e. (let t = tree_over (tree_in v) f rs in
      let old : KnowsTree w.knows r (tree_in v q) = subst (λ (x : ℕ). KnowsTree w.knows x (tree_in v q)) e (tree_within v.knows w.knows grown (tree_in v q) q (h.rows q has).known) in
      ap (tree_in w) e ∙ given_is ∙ tree_once w.knows once t (tree_in v q) r given_known old))
      (λ ne. g.tree q ∙ put_other (tree_in v) r (tree_over (tree_in v) f rs) q ne)

  given_own : IsOwn z w r
  given_own =
      let t = tree_over (tree_in v) f rs in
      let e = sym given_is in
      record {
        known = subst (KnowsTree w.knows r) e given_known;
        uses = subst (In r) (sym g.got) (inl refl);
        below = m.below;
        formed = subst IsWellFormed e (both (may_stand_over f (trees_of (map (tree_in v) rs))) (all_well_formed (trees_of (map (tree_in v) rs))) m.formed
            (all_formed (tree_in v) rs (each_map (Has v) (λ q. IsWellFormed (tree_in v q)) rs (λ q i. (h.rows q i).formed) m.held)));
        width = subst (λ (u : Tree). length (arguments u) ≤ widest z) e (omega (arith, m.width, ap (λ (ts : List Tree). length ts) (list_trees (map (tree_in v) rs)), length-map rs (tree_in v)));
      }

  pub whole_given : IsOnce w.knows → HasOneRow w.knows → IsWhole z w
  whole_given once one_row =
      record {
        rows = λ q has. ⊎_elim (λ (e : q ≡ r). subst (IsOwn z w) (sym e) given_own)
            (λ (i : Has v q). (let o = h.rows q i in
            own_moves z v w q (given_keeps once q i) (tree_within v.knows w.knows grown (tree_in v q) q o.known) (subst (In q) (sym g.got) (inr o.uses)) o))
            (given_only q has);
        once = once;
        one_row = one_row;
        protects = subst (Each (Has w)) (sym g.roots) (each_map (Has v) (Has w) (protected_in v) given_more h.protects);
        few = subst (λ (qs : List ℕ). length qs ≤ z.depth) (sym g.roots) h.few;
      }
