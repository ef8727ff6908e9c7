-- The terms and the right sides of a specification may be put into a table of terms.
use Rattle.std.proofs.Common.{◌≡◌, ℕ, ◌<◌, Bool, true, List, [], ◌∷◌, length, refl, sym, ◌∙◌, get_or}
use Rattle.std.specs.Prelude.{nat_lt}
use Rattle.std.specs.List.{list_all}
use Rattle.std.specs.Cmp.{first_so, second_so}
use Rattle.std.proofs.lemmas.List.Folds.{list_all-append}
use Rattle.symbol_pool.specs.Pool.{Named}
use Rattle.term_model.specs.declared.Head.{Head}
use Rattle.term_model.specs.declared.Head.TheVariants as head
use Rattle.term_model.specs.declared.Item.{Item}
use Rattle.term_model.specs.Tree.{Tree, Leaf, Node, Trees, End, More, count_of, is_ground, all_ground}
use Rattle.term_model.specs.Postorder.{postorder, postorder_all, item_of}
use Rattle.term_model.proofs.Order.{both}
use Rattle.tree_text.specs.Text.{is_named, has_names, all_have_names}
use Rattle.rewrite_model.specs.Rule.{is_below, all_below}
use Rattle.rule_match.specs.Planned.{is_plain}
use Rattle.rec_check.specs.Spelled.{Specified}
use Rattle.rec_check.specs.Run.{MayBeRun}
use Rattle.rec_check.specs.Symbols.{widest_of}
use Rattle.run_checks.specs.Instances.{may_be_put, MayBePut}
use Rattle.run_checks.specs.Rules.{ArePut}
use Rattle.run_checks.specs.Named.{IsNamed}

module _ (names : List Named) (w k : ℕ) where
  abbrev plain : Item → Bool
  plain i = is_plain w i

  put_head : (h : Head) (n : ℕ) → is_plain w (item_of h n) ≡ true → is_named names h ≡ true → may_be_put names k (item_of h n) ≡ true
  put_head (head.App f) n p e = e
  put_head (head.Int v) n p e = absurd cc
  put_head head.Nil n p e = absurd cc
  put_head head.Cons n p e = absurd cc

  mutual
    may_put : (p : Tree) → list_all plain (postorder p) ≡ true → has_names names p ≡ true → is_below k p ≡ true → list_all (may_be_put names k) (postorder p) ≡ true
    may_put (Leaf x) a b c = both (nat_lt x k) true c refl
    may_put (Node h ts) a b c =
        let i = item_of h (count_of ts) in
        let q = sym (list_all-append plain (postorder_all ts) (i ∷ [])) ∙ a in
        let last = first_so (plain i) true (second_so (list_all plain (postorder_all ts)) (list_all plain (i ∷ [])) q) in
        list_all-append (may_be_put names k) (postorder_all ts) (i ∷ [])
        ∙ both (list_all (may_be_put names k) (postorder_all ts)) (list_all (may_be_put names k) (i ∷ []))
        (may_put_all ts (first_so (list_all plain (postorder_all ts)) (list_all plain (i ∷ [])) q) (second_so (is_named names h) (all_have_names names ts) b) c)
        (both (may_be_put names k i) true (put_head h (count_of ts) last (first_so (is_named names h) (all_have_names names ts) b)) refl)

    may_put_all : (ps : Trees) → list_all plain (postorder_all ps) ≡ true → all_have_names names ps ≡ true → all_below k ps ≡ true → list_all (may_be_put names k) (postorder_all ps) ≡ true
    may_put_all End a b c = refl
    may_put_all (More p ps) a b c =
        let q = sym (list_all-append plain (postorder p) (postorder_all ps)) ∙ a in
        list_all-append (may_be_put names k) (postorder p) (postorder_all ps)
        ∙ both (list_all (may_be_put names k) (postorder p)) (list_all (may_be_put names k) (postorder_all ps))
        (may_put p (first_so (list_all plain (postorder p)) (list_all plain (postorder_all ps)) q) (first_so (has_names names p) (all_have_names names ps) b) (first_so (is_below k p) (all_below k ps) c))
        (may_put_all ps (second_so (list_all plain (postorder p)) (list_all plain (postorder_all ps)) q) (second_so (has_names names p) (all_have_names names ps) b) (second_so (is_below k p) (all_below k ps) c))

mutual
  ground_below : (t : Tree) → is_ground t ≡ true → is_below 0 t ≡ true
  ground_below (Leaf x) e = absurd cc
  ground_below (Node h ts) e = all_ground_below ts e

  all_ground_below : (ts : Trees) → all_ground ts ≡ true → all_below 0 ts ≡ true
  all_ground_below End e = refl
  all_ground_below (More t ts) e = both (is_below 0 t) (all_below 0 ts) (ground_below t (first_so (is_ground t) (all_ground ts) e)) (all_ground_below ts (second_so (is_ground t) (all_ground ts) e))

pub rules_put : (s : Specified) → MayBeRun s → IsNamed s → ArePut s.symbols s.rules
rules_put s may named = λ k d lt.
    let rule = may.plan.rules k d lt in
    let alone = may.plan.symbols k d lt in
    let names = named.rules k d lt in
    may_put s.symbols (widest_of s.symbols) (get_or s.rules k d).vars (get_or s.rules k d).right alone.right names rule.right

pub term_put : (s : Specified) → MayBeRun s → IsNamed s → (i : ℕ) (d : Tree) → i < length s.terms → MayBePut s.symbols 0 (get_or s.terms i d)
term_put s may named i d lt =
    may_put s.symbols (widest_of s.symbols) 0 (get_or s.terms i d) (may.plain i d lt) (named.terms i d lt) (ground_below (get_or s.terms i d) (may.ground i d lt))
