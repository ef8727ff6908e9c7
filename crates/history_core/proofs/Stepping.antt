-- A table answers whether each kind of entry is a step, and shows the set after it.
use Rattle.std.proofs.Common.{◌≡◌, ℕ, ◌<◌, Bool, true, false, Option, Some, None, List, [], ◌∷◌, length, get_or, set, refl, sym, ap, ◌∙◌, subst, ◌⊎◌, inl, inr, get_or-set_same, get_or-set_other}
use Rattle.std.specs.Prelude.{Contains, ◌↔◌, ◌==◌, unwrap_or}
use Rattle.std.specs.List.{AllByRecursion}
use Rattle.std.proofs.lemmas.Bool.{cases_eq, cond-true, cond-false, eq-eqb, ne_eqb}
use Rattle.std.proofs.lemmas.List.{length-set}
use Rattle.term_model.specs.Tree.{Tree, Leaf, Node, Trees, More}
use Rattle.term_model.specs.declared.Head.{Head}
use Rattle.history_core.specs.TermSet.{Names, TermSet, IsHeld, IsFree, tree_over, with_pair, with_only, with_roots, is_one_of, tree_at, trees_at, IsReached, IsSound}
use Rattle.history_core.specs.Entry.{Make, Find, Roots, Collect, IsStep, after}
use Rattle.history_core.specs.declared.slots.Term.{Term}
use Rattle.history_core.specs.Slots.{slot_at, head_of, term_of, is_marked, kept_if}
use Rattle.history_core.specs.Marking.{marked_names}
use Rattle.history_core.specs.Table.{Table, IsTermOf, Shows, MayCreateIn, MayPut, MarksRoots}
use Rattle.history_core.proofs.Members.{contains_here, contains_there, each_from, each_at}
use Rattle.history_core.proofs.Sets.{Grows, grows_pair, pair_same, pair_other, held_grow, trees_grow}
use Rattle.history_core.proofs.Sound.{step_sound, only_holds, of_one}
use Rattle.history_core.proofs.SlotLemmas.{some_inside}
use Rattle.history_core.proofs.Showing.{head_root, may_create, may_create_in, spelled, unspelled, new_pair, free_slot, all_are_held}
use Rattle.history_core.proofs.Reached.{marked_is_reached, reached_is_marked, argument_reached}
use Rattle.history_core.proofs.MarkedNames.{marked_exactly}

abbrev node : Term → Trees → Tree
node x ts = Node (head_of x.root) ts

term_grows : {h k : Names} → Grows h k → (n : ℕ) (x : Term) → IsTermOf h n x → IsTermOf k n x
term_grows {h} {k} g n x at = record {
  args = held_grow g x.args at.args;
  tree = g.each n (tree_over h (head_of x.root) x.args) at.tree ∙ ap (λ ts. Some (node x ts)) (sym (trees_grow g x.args at.args));
}

-- a Make
pub make_shows : (t : Table) (s : TermSet) → Shows t s → (caller number : ℕ) (h : Head) (args : List ℕ) (row : ℕ) → MayCreateIn t.slots h args → MayPut t.slots row (term_of h args)
    → IsStep (length t.slots) s (Make number h args row)
    × Shows (record { slots = set t.slots row (Some (term_of h args)); roots = t.roots }) (after s caller (Make number h args row))
make_shows t s sh caller number h args row may put = (
  step,
  record {
    sound = subst (λ (n : ℕ). IsSound n (after s caller (Make number h args row))) (sym (length-set t.slots row (Some (term_of h args))))
        (step_sound (length t.slots) s caller (Make number h args row) sh.sound step);
    free = λ n e. free n e (cases_eq n row);
    taken = λ n x e. taken n x e (cases_eq n row);
    roots = sh.roots;
  },
)
  where
    held : AllByRecursion (IsHeld s.held) args
    held = all_are_held t s sh args may.taken

    step : IsStep (length t.slots) s (Make number h args row)
    step = let new = new_pair t s sh row h args held put in (may_create t s sh h args may, put.below, new.0, new.1)

    grows : Grows s.held (with_pair s.held row (tree_over s.held h args))
    grows = grows_pair s.held row (tree_over s.held h args) step.2

    here : slot_at (set t.slots row (Some (term_of h args))) row ≡ Some (term_of h args)
    here = get_or-set_same t.slots row (Some (term_of h args)) None put.below

    other : (n : ℕ) → (n ≡ row → ⊥) → slot_at (set t.slots row (Some (term_of h args))) n ≡ slot_at t.slots n
    other n ne = get_or-set_other t.slots row n (Some (term_of h args)) None ne

    some_none : (o : Option Term) (x : Term) → o ≡ Some x → o ≡ None → ⊥
    some_none o x a b = cc

    free : (n : ℕ) → slot_at (set t.slots row (Some (term_of h args))) n ≡ None → (n ≡ row) ⊎ (n ≡ row → ⊥) → IsFree (with_pair s.held row (tree_over s.held h args)) n
    free n e (inl same) = absurd (some_none (slot_at (set t.slots row (Some (term_of h args))) n) (term_of h args) (ap (slot_at (set t.slots row (Some (term_of h args)))) same ∙ here) e)
    free n e (inr ne) = pair_other s.held row (tree_over s.held h args) n ne ∙ sh.free n (sym (other n ne) ∙ e)

    mine : IsTermOf (with_pair s.held row (tree_over s.held h args)) row (term_of h args)
    mine = record {
      args = held_grow grows args held;
      tree = pair_same s.held row (tree_over s.held h args) ∙ ap (λ (g : Head). Some (tree_over s.held g args)) (sym (head_root h))
          ∙ ap (λ ts. Some (node (term_of h args) ts)) (sym (trees_grow grows args held));
    }

    taken : (n : ℕ) (x : Term) → slot_at (set t.slots row (Some (term_of h args))) n ≡ Some x → (n ≡ row) ⊎ (n ≡ row → ⊥) → IsTermOf (with_pair s.held row (tree_over s.held h args)) n x
    taken n x e (inl same) =
        let is : term_of h args ≡ x = some_inside (term_of h args) x (sym here ∙ ap (slot_at (set t.slots row (Some (term_of h args)))) (sym same) ∙ e) in
        subst (λ (m : ℕ). IsTermOf (with_pair s.held row (tree_over s.held h args)) m x) (sym same) (subst (IsTermOf (with_pair s.held row (tree_over s.held h args)) row) is mine)
    taken n x e (inr ne) = term_grows grows n x (sh.taken n x (sym (other n ne) ∙ e))

pub make_needs : (t : Table) (s : TermSet) → Shows t s → (number : ℕ) (h : Head) (args : List ℕ) (row : ℕ) → IsStep (length t.slots) s (Make number h args row)
    → MayCreateIn t.slots h args × MayPut t.slots row (term_of h args)
make_needs t s sh number h args row step = (
  may_create_in t s sh h args step.0,
  record { below = step.1; free = free_slot t s sh row step.2; absent = λ n e. step.3 n (spelled t s sh n h args e) },
)

-- a Find
pub find_shows : (t : Table) (s : TermSet) → Shows t s → (seen : ℕ) (h : Head) (args : List ℕ) (row : ℕ)
    → (MayCreateIn t.slots h args × (slot_at t.slots row ≡ Some (term_of h args))) ↔ IsStep (length t.slots) s (Find seen h args row)
find_shows t s sh seen h args row = (
  (λ k. (may_create t s sh h args k.0, spelled t s sh row h args k.1)),
  (λ step. (may_create_in t s sh h args step.0, unspelled t s sh row h args step.0.names step.1)),
)

-- Roots
pub roots_show : (t : Table) (s : TermSet) → Shows t s → (caller seen : ℕ) (names : List ℕ) → caller < length t.roots → AllByRecursion (IsHeld s.held) names
    → Shows (record { slots = t.slots; roots = set t.roots caller names }) (after s caller (Roots seen names))
roots_show t s sh caller seen names less held = record {
  sound = step_sound (length t.slots) s caller (Roots seen names) sh.sound held;
  free = sh.free;
  taken = sh.taken;
  roots = λ d. go d (cases_eq d caller);
}
  where
    go : (d : ℕ) → (d ≡ caller) ⊎ (d ≡ caller → ⊥) → with_roots s.roots caller names d ≡ get_or (set t.roots caller names) d []
    go d (inl same) =
        cond-true (d == caller) names (s.roots d) (eq-eqb d caller same) ∙ sym (get_or-set_same t.roots caller names [] less)
        ∙ ap (λ (n : ℕ). get_or (set t.roots caller names) n []) (sym same)
    go d (inr ne) = cond-false (d == caller) names (s.roots d) (ne_eqb d caller ne) ∙ sh.roots d ∙ sym (get_or-set_other t.roots caller d names [] ne)

only_drops : (h : Names) (kept : List ℕ) (n : ℕ) → (Contains kept n → ⊥) → with_only h kept n ≡ None
only_drops h kept n out = cond-false (is_one_of kept n) (h n) None (none_of (is_one_of kept n) refl)
  where
    none_of : (b : Bool) → is_one_of kept n ≡ b → b ≡ false
    none_of true is = absurd (out (of_one kept n is))
    none_of false is = refl

-- what a kept name needs is kept
kept_term : (t : Table) (s : TermSet) → Shows t s → (kept : List ℕ) → IsStep (length t.slots) s (Collect 0 kept) → (n : ℕ) (x : Term) → Contains kept n → slot_at t.slots n ≡ Some x
    → IsTermOf (with_only s.held kept) n x
kept_term t s sh kept step n x c e = record {
  args = each_from (IsHeld (with_only s.held kept)) x.args (λ m k. let at = each_at (IsHeld s.held) x.args m term.args k in (at.0, same m k ∙ at.1));
  tree = only_holds s.held kept n c ∙ term.tree ∙ ap (λ ts. Some (node x ts)) (sym (trees_same x.args same));
}
  where
    term : IsTermOf s.held n x
    term = sh.taken n x e

    reached : IsReached s n
    reached = (step.1 n).0 c

    same : (m : ℕ) → Contains x.args m → with_only s.held kept m ≡ s.held m
    same m k = only_holds s.held kept m ((step.1 m).1 (argument_reached t s sh n x m e k reached))

    trees_same : (ns : List ℕ) → ((m : ℕ) → Contains ns m → with_only s.held kept m ≡ s.held m) → trees_at (with_only s.held kept) ns ≡ trees_at s.held ns
    trees_same [] f = refl
    trees_same (m ∷ ns) f =
        ap (λ (o : Option Tree). More (unwrap_or o (Leaf 0)) (trees_at (with_only s.held kept) ns)) (f m (contains_here m ns))
        ∙ ap (More (tree_at s.held m)) (trees_same ns (λ k d. f k (contains_there m ns k d)))

-- a Collect
pub collect_is_step : (t : Table) (s : TermSet) → Shows t s → (marks : List Bool) → MarksRoots t marks → (number : ℕ) (kept : List ℕ)
    → (kept ≡ marked_names 0 marks) ↔ IsStep (length t.slots) s (Collect number kept)
collect_is_step t s sh marks from number kept = (
  (λ same. let both = (marked_exactly kept marks).0 same in
      (both.0, λ n. ((λ c. marked_is_reached t s sh marks from n ((both.1 n).0 c)), (λ r. (both.1 n).1 (reached_is_marked t s sh marks from n r))))),
  (λ step. (marked_exactly kept marks).1
      (step.0, λ n. ((λ c. reached_is_marked t s sh marks from n ((step.1 n).0 c)), (λ on. (step.1 n).1 (marked_is_reached t s sh marks from n on))))),
)

pub collect_shows : (t new : Table) (s : TermSet) → Shows t s → (marks : List Bool) → MarksRoots t marks → (caller number : ℕ) (kept : List ℕ) → kept ≡ marked_names 0 marks
    → length new.slots ≡ length t.slots → ((n : ℕ) → slot_at new.slots n ≡ kept_if (is_marked marks n) (slot_at t.slots n)) → new.roots ≡ t.roots
    → Shows new (after s caller (Collect number kept))
collect_shows t new s sh marks from caller number kept same size slots roots = record {
  sound = subst (λ (n : ℕ). IsSound n (after s caller (Collect number kept))) (sym size) (step_sound (length t.slots) s caller (Collect number kept) sh.sound step);
  free = λ n e. free n (is_marked marks n) refl (sym (slots n) ∙ e);
  taken = λ n x e. taken n x (is_marked marks n) refl (sym (slots n) ∙ e);
  roots = λ d. sh.roots d ∙ ap (λ (r : List (List ℕ)). get_or r d []) (sym roots);
}
  where
    step : IsStep (length t.slots) s (Collect number kept)
    step = (collect_is_step t s sh marks from number kept).0 same

    exactly : (n : ℕ) → Contains kept n ↔ (is_marked marks n ≡ true)
    exactly = ((marked_exactly kept marks).0 same).1

    free : (n : ℕ) (b : Bool) → is_marked marks n ≡ b → kept_if b (slot_at t.slots n) ≡ None → IsFree (with_only s.held kept) n
    free n true on e = only_holds s.held kept n ((exactly n).1 on) ∙ sh.free n e
    free n false off e = only_drops s.held kept n (λ c. let on : is_marked marks n ≡ true = (exactly n).0 c in cc)

    taken : (n : ℕ) (x : Term) (b : Bool) → is_marked marks n ≡ b → kept_if b (slot_at t.slots n) ≡ Some x → IsTermOf (with_only s.held kept) n x
    taken n x false off e = cc
    taken n x true on e = kept_term t s sh kept step n x ((exactly n).1 on) e
