-- What follows of a pass's crowd.
use Rattle.std.proofs.Common.{◌≡◌, ℕ, suc, ◌+◌, ◌<◌, ◌≤◌, eqb, Bool, false, cond, Some, List, [], ◌∷◌, ◌++◌, length, drop, append-nil, refl, sym, ap, ◌∙◌, subst, ⊎_elim, arith, eq-eqb}
use Rattle.std.specs.Prelude.{Contains}
use mathlib.Core.Logic.{dite}
use native.Mathlib.Decide.{ℕ_discrete}
use Rattle.std.proofs.lemmas.Bool.{cases_lt}
use Rattle.std.proofs.lemmas.List.{length-append}
use Rattle.std.proofs.Math.Seq.{drop-append_seam}
use Rattle.term_model.specs.Tree.{Tree, list_of}
use Rattle.history_core.specs.declared.entry.Entry.{Entry}
use Rattle.history_core.specs.declared.entry.Entry.TheVariants.{Collect}
use Rattle.history_core.specs.Entry.{is_collect, after, IsAscending}
use Rattle.history_core.specs.TermSet.{Names, TermSet, Holds, IsHeld, empty, trees_at}
use Rattle.history_core.specs.Chronicle.{History, chronicle, left_by, part_of}
use Rattle.history_core.specs.Told.{told, kept_trees}
use Rattle.history_core.proofs.Members.{contains_here, contains_there, contains_none, contains_cases, each_at}
use Rattle.history_core.proofs.Sets.{pair_same, pair_other}
use Rattle.history_core.proofs.Sound.{pair_split, legal_is_sound}
use Rattle.store_model.specs.declared.view.Sizes.{Sizes}
use Rattle.store_model.specs.declared.view.View.{View}
use Rattle.store_model.specs.Machine.{Each}
use Rattle.store_model.specs.Steps.{IsAtRest}
use Rattle.store_model.specs.Laws.{held_by}
use Rattle.store_model.proofs.Basics.{choose, eqb_is}
use Rattle.store_model.proofs.Eight.{inductive}
use Rattle.node_rows.specs.declared.view.NodeView.{NodeView}
use Rattle.node_rows.specs.Collecting.{ended_by, IsKept}
use Rattle.node_rows.specs.Crowding.{kept_after, kept_from, kept_in, IsSwept, pairs_of, HasCrowd, swept, FullIsCrowded, AbsentIsNotCrowded, PairsAreKept, CrowdAtItsPlace}
use Rattle.node_rows.specs.CrowdsKept.{ends_snoc, kept_plain, plain_keeps, told_parts, trees_many, part_join}
use Rattle.node_rows.specs.Knowing.{KnowsTree}
use Rattle.node_rows.proofs.Named.{known_held}

-- the pairs of names with trees
pub pairs_are_kept : PairsAreKept
pairs_are_kept [] ts r t h = absurd (cc)
pairs_are_kept (n ∷ ns) [] r t h = absurd (cc)
pairs_are_kept (n ∷ ns) (u ∷ ts) r t h = ⊎_elim
    (λ (same : (r ≡ n) × (u ≡ t)). (subst (Contains (n ∷ ns)) (sym same.0) (contains_here n ns), subst (Contains (u ∷ ts)) same.1 (contains_here u ts)))
    (λ on. let k = pairs_are_kept ns ts r t on in (contains_there n ns r k.0, contains_there u ts t k.1))
    (pair_split (pairs_of ns ts) n u r t h)

name_tree : (ns : List ℕ) (ts : List Tree) → length ts ≡ length ns → (r : ℕ) → Contains ns r → IsHeld (pairs_of ns ts) r
name_tree [] ts many r has = absurd (contains_none r has)
name_tree (n ∷ ns) [] many r has = absurd (let e : 0 ≡ suc (length ns) = many in omega arith)
name_tree (n ∷ ns) (t ∷ ts) many r has = dite (ℕ_discrete r n)
    (λ e. (t, subst (λ (m : ℕ). Holds (pairs_of (n ∷ ns) (t ∷ ts)) m t) (sym e) (pair_same (pairs_of ns ts) n t)))
    (λ ne. ⊎_elim (λ (e : n ≡ r). absurd (ne (sym e)))
    (λ on. let k = name_tree ns ts (let e : suc (length ts) ≡ suc (length ns) = many in omega arith) r on in (k.0, pair_other (pairs_of ns ts) n t r ne ∙ k.1))
    (contains_cases n ns r has))

pair_tree : (ns : List ℕ) (ts : List Tree) → IsAscending ns → length ts ≡ length ns → (t : Tree) → Contains ts t → (r : ℕ) × Contains ns r × Holds (pairs_of ns ts) r t
pair_tree ns [] up many t has = absurd (contains_none t has)
pair_tree [] (u ∷ ts) up many t has = absurd (let e : suc (length ts) ≡ 0 = many in omega arith)
pair_tree (n ∷ ns) (u ∷ ts) up many t has = ⊎_elim
    (λ (same : u ≡ t). (n, contains_here n ns, pair_same (pairs_of ns ts) n u ∙ ap Some same))
    (λ on.
    let k = pair_tree ns ts up.1 (let e : suc (length ts) ≡ suc (length ns) = many in omega arith) t on in
    let above : n < k.0 = each_at (λ m. n < m) ns k.0 up.0 k.1 in
    (k.0, contains_there n ns k.0 k.1, pair_other (pairs_of ns ts) n u k.0 (λ e. omega arith) ∙ k.2))
    (contains_cases u ts t has)

-- ascending numbers that are all those from a to b
all_between : (ns : List ℕ) (a b : ℕ) → IsAscending ns → a ≤ b → ((r : ℕ) → Contains ns r → (a ≤ r) × (r < b)) → ((r : ℕ) → a ≤ r → r < b → Contains ns r) → length ns + a ≡ b
all_between [] a b up l only all = ⊎_elim (λ less. absurd (contains_none a (all a (omega arith) less))) (λ past. omega arith) (cases_lt a b)
all_between (n ∷ ns) a b up l only all =
    let here = only n (contains_here n ns) in
    let first : n ≡ a = ⊎_elim (λ e. e) (λ on. absurd (let above = each_at (λ m. n < m) ns a up.0 on in let low = here.0 in omega arith)) (contains_cases n ns a (all a (omega arith) (let low = here.0 in let high = here.1 in omega arith))) in
    let rest : length ns + suc a ≡ b = all_between ns (suc a) b up.1 (let high = here.1 in omega arith)
    (λ r c. ((let above = each_at (λ m. n < m) ns r up.0 c in omega arith), (only r (contains_there n ns r c)).1))
    (λ r low high. ⊎_elim (λ (e : n ≡ r). absurd (omega arith)) (λ on. on) (contains_cases n ns r (all r (omega arith) high))) in
    omega arith

module _ (z : Sizes) (i : ℕ) (v : NodeView) (h : HasCrowd z i v) (s : IsSwept v.store) where
  abbrev names : List ℕ
  names = kept_in v.store.entries

  held_is : held_by z h.store.view ≡ pairs_of names v.crowd
  held_is = h.held s

  name_below : (r : ℕ) (t : Tree) → Holds (pairs_of names v.crowd) r t → r < z.rows
  name_below r t k = (legal_is_sound z.rows _ h.holds.history.legal).below r t (ap (λ (f : Names). f r) held_is ∙ k)

  pub full_crowd : ((r : ℕ) → r < z.rows → IsHeld (held_by z h.store.view) r) → length names ≡ z.rows
  full_crowd all =
      let has : (r : ℕ) → r < z.rows → Contains names r = (λ r l. let k = all r l in (pairs_are_kept names v.crowd r k.0 (sym (ap (λ (f : Names). f r) held_is) ∙ k.1)).0) in
      let e : length names + 0 ≡ z.rows = all_between names 0 z.rows h.crowd.names (omega arith)
      (λ r c. (omega arith, (let t = name_tree names v.crowd h.crowd.many r c in name_below r t.0 t.1)))
      (λ r _ l. has r l) in
      omega arith

  pub absent_crowd : (t : Tree) → ((n : ℕ) → Holds (held_by z h.store.view) n t → ⊥) → Contains v.crowd t → ⊥
  absent_crowd t lacks c = let k = pair_tree names v.crowd h.crowd.names h.crowd.many t c in lacks k.0 (ap (λ (f : Names). f k.0) held_is ∙ k.2)

pub full_is_crowded : (z : Sizes) → FullIsCrowded z
full_is_crowded z i v h s all = h.crowd.differ ∙ (h.crowd.many ∙ full_crowd z i v h s all)

pub absent_is_not_crowded : (z : Sizes) → AbsentIsNotCrowded z
absent_is_not_crowded z i v h s t lacks c = absent_crowd z i v h s t lacks c

-- where a caller has no Collect
pub told_none_by : (i : ℕ) (s : TermSet) (l : History) → Each (λ (y : ℕ × Entry). y.0 ≡ i → is_collect y.1 ≡ false) l → told kept_trees i s l ≡ []
told_none_by i s [] h = refl
told_none_by i s (y ∷ l) h =
    let next : TermSet = after s y.0 y.1 in
    choose (λ (ts : List Tree). ts ++ told kept_trees i next l ≡ []) (eqb y.0 i) (kept_trees s.held y.1) []
    (λ own. ap (λ (ts : List Tree). ts ++ told kept_trees i next l) (plain_keeps s.held y.1 (h.0 (eqb_is y.0 i own))) ∙ told_none_by i next l h.1)
    (λ _. told_none_by i next l h.1)

kept_none_by : (i : ℕ) (l : History) → Each (λ (y : ℕ × Entry). y.0 ≡ i → is_collect y.1 ≡ false) l → (ns : List ℕ) → kept_from ns (part_of i l) ≡ ns
kept_none_by i [] h ns = refl
kept_none_by i (y ∷ l) h ns = choose (λ (es : List Entry). kept_from ns es ≡ ns) (eqb y.0 i) (y.1 ∷ part_of i l) (part_of i l)
    (λ own. ap (λ (ms : List ℕ). kept_from ms (part_of i l)) (kept_plain ns y.1 (h.0 (eqb_is y.0 i own))) ∙ kept_none_by i l h.1 ns)
    (λ _. kept_none_by i l h.1 ns)

kept_join : (ns : List ℕ) (xs ys : List Entry) → kept_from ns (xs ++ ys) ≡ kept_from (kept_from ns xs) ys
kept_join ns [] ys = refl
kept_join ns (x ∷ xs) ys = kept_join (kept_after ns x) xs ys

-- two lists end in parts of one length
same_end : (a b x y : List Tree) → a ++ x ≡ b ++ y → length x ≡ length y → x ≡ y
same_end a b x y e l =
    let lengths : length a + length x ≡ length b + length y = sym (length-append a x) ∙ (ap (λ (ts : List Tree). length ts) e ∙ length-append b y) in
    let n : length a ≡ length b = omega arith in
    sym (drop-append_seam a x) ∙ (ap (drop (length a)) e ∙ (ap (λ (k : ℕ). drop k (b ++ y)) n ∙ drop-append_seam b y))

pub crowd_at_its_place : CrowdAtItsPlace
crowd_at_its_place lists i es crowd c p =
    let e : Entry = Collect p.number p.kept in
    let there : TermSet = left_by empty p.before in
    let now : List Tree = list_of (trees_at there.held p.kept) in
    let before : List Tree = told kept_trees i empty p.before in
    let on : History = (i, e) ∷ p.rest in
    let own : cond (eqb i i) now [] ≡ now = ap (λ (b : Bool). cond b now []) (eq-eqb i i refl) in
    let after_it : told kept_trees i (after there i e) p.rest ≡ [] = told_none_by i (after there i e) p.rest p.last in
    let trees : told kept_trees i empty (chronicle lists) ≡ before ++ now =
    ap (told kept_trees i empty) p.is ∙ (told_parts i empty p.before on
    ∙ (ap (λ (ts : List Tree). before ++ (cond (eqb i i) now [] ++ ts)) after_it ∙ ap (λ (ts : List Tree). before ++ ts) (append-nil (cond (eqb i i) now []) ∙ own))) in
    let part : part_of i on ≡ e ∷ part_of i p.rest = ap (λ (b : Bool). cond b (e ∷ part_of i p.rest) (part_of i p.rest)) (eq-eqb i i refl) in
    let names : kept_in (part_of i (chronicle lists)) ≡ p.kept =
    ap (λ (l : History). kept_in (part_of i l)) p.is ∙ (ap kept_in (part_join i p.before on ∙ ap (λ (ds : List Entry). part_of i p.before ++ ds) part)
    ∙ (kept_join [] (part_of i p.before) (e ∷ part_of i p.rest) ∙ kept_none_by i p.rest p.last p.kept)) in
    let long : length crowd ≡ length now = c.many ∙ (ap (λ (ns : List ℕ). length ns) (sym c.noted ∙ names) ∙ sym (trees_many there.held p.kept)) in
    same_end c.told.before before crowd now (sym c.told.is ∙ trees) long

-- at the end of a collection the pass's trees are those of the names kept
pub ended_kept : (z : Sizes) (i : ℕ) (v w : NodeView) → HasCrowd z i w → w ≡ swept v (ended_by z v.store) w.crowd → IsKept (kept_in w.store.entries) w.store.knows w.crowd
ended_kept z i v w h is =
    let store : w.store ≡ ended_by z v.store = ap (λ (u : NodeView). u.store) is in
    let rest : IsAtRest w.store = subst IsAtRest (sym store) record { call = refl; stay = refl } in
    let s : IsSwept w.store = subst IsSwept (sym store) record { fresh = refl; last = ends_snoc _ v.store.entries _ } in
    record {
      many = h.crowd.many;
      differ = h.crowd.differ;
      trees = λ r t k. sym (ap (λ (f : Names). f r) (h.held s)) ∙ known_held z h.store i (inductive z h.store h.holds) (subst IsAtRest (sym h.own) rest) r t (subst (λ (u : View). KnowsTree u.knows r t) (sym h.own) k);
    }
