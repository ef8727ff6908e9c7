-- The law of insertion, and what the callers' lists need for it.
use Rattle.std.proofs.Common.{◌≡◌, ℕ, true, false, Some, List, [], ◌∷◌, ◌++◌, append-nil, refl, sym, ap, ◌∙◌, subst}
use Rattle.std.specs.Prelude.{Contains}
use Rattle.std.specs.List.{AllByRecursion}
use Rattle.std.proofs.lemmas.Bool.{false_from_ne_true, both_ways}
use Rattle.term_model.specs.Tree.{Node, Trees, may_stand_over}
use Rattle.history_core.specs.TermSet.{TermSet, empty, IsHeld, Lacks, tree_over, trees_at}
use Rattle.history_core.specs.Entry.{Entry, Make, Find, Roots, Collect, is_collect, is_roots, needed, Made, IsStep, after}
use Rattle.history_core.specs.Chronicle.{History, precedes, put, earlier, later, chronicle, noted, entries_of, Legal, IsLegal, left_by, set_of, NoCollect, NotMade, NoRoots, MayNote, MayCollect}
use Rattle.history_core.specs.Laws.{IsNew}
use Rattle.history_core.proofs.Members.{contains_here, each_from}
use Rattle.history_core.proofs.Sets.{free_before, lacks_before, trees_grow, tree_grows}
use Rattle.history_core.proofs.Merge.{parts, put_between, noting_puts_in}
use Rattle.history_core.proofs.Chronicles.{later_goes_after, later_is_part, noted_from_has, own_goes_before}
use Rattle.history_core.proofs.Growing.{Adds, legal_parts, legal_both, left_parts, history_grows, history_leaves}
use Rattle.history_core.proofs.Inserted.{paired, history_beside_pair, history_with_roots, history_keeps_roots, history_replaces_roots, Unrooted}

-- After an entry that is a step the history is as legal as it was before.
legal_after : (rows : ℕ) (s : TermSet) (caller : ℕ) (e : Entry) (l : History) → Legal rows s l → Adds l → is_collect e ≡ false → IsNew s.held (left_by s l).held e
    → Legal rows (after s caller e) l
legal_after rows s caller (Make number head args row) l legal adds kind new =
    (history_beside_pair rows s row (tree_over s.held head args) l legal adds new.0 new.1).0
legal_after rows s caller (Find seen head args row) l legal adds kind new = legal
legal_after rows s caller (Roots seen names) l legal adds kind new = history_with_roots rows s _ l legal adds
legal_after rows s caller (Collect number kept) l legal adds kind new = cc

left_after : (rows : ℕ) (s : TermSet) (caller : ℕ) (e : Entry) (l : History) → Legal rows s l → Adds l → is_collect e ≡ false → IsStep rows s e
    → IsNew s.held (left_by s l).held e → (is_roots e ≡ true → Unrooted caller l) → left_by (after s caller e) l ≡ after (left_by s l) caller e
left_after rows s caller (Make number head args row) l legal adds kind step new apart =
    (history_beside_pair rows s row (tree_over s.held head args) l legal adds new.0 new.1).1
    ∙ ap (paired (left_by s l) row) (sym (tree_grows (history_grows rows s l legal adds) head args step.0))
left_after rows s caller (Find seen head args row) l legal adds kind step new apart = refl
left_after rows s caller (Roots seen names) l legal adds kind step new apart = history_keeps_roots s caller names l (apart refl)
left_after rows s caller (Collect number kept) l legal adds kind step new apart = cc

pub adds_from : (l : History) → NoCollect l → Adds l
adds_from l none = each_from (λ y. is_collect y.1 ≡ false) l none

pub legal_before : (rows : ℕ) (l : History) (x : ℕ × Entry) → IsLegal rows l → Legal rows empty (earlier x l) × Legal rows (set_of (earlier x l)) (later x l)
legal_before rows l x legal = legal_parts rows empty (earlier x l) (later x l) (subst (Legal rows empty) (sym (parts x l)) legal)

pub left_whole : (l : History) (x : ℕ × Entry) → left_by (set_of (earlier x l)) (later x l) ≡ set_of l
left_whole l x = sym (left_parts empty (earlier x l) (later x l)) ∙ ap set_of (parts x l)

pub insertion : (rows : ℕ) (l : History) (x : ℕ × Entry) → IsLegal rows l → is_collect x.1 ≡ false → NoCollect (later x l)
    → IsStep rows (set_of (earlier x l)) x.1 → IsNew (set_of (earlier x l)).held (set_of l).held x.1 → IsLegal rows (put x l)
insertion rows l x legal kind none step new =
    let ps = legal_before rows l x legal in
    let fresh = subst (λ z. IsNew (set_of (earlier x l)).held z.held x.1) (sym (left_whole l x)) new in
    subst (Legal rows empty) (sym (put_between x l)) (legal_both rows empty (earlier x l) (x ∷ later x l) ps.0
    (step, legal_after rows (set_of (earlier x l)) x.0 x.1 (later x l) ps.1 (adds_from (later x l) none) kind fresh))

pub insertion_leaves : (rows : ℕ) (l : History) (x : ℕ × Entry) → IsLegal rows l → is_collect x.1 ≡ false → NoCollect (later x l)
    → IsStep rows (set_of (earlier x l)) x.1 → IsNew (set_of (earlier x l)).held (set_of l).held x.1 → (is_roots x.1 ≡ true → NoRoots x.0 (later x l))
    → set_of (put x l) ≡ after (set_of l) x.0 x.1
insertion_leaves rows l x legal kind none step new apart =
    let ps = legal_before rows l x legal in
    let fresh = subst (λ z. IsNew (set_of (earlier x l)).held z.held x.1) (sym (left_whole l x)) new in
    ap set_of (put_between x l) ∙ left_parts empty (earlier x l) (x ∷ later x l)
    ∙ left_after rows (set_of (earlier x l)) x.0 x.1 (later x l) ps.1 (adds_from (later x l) none) kind step fresh
    (λ h. each_from (λ y. y.0 ≡ x.0 → is_roots y.1 ≡ false) (later x l) (apart h))
    ∙ ap (λ z. after z x.0 x.1) (left_whole l x)

-- where a later entry is Roots of the same caller, Roots put in leave the set as it was
pub later_roots_win : (l : History) (caller seen : ℕ) (names : List ℕ) (later_seen : ℕ) (later_names : List ℕ) → Contains (later (caller, Roots seen names) l) (caller, Roots later_seen later_names)
    → set_of (put (caller, Roots seen names) l) ≡ set_of l
later_roots_win l caller seen names later_seen later_names c =
    let x : ℕ × Entry = (caller, Roots seen names) in
    ap set_of (put_between x l) ∙ left_parts empty (earlier x l) (x ∷ later x l)
    ∙ history_replaces_roots (set_of (earlier x l)) caller names (later x l) later_seen later_names c
    ∙ left_whole l x

names_before : (s : TermSet) (l : History) (ns : List ℕ) → Adds l → AllByRecursion (λ n. NotMade n l) ns → AllByRecursion (IsHeld (left_by s l).held) ns
    → AllByRecursion (IsHeld s.held) ns
names_before s l [] adds old held = tt
names_before s l (n ∷ ns) adds old held = (
  (held.0.0, sym (history_leaves s l n adds (each_from (λ y. Made y.1 n → ⊥) l old.0)) ∙ held.0.1),
  names_before s l ns adds old.1 held.1,
)

-- A step of the set left is a step of the set before, where no Make between them gave a name that
-- it needs.
pub step_before : (rows : ℕ) (s : TermSet) (e : Entry) (l : History) → Legal rows s l → Adds l → is_collect e ≡ false → AllByRecursion (λ n. NotMade n l) (needed e)
    → IsStep rows (left_by s l) e → IsStep rows s e × IsNew s.held (left_by s l).held e
step_before rows s (Make number head args row) l legal adds kind old step =
    let grows = history_grows rows s l legal adds in
    let names = names_before s l args adds old step.0.names in
    let same : trees_at (left_by s l).held args ≡ trees_at s.held args = trees_grow grows args names in
    let lacks : Lacks (left_by s l).held (tree_over s.held head args) = subst (λ ts. Lacks (left_by s l).held (Node head ts)) same step.3 in
    ((record { names = names; formed = ap (may_stand_over head) (sym same) ∙ step.0.formed }, step.1, free_before grows row step.2, lacks_before grows _ lacks), (step.2, lacks))
step_before rows s (Find seen head args row) l legal adds kind old step =
    let grows = history_grows rows s l legal adds in
    let names = names_before s l args adds old.1 step.0.names in
    let same : trees_at (left_by s l).held args ≡ trees_at s.held args = trees_grow grows args names in
    let held : (left_by s l).held row ≡ s.held row = history_leaves s l row adds (each_from (λ y. Made y.1 row → ⊥) l old.0) in
    ((record { names = names; formed = ap (may_stand_over head) (sym same) ∙ step.0.formed }, sym held ∙ step.1 ∙ ap (λ (ts : Trees). Some (Node head ts)) same), tt)
step_before rows s (Roots seen names) l legal adds kind old step = (names_before s l names adds old step, tt)
step_before rows s (Collect number kept) l legal adds kind old step = cc

-- An entry that is a step of the set left may be put in, where no Make after its place gave a name
-- that it needs.
pub inserted : (rows : ℕ) (l : History) (x : ℕ × Entry) → IsLegal rows l → is_collect x.1 ≡ false → NoCollect (later x l)
    → ((n : ℕ) → Contains (needed x.1) n → NotMade n (later x l)) → IsStep rows (set_of l) x.1 → (is_roots x.1 ≡ true → NoRoots x.0 (later x l))
    → IsLegal rows (put x l) × (set_of (put x l) ≡ after (set_of l) x.0 x.1)
inserted rows l x legal kind none old step apart =
    let ps = legal_before rows l x legal in
    let there = step_before rows (set_of (earlier x l)) x.1 (later x l) ps.1 (adds_from (later x l) none) kind
    (each_from (λ n. NotMade n (later x l)) (needed x.1) old) (subst (λ z. IsStep rows z x.1) (sym (left_whole l x)) step) in
    let new = subst (λ z. IsNew (set_of (earlier x l)).held z.held x.1) (left_whole l x) there.1 in
    (insertion rows l x legal kind none there.0 new, insertion_leaves rows l x legal kind none there.0 new apart)

-- what stands after the place of an entry that may be noted: no Collect, no Make of a name that it
-- needs, and no entry of its caller
pub no_collect_later : (rows : ℕ) (lists : List (List Entry)) (caller : ℕ) (e : Entry) → MayNote rows lists caller e → NoCollect (later (caller, e) (chronicle lists))
no_collect_later rows lists caller e may y c =
    false_from_ne_true (is_collect y.1) (λ h. both_ways (precedes (caller, e) y)
    (may.collects y (noted_from_has lists y (later_is_part (caller, e) (chronicle lists) y c)) h) (later_goes_after lists (caller, e) y c))

pub not_made_later : (rows : ℕ) (lists : List (List Entry)) (caller : ℕ) (e : Entry) → MayNote rows lists caller e → (n : ℕ) → Contains (needed e) n → NotMade n (later (caller, e) (chronicle lists))
not_made_later rows lists caller e may n d y c made =
    both_ways (precedes (caller, e) y) (may.names n y d (noted_from_has lists y (later_is_part (caller, e) (chronicle lists) y c)) made) (later_goes_after lists (caller, e) y c)

pub none_own_later : (rows : ℕ) (lists : List (List Entry)) (caller : ℕ) (e : Entry) → MayNote rows lists caller e
    → (y : ℕ × Entry) → Contains (later (caller, e) (chronicle lists)) y → y.0 ≡ caller → ⊥
none_own_later rows lists caller e may y c same =
    let noted_y = noted_from_has lists y (later_is_part (caller, e) (chronicle lists) y c) in
    let own : Contains (entries_of lists caller) y.1 = subst (λ (k : ℕ). Contains (entries_of lists k) y.1) same noted_y.own in
    let whole : (caller, y.1) ≡ y = (λ i. (sym same i, y.1)) in
    both_ways (precedes (caller, e) y) (subst (λ z. precedes (caller, e) z ≡ false) whole (own_goes_before caller y.1 e (may.own y.1 own)))
    (later_goes_after lists (caller, e) y c)

pub noting_keeps : (rows : ℕ) (lists : List (List Entry)) (caller : ℕ) (e : Entry) → IsLegal rows (chronicle lists) → MayNote rows lists caller e
    → IsLegal rows (chronicle (noted lists caller e)) × (set_of (chronicle (noted lists caller e)) ≡ after (set_of (chronicle lists)) caller e)
noting_keeps rows lists caller e legal may =
    subst (λ m. IsLegal rows m × (set_of m ≡ after (set_of (chronicle lists)) caller e)) (sym (noting_puts_in lists caller e may.present))
    (inserted rows (chronicle lists) (caller, e) legal may.kind (no_collect_later rows lists caller e may) (not_made_later rows lists caller e may) may.step
    (λ _ y c same. absurd (none_own_later rows lists caller e may y c same)))

nothing : (l : History) → ((y : ℕ × Entry) → Contains l y → ⊥) → l ≡ []
nothing [] none = refl
nothing (y ∷ l) none = absurd (none y (contains_here y l))

-- an entry after all others is put in at the end
pub put_last : (x : ℕ × Entry) (l : History) → later x l ≡ [] → put x l ≡ l ++ x ∷ []
put_last x l none =
    let before : earlier x l ≡ l = sym (append-nil (earlier x l)) ∙ ap (λ m. earlier x l ++ m) (sym none) ∙ parts x l in
    put_between x l ∙ ap (λ m. earlier x l ++ x ∷ m) none ∙ ap (λ m. m ++ x ∷ []) before

pub appended : (rows : ℕ) (l : History) (x : ℕ × Entry) → IsLegal rows l → IsStep rows (set_of l) x.1
    → IsLegal rows (l ++ x ∷ []) × (set_of (l ++ x ∷ []) ≡ after (set_of l) x.0 x.1)
appended rows l x legal step = (legal_both rows empty l (x ∷ []) legal (step, tt), left_parts empty l (x ∷ []))

pub collecting_appends : (rows : ℕ) (lists : List (List Entry)) (caller : ℕ) (e : Entry) → MayCollect rows lists caller e → chronicle (noted lists caller e) ≡ chronicle lists ++ (caller, e) ∷ []
collecting_appends rows lists caller e may =
    noting_puts_in lists caller e may.present ∙ put_last (caller, e) (chronicle lists) (nothing (later (caller, e) (chronicle lists)) (λ y c.
    both_ways (precedes (caller, e) y) (may.last y (noted_from_has lists y (later_is_part (caller, e) (chronicle lists) y c))) (later_goes_after lists (caller, e) y c)))

pub collecting_keeps : (rows : ℕ) (lists : List (List Entry)) (caller : ℕ) (e : Entry) → IsLegal rows (chronicle lists) → MayCollect rows lists caller e
    → IsLegal rows (chronicle (noted lists caller e)) × (set_of (chronicle (noted lists caller e)) ≡ after (set_of (chronicle lists)) caller e)
collecting_keeps rows lists caller e legal may =
    subst (λ m. IsLegal rows m × (set_of m ≡ after (set_of (chronicle lists)) caller e)) (sym (collecting_appends rows lists caller e may))
    (appended rows (chronicle lists) (caller, e) legal may.step)
