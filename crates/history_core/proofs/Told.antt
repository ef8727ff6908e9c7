-- What the entries of a caller tell stays as it was when an entry is put in.
use Rattle.std.proofs.Common.{◌≡◌, ℕ, Bool, true, false, List, [], ◌∷◌, ◌++◌, append_assoc, append-nil, refl, sym, ap, ◌∙◌, subst}
use Rattle.std.specs.Prelude.{◌==◌, if◌then◌else◌}
use Rattle.std.specs.List.{AllByRecursion}
use Rattle.std.proofs.lemmas.Bool.{cond-false, ne_eqb, eqb-true}
use Rattle.term_model.specs.Tree.{Tree, Node, list_of}
use Rattle.history_core.specs.TermSet.{Names, RootNames, TermSet, empty, IsHeld, IsFree, Lacks, tree_over}
use Rattle.history_core.specs.Entry.{Entry, Make, Find, Roots, Collect, is_collect, needed, IsStep, after}
use Rattle.history_core.specs.Chronicle.{History, earlier, later, chronicle, noted, Legal, IsLegal, left_by, set_of, MayNote, MayCollect}
use Rattle.history_core.specs.Laws.{IsNew}
use Rattle.history_core.specs.Told.{told, TellsNeeded, named, rooted_trees, kept_trees}
use Rattle.history_core.proofs.Members.{each_from}
use Rattle.history_core.proofs.Sets.{grows_pair, free_before, trees_grow}
use Rattle.history_core.proofs.Merge.{parts, put_between, noting_puts_in}
use Rattle.history_core.proofs.Growing.{Adds, step_grows, history_grows}
use Rattle.history_core.proofs.Inserted.{paired, rooted, step_beside_pair, after_with_roots}
use Rattle.history_core.proofs.Insertion.{adds_from, legal_before, left_whole, step_before, no_collect_later, not_made_later, none_own_later, collecting_appends}

told_parts : (f : Names → Entry → List Tree) (caller : ℕ) (s : TermSet) (xs ys : History) → told f caller s (xs ++ ys) ≡ told f caller s xs ++ told f caller (left_by s xs) ys
told_parts f caller s [] ys = refl
told_parts f caller s (x ∷ xs) ys =
    let here : List Tree = (if x.0 == caller then f s.held x.1 else []) in
    ap (λ ts. here ++ ts) (told_parts f caller (after s x.0 x.1) xs ys)
    ∙ sym (append_assoc here (told f caller (after s x.0 x.1) xs) (told f caller (left_by (after s x.0 x.1) xs) ys))

needed_held : (rows : ℕ) (s : TermSet) (e : Entry) → IsStep rows s e → AllByRecursion (IsHeld s.held) (needed e)
needed_held rows s (Make number head args row) step = step.0.names
needed_held rows s (Find seen head args row) step = ((tree_over s.held head args, step.1), step.0.names)
needed_held rows s (Roots seen names) step = step
needed_held rows s (Collect number kept) step = tt

told_beside_pair : (rows : ℕ) (f : Names → Entry → List Tree) → TellsNeeded f → (caller : ℕ) (s : TermSet) (n : ℕ) (t : Tree) (l : History)
    → Legal rows s l → Adds l → IsFree (left_by s l).held n → Lacks (left_by s l).held t → told f caller (paired s n t) l ≡ told f caller s l
told_beside_pair rows f tells caller s n t [] legal adds free lacks = refl
told_beside_pair rows f tells caller s n t (y ∷ l) legal adds free lacks =
    let next : TermSet = after s y.0 y.1 in
    let now = step_grows rows s y.0 y.1 legal.0 adds.0 in
    let then_on = history_grows rows next l legal.1 adds.1 in
    let step = step_beside_pair rows s (left_by next l).held n t y.0 y.1 legal.0 adds.0 now then_on free lacks in
    let grows = grows_pair s.held n t (free_before now n (free_before then_on n free)) in
    let same : f (paired s n t).held y.1 ≡ f s.held y.1 = tells s.held (paired s n t).held y.1 adds.0 grows.each (needed_held rows s y.1 legal.0) in
    ap (λ ts. (if y.0 == caller then ts else []) ++ told f caller (after (paired s n t) y.0 y.1) l) same
    ∙ ap (λ ts. (if y.0 == caller then f s.held y.1 else []) ++ ts)
    (ap (λ z. told f caller z l) step.1 ∙ told_beside_pair rows f tells caller next n t l legal.1 adds.1 free lacks)

told_with_roots : (f : Names → Entry → List Tree) (caller : ℕ) (s : TermSet) (r : RootNames) (l : History) → told f caller (rooted s r) l ≡ told f caller s l
told_with_roots f caller s r [] = refl
told_with_roots f caller s r (y ∷ l) =
    ap (λ ts. (if y.0 == caller then f s.held y.1 else []) ++ ts)
    (ap (λ z. told f caller z l) (after_with_roots s r y.0 y.1) ∙ told_with_roots f caller (after s y.0 y.1) (after (rooted s r) y.0 y.1).roots l)

told_after : (rows : ℕ) (f : Names → Entry → List Tree) → TellsNeeded f → (caller : ℕ) (s : TermSet) (by : ℕ) (e : Entry) (l : History)
    → Legal rows s l → Adds l → is_collect e ≡ false → IsNew s.held (left_by s l).held e → told f caller (after s by e) l ≡ told f caller s l
told_after rows f tells caller s by (Make number head args row) l legal adds kind new =
    told_beside_pair rows f tells caller s row (tree_over s.held head args) l legal adds new.0 new.1
told_after rows f tells caller s by (Find seen head args row) l legal adds kind new = refl
told_after rows f tells caller s by (Roots seen names) l legal adds kind new = told_with_roots f caller s _ l
told_after rows f tells caller s by (Collect number kept) l legal adds kind new = cc

told_by_none : (f : Names → Entry → List Tree) (caller : ℕ) (s : TermSet) (l : History) → AllByRecursion (λ (y : ℕ × Entry). y.0 ≡ caller → ⊥) l → told f caller s l ≡ []
told_by_none f caller s [] none = refl
told_by_none f caller s (y ∷ l) none =
    ap (λ ts. ts ++ told f caller (after s y.0 y.1) l) (cond-false (y.0 == caller) (f s.held y.1) [] (ne_eqb y.0 caller none.0))
    ∙ told_by_none f caller (after s y.0 y.1) l none.1

at_end : (b : Bool) (before late here now : List Tree) → here ≡ now → (b ≡ true → late ≡ []) → before ++ ((if b then here else []) ++ late) ≡ (before ++ late) ++ (if b then now else [])
at_end true before late here now same none =
    ap (λ ts. before ++ (here ++ ts)) (none refl) ∙ ap (λ ts. before ++ ts) (append-nil here) ∙ ap (λ ts. before ++ ts) same
    ∙ ap (λ ts. ts ++ now) (sym (append-nil before)) ∙ ap (λ ts. (before ++ ts) ++ now) (sym (none refl))
at_end false before late here now same none = sym (append-nil (before ++ late))

pub noting_tells : (rows : ℕ) (lists : List (List Entry)) (caller : ℕ) (e : Entry) → IsLegal rows (chronicle lists) → MayNote rows lists caller e
    → (f : Names → Entry → List Tree) → TellsNeeded f → (other : ℕ)
    → told f other empty (chronicle (noted lists caller e)) ≡ told f other empty (chronicle lists) ++ (if caller == other then f (set_of (chronicle lists)).held e else [])
noting_tells rows lists caller e legal may f tells other =
    ap (told f other empty) (noting_puts_in lists caller e may.present ∙ put_between x l)
    ∙ told_parts f other empty (earlier x l) (x ∷ later x l)
    ∙ ap (λ ts. told f other empty (earlier x l) ++ ((if caller == other then f there.held e else []) ++ ts))
    (told_after rows f tells other there caller e (later x l) ps.1 adds may.kind step.1)
    ∙ at_end (caller == other) (told f other empty (earlier x l)) (told f other there (later x l)) (f there.held e) (f (set_of l).held e) same none
    ∙ ap (λ ts. ts ++ (if caller == other then f (set_of l).held e else [])) (sym (told_parts f other empty (earlier x l) (later x l)) ∙ ap (told f other empty) (parts x l))
  where
    l : History
    l = chronicle lists

    x : ℕ × Entry
    x = (caller, e)

    there : TermSet
    there = set_of (earlier x l)

    ps : Legal rows empty (earlier x l) × Legal rows there (later x l)
    ps = legal_before rows l x legal

    adds : Adds (later x l)
    adds = adds_from (later x l) (no_collect_later rows lists caller e may)

    step : IsStep rows there e × IsNew there.held (left_by there (later x l)).held e
    step = step_before rows there e (later x l) ps.1 adds may.kind (each_from _ (needed e) (not_made_later rows lists caller e may))
        (subst (λ z. IsStep rows z e) (sym (left_whole l x)) may.step)

    same : f there.held e ≡ f (set_of l).held e
    same = sym (ap (λ (z : TermSet). f z.held e) (sym (left_whole l x))
        ∙ tells there.held (left_by there (later x l)).held e may.kind (history_grows rows there (later x l) ps.1 adds).each (needed_held rows there e step.0))

    none : (caller == other) ≡ true → told f other there (later x l) ≡ []
    none h = ap (λ (c : ℕ). told f c there (later x l)) (sym (eqb-true caller other h))
        ∙ told_by_none f caller there (later x l) (each_from (λ (y : ℕ × Entry). y.0 ≡ caller → ⊥) (later x l) (none_own_later rows lists caller e may))

pub collecting_tells : (rows : ℕ) (lists : List (List Entry)) (caller : ℕ) (e : Entry) → MayCollect rows lists caller e → (f : Names → Entry → List Tree) (other : ℕ)
    → told f other empty (chronicle (noted lists caller e)) ≡ told f other empty (chronicle lists) ++ (if caller == other then f (set_of (chronicle lists)).held e else [])
collecting_tells rows lists caller e may f other =
    ap (told f other empty) (collecting_appends rows lists caller e may) ∙ told_parts f other empty (chronicle lists) ((caller, e) ∷ [])
    ∙ ap (λ ts. told f other empty (chronicle lists) ++ ts) (append-nil (if caller == other then f (set_of (chronicle lists)).held e else []))

pub named_tells : TellsNeeded named
named_tells h k (Make number head args row) kind grows held = ap (λ ts. Node head ts ∷ []) (trees_grow record { each = grows } args held)
named_tells h k (Find seen head args row) kind grows held = ap (λ ts. Node head ts ∷ []) (trees_grow record { each = grows } args held.1)
named_tells h k (Roots seen names) kind grows held = refl
named_tells h k (Collect number kept) kind grows held = refl

pub rooted_tells : TellsNeeded rooted_trees
rooted_tells h k (Make number head args row) kind grows held = refl
rooted_tells h k (Find seen head args row) kind grows held = refl
rooted_tells h k (Roots seen names) kind grows held = ap list_of (trees_grow record { each = grows } names held)
rooted_tells h k (Collect number kept) kind grows held = refl

pub kept_tells : TellsNeeded kept_trees
kept_tells h k (Make number head args row) kind grows held = refl
kept_tells h k (Find seen head args row) kind grows held = refl
kept_tells h k (Roots seen names) kind grows held = refl
kept_tells h k (Collect number kept) kind grows held = cc
