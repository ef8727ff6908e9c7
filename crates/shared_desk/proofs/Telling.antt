-- What a desk that gave its pass back showed, by the chronicle; and the passes of a new store.
use Rattle.std.proofs.Common.{◌≡◌, ◌≢◌, ◌⊎◌, inl, inr, ℕ, zero, suc, ◌+◌, ◌<◌, ◌≤◌, ◌&&◌, ◌==◌, Bool, false, cond, List, [], ◌∷◌, ◌++◌, get_or, map, eq-eqb, ne_eqb, true≢false, refl, sym, ap, ◌∙◌, subst, arith}
use Rattle.std.specs.Prelude.{All, IfOk, Result, Ok, Err}
use Rattle.std.proofs.lemmas.List.{append-nil, append_assoc}
use Rattle.std.proofs.lemmas.Option.{slice_get-get_or}
use Rattle.std.proofs.Math.Nat.{le-max_right}
use Rattle.term_model.specs.Tree.{Tree}
use Rattle.busy_forbidden.specs.Dealt.{EachPlace}
use Rattle.history_core.specs.declared.entry.Entry.{Entry}
use Rattle.history_core.specs.declared.entry.Entry.TheVariants.{Make, Find, Roots, Collect}
use Rattle.history_core.specs.Entry.{is_collect}
use Rattle.history_core.specs.Chronicle.{History, precedes, put, put_all, put_each, chronicle, part_of, Legal, IsLegal}
use Rattle.history_core.specs.TermSet.{empty}
use Rattle.history_core.specs.Told.{told, rooted_trees}
use Rattle.history_core.proofs.Sound.{legal_is_sound}
use Rattle.store_model.proofs.Basics.{choose}
use Rattle.store_model.specs.Told as store
use Rattle.store_model.specs.Told.{Told, nothing, all_roots, all_roots_from, told_from, subtrees_in}
use Rattle.store_model.specs.Machine.{widest}
use Rattle.node_rows.specs.declared.store.Store.{Store}
use Rattle.node_rows.specs.declared.store.Pass.{Pass}
use Rattle.node_rows.specs.Crowding.{EndsWith}
use Rattle.node_rows.specs.Opening.{IsNew}
use Rattle.node_rows.specs.Passes.{IsStore, IsPass, IsOut}
use Rattle.node_rows.specs.CrowdsKept.{part_join}
use Rattle.node_rows.specs.Told.{Tells, KeepsOrder, TellsTrees, view_of}
use Rattle.node_rows.specs.declared.view.NodeView.{NodeView}
use Rattle.store_model.specs.declared.view.Sizes.{Sizes}
use Rattle.store_model.specs.Steps.{newcomer}
use Rattle.shared_desk.specs.Held.{IsWhole}
use Rattle.shared_desk.specs.Pass.{PassView}
use Rattle.node_rows.proofs.Crowding.{crowd_at_its_place}
use Rattle.shared_desk.specs.Telling.{collects_by, BuiltAreNamed, RootedAreLast, CrowdIsLast, CrowdIsOfItsNames, protected_by, HandIsProtected, LoadIsMost, LoadIsReached, SweepsAreCounted, MayHaveDesk, NewMayHaveDesks}
use Rattle.shared_desk.proofs.Protecting.{protected_are_told, told_join, hand_stays, load_grows, load_counts, Reaches, load_is_counted}
use Rattle.shared_desk.proofs.Trees.{tree_names}

-- of the trees of all Roots those of the last one are the last
last_roots : (t : Told) (es : List Entry) (before : List Tree) → EndsWith before t.rooted → EndsWith (before ++ all_roots_from t es) (told_from t es).rooted
last_roots t [] before e = record { before = e.before; is = append-nil before ∙ e.is }
last_roots t (Make n f rs r ∷ es) before e = last_roots (store.after t (Make n f rs r)) es before record { before = e.before; is = e.is }
last_roots t (Find n f rs r ∷ es) before e = last_roots (store.after t (Find n f rs r)) es before record { before = e.before; is = e.is }
last_roots t (Roots n rs ∷ es) before e =
    let now = map t.tree rs in
    let then = last_roots (store.after t (Roots n rs)) es (before ++ now) record { before = before; is = refl } in
    record { before = then.before; is = sym (append_assoc before now (all_roots_from (store.after t (Roots n rs)) es)) ∙ then.is }
last_roots t (Collect n ks ∷ es) before e = last_roots (store.after t (Collect n ks)) es before record { before = e.before; is = e.is }

-- how many Collects there are among the entries of one pass
abbrev one : Entry → ℕ
one e = cond (is_collect e) 1 0

abbrev own : List Entry → ℕ
own [] = 0
own (e ∷ es) = one e + own es

told_sweeps : (t : Told) (es : List Entry) → (told_from t es).sweeps ≡ t.sweeps + own es
told_sweeps t [] = omega arith
told_sweeps t (Make n f rs r ∷ es) = let e = told_sweeps (store.after t (Make n f rs r)) es in omega (arith, e)
told_sweeps t (Find n f rs r ∷ es) = let e = told_sweeps (store.after t (Find n f rs r)) es in omega (arith, e)
told_sweeps t (Roots n rs ∷ es) = let e = told_sweeps (store.after t (Roots n rs)) es in omega (arith, e)
told_sweeps t (Collect n ks ∷ es) = let e = told_sweeps (store.after t (Collect n ks)) es in omega (arith, e)

abbrev step : ℕ → ℕ × Entry → ℕ
step i x = cond (x.0 == i && is_collect x.1) 1 0

put_count : (i : ℕ) (x : ℕ × Entry) (l : History) → collects_by i (put x l) ≡ step i x + collects_by i l
put_count i x [] = refl
put_count i x (y ∷ ys) = choose (λ (l : History). collects_by i l ≡ step i x + (step i y + collects_by i ys)) (precedes x y) (x ∷ y ∷ ys) (y ∷ put x ys)
    (λ _. refl) (λ _. (let e = put_count i x ys in omega (arith, e)))

all_own : (i : ℕ) (es : List Entry) (l : History) → collects_by i (put_all i es l) ≡ own es + collects_by i l
all_own i [] l = omega arith
all_own i (e ∷ es) l =
    let rest = all_own i es (put (i, e) l) in
    let here = put_count i (i, e) l in
    let mine : step i (i, e) ≡ one e = ap (λ (b : Bool). cond (b && is_collect e) 1 0) (eq-eqb i i refl) in
    omega (arith, rest, here, mine)

all_others : (i c : ℕ) → c ≢ i → (es : List Entry) (l : History) → collects_by i (put_all c es l) ≡ collects_by i l
all_others i c ne [] l = refl
all_others i c ne (e ∷ es) l =
    let rest = all_others i c ne es (put (c, e) l) in
    let here = put_count i (c, e) l in
    let other : step i (c, e) ≡ 0 = ap (λ (b : Bool). cond (b && is_collect e) 1 0) (ne_eqb c i ne) in
    omega (arith, rest, here, other)

each_past : (i c : ℕ) → i < c → (lists : List (List Entry)) (l : History) → collects_by i (put_each c lists l) ≡ collects_by i l
each_past i c lt [] l = refl
each_past i c lt (es ∷ lists) l = each_past i (suc c) (omega (arith, lt)) lists (put_all c es l) ∙ all_others i c (λ e. omega (arith, lt, e)) es l

each_here : (c k : ℕ) (lists : List (List Entry)) (l : History) → collects_by (c + k) (put_each c lists l) ≡ own (get_or lists k []) + collects_by (c + k) l
each_here c k [] l = omega arith
each_here c zero (es ∷ lists) l = each_past (c + 0) (suc c) (omega arith) lists (put_all c es l)
    ∙ subst (λ (i : ℕ). collects_by (c + 0) (put_all i es l) ≡ own es + collects_by (c + 0) l) (let e : c + 0 ≡ c = omega arith in e) (all_own (c + 0) es l)
each_here c (suc k) (es ∷ lists) l =
    let i : ℕ = c + suc k in
    let e : suc c + k ≡ c + suc k = omega arith in
    subst (λ (j : ℕ). collects_by j (put_each (suc c) lists (put_all c es l)) ≡ own (get_or lists k []) + collects_by j (put_all c es l)) e (each_here (suc c) k lists (put_all c es l))
    ∙ ap (λ (n : ℕ). own (get_or lists k []) + n) (all_others (c + suc k) c (λ x. omega (arith, x)) es l)

chronicle_count : (i : ℕ) (lists : List (List Entry)) → collects_by i (chronicle lists) ≡ own (get_or lists i [])
chronicle_count i lists =
    let start : 0 + i ≡ i = omega arith in
    let e = subst (λ (j : ℕ). collects_by j (chronicle lists) ≡ own (get_or lists i []) + collects_by j []) start (each_here 0 i lists []) in
    omega (arith, e)

pub built_are_named : BuiltAreNamed
built_are_named lists v p back tells = tells.named ∙ ap (λ (x : PassView). x.built) back.seen

pub rooted_are_last : RootedAreLast
rooted_are_last lists v p back tells =
    let es = p.seat.seat.me.0.store.entries in
    let last = last_roots nothing es [] record { before = []; is = refl } in
    record { before = last.before; is = tells.rooted ∙ last.is ∙ ap (λ (x : PassView). last.before ++ x.rooted) back.seen }

pub crowd_is_last : CrowdIsLast
crowd_is_last lists v p back tells =
    record { before = tells.told.before; is = tells.told.is ∙ ap (λ (x : PassView). tells.told.before ++ x.crowd) back.seen }

pub crowd_is_of_its_names : CrowdIsOfItsNames
crowd_is_of_its_names lists v p back tells c =
    sym (ap (λ (x : PassView). x.crowd) back.seen)
    ∙ crowd_at_its_place lists p.seat.number (view_of p).store.entries (view_of p).crowd tells c

-- what it protects after the entries before a place
protected_there : (rows : ℕ) (lists : List (List Entry)) (p : Pass) (before rest : History) → KeepsOrder lists p → TellsTrees lists p → IsLegal rows (chronicle lists) → chronicle lists ≡ before ++ rest
    → protected_by p.seat.number before ≡ (told_from nothing (part_of p.seat.number before)).rooted
protected_there rows lists p before rest order tells legal is =
    let i = p.seat.number in
    let same : told rooted_trees i empty (chronicle lists) ≡ all_roots (part_of i (chronicle lists)) = tells.rooted ∙ ap all_roots (sym order) in
    protected_are_told rows i empty nothing before rest (legal_is_sound rows [] tt) (subst (Legal rows empty) is legal)
    (subst (λ (l : History). told rooted_trees i empty l ≡ all_roots (part_of i l)) is same) refl

-- its entries before a place and after it
parted : (lists : List (List Entry)) (p : Pass) (before rest : History) → KeepsOrder lists p → chronicle lists ≡ before ++ rest
    → told_from nothing (view_of p).store.entries ≡ told_from (told_from nothing (part_of p.seat.number before)) (part_of p.seat.number rest)
parted lists p before rest order is =
    let i = p.seat.number in
    ap (told_from nothing) (sym order ∙ (ap (part_of i) is ∙ part_join i before rest)) ∙ told_join nothing (part_of i before) (part_of i rest)

pub hand_is_protected : HandIsProtected
hand_is_protected rows lists v p back order tells legal c =
    let i = p.seat.number in
    let on : History = (i, Collect c.number c.kept) ∷ c.rest in
    let before = told_from nothing (part_of i c.before) in
    let own : part_of i on ≡ Collect c.number c.kept ∷ part_of i c.rest = ap (λ (b : Bool). cond b (Collect c.number c.kept ∷ part_of i c.rest) (part_of i c.rest)) (eq-eqb i i refl) in
    sym (ap (λ (x : PassView). x.hand) back.seen)
    ∙ (ap (λ (t : Told). t.hand) (parted lists p c.before on order c.is ∙ ap (told_from before) own)
    ∙ (hand_stays i (store.after before (Collect c.number c.kept)) c.rest c.last
    ∙ sym (protected_there rows lists p c.before on order tells legal c.is)))

pub load_is_most : LoadIsMost
load_is_most rows lists v p back order tells legal before rest is =
    let i = p.seat.number in
    let there = told_from nothing (part_of i before) in
    let counts : subtrees_in there.rooted ≤ there.load = load_counts nothing (part_of i before) (omega arith) in
    let grows = load_grows there (part_of i rest) in
    let all = ap (λ (t : Told). t.load) (parted lists p before rest order is) in
    let shown = ap (λ (x : PassView). x.load) back.seen in
    let same = ap subtrees_in (protected_there rows lists p before rest order tells legal is) in
    omega (arith, counts, grows, all, shown, same)

pub load_is_reached : LoadIsReached
load_is_reached rows lists v p back order tells legal = by (load_is_counted p.seat.number nothing (chronicle lists))
  where
    shown : (told_from nothing (part_of p.seat.number (chronicle lists))).load ≡ v.load
    shown = ap (λ (es : List Entry). (told_from nothing es).load) order ∙ ap (λ (x : PassView). x.load) back.seen

    by : Reaches p.seat.number nothing (chronicle lists) (part_of p.seat.number (chronicle lists))
        → (v.load ≡ 0) ⊎ ((before : History) × (rest : History) × (chronicle lists ≡ before ++ rest) × (subtrees_in (protected_by p.seat.number before) ≡ v.load))
    by (inl e) = inl (sym shown ∙ e)
    by (inr r) = inr (r.0, r.1, r.2, ap subtrees_in (protected_there rows lists p r.0 r.1 order tells legal r.2) ∙ (r.3 ∙ shown))

pub sweeps_are_counted : SweepsAreCounted
sweeps_are_counted lists v p back has =
    let es = p.seat.seat.me.0.store.entries in
    let count : (told_from nothing es).sweeps ≡ own es = (let e = told_sweeps nothing es in omega (arith, e)) in
    chronicle_count p.seat.number lists ∙ ap own has ∙ sym count ∙ ap (λ (x : PassView). x.sweeps) back.seen

-- a new pass knows nothing and protects nothing
whole_new : (z : Sizes) → IsWhole z (newcomer z)
whole_new z = record {
  rows = λ r has. absurd (true≢false (sym has));
  once = λ r k m n a b. absurd a;
  one_row = λ r q t a b. absurd (true≢false (sym (tree_names [] r t a)));
  protects = tt;
  few = omega arith;
}

pub new_may_have_desks : NewMayHaveDesks
new_may_have_desks s ps store new ready told k d lt =
    let p = get_or ps k d in
    let is = new.each k p (slice_get-get_or ps k d lt) in
    let r = ready k d lt in
    record {
      of = record { store = store; pass = r.0 };
      out = r.1;
      told = told k d lt;
      whole = subst (λ (v : NodeView). IsWhole s.sizes v.store) (sym is.view) (whole_new s.sizes);
      none = ap (λ (v : NodeView). v.store.root_count) is.view;
    }

-- what `Store::make` answers
pub made_may : {V E : Type 0} (items : V → List Pass) (z : Sizes) (r : Result (Store × V) E)
    → IfOk r (λ t. IsStore t.0.table.shared.table_id t.0.table.shared.key t.0.sizes × (t.0.sizes ≡ z))
    → IfOk r (λ t. EachPlace (λ j p. IsNew t.0.table.shared.table_id z j p.seat.seat p.seat.number p.seat.seats) z.seats (items t.1))
    → IfOk r (λ t. All (λ p. IsPass t.0.table.shared.table_id t.0.sizes p.seat.seat p.seat.seats × IsOut p.seat.seat.me.0) (items t.1))
    → IfOk r (λ t. All Tells (items t.1)) → IfOk r (λ t. All (MayHaveDesk t.0) (items t.1))
made_may items z (Ok t) store new ready told =
    new_may_have_desks t.0 (items t.1) store.0
    (subst (λ (y : Sizes). EachPlace (λ j p. IsNew t.0.table.shared.table_id y j p.seat.seat p.seat.number p.seat.seats) y.seats (items t.1)) (sym store.1) new)
    ready told
made_may items z (Err e) store new ready told = tt

-- its passes have no entries
pub made_new : {V E : Type 0} (items : V → List Pass) (z : Sizes) (r : Result (Store × V) E)
    → IfOk r (λ t. EachPlace (λ j p. IsNew t.0.table.shared.table_id z j p.seat.seat p.seat.number p.seat.seats) z.seats (items t.1))
    → IfOk r (λ t. All (λ p. (view_of p).store.entries ≡ []) (items t.1))
made_new items z (Ok t) new = λ k d lt. ap (λ (v : NodeView). v.store.entries) (new.each k (get_or (items t.1) k d) (slice_get-get_or (items t.1) k d lt)).view
made_new items z (Err e) new = tt

-- a desk has room for an argument
pub wide_enough : {A E : Type 0} (view : A → PassView) (v : PassView) (z : Sizes) (r : Result A E) → v.arity ≡ widest z → IfOk r (λ a. view a ≡ v) → IfOk r (λ a. 1 ≤ (view a).arity)
wide_enough view v z (Ok a) w e = let x = ap (λ (u : PassView). u.arity) e in let two : 2 ≤ widest z = le-max_right z.arity 2 in omega (arith, x, w, two)
wide_enough view v z (Err x) w e = tt

pub outside_of : {A E : Type 0} (view : A → PassView) (v : PassView) (r : Result A E) → v.shared ≡ false → IfOk r (λ a. view a ≡ v) → IfOk r (λ a. (view a).shared ≡ false)
outside_of view v (Ok a) out e = ap (λ (u : PassView). u.shared) e ∙ out
outside_of view v (Err x) out e = tt
