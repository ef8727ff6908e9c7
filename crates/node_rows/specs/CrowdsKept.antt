-- Each step of the store keeps the passes' crowds.
use Rattle.std.proofs.Common.{◌≡◌, ◌≢◌, ◌⊎◌, inl, inr, ℕ, zero, suc, ◌+◌, ◌*◌, ◌<◌, ◌≤◌, pred, max, eqb, Bool, true, false, cond, Some, None, List, [], ◌∷◌, ◌++◌, length, set, replicate, append_assoc, append-nil, refl, sym, ap, ◌∙◌, subst, ⊎_elim, arith, true≢false, eq-eqb, ne_eqb}
use Rattle.std.specs.Prelude.{Contains, nat_lt, unwrap_or}
use mathlib.Core.Logic.{dite}
use mathlib.Core.Path.{fun_ext}
use mathlib.Core.Option.{some, some-injective, some-ne-none}
use native.Mathlib.Decide.{ℕ_discrete}
use lib.ListN.{get_elem?}
use Rattle.term_model.specs.Tree.{Tree, Leaf, list_of, among, distinct}
use Rattle.term_model.proofs.Equality.{among_cases}
use Rattle.lock_core.specs.declared.parts.LockStep.{LockStep}
use Rattle.lock_core.specs.declared.parts.LockStep.TheVariants.{Lower, Unask, Give}
use Rattle.history_core.specs.declared.entry.Entry.{Entry}
use Rattle.history_core.specs.declared.entry.Entry.TheVariants.{Make, Find, Roots, Collect}
use Rattle.history_core.specs.Entry.{is_collect, place, after, IsAscending}
use Rattle.history_core.specs.TermSet.{Names, TermSet, Holds, IsHeld, empty, tree_at, trees_at, with_only, is_one_of}
use Rattle.history_core.specs.Chronicle.{History, precedes, put, earlier, later, chronicle, noted, left_by, set_of, part_of, IsNoted}
use Rattle.history_core.specs.Told.{told, kept_trees}
use Rattle.history_core.proofs.Merge.{noting_puts_in, nothing_at_start, parts, put_between}
use Rattle.history_core.proofs.Chronicles.{later_goes_after, later_is_part, noted_from_has}
use Rattle.history_core.proofs.Members.{contains_here, contains_there, each_from, each_at}
use Rattle.history_core.proofs.Places.{lower_goes_first, collect_place}
use Rattle.history_core.proofs.Growing.{left_parts}
use Rattle.history_core.proofs.Sound.{legal_is_sound}
use Rattle.store_model.specs.declared.view.Sizes.{Sizes}
use Rattle.store_model.specs.declared.view.View.{View}
use Rattle.store_model.specs.declared.view.Call.{Call}
use Rattle.store_model.specs.declared.view.Call.TheVariants.{Idle, Comparing, Passing, Finding, Ended, Counting, Drawing, Placing, Filling, Numbering, Linking, Publishing, Loading, Storing}
use Rattle.store_model.specs.declared.view.Place.TheVariants.{Base, Claim, InUse}
use Rattle.store_model.specs.declared.view.Stay.{Stay}
use Rattle.store_model.specs.declared.view.Stay.TheVariants.{Away, Ready, Leaving}
use Rattle.store_model.specs.Words as words
use Rattle.store_model.specs.Machine as core
use Rattle.store_model.specs.Machine.{Each, IsCreation, action, with_call, gained, refusing, overdrawn, arrived, left, protected_in, LockAlone, LowerShared, UnaskSeat, GiveGranted, LoadBase, LoadInUse, Begin, Go, LoadRoot, StoreRoot, StoreCount, ReadWord, ReadArgument, LoadAny, StoreAny, StoreClaim}
use Rattle.store_model.specs.Seats.{Where, index}
use Rattle.store_model.specs.Steps as steps
use Rattle.store_model.specs.Steps.{InPlace, names_left, is_storing, CoreHolds, newcomer}
use Rattle.store_model.specs.StoreSteps.{lock_meant}
use Rattle.store_model.specs.Collection.{collected}
use Rattle.store_model.specs.Invariant.{listed}
use Rattle.store_model.specs.Laws.{held_by}
use Rattle.store_model.specs.Runs.{Inductive}
use Rattle.store_model.specs.StoreHolds.{StoreHolds}
use Rattle.store_model.proofs.Basics.{choose, eqb_is, eqb_not, put_case, put_same, put_other, where_map}
use Rattle.store_model.proofs.ByWords.{by_words, from_words}
use Rattle.store_model.proofs.Collects.{reached_live}
use Rattle.store_model.proofs.Eight.{core_of, inductive}
use Rattle.store_model.proofs.Histories.{listed_length, lists_noted, live_held}
use Rattle.store_model.proofs.Locks.{is_in, alone_in}
use Rattle.store_model.proofs.NamesLeft.{names_kept}
use Rattle.store_model.proofs.Wrapped.{not_true, action_fresh, creation_busy}
use Rattle.node_rows.specs.declared.view.NodeView.{NodeView}
use Rattle.node_rows.specs.Crowding.{kept_after, kept_from, kept_in, ends_from, ends_in_collect, IsSwept, pairs_of, IsCrowd, Crowds, crowd_now, crowd_at}

-- what a Collect at the end tells, and another entry
pub kept_snoc : (ns : List ℕ) (es : List Entry) (e : Entry)
    → kept_from ns (es ++ e ∷ []) ≡ kept_after (kept_from ns es) e
kept_snoc ns [] e = refl
kept_snoc ns (d ∷ es) e = kept_snoc (kept_after ns d) es e

pub ends_snoc : (b : Bool) (es : List Entry) (e : Entry) → ends_from b (es ++ e ∷ []) ≡ is_collect e
ends_snoc b [] e = refl
ends_snoc b (d ∷ es) e = ends_snoc (is_collect d) es e

pub kept_plain : (ns : List ℕ) (e : Entry) → is_collect e ≡ false → kept_after ns e ≡ ns
kept_plain ns (Make number head args row) is = refl
kept_plain ns (Find seen head args row) is = refl
kept_plain ns (Roots seen names) is = refl
kept_plain ns (Collect number kept) is = absurd (true≢false is)

-- of an entry that is put in, what the last Collect kept stays, if it is none
kept_head : (ns : List ℕ) (i : ℕ) (x : ℕ × Entry) (l : History) → is_collect x.1 ≡ false
    → kept_from ns (part_of i (x ∷ l)) ≡ kept_from ns (part_of i l)
kept_head ns i x l e = choose (λ (es : List Entry). kept_from ns es ≡ kept_from ns (part_of i l))
    (eqb x.0 i) (x.1 ∷ part_of i l) (part_of i l)
    (λ _. ap (λ (ms : List ℕ). kept_from ms (part_of i l)) (kept_plain ns x.1 e)) (λ _. refl)

kept_behind : (b : Bool) (ns : List ℕ) (e : Entry) (xs ys : List Entry)
    → ((ms : List ℕ) → kept_from ms xs ≡ kept_from ms ys) → kept_from ns (cond b (e ∷ xs) xs)
    ≡ kept_from ns (cond b (e ∷ ys) ys)
kept_behind true ns e xs ys same = same (kept_after ns e)
kept_behind false ns e xs ys same = same ns

kept_put : (i : ℕ) (x : ℕ × Entry) (l : History) → is_collect x.1 ≡ false → (ns : List ℕ)
    → kept_from ns (part_of i (put x l)) ≡ kept_from ns (part_of i l)
kept_put i x [] e ns = kept_head ns i x [] e
kept_put i x (y ∷ ys) e ns =
    choose (λ (l : History). kept_from ns (part_of i l) ≡ kept_from ns (part_of i (y ∷ ys)))
    (precedes x y) (x ∷ y ∷ ys) (y ∷ put x ys)
    (λ _. kept_head ns i x (y ∷ ys) e)
    (λ _. kept_behind (eqb y.0 i) ns y.1 (part_of i (put x ys)) (part_of i ys) (kept_put i x ys e))

part_behind : (b : Bool) (e : Entry) (xs ys : List Entry) → cond b (e ∷ (xs ++ ys)) (xs ++ ys)
    ≡ cond b (e ∷ xs) xs ++ ys
part_behind true e xs ys = refl
part_behind false e xs ys = refl

pub part_join : (i : ℕ) (xs ys : History) → part_of i (xs ++ ys) ≡ part_of i xs ++ part_of i ys
part_join i [] ys = refl
part_join i (x ∷ xs) ys = ap (λ (es : List Entry). cond (eqb x.0 i) (x.1 ∷ es) es)
    (part_join i xs ys) ∙ part_behind (eqb x.0 i) x.1 (part_of i xs) (part_of i ys)

part_last_own : (i : ℕ) (e : Entry) → part_of i ((i, e) ∷ []) ≡ e ∷ []
part_last_own i e = ap (λ (b : Bool). cond b (e ∷ []) []) (eq-eqb i i refl)

part_last_other : (i j : ℕ) (e : Entry) → i ≢ j → part_of j ((i, e) ∷ []) ≡ []
part_last_other i j e ne = ap (λ (b : Bool). cond b (e ∷ []) []) (ne_eqb i j ne)

-- an entry that is no Collect keeps no trees
pub plain_keeps : (h : Names) (e : Entry) → is_collect e ≡ false → kept_trees h e ≡ []
plain_keeps h (Make number head args row) is = refl
plain_keeps h (Find seen head args row) is = refl
plain_keeps h (Roots seen names) is = refl
plain_keeps h (Collect number kept) is = absurd (true≢false is)

pub either_none : (b : Bool) → ◌≡◌ {A = List Tree} (cond b [] []) []
either_none true = refl
either_none false = refl

told_none : (i : ℕ) (s : TermSet) (l : History) → Each (λ (y : ℕ × Entry). is_collect y.1 ≡ false) l
    → told kept_trees i s l ≡ []
told_none i s [] h = refl
told_none i s (y ∷ l) h =
    let next : TermSet = after s y.0 y.1 in
    ap (λ (ts : List Tree). cond (eqb y.0 i) ts [] ++ told kept_trees i next l)
    (plain_keeps s.held y.1 h.0)
    ∙ (ap (λ (ts : List Tree). ts ++ told kept_trees i next l) (either_none (eqb y.0 i))
    ∙ told_none i next l h.1)

pub told_parts : (i : ℕ) (s : TermSet) (xs ys : History)
    → told kept_trees i s (xs ++ ys) ≡ told kept_trees i s xs ++ told kept_trees i (left_by s xs) ys
told_parts i s [] ys = refl
told_parts i s (x ∷ xs) ys =
    let here : List Tree = cond (eqb x.0 i) (kept_trees s.held x.1) [] in
    let next : TermSet = after s x.0 x.1 in
    ap (λ (ts : List Tree). here ++ ts) (told_parts i next xs ys)
    ∙ sym (append_assoc here (told kept_trees i next xs)
    (told kept_trees i (left_by next xs) ys))

-- An entry that is no Collect, and goes after all of them, leaves what these keep.
module _ (lists : List (List Entry)) (i : ℕ) (e : Entry) (present : i < length lists) (is_plain : is_collect e ≡ false) (late : (y : ℕ × Entry) → IsNoted lists y → is_collect y.1 ≡ true → precedes (i, e) y ≡ false) where
  later_plain : Each (λ (y : ℕ × Entry). is_collect y.1 ≡ false) (later (i, e) (chronicle lists))
  later_plain = each_from (λ (y : ℕ × Entry). is_collect y.1 ≡ false)
      (later (i, e) (chronicle lists)) (λ y c. not_true (is_collect y.1)
      (λ h. true≢false
      (sym (later_goes_after lists (i, e) y c)
      ∙ late y (noted_from_has lists y (later_is_part (i, e) (chronicle lists) y c)) h)))

  noted_told : (j : ℕ) → told kept_trees j empty (chronicle (noted lists i e))
      ≡ told kept_trees j empty (chronicle lists)
  noted_told j =
      let all : History = chronicle lists in
      let before : History = earlier (i, e) all in
      let on : History = later (i, e) all in
      let here : List Tree = told kept_trees j empty before in
      ap (told kept_trees j empty) (noting_puts_in lists i e present ∙ put_between (i, e) all)
      ∙ (told_parts j empty before ((i, e) ∷ on)
      ∙ (ap (λ (ts : List Tree). here ++ ts)
      (told_none j (left_by empty before) ((i, e) ∷ on) (is_plain, later_plain))
      ∙ (ap (λ (ts : List Tree). here ++ ts)
      (sym (told_none j (left_by empty before) on later_plain))
      ∙ (sym (told_parts j empty before on) ∙ ap (told kept_trees j empty) (parts (i, e) all)))))

-- an entry that goes after all others stands at the end
at_end : (x : ℕ × Entry) (l : History) → ((y : ℕ × Entry) → Contains l y → precedes x y ≡ false)
    → put x l ≡ l ++ x ∷ []
at_end x [] last = refl
at_end x (y ∷ ys) last = ap (λ (b : Bool). cond b (x ∷ y ∷ ys) (y ∷ put x ys))
    (last y (contains_here y ys)) ∙ ap (λ (l : History). y ∷ l)
    (at_end x ys (λ q c. last q (contains_there y ys q c)))

-- the trees of names that are held
held_tree : (h : Names) (n : ℕ) → IsHeld h n → h n ≡ Some (tree_at h n)
held_tree h n k = k.1 ∙ ap Some (sym (ap (λ o. unwrap_or o (Leaf 0)) k.1))

pub trees_many : (h : Names) (ns : List ℕ) → length (list_of (trees_at h ns)) ≡ length ns
trees_many h [] = refl
trees_many h (n ∷ ns) = ap suc (trees_many h ns)

tree_of_one : (h : Names) (ns : List ℕ) (t : Tree) → Each (IsHeld h) ns
    → among t (list_of (trees_at h ns)) ≡ true → (n : ℕ) × Contains ns n × Holds h n t
tree_of_one h [] t held e = absurd (true≢false (sym e))
tree_of_one h (n ∷ ns) t held e = ⊎_elim
    (λ (same : t ≡ tree_at h n). (n, contains_here n ns, held_tree h n held.0 ∙ ap Some (sym same)))
    (λ on. let k = tree_of_one h ns t held.1 on in (k.0, contains_there n ns k.0 k.1, k.2))
    (among_cases t (tree_at h n) (list_of (trees_at h ns)) e)

trees_differ : (h : Names) (ns : List ℕ)
    → ((n m : ℕ) (t : Tree) → Holds h n t → Holds h m t → n ≡ m) → IsAscending ns
    → Each (IsHeld h) ns → distinct (list_of (trees_at h ns)) ≡ length (list_of (trees_at h ns))
trees_differ h [] one up held = refl
trees_differ h (n ∷ ns) one up held =
    let ts : List Tree = list_of (trees_at h ns) in
    let rest : distinct ts ≡ length ts = trees_differ h ns one up.1 held.1 in
    choose (λ (k : ℕ). k ≡ suc (length ts)) (among (tree_at h n) ts) (distinct ts) (distinct ts + 1)
    (λ yes. let k = tree_of_one h ns (tree_at h n) held.1 yes in let same : n
    ≡ k.0 = one n k.0 (tree_at h n) (held_tree h n held.0) k.2 in let above = each_at
    (λ m. n < m) ns k.0 up.0 k.1 in absurd (omega arith))
    (λ no. omega arith)

-- the pairs of these names alone
pairs_case : (h : Names) (n m : ℕ) (ns : List ℕ) (rest : Names) → IsHeld h n
    → with_only h ns m ≡ rest m → (b : Bool) → eqb m n ≡ b
    → cond (cond b true (is_one_of ns m)) (h m) None ≡ cond b (Some (tree_at h n)) (rest m)
pairs_case h n m ns rest held same true e = ap h (eqb_is m n e) ∙ held_tree h n held
pairs_case h n m ns rest held same false e = same

pairs_at : (h : Names) (ns : List ℕ) → Each (IsHeld h) ns → (m : ℕ)
    → with_only h ns m ≡ pairs_of ns (list_of (trees_at h ns)) m
pairs_at h [] held m = refl
pairs_at h (n ∷ ns) held m = pairs_case h n m ns (pairs_of ns (list_of (trees_at h ns))) held.0
    (pairs_at h ns held.1 m) (eqb m n) refl

pairs_are : (h : Names) (ns : List ℕ) → Each (IsHeld h) ns
    → with_only h ns ≡ pairs_of ns (list_of (trees_at h ns))
pairs_are h ns held = fun_ext (pairs_at h ns held)

ready_in : (a : Stay) → a ≡ Ready → a ≢ Away
ready_in a e f = let no : Away ≡ Ready = sym f ∙ e in absurd (grind arith)

leaving_in : (a : Stay) → a ≡ Leaving → a ≢ Away
leaving_in a e f = let no : Away ≡ Leaving = sym f ∙ e in absurd (grind arith)

-- one entry was noted, no Collect, which goes after all of them; the seat is in an access
record NotesLater (base : ℕ) (v u : View) : Type 0 where
  entry : Entry
  plain : is_collect entry ≡ false
  late : 2 * base ≤ place entry + 1
  noted : u.entries ≡ v.entries ++ entry ∷ []
  inside : v.stay ≢ Away

-- no collection was ended, and nothing or such an entry was noted
record GoesOn (base : ℕ) (v u : View) : Type 0 where
  fresh : u.fresh ≡ true → v.fresh ≡ true
  entries : (u.entries ≡ v.entries) ⊎ NotesLater base v u

module _ (base : ℕ) (v : View) (stays : v.stay ≢ Away) (entered : base ≤ v.seen + 1) where
  roots_on : (rs : List ℕ) → GoesOn base v (left v rs)
  roots_on rs = record {
    fresh = λ f. absurd (true≢false (sym f));
    entries = inr record {
      entry = Roots v.seen rs;
      plain = refl;
      late = omega arith;
      noted = refl;
      inside = stays;
    };
  }

  action_entries : (x : Call) (n : ℕ) → IsCreation x → Where (index x) (λ a. v.seen < v.base + a)
      → (((action v x).moved n).entries ≡ v.entries) ⊎ NotesLater base v ((action v x).moved n)
  action_entries Idle n is above = absurd is
  action_entries (Loading ls) n is above = absurd is
  action_entries (Storing ls ss) n is above = absurd is
  action_entries (Comparing c d from old at k) n is above = inl refl
  action_entries (Passing c d from old at dif) n is above = inl refl
  action_entries (Finding c d r) n is above =
      inr record {
        entry = Find (max v.seen n) c.head c.arguments r;
        plain = refl;
        late = omega arith;
        noted = refl;
        inside = stays;
      }
  action_entries (Ended c from) n is above = inl refl
  action_entries (Counting c from claim) n is above =
      choose (λ (u : View). (u.entries ≡ v.entries) ⊎ NotesLater base v u) (nat_lt claim n)
      (with_call v (Drawing c from n)) (refusing v c from claim n)
      (λ _. inl refl) (λ _. inl refl)
  action_entries (Drawing c from count) n is above =
      choose (λ (u : View). (u.entries ≡ v.entries) ⊎ NotesLater base v u) (nat_lt n count)
      (with_call v (Placing c from n)) (overdrawn v c from n count)
      (λ _. inl refl) (λ _. inl refl)
  action_entries (Placing c from a) n is above = inl refl
  action_entries (Filling c from a r k) n is above = inl refl
  action_entries (Numbering c from a r) n is above = inl refl
  action_entries (Linking c from a r) n is above = inl refl
  action_entries (Publishing c from a r) n is above =
      choose (λ (u : View). (u.entries ≡ v.entries) ⊎ NotesLater base v u) (eqb n from)
      (gained v c r (v.base + a) (Make (v.base + a) c.head c.arguments r))
      (with_call v (arrived c (Some (a, r)) n from n))
      (λ _. inr record {
        entry = Make (v.base + a) c.head c.arguments r;
        plain = refl;
        late = omega (arith, above);
        noted = refl;
        inside = stays;
      }) (λ _. inl refl)

  action_on : (x : Call) (n : ℕ) → IsCreation x → Where (index x) (λ a. v.seen < v.base + a)
      → GoesOn base v ((action v x).moved n)
  action_on x n is above =
      record { fresh = λ f. sym (action_fresh v x n) ∙ f; entries = action_entries x n is above }

-- it isn't the last store of a collection
abbrev pub IsNoEnd : core.Step → Type 0
IsNoEnd StoreClaim = ⊥
IsNoEnd x = Unit {0}

pub lock_no_end : (a : Stay) (x : LockStep) → IsNoEnd (lock_meant a x)
lock_no_end Away x = tt
lock_no_end a Lower = tt
lock_no_end a (Unask j) = tt
lock_no_end a Give = tt
lock_no_end a x = tt

module _ (z : Sizes) (t : core.State) (i : ℕ) (store : Inductive z t) (there : i < z.seats) (crowd : ℕ → List Tree) (was : Crowds z t.view crowd) where
  abbrev base : ℕ
  base = store.core.kept Base

  abbrev lists : List (List Entry)
  lists = listed z.seats (λ j. (t.view j).entries)

  present : i < length lists
  present = let a = listed_length z.seats (λ j. (t.view j).entries) in omega (arith, there)

  -- while a seat is in an access, no other's collection is fresh
  none_fresh : (t.view i).stay ≢ Away → (j : ℕ) → j ≢ i → (t.view j).fresh ≡ true → ⊥
  none_fresh stays j ne fresh = alone_in t.lock store.core.holds.lock.sound j i
      (store.core.fresh j fresh).alone (λ e. ne (sym e))
      (is_in t.lock i (t.view i).stay (store.core.holds.lock.access i) stays)

  entered : (t.view i).stay ≢ Away → base ≤ (t.view i).seen + 1
  entered stays = (store.core.holds.seats i).numbers.entered stays

  same_kept : (u : View) → u.entries ≡ (t.view i).entries
      → (u.fresh ≡ true → (t.view i).fresh ≡ true) → Crowds z (words.put t.view i u) crowd
  same_kept u same fresh =
      let es : (λ j. (words.put t.view i u j).entries) ≡ (λ j. (t.view j).entries) =
      fun_ext (λ j. put_case (λ (p : View). p.entries ≡ (t.view j).entries) t.view i u j
      (λ e. same ∙ ap (λ (k : ℕ). (t.view k).entries) (sym e)) (λ _. refl)) in
      record {
        each = λ j l. subst (λ (f : ℕ → List Entry). IsCrowd (listed z.seats f) j (f j) (crowd j))
            (sym es) (was.each j l);
        held = λ j l s.
            let still : (t.view j).fresh
            ≡ true = put_case (λ (p : View). p.fresh ≡ true → (t.view j).fresh ≡ true) t.view i
            u j (λ e f. subst (λ (k : ℕ). (t.view k).fresh ≡ true) (sym e) (fresh f))
            (λ _ f. f) s.fresh in
            let last : ends_in_collect (t.view j).entries ≡ true =
            subst (λ (f : ℕ → List Entry). ends_in_collect (f j) ≡ true) es s.last in
            subst (λ (f : ℕ → List Entry). (set_of (chronicle (listed z.seats f))).held
            ≡ pairs_of (kept_in (f j)) (crowd j)) (sym es)
            (was.held j l record { fresh = still; last = last });
      }

  later_kept : (u : View) → NotesLater base (t.view i) u → Crowds z (words.put t.view i u) crowd
  later_kept u k =
      let e : Entry = k.entry in
      let late : (y : ℕ × Entry) → IsNoted lists y → is_collect y.1 ≡ true
      → precedes (i, e) y ≡ false =
      (λ y n c. let low = store.core.holds.history.collects y n c in let at = collect_place y.1 c in
      let l = k.late in lower_goes_first (i, e) y (omega arith)) in
      let all : listed z.seats (λ j. (words.put t.view i u j).entries) ≡ noted lists i e =
      lists_noted z.seats t.view i u e there k.noted in
      record {
        each = λ j l.
            let old = was.each j l in
            let trees = ap (λ ls. told kept_trees j empty (chronicle ls)) all
            ∙ noted_told lists i e present k.plain late j in
            let names : kept_in (words.put t.view i u j).entries ≡ kept_in (t.view j).entries =
            put_case (λ (p : View). kept_in p.entries ≡ kept_in (t.view j).entries) t.view i u j
            (λ same. ap kept_in k.noted
            ∙ (kept_snoc [] (t.view i).entries e
            ∙ (kept_plain (kept_in (t.view i).entries) e k.plain
            ∙ ap (λ (q : ℕ). kept_in (t.view q).entries) (sym same)))) (λ _. refl) in
            record {
              noted = ap (λ ls. kept_in (part_of j (chronicle ls))) all
                  ∙ (ap (λ (l : History). kept_in (part_of j l)) (noting_puts_in lists i e present)
                  ∙ (kept_put j (i, e) (chronicle lists) k.plain [] ∙ (old.noted ∙ sym names)));
              names = subst IsAscending (sym names) old.names;
              many = old.many ∙ ap (λ (ns : List ℕ). length ns) (sym names);
              differ = old.differ;
              told = record { before = old.told.before; is = trees ∙ old.told.is };
            };
        held = λ j l s. absurd (put_case (λ (p : View). IsSwept p → ⊥) t.view i u j
            (λ _ (f : IsSwept u). true≢false
            (sym f.last ∙ (ap ends_in_collect k.noted
            ∙ (ends_snoc false (t.view i).entries e ∙ k.plain))))
            (λ ne f. none_fresh k.inside j ne f.fresh) s);
      }

  goes_on_kept : (u : View) → GoesOn base (t.view i) u → Crowds z (words.put t.view i u) crowd
  goes_on_kept u g = ⊎_elim (λ same. same_kept u same g.fresh) (λ k. later_kept u k) g.entries

  -- each step but the last store of a collection
  pub crowds_stay : (y : core.Step) → IsNoEnd y → InPlace z t i y
      → Crowds z (steps.after z t i y).view crowd
  crowds_stay (LockAlone x) is ok = was
  crowds_stay LowerShared is ok = let stays = ready_in (t.view i).stay ok.permitted.2.stay in
      goes_on_kept _ (roots_on base (t.view i) stays (entered stays) (protected_in (t.view i)))
  crowds_stay (UnaskSeat q) is ok = same_kept _ refl (λ f. absurd (true≢false (sym f)))
  crowds_stay GiveGranted is ok =
      let stays = ⊎_elim (ready_in (t.view i).stay) (leaving_in (t.view i).stay) ok.permitted.2 in
      goes_on_kept _ (roots_on base (t.view i) stays (entered stays) (protected_in (t.view i)))
  crowds_stay LoadBase is ok = same_kept _ refl (λ f. absurd (true≢false (sym f)))
  crowds_stay LoadInUse is ok = same_kept _ refl (λ f. f)
  crowds_stay (Begin c) is ok = same_kept _ refl (λ f. f)
  crowds_stay Go is ok =
      let v : View = t.view i in
      let h = store.core.holds.seats i in
      let stays = ready_in v.stay (h.numbers.calls (creation_busy v.call ok.permitted)) in
      let above = where_map (index v.call) _ (λ a. v.seen < v.base + a)
      (λ a e d. let l = d.later in let b = h.numbers.base stays in omega arith) h.drawn.index in
      goes_on_kept _
      (action_on base v stays (entered stays) v.call (t.words (action v v.call).place)
      ok.permitted above)
  crowds_stay (LoadRoot k) is ok = same_kept _ refl (λ f. f)
  crowds_stay (StoreRoot k r) is ok = same_kept _ refl (λ f. f)
  crowds_stay (StoreCount n) is ok = same_kept _ refl (λ f. f)
  crowds_stay (ReadWord r k) is ok = same_kept _ refl (λ f. f)
  crowds_stay (ReadArgument r j) is ok = same_kept _ refl (λ f. f)
  crowds_stay (LoadAny p) is ok = same_kept _ refl (λ f. f)
  crowds_stay (StoreAny p n) is ok = same_kept _ refl (λ f. f)
  crowds_stay StoreClaim is ok = absurd is

-- the last entry of the chronicle is a Collect of seat i, which kept these trees
pub told_own : (before now : List Tree) (i : ℕ) → before ++ (cond (eqb i i) now [] ++ [])
    ≡ before ++ now
told_own before now i = ap (λ (b : Bool). before ++ (cond b now [] ++ [])) (eq-eqb i i refl)
    ∙ ap (λ (ts : List Tree). before ++ ts) (append-nil now)

told_other : (before now : List Tree) (i j : ℕ) → i ≢ j
    → before ++ (cond (eqb i j) now [] ++ []) ≡ before
told_other before now i j ne =
    ap (λ (b : Bool). before ++ (cond b now [] ++ [])) (ne_eqb i j ne) ∙ append-nil before

pred_one : (n : ℕ) → pred (n + 1) ≡ n
pred_one zero = refl
pred_one (suc n) = omega arith

-- the last store of a collection
module _ (z : Sizes) (t : core.State) (i : ℕ) (k : StoreHolds z t) (ok : InPlace z t i StoreClaim) (crowd : ℕ → List Tree) (was : Crowds z t.view crowd) where
  abbrev kept : List ℕ
  kept = names_left z t.words

  abbrev number : ℕ
  number = pred (t.words Base)

  abbrev entry : Entry
  entry = Collect number kept

  abbrev new_view : View
  new_view = collected (t.view i) (t.words Base) number (t.words InUse) kept

  abbrev old_lists : List (List Entry)
  old_lists = listed z.seats (λ j. (t.view j).entries)

  abbrev new_lists : List (List Entry)
  new_lists = listed z.seats (λ j. (words.put t.view i new_view j).entries)

  abbrev core_holds : CoreHolds z t
  core_holds = core_of z t k

  -- the Collect stands at the end of the chronicle
  collect_last : chronicle new_lists ≡ chronicle old_lists ++ (i, entry) ∷ []
  collect_last =
      let end = by_words z t core_holds i ok.permitted.0
      (k.strengthened.remembers.reads i).room ok.permitted.1 in
      let base : t.words Base ≡ k.began Base + k.began Claim + 1 = end.1.base in
      let number_is : number ≡ k.began Base + k.began Claim =
      ap pred base ∙ pred_one (k.began Base + k.began Claim) in
      let low : (y : ℕ × Entry) → IsNoted old_lists y → place y.1 < 2 * number =
      (λ y noted. let a = k.strengthened.holds.history.own y.0 y.1 noted.own in
      let b = (k.strengthened.holds.seats y.0).numbers.seen in omega arith) in
      ap chronicle (lists_noted z.seats t.view i new_view entry ok.present refl)
      ∙ (noting_puts_in old_lists i entry
      (let a = listed_length z.seats (λ j. (t.view j).entries) in
      let b = ok.present in omega arith)
      ∙ at_end (i, entry) (chronicle old_lists)
      (λ y c. lower_goes_first (i, entry) y (low y (noted_from_has old_lists y c))))

  new_set : held_by z (words.put t.view i new_view) ≡ with_only (held_by z t.view) kept
  new_set = ap (λ (s : TermSet). s.held)
      (ap set_of collect_last ∙ left_parts empty (chronicle old_lists) ((i, entry) ∷ []))

  kept_held : Each (IsHeld (held_by z t.view)) kept
  kept_held =
      let e = ok.permitted.1 in
      let are = names_kept z t.words e.meaning e.rows e.chains in
      let m = core_holds.meaning in
      each_from (IsHeld (held_by z t.view)) kept (λ r c.
      let reached =
      from_words z t core_holds i ok.permitted.0 r ((e.live r).0 ((are.each r).0 c)) in
      let live = reached_live z (record { lock = t.lock; words = core_holds.kept; view = t.view }) m
      core_holds.holds r reached in
      (m.tree r, ap (λ (h : Names). h r) core_holds.holds.history.pairs ∙ live_held m r live))

  kept_ascend : IsAscending kept
  kept_ascend = let e = ok.permitted.1 in (names_kept z t.words e.meaning e.rows e.chains).ascending

  new_differ : distinct (crowd_now z t) ≡ length (crowd_now z t)
  new_differ =
      let sound = legal_is_sound z.rows (chronicle old_lists) core_holds.holds.history.legal in
      trees_differ (held_by z t.view) kept sound.one_name kept_ascend kept_held

  names_now : kept_in new_view.entries ≡ kept
  names_now = kept_snoc [] (t.view i).entries entry

  told_now : (j : ℕ) → told kept_trees j empty (chronicle new_lists)
      ≡ told kept_trees j empty (chronicle old_lists) ++ (cond (eqb i j) (crowd_now z t) [] ++ [])
  told_now j = ap (told kept_trees j empty) collect_last ∙ told_parts j empty
      (chronicle old_lists) ((i, entry) ∷ [])

  own_crowd : IsCrowd new_lists i new_view.entries (crowd_now z t)
  own_crowd = record {
    noted = ap (λ (l : History). kept_in (part_of i l)) collect_last
        ∙ (ap kept_in
        (part_join i (chronicle old_lists) ((i, entry) ∷ [])
        ∙ ap (λ (es : List Entry). part_of i (chronicle old_lists) ++ es)
        (part_last_own i entry))
        ∙ (kept_snoc [] (part_of i (chronicle old_lists)) entry ∙ sym names_now));
    names = subst IsAscending (sym names_now) kept_ascend;
    many = trees_many (held_by z t.view) kept ∙ ap (λ (ns : List ℕ). length ns) (sym names_now);
    differ = new_differ;
    told = record {
      before = told kept_trees i empty (chronicle old_lists);
      is = told_now i ∙ told_own (told kept_trees i empty (chronicle old_lists))
          (crowd_now z t) i;
    };
  }

  other_crowd : (j : ℕ) → j < z.seats → j ≢ i → IsCrowd new_lists j (t.view j).entries (crowd j)
  other_crowd j l ne =
      let old = was.each j l in
      record {
        noted = ap (λ (l : History). kept_in (part_of j l)) collect_last
            ∙ (ap kept_in
            (part_join j (chronicle old_lists) ((i, entry) ∷ [])
            ∙ (ap (λ (es : List Entry). part_of j (chronicle old_lists) ++ es)
            (part_last_other i j entry (λ e. ne (sym e)))
            ∙ append-nil (part_of j (chronicle old_lists)))) ∙ old.noted);
        names = old.names;
        many = old.many;
        differ = old.differ;
        told = record {
          before = old.told.before;
          is = told_now j
              ∙ (told_other (told kept_trees j empty (chronicle old_lists)) (crowd_now z t) i j
              (λ e. ne (sym e)) ∙ old.told.is);
        };
      }

  storing_in : (t.view i).stay ≢ Away
  storing_in = ready_in (t.view i).stay
      ((core_holds.holds.seats i).numbers.calls
      (λ f. true≢false (sym ok.permitted.0 ∙ ap is_storing f)))

  pub crowds_end : Crowds z (steps.after z t i StoreClaim).view (words.put crowd i (crowd_now z t))
  crowds_end = record {
    each = λ j l. dite (ℕ_discrete j i)
        (λ e. subst (λ (q : ℕ). IsCrowd new_lists q (words.put t.view i new_view q).entries
        (words.put crowd i (crowd_now z t) q)) (sym e)
        (subst (λ (p : View × List Tree). IsCrowd new_lists i p.0.entries p.1)
        (λ q. (
          sym (put_same t.view i new_view) q,
          sym
              (put_same crowd i (crowd_now z t)) q,
        )) own_crowd))
        (λ ne. subst (λ (p : View × List Tree). IsCrowd new_lists j p.0.entries p.1)
        (λ q. (
          sym (put_other t.view i new_view j ne) q,
          sym
              (put_other crowd i (crowd_now z t) j ne) q,
        )) (other_crowd j l ne));
    held = λ j l s. dite (ℕ_discrete j i)
        (λ e. subst (λ (q : ℕ). held_by z (words.put t.view i new_view)
        ≡ pairs_of (kept_in (words.put t.view i new_view q).entries)
        (words.put crowd i (crowd_now z t) q)) (sym e)
        (subst (λ (p : View × List Tree). held_by z (words.put t.view i new_view)
        ≡ pairs_of (kept_in p.0.entries) p.1)
        (λ q. (
          sym (put_same t.view i new_view) q,
          sym
              (put_same crowd i (crowd_now z t)) q,
        ))
        (new_set ∙ (pairs_are (held_by z t.view) kept kept_held
        ∙ ap (λ (ns : List ℕ). pairs_of ns (crowd_now z t)) (sym names_now)))))
        (λ ne. absurd
        (none_fresh z t i (inductive z t k) ok.present crowd was storing_in j ne
        (ap (λ (p : View). p.fresh) (sym (put_other t.view i new_view j ne)) ∙ s.fresh)));
  }

-- a new store has kept nothing
listed_none : (n : ℕ) → ◌≡◌ {A = List (List Entry)} (listed n (λ _. [])) (replicate n [])
listed_none zero = refl
listed_none (suc n) = ap (λ (ls : List (List Entry)). [] ∷ ls) (listed_none n)

pub crowds_start : (z : Sizes) → Crowds z (λ _. newcomer z) (λ _. [])
crowds_start z = record {
  each = λ j l. record {
    noted = ap (λ (ls : List (List Entry)). kept_in (part_of j (chronicle ls)))
        (listed_none z.seats) ∙ ap (λ (h : History). kept_in (part_of j h))
        (nothing_at_start z.seats);
    names = tt;
    many = refl;
    differ = refl;
    told = record {
      before = [];
      is = ap (λ (ls : List (List Entry)). told kept_trees j empty (chronicle ls))
          (listed_none z.seats) ∙ ap (told kept_trees j empty) (nothing_at_start z.seats);
    };
  };
  held = λ j l s. absurd (true≢false (sym s.fresh));
}

-- the crowds as the views have them
pub crowd_here : (vs : List NodeView) (i : ℕ) (v : NodeView) → get_elem? vs i ≡ some v
    → crowd_at vs i ≡ v.crowd
crowd_here [] i v e = absurd (some-ne-none v (sym e))
crowd_here (x ∷ xs) zero v e = ap (λ (u : NodeView). u.crowd) (some-injective x v e)
crowd_here (x ∷ xs) (suc i) v e = crowd_here xs i v e

set_here : (vs : List NodeView) (i : ℕ) (w : NodeView) → i < length vs
    → crowd_at (set vs i w) i ≡ w.crowd
set_here [] i w l = absurd (omega arith)
set_here (x ∷ xs) zero w l = refl
set_here (x ∷ xs) (suc i) w l = set_here xs i w (omega arith)

set_there : (vs : List NodeView) (i : ℕ) (w : NodeView) (j : ℕ) → j ≢ i
    → crowd_at (set vs i w) j ≡ crowd_at vs j
set_there [] i w j ne = refl
set_there (x ∷ xs) zero w zero ne = absurd (ne refl)
set_there (x ∷ xs) zero w (suc j) ne = refl
set_there (x ∷ xs) (suc i) w zero ne = refl
set_there (x ∷ xs) (suc i) w (suc j) ne = set_there xs i w j (λ e. ne (ap suc e))

pub crowd_set : (vs : List NodeView) (i : ℕ) (w : NodeView) → i < length vs
    → crowd_at (set vs i w) ≡ words.put (crowd_at vs) i w.crowd
crowd_set vs i w l =
    fun_ext (λ j. choose (λ u. crowd_at (set vs i w) j ≡ u) (eqb j i) w.crowd (crowd_at vs j)
    (λ e. subst (λ (k : ℕ). crowd_at (set vs i w) k ≡ w.crowd) (sym (eqb_is j i e))
    (set_here vs i w l))
    (λ e. set_there vs i w j (eqb_not j i e)))

pub crowd_again : (f : ℕ → List Tree) (i : ℕ) (x : List Tree) → f i ≡ x → words.put f i x ≡ f
crowd_again f i x e =
    fun_ext (λ j. choose (λ u. u ≡ f j) (eqb j i) x (f j)
    (λ h. sym (ap f (eqb_is j i h) ∙ e)) (λ h. refl))

-- another view of a seat that has the same crowd
pub crowd_same : (vs : List NodeView) (i : ℕ) (v w : NodeView) → get_elem? vs i ≡ some v
    → i < length vs → w.crowd ≡ v.crowd → crowd_at (set vs i w) ≡ crowd_at vs
crowd_same vs i v w at l same =
    crowd_set vs i w l ∙ crowd_again (crowd_at vs) i w.crowd (crowd_here vs i v at ∙ sym same)

pub crowd_end : (vs : List NodeView) (u : NodeView) (j : ℕ) → u.crowd ≡ []
    → crowd_at (vs ++ u ∷ []) j ≡ crowd_at vs j
crowd_end [] u zero e = e
crowd_end [] u (suc j) e = refl
crowd_end (v ∷ vs) u zero e = refl
crowd_end (v ∷ vs) u (suc j) e = crowd_end vs u j e
