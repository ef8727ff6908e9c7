-- What a store that records its names, births and entries keeps.
use Rattle.std.proofs.Common.{◌≡◌, ℕ, zero, suc, [], replicate, ◌+◌, ◌*◌, ◌<◌, ◌≤◌, true, false, Some, None, List, ◌∷◌, length, max, refl, sym, ap, ◌∙◌, subst, arith, ◌⊎◌, inl, inr}
use Rattle.std.specs.Prelude.{Contains, ◌==◌}
use Rattle.std.proofs.lemmas.Bool.{cond-true, cond-false, eq-eqb, ne_eqb, cases_eq}
use Rattle.std.proofs.lemmas.List.Elements.{Contains-push_cases}
use Rattle.term_model.specs.Tree.{Tree}
use Rattle.term_model.specs.declared.Head.{Head}
use Rattle.history_core.specs.TermSet.{Names, TermSet, empty, Holds, IsHeld, tree_over, with_pair, with_only}
use Rattle.history_core.specs.Entry.{Entry, is_collect, key, place, Made, IsStep, needed, after}
use Rattle.history_core.specs.Entry.{Make, Find, Roots, Collect}
use Rattle.history_core.specs.Chronicle.{chronicle, noted, entries_of, IsLegal, set_of, IsNoted, MayNote, MayCollect}
use Rattle.history_core.proofs.Merge.{nothing_at_start}
use Rattle.history_core.proofs.Insertion.{noting_keeps, collecting_keeps}
use Rattle.history_core.proofs.Noted.{noted_cases, own_noted, other_noted}
use Rattle.history_core.proofs.Sets.{grows_pair, pair_same, pair_other}
use Rattle.history_core.proofs.Places.{lower_goes_first, made_place, collect_place}
use Rattle.history_core.proofs.Sound.{only_split}
use Rattle.history_core.proofs.Members.{contains_none, contains_cases, each_at}
use Rattle.history_core.specs.Recording.{Recording, changed, present, IsFaithful, IsIn}

no_entries : (callers i : ℕ) → entries_of (replicate callers []) i ≡ []
no_entries zero i = refl
no_entries (suc callers) zero = refl
no_entries (suc callers) (suc i) = no_entries callers i

pub start_is_faithful : (rows callers base : ℕ) (birth seen : ℕ → ℕ)
    → IsFaithful rows (record { names = empty.held; birth = birth; base = base; lists = replicate callers []; seen = seen })
start_is_faithful rows callers base birth seen = record {
  legal = subst (IsLegal rows) (sym nothing) tt;
  pairs = ap (λ l. (set_of l).held) nothing;
  own = λ i d c. absurd (contains_none d (subst (λ es. Contains es d) (no_entries callers i) c));
  collects = λ y noted h. absurd (none_noted y noted);
  births = λ n y noted made held. absurd (none_noted y noted);
  recent = λ n y noted made. absurd (none_noted y noted);
}
  where
    nothing : chronicle (replicate callers []) ≡ []
    nothing = nothing_at_start callers

    none_noted : (y : ℕ × Entry) → IsNoted (replicate callers []) y → ⊥
    none_noted y noted = contains_none y.1 (subst (λ es. Contains es y.1) (no_entries callers y.0) noted.own)

-- the set of the history is what the store has
now : (rows : ℕ) (st : Recording) → IsFaithful rows st → set_of (chronicle st.lists) ≡ present st
now rows st k = ap (λ (h : Names). record { held = h; roots = (set_of (chronicle st.lists)).roots }) k.pairs

-- an entry of a seat that is in may be noted
may_note : (rows : ℕ) (st : Recording) (i : ℕ) (e : Entry) → IsFaithful rows st → IsIn st i → is_collect e ≡ false → 2 * st.seen i + 1 ≤ place e
    → ((n : ℕ) → Contains (needed e) n → IsHeld st.names n) → ((n : ℕ) → Contains (needed e) n → 2 * st.birth n < place e)
    → IsStep rows (present st) e → MayNote rows st.lists i e
may_note rows st i e k i_in kind above held born step = record {
  present = i_in.there;
  kind = kind;
  own = λ d c. let h = k.own i d c in omega arith;
  collects = λ y noted h. let low = k.collects y noted h in let at = collect_place y.1 h in let base = i_in.base in lower_goes_first (i, e) y (omega arith);
  names = λ n y c noted made. let low = k.births n y noted made (held n c) in let at = made_place y.1 n made in let b = born n c in lower_goes_first (i, e) y (omega arith);
  step = subst (λ s. IsStep rows s e) (sym (now rows st k)) step;
}

-- what the seats have seen after the seat's entry
own_after : (rows : ℕ) (st : Recording) (i : ℕ) (e : Entry) (seen : ℕ) → IsFaithful rows st → i < length st.lists → st.seen i ≤ seen → place e ≤ 2 * seen + 1
    → (j : ℕ) (d : Entry) → Contains (entries_of (noted st.lists i e) j) d → place d ≤ 2 * changed st.seen i seen j + 1
own_after rows st i e seen k there later last j d c = go (cases_eq j i)
  where
    mine : Contains (entries_of st.lists i) d ⊎ (e ≡ d) → place d ≤ 2 * seen + 1
    mine (inl old) = let h = k.own i d old in omega arith
    mine (inr same) = subst (λ x. place x ≤ 2 * seen + 1) same last

    go : (j ≡ i) ⊎ (j ≡ i → ⊥) → place d ≤ 2 * changed st.seen i seen j + 1
    go (inl same) =
        let value : changed st.seen i seen j ≡ seen = cond-true (j == i) seen (st.seen j) (eq-eqb j i same) in
        let low = mine (Contains-push_cases (entries_of st.lists i) e d (subst (λ es. Contains es d) (own_noted st.lists i e there) (subst (λ (m : ℕ). Contains (entries_of (noted st.lists i e) m) d) same c))) in
        omega arith
    go (inr ne) =
        let value : changed st.seen i seen j ≡ st.seen j = cond-false (j == i) seen (st.seen j) (ne_eqb j i ne) in
        let h = k.own j d (subst (λ es. Contains es d) (other_noted st.lists i e j ne) c) in
        omega arith

max_left : (a b : ℕ) → a ≤ max a b
max_left a b = omega arith

max_right : (a b : ℕ) → b ≤ max a b
max_right a b = omega arith

pub make_keeps : (rows : ℕ) (st : Recording) (i number : ℕ) (head : Head) (args : List ℕ) (row : ℕ) → IsFaithful rows st → IsIn st i
    → st.seen i < number → ((n : ℕ) → Contains args n → st.birth n ≤ st.seen i) → IsStep rows (present st) (Make number head args row)
    → IsFaithful rows (record {
      names = with_pair st.names row (tree_over st.names head args);
      birth = changed st.birth row number;
      base = st.base;
      lists = noted st.lists i (Make number head args row);
      seen = changed st.seen i number;
    })
make_keeps rows st i number head args row k i_in new born step = record {
  legal = done.0;
  pairs = ap (λ (s : TermSet). s.held) done.1 ∙ ap (λ (h : Names). with_pair h row (tree_over h head args)) k.pairs;
  own = own_after rows st i e number k i_in.there (omega arith) (omega arith);
  collects = λ y noted h. elim (noted_cases st.lists i e y i_in.there noted) [ inl same ↦ absurd (no_collect y same h) | inr old ↦ k.collects y old h ];
  births = λ n y noted made held. births n y (noted_cases st.lists i e y i_in.there noted) made (cases_eq n row) held;
  recent = λ n y noted made. recent n y (noted_cases st.lists i e y i_in.there noted) made;
}
  where
    e : Entry
    e = Make number head args row

    may : MayNote rows st.lists i e
    may = may_note rows st i e k i_in refl (omega arith) (λ n c. each_at (IsHeld st.names) args n step.0.names c) (λ n c. let b = born n c in omega arith) step

    done : IsLegal rows (chronicle (noted st.lists i e)) × (set_of (chronicle (noted st.lists i e)) ≡ after (set_of (chronicle st.lists)) i e)
    done = noting_keeps rows st.lists i e k.legal may

    no_collect : (y : ℕ × Entry) → (i, e) ≡ y → is_collect y.1 ≡ true → ⊥
    no_collect y same h = let no : is_collect y.1 ≡ false = ap (λ (z : ℕ × Entry). is_collect z.1) (sym same) in cc

    grown : (n : ℕ) → IsHeld st.names n → IsHeld (with_pair st.names row (tree_over st.names head args)) n
    grown n h = (h.0, (grows_pair st.names row (tree_over st.names head args) step.2).each n h.0 h.1)

    recent : (n : ℕ) (y : ℕ × Entry) → ((i, e) ≡ y) ⊎ IsNoted st.lists y → Made y.1 n → (key y.1 < st.base) ⊎ IsHeld (with_pair st.names row (tree_over st.names head args)) n
    recent n y (inl same) made = let is : row ≡ n = subst (λ (z : ℕ × Entry). Made z.1 n) (sym same) made in
        inr (tree_over st.names head args, subst (λ (m : ℕ). Holds (with_pair st.names row (tree_over st.names head args)) m (tree_over st.names head args)) is (pair_same st.names row (tree_over st.names head args)))
    recent n y (inr old) made = elim (k.recent n y old made) [ inl low ↦ inl low | inr held ↦ inr (grown n held) ]

    gone : (n : ℕ) (t : Tree) → st.names n ≡ None → st.names n ≡ Some t → ⊥
    gone n t a b = cc

    births : (n : ℕ) (y : ℕ × Entry) → ((i, e) ≡ y) ⊎ IsNoted st.lists y → Made y.1 n → (n ≡ row) ⊎ (n ≡ row → ⊥)
        → IsHeld (with_pair st.names row (tree_over st.names head args)) n → key y.1 ≤ changed st.birth row number n
    births n y (inl same) made d held =
        let is : row ≡ n = subst (λ (z : ℕ × Entry). Made z.1 n) (sym same) made in
        let value : changed st.birth row number n ≡ number = cond-true (n == row) number (st.birth n) (eq-eqb n row (sym is)) in
        let its : key y.1 ≡ number = ap (λ (z : ℕ × Entry). key z.1) (sym same) in
        omega arith
    births n y (inr old) made (inl at) held =
        let value : changed st.birth row number n ≡ number = cond-true (n == row) number (st.birth n) (eq-eqb n row at) in
        let base = i_in.base in
        let free : st.names n ≡ None = ap st.names at ∙ step.2 in
        elim (k.recent n y old made) [ inl low ↦ omega arith | inr was ↦ absurd (gone n was.0 free was.1) ]
    births n y (inr old) made (inr ne) held =
        let value : changed st.birth row number n ≡ st.birth n = cond-false (n == row) number (st.birth n) (ne_eqb n row ne) in
        let h = k.births n y old made (held.0, sym (pair_other st.names row (tree_over st.names head args) n ne) ∙ held.1) in
        omega arith

-- an entry that makes nothing, collects nothing and leaves the pairs
still : (rows : ℕ) (st : Recording) (i : ℕ) (e : Entry) (seen : ℕ → ℕ) → IsFaithful rows st → IsIn st i → MayNote rows st.lists i e
    → ((s : TermSet) → (after s i e).held ≡ s.held) → ((n : ℕ) → Made e n → ⊥)
    → ((j : ℕ) (d : Entry) → Contains (entries_of (noted st.lists i e) j) d → place d ≤ 2 * seen j + 1)
    → IsFaithful rows (record { names = st.names; birth = st.birth; base = st.base; lists = noted st.lists i e; seen = seen })
still rows st i e seen k i_in may same nothing own = record {
  legal = done.0;
  pairs = ap (λ (s : TermSet). s.held) done.1 ∙ same (set_of (chronicle st.lists)) ∙ k.pairs;
  own = own;
  collects = λ y noted h. k.collects y (elim (noted_cases st.lists i e y i_in.there noted) [ inl is ↦ absurd (no_collect y is h) | inr old ↦ old ]) h;
  births = λ n y noted made held. k.births n y (older n y noted made) made held;
  recent = λ n y noted made. k.recent n y (older n y noted made) made;
}
  where
    done : IsLegal rows (chronicle (noted st.lists i e)) × (set_of (chronicle (noted st.lists i e)) ≡ after (set_of (chronicle st.lists)) i e)
    done = noting_keeps rows st.lists i e k.legal may

    no_collect : (y : ℕ × Entry) → (i, e) ≡ y → is_collect y.1 ≡ true → ⊥
    no_collect y is h = let no : is_collect y.1 ≡ false = ap (λ (z : ℕ × Entry). is_collect z.1) (sym is) ∙ may.kind in cc

    older : (n : ℕ) (y : ℕ × Entry) → IsNoted (noted st.lists i e) y → Made y.1 n → IsNoted st.lists y
    older n y is made = elim (noted_cases st.lists i e y i_in.there is) [ inl own_entry ↦ absurd (nothing n (subst (λ (z : ℕ × Entry). Made z.1 n) (sym own_entry) made)) | inr old ↦ old ]

pub find_keeps : (rows : ℕ) (st : Recording) (i : ℕ) (head : Head) (args : List ℕ) (row : ℕ) → IsFaithful rows st → IsIn st i
    → ((n : ℕ) → Contains args n → st.birth n ≤ st.seen i) → IsStep rows (present st) (Find (max (st.seen i) (st.birth row)) head args row)
    → IsFaithful rows (record {
      names = st.names;
      birth = st.birth;
      base = st.base;
      lists = noted st.lists i (Find (max (st.seen i) (st.birth row)) head args row);
      seen = changed st.seen i (max (st.seen i) (st.birth row));
    })
find_keeps rows st i head args row k i_in born step =
    still rows st i e (changed st.seen i m) k i_in may (λ s. refl) (λ n h. h) (own_after rows st i e m k i_in.there (max_left (st.seen i) (st.birth row)) (omega arith))
  where
    m : ℕ
    m = max (st.seen i) (st.birth row)

    e : Entry
    e = Find m head args row

    held : (n : ℕ) → Contains (row ∷ args) n → IsHeld st.names n
    held n c = elim (contains_cases row args n c) [ inl same ↦ subst (IsHeld st.names) same (tree_over st.names head args, step.1) | inr d ↦ each_at (IsHeld st.names) args n step.0.names d ]

    low_row : (n : ℕ) → row ≡ n → 2 * st.birth n < 2 * m + 1
    low_row n same = let b : st.birth row ≤ m = max_right (st.seen i) (st.birth row) in let at : st.birth row ≡ st.birth n = ap st.birth same in omega arith

    low_arg : (n : ℕ) → st.birth n ≤ st.seen i → 2 * st.birth n < 2 * m + 1
    low_arg n b = let l : st.seen i ≤ m = max_left (st.seen i) (st.birth row) in omega arith

    low : (n : ℕ) → Contains (row ∷ args) n → 2 * st.birth n < 2 * m + 1
    low n c = elim (contains_cases row args n c) [ inl same ↦ low_row n same | inr d ↦ low_arg n (born n d) ]

    may : MayNote rows st.lists i e
    may = may_note rows st i e k i_in refl (let l : st.seen i ≤ m = max_left (st.seen i) (st.birth row) in omega arith) held low step

same_seen : (seen : ℕ → ℕ) (i j : ℕ) → changed seen i (seen i) j ≡ seen j
same_seen seen i j = go (cases_eq j i)
  where
    go : (j ≡ i) ⊎ (j ≡ i → ⊥) → changed seen i (seen i) j ≡ seen j
    go (inl same) = cond-true (j == i) (seen i) (seen j) (eq-eqb j i same) ∙ ap seen (sym same)
    go (inr ne) = cond-false (j == i) (seen i) (seen j) (ne_eqb j i ne)

pub roots_keep : (rows : ℕ) (st : Recording) (i : ℕ) (names : List ℕ) → IsFaithful rows st → IsIn st i
    → ((n : ℕ) → Contains names n → st.birth n ≤ st.seen i) → IsStep rows (present st) (Roots (st.seen i) names)
    → IsFaithful rows (record { names = st.names; birth = st.birth; base = st.base; lists = noted st.lists i (Roots (st.seen i) names); seen = st.seen })
roots_keep rows st i names k i_in born step =
    still rows st i e st.seen k i_in may (λ s. refl) (λ n h. h)
    (λ j d c. let h = own_after rows st i e (st.seen i) k i_in.there (omega arith) (omega arith) j d c in let same = same_seen st.seen i j in omega arith)
  where
    e : Entry
    e = Roots (st.seen i) names

    may : MayNote rows st.lists i e
    may = may_note rows st i e k i_in refl (omega arith) (λ n c. each_at (IsHeld st.names) names n step c) (λ n c. let b = born n c in omega arith) step

pub collect_keeps : (rows : ℕ) (st : Recording) (i number : ℕ) (kept : List ℕ) → IsFaithful rows st → i < length st.lists → st.base ≤ number
    → ((j : ℕ) → st.seen j < number) → IsStep rows (present st) (Collect number kept)
    → IsFaithful rows (record {
      names = with_only st.names kept;
      birth = st.birth;
      base = number + 1;
      lists = noted st.lists i (Collect number kept);
      seen = changed st.seen i number;
    })
collect_keeps rows st i number kept k there base above step = record {
  legal = done.0;
  pairs = ap (λ (s : TermSet). s.held) done.1 ∙ ap (λ (h : Names). with_only h kept) k.pairs;
  own = own_after rows st i e number k there (let h = above i in omega arith) (omega arith);
  collects = λ y noted h. collects y (noted_cases st.lists i e y there noted) h;
  births = λ n y noted made held. k.births n y (older n y noted made) made (was_held n held);
  recent = λ n y noted made. inl (let h = low y (older n y noted made) in let at = made_place y.1 n made in omega arith);
}
  where
    e : Entry
    e = Collect number kept

    low : (y : ℕ × Entry) → IsNoted st.lists y → place y.1 < 2 * number
    low y noted = let h = k.own y.0 y.1 noted.own in let a = above y.0 in omega arith

    may : MayCollect rows st.lists i e
    may = record { present = there; last = λ y noted. lower_goes_first (i, e) y (low y noted); step = subst (λ s. IsStep rows s e) (sym (now rows st k)) step }

    done : IsLegal rows (chronicle (noted st.lists i e)) × (set_of (chronicle (noted st.lists i e)) ≡ after (set_of (chronicle st.lists)) i e)
    done = collecting_keeps rows st.lists i e k.legal may

    collects : (y : ℕ × Entry) → ((i, e) ≡ y) ⊎ IsNoted st.lists y → is_collect y.1 ≡ true → key y.1 < number + 1
    collects y (inl same) h = let its : key y.1 ≡ number = ap (λ (z : ℕ × Entry). key z.1) (sym same) in omega arith
    collects y (inr old) h = let c = k.collects y old h in omega arith

    older : (n : ℕ) (y : ℕ × Entry) → IsNoted (noted st.lists i e) y → Made y.1 n → IsNoted st.lists y
    older n y is made = elim (noted_cases st.lists i e y there is) [ inl own_entry ↦ absurd (subst (λ (z : ℕ × Entry). Made z.1 n) (sym own_entry) made) | inr old ↦ old ]

    was_held : (n : ℕ) → IsHeld (with_only st.names kept) n → IsHeld st.names n
    was_held n held = (held.0, (only_split st.names kept n held.0 held.1).0)
