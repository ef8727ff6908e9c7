-- A new store meets the rule, and so does one with a seat more.
use Rattle.std.proofs.Common.{◌≡◌, ◌≢◌, ◌⊎◌, inl, inr, ℕ, zero, suc, ◌+◌, ◌*◌, ◌<◌, eqb, Bool, true, false, cond, Some, List, [], ◌∷◌, ◌++◌, length, get_or, set, replicate, refl, sym, ap, ◌∙◌, subst, ⊎_elim, arith, length-set, length-append, get_or-set_other}
use mathlib.Core.Path.{fun_ext}
use mathlib.Core.Option.{some, some-injective, some-ne-none}
use lib.ListN.{get_elem?}
use Rattle.atomic_table.specs.Table.{Splits, opening}
use Rattle.atomic_table.proofs.Lists.{at_set, set_here, at_longer, at_last}
use Rattle.term_model.specs.Tree.{Tree}
use Rattle.lock_core.specs.Lock.{at_start}
use Rattle.busy_forbidden.specs.Shown.{newcomer}
use Rattle.busy_forbidden.proofs.Dealing.{lock_opens, lock_splits}
use Rattle.store_model.specs.declared.view.Sizes.{Sizes}
use Rattle.store_model.specs.declared.view.View.{View}
use Rattle.store_model.specs.declared.view.Place.{Place}
use Rattle.store_model.specs.declared.view.Place.TheVariants.{Base, FreeCount, Claim, InUse, FreePlace, Bucket, RowWord, RootCount, Root}
use Rattle.store_model.specs.Words.{write}
use Rattle.store_model.specs.Shown.{shown, total, in_table, index_of}
use Rattle.store_model.specs.Steps as core
use Rattle.store_model.specs.Runs as runs
use Rattle.store_model.specs.Runs.{AreSizes}
use Rattle.store_model.specs.Recalls.{Recalls}
use Rattle.store_model.specs.StoreHolds.{StoreHolds}
use Rattle.store_model.specs.NewStore.{MaySize}
use Rattle.store_model.proofs.Basics.{choose, each_map, eqb_is, eqb_not}
use Rattle.store_model.proofs.Shown.{shown_written, past_lock, place_inside}
use Rattle.store_model.proofs.Eight.{eight}
use Rattle.store_model.proofs.RecallsHold.{start_recalls}
use Rattle.store_model.proofs.Runs.{starts}
use Rattle.node_rows.specs.declared.view.NodeView.{NodeView}
use Rattle.node_rows.specs.Shown.{lock_of, first_view, one_made, next_seat, store_at, Shows}
use Rattle.node_rows.specs.declared.view.JoinedSeat.{JoinedSeat}
use Rattle.node_rows.specs.Crowding.{Crowds, crowd_at}
use Rattle.node_rows.specs.CrowdsKept.{crowds_start, crowd_same, crowd_end}
use Rattle.node_rows.specs.Joining.{spent_view, seats_in, AreApart, IsSpent, Gathers, with_views, ShowsJoined}
use Rattle.node_rows.specs.Gathering.{not_spent, known_at, step_gathers}
use Rattle.store_model.specs.Machine.{Each}
use Rattle.node_rows.specs.Locking.{store_here, store_set, put_again}
use Rattle.atomic_table.specs.Seated.{TableId}
use Rattle.atomic_table.specs.declared.shared.Seat.{Seat}
use Rattle.node_rows.specs.Passes.{IsPass, IsOut}
use Rattle.node_rows.specs.Opening.{UpTo, IsNew}

zero_at : (n k : ℕ) → ◌≡◌ {A = ℕ} (get_or (replicate n 0) k 0) 0
zero_at zero k = refl
zero_at (suc n) zero = refl
zero_at (suc n) (suc k) = zero_at n k

no_word : (n k : ℕ) (b : Bool) → ◌≡◌ {A = ℕ} (cond b (get_or (replicate n 0) k 0) 0) 0
no_word n k true = zero_at n k
no_word n k false = refl

zero_shown : (z : Sizes) (n : ℕ) (p : Place) → shown z (replicate n 0) p ≡ 0
zero_shown z n p = no_word n (index_of z p) (in_table z p)

module _ (z : Sizes) (words : List ℕ) (p : Place) (n : ℕ) (long : length words ≡ total z) (there : in_table z p ≡ true) where
  written : shown z (set words (index_of z p) n) ≡ write (shown z words) p n
  written = shown_written z words p n there (let i = place_inside z p there in omega arith)

  kept_zeros : ((j : ℕ) → j < 1 + 2 * z.seats → get_or words j 0 ≡ 0) → (j : ℕ) → j < 1 + 2 * z.seats → get_or (set words (index_of z p) n) j 0 ≡ 0
  kept_zeros h j l = get_or-set_other words (index_of z p) j n 0 (let a = past_lock z p in λ e. omega arith) ∙ h j l

  kept_long : length (set words (index_of z p) n) ≡ total z
  kept_long = length-set words (index_of z p) n ∙ long

-- the single words of a new store
pub up_to_none : (z : Sizes) (words : List ℕ) → words ≡ replicate (total z) 0 → length words ≡ total z → UpTo z (set (set (set words (index_of z Base) z.first) (index_of z FreeCount) z.rows) (index_of z InUse) z.start) 0
up_to_none z words is long =
    let a : List ℕ = set words (index_of z Base) z.first in
    let b : List ℕ = set a (index_of z FreeCount) z.rows in
    let la : length a ≡ total z = kept_long z words Base z.first long refl in
    let lb : length b ≡ total z = kept_long z a FreeCount z.rows la refl in
    let none : (p : Place) → shown z words p ≡ 0 = (λ p. ap (λ ws. shown z ws p) is ∙ zero_shown z (total z) p) in
    let e : shown z (set b (index_of z InUse) z.start) ≡ write (write (write (shown z words) Base z.first) FreeCount z.rows) InUse z.start =
    written z b InUse z.start lb refl ∙ ap (λ w. write w InUse z.start) (written z a FreeCount z.rows la refl ∙ ap (λ w. write w FreeCount z.rows) (written z words Base z.first long refl)) in
    record {
      long = kept_long z b InUse z.start lb refl;
      zeros = kept_zeros z b InUse z.start lb refl (kept_zeros z a FreeCount z.rows la refl (kept_zeros z words Base z.first long refl (λ j l. ap (λ ws. get_or ws j 0) is ∙ zero_at (total z) j)));
      base = ap (λ (w : Place → ℕ). w Base) e;
      count = ap (λ (w : Place → ℕ). w FreeCount) e;
      claim = ap (λ (w : Place → ℕ). w Claim) e ∙ none Claim;
      in_use = ap (λ (w : Place → ℕ). w InUse) e;
      place = λ i l. absurd (omega arith);
      bucket = λ q. ap (λ (w : Place → ℕ). w (Bucket q)) e ∙ none (Bucket q);
      count_words = λ r. ap (λ (w : Place → ℕ). w (RowWord r 1)) e ∙ none (RowWord r 1);
      root_counts = λ j. ap (λ (w : Place → ℕ). w (RootCount j)) e ∙ none (RootCount j);
      roots = λ j k. ap (λ (w : Place → ℕ). w (Root j k)) e ∙ none (Root j k);
    }

-- one free place more
pub up_to_next : (z : Sizes) (words : List ℕ) (k : ℕ) → UpTo z words k → in_table z (FreePlace k) ≡ true → UpTo z (set words (index_of z (FreePlace k)) k) (suc k)
up_to_next z words k h there =
    let e = written z words (FreePlace k) k h.long there in
    record {
      long = kept_long z words (FreePlace k) k h.long there;
      zeros = kept_zeros z words (FreePlace k) k h.long there h.zeros;
      base = ap (λ (w : Place → ℕ). w Base) e ∙ h.base;
      count = ap (λ (w : Place → ℕ). w FreeCount) e ∙ h.count;
      claim = ap (λ (w : Place → ℕ). w Claim) e ∙ h.claim;
      in_use = ap (λ (w : Place → ℕ). w InUse) e ∙ h.in_use;
      place = λ i l. ap (λ (w : Place → ℕ). w (FreePlace i)) e ∙ choose (λ (n : ℕ). n ≡ i) (eqb i k) k (shown z words (FreePlace i)) (λ t. sym (eqb_is i k t)) (λ f. let ne = eqb_not i k f in h.place i (let d : i ≢ k = ne in omega arith));
      bucket = λ q. ap (λ (w : Place → ℕ). w (Bucket q)) e ∙ h.bucket q;
      count_words = λ r. ap (λ (w : Place → ℕ). w (RowWord r 1)) e ∙ h.count_words r;
      root_counts = λ j. ap (λ (w : Place → ℕ). w (RootCount j)) e ∙ h.root_counts j;
      roots = λ j i. ap (λ (w : Place → ℕ). w (Root j i)) e ∙ h.roots j i;
    }

first_at : (z : Sizes) (j : ℕ) → store_at z (first_view z ∷ []) j ≡ core.newcomer z
first_at z zero = refl
first_at z (suc j) = refl

first_crowd : (z : Sizes) (j : ℕ) → crowd_at (first_view z ∷ []) j ≡ []
first_crowd z zero = refl
first_crowd z (suc j) = refl

only_first : (z : Sizes) (P : ℕ → NodeView → Type 0) → P 0 (first_view z) → (i : ℕ) (v : NodeView) → get_elem? (first_view z ∷ []) i ≡ some v → P i v
only_first z P h zero v e = subst (P 0) (some-injective _ _ e) h
only_first z P h (suc i) v e = absurd (some-ne-none v (sym e))

sizes_are : (z : Sizes) → MaySize z → AreSizes z
sizes_are z h = record { first = h.first; room = let r = h.room in omega arith; used = h.start.0; within = h.start.1 }

pub opens_node : (z : Sizes) (words : List ℕ) → UpTo z words z.rows → MaySize z → Shows z (opening words [] (first_view z))
unfolding lock_opens
opens_node z words h sizes =
    record {
      lock = lock_opens lock_of z.seats words (first_view z) refl sizes.seats.0 (let a = past_lock z Base in let b = place_inside z Base refl in let l = h.long in omega arith) h.zeros;
      wide = let l = h.long in omega arith;
      holds = subst (λ (f : ℕ → View). StoreHolds z (record { lock = at_start z.seats; words = shown z words; view = f })) (sym (fun_ext (first_at z)))
          (eight z (runs.at_start z (shown z words)) (starts z (shown z words) (sizes_are z sizes) record { base = h.base; count = h.count; claim = h.claim; in_use = h.in_use; place = h.place; bucket = h.bucket; count_word = h.count_words; root_count = h.root_counts; root = λ j k _. h.roots j k }));
      sized = only_first z (λ i v. v.sizes ≡ z) refl;
      some_made = omega arith;
      count = λ v e. ap (λ (u : NodeView). u.made) (sym (some-injective _ _ e));
    }

store_end : (z : Sizes) (vs : List NodeView) (u : NodeView) (j : ℕ) → u.store ≡ core.newcomer z → store_at z (vs ++ u ∷ []) j ≡ store_at z vs j
store_end z [] u zero e = e
store_end z [] u (suc j) e = refl
store_end z (v ∷ vs) u zero e = refl
store_end z (v ∷ vs) u (suc j) e = store_end z vs u j e

at_end : (l : List NodeView) (a b : NodeView) (j : ℕ) → get_elem? (l ++ a ∷ []) j ≡ some b → (get_elem? l j ≡ some b) ⊎ ((j ≡ length l) × (a ≡ b))
at_end [] a b zero e = inr (refl, some-injective a b e)
at_end [] a b (suc j) e = absurd (some-ne-none b (sym e))
at_end (x ∷ xs) a b zero e = inl e
at_end (x ∷ xs) a b (suc j) e = ⊎_elim inl (λ t. inr (ap suc t.0, t.1)) (at_end xs a b j e)

first_of_more : (vs : List NodeView) (w : NodeView) → 0 < length vs → get_elem? (vs ++ w ∷ []) 0 ≡ get_elem? vs 0
first_of_more [] w l = absurd (omega arith)
first_of_more (x ∷ xs) w l = refl

-- a seat more knows nothing of the store yet
more_same : (z : Sizes) (vs : List NodeView) (v : NodeView) → 0 < length vs → v.sizes ≡ z → get_elem? vs 0 ≡ some v → store_at z (set vs 0 (one_made v) ++ next_seat v ∷ []) ≡ store_at z vs
more_same z vs v some_made sizes at = fun_ext (λ j. store_end z (set vs 0 (one_made v)) (next_seat v) j (ap core.newcomer sizes)
    ∙ ap (λ (f : ℕ → View). f j) (store_set z vs 0 (one_made v) some_made ∙ put_again (store_at z vs) 0 v.store (store_here z vs 0 v at)))

pub splits_node : (z : Sizes) (v : NodeView) → v.made < z.seats → v.sizes ≡ z → Splits (Shows z) 0 v (one_made v) (next_seat v)
unfolding lock_splits
splits_node z v room sizes s rule at =
    let w : NodeView = one_made v in let u : NodeView = next_seat v in let vs : List NodeView = s.views in
    let count : v.made ≡ length vs = rule.count v at in
    let some_made = rule.some_made in
    let kept = length-set vs 0 w in
    let long : length (set vs 0 w ++ u ∷ []) ≡ length vs + 1 = length-append (set vs 0 w) (u ∷ []) ∙ ap (λ (k : ℕ). k + 1) kept in
    let same : store_at z (set vs 0 w ++ u ∷ []) ≡ store_at z vs = more_same z vs v some_made sizes at in
    let each : (P : ℕ → NodeView → Type 0) → P 0 w → P (length vs) u → ((j : ℕ) (x : NodeView) → get_elem? vs j ≡ some x → P j x) → (j : ℕ) (x : NodeView) → get_elem? (set vs 0 w ++ u ∷ []) j ≡ some x → P j x =
    (λ P a b c j x e. ⊎_elim
    (λ old. ⊎_elim
    (λ (t : (j ≡ 0) × (w ≡ x)). subst (λ (q : ℕ × NodeView). P q.0 q.1) (λ k. (sym t.0 k, t.1 k)) a)
    (λ (t : (j ≢ 0) × (get_elem? vs j ≡ some x)). c j x t.1)
    (at_set vs 0 j w x old))
    (λ (t : (j ≡ length (set vs 0 w)) × (u ≡ x)). subst (λ (q : ℕ × NodeView). P q.0 q.1) (λ k. (sym (t.0 ∙ kept) k, t.1 k)) b)
    (at_end (set vs 0 w) u x j e)) in
    record {
      lock = lock_splits lock_of z.seats s 0 v w u rule.lock at refl (ap newcomer count) (omega arith);
      wide = rule.wide;
      holds = subst (λ (f : ℕ → View). StoreHolds z (record { lock = rule.lock.state; words = shown z s.words; view = f })) (sym same) rule.holds;
      sized = each (λ i x. x.sizes ≡ z) sizes sizes rule.sized;
      some_made = omega arith;
      count = λ x e. let here : w ≡ x = some-injective _ _ (sym (set_here vs 0 w some_made) ∙ (sym (first_of_more (set vs 0 w) u (omega arith)) ∙ e)) in
          sym (ap (λ (a : NodeView). a.made) here) ∙ (ap (λ (k : ℕ). k + 1) count ∙ sym long);
    }

pub opens_joined : (z : Sizes) (words : List ℕ) → UpTo z words z.rows → MaySize z → ShowsJoined z (opening words [] (first_view z))
opens_joined z words h sizes = let shows = opens_node z words h sizes in record {
  known = first_view z ∷ [];
  joins = record {
    long = refl;
    own = λ j v e. inr e;
    held = λ j v e. only_first z (λ i u. Each (IsSpent (first_view z ∷ []) (first_view z ∷ [])) u.joined) tt j v e;
    apart = λ j v e. only_first z (λ i u. AreApart (seats_in u.joined)) tt j v e;
  };
  lock = shows.lock;
  shows = shows;
  recalls = subst (Recalls z) (sym (fun_ext (first_at z))) (start_recalls z (λ _. 0));
  crowds = subst (λ (p : (ℕ → View) × (ℕ → List Tree)). Crowds z p.0 p.1) (λ q. (sym (fun_ext (first_at z)) q, sym (fun_ext (first_crowd z)) q)) (crowds_start z);
}

more_kept : (known views : List NodeView) (k v : NodeView) (x : JoinedSeat) → IsSpent known views x → IsSpent (known ++ k ∷ []) (views ++ v ∷ []) x
more_kept known views k v x s = record { view = s.view; knew = at_longer known (k ∷ []) x.seat s.view s.knew; store = s.store; crowd = s.crowd; spent = at_longer views (v ∷ []) x.seat spent_view s.spent }

-- a seat more, into which none was joined
more_gathers : (known views : List NodeView) (u : NodeView) → u.joined ≡ [] → Gathers known views → Gathers (known ++ u ∷ []) (views ++ u ∷ [])
more_gathers known views u none g =
    let new : List NodeView = known ++ u ∷ [] in let all : List NodeView = views ++ u ∷ [] in
    record {
      long = length-append views (u ∷ []) ∙ (ap (λ (n : ℕ). n + 1) g.long ∙ sym (length-append known (u ∷ [])));
      own = λ j x e. ⊎_elim
          (λ old. ⊎_elim inl (λ k. inr (at_longer known (u ∷ []) j x k)) (g.own j x old))
          (λ (t : (j ≡ length views) × (u ≡ x)). inr (subst (λ (q : NodeView). get_elem? new j ≡ some q) t.1 (at_last known u j (sym (t.0 ∙ g.long)))))
          (at_end views u x j e);
      held = λ j x e. ⊎_elim
          (λ old. each_map _ _ x.joined (more_kept known views u u) (g.held j x old))
          (λ (t : (j ≡ length views) × (u ≡ x)). subst (λ (q : NodeView). Each (IsSpent new all) q.joined) t.1 (subst (Each (IsSpent new all)) (sym none) tt))
          (at_end views u x j e);
      apart = λ j x e. ⊎_elim
          (λ old. g.apart j x old)
          (λ (t : (j ≡ length views) × (u ≡ x)). subst (λ (q : NodeView). AreApart (seats_in q.joined)) t.1 (subst (λ xs. AreApart (seats_in xs)) (sym none) tt))
          (at_end views u x j e);
    }

-- and its seats have the same crowds
split_crowds : (z : Sizes) (vs : List NodeView) (v w u : NodeView) → get_elem? vs 0 ≡ some v → 0 < length vs → w.store ≡ v.store → w.crowd ≡ v.crowd → u.store ≡ core.newcomer z → u.crowd ≡ []
    → Crowds z (store_at z vs) (crowd_at vs) → Crowds z (store_at z (set vs 0 w ++ u ∷ [])) (crowd_at (set vs 0 w ++ u ∷ []))
split_crowds z vs v w u at some_made store crowd new none was =
    let views : store_at z (set vs 0 w ++ u ∷ []) ≡ store_at z vs = fun_ext (λ j. store_end z (set vs 0 w) u j new)
    ∙ (store_set z vs 0 w some_made ∙ put_again (store_at z vs) 0 w.store (store_here z vs 0 v at ∙ sym store)) in
    let crowds : crowd_at (set vs 0 w ++ u ∷ []) ≡ crowd_at vs = fun_ext (λ j. crowd_end (set vs 0 w) u j none) ∙ crowd_same vs 0 v w at some_made crowd in
    subst (λ (p : (ℕ → View) × (ℕ → List Tree)). Crowds z p.0 p.1) (λ q. (sym views q, sym crowds q)) was

pub splits_joined : (z : Sizes) (v : NodeView) → v.lock.number ≡ Some 0 → v.made < z.seats → v.sizes ≡ z → Splits (ShowsJoined z) 0 v (one_made v) (next_seat v)
unfolding lock_splits
splits_joined z v number room sizes s rule at =
    let lives = not_spent v 0 number in
    let known = known_at rule.known s.views rule.joins 0 v at lives in
    let w : NodeView = one_made v in let u : NodeView = next_seat v in
    let count : v.made ≡ length s.views = rule.shows.count v known ∙ sym rule.joins.long in
    let few : length s.views < z.seats = omega arith in
    record {
      known = set rule.known 0 w ++ u ∷ [];
      joins = more_gathers (set rule.known 0 w) (set s.views 0 w) u refl (step_gathers rule.known s.views rule.joins 0 v at lives w refl);
      lock = lock_splits lock_of z.seats s 0 v w u rule.lock at refl (ap newcomer count) few;
      shows = splits_node z v room sizes (with_views s rule.known) rule.shows known;
      recalls = subst (Recalls z) (sym (more_same z rule.known v (let some_made = rule.shows.some_made in some_made) sizes known)) rule.recalls;
      crowds = split_crowds z rule.known v w u known rule.shows.some_made refl refl (ap core.newcomer sizes) refl rule.crowds;
    }

-- a new pass is out
pub new_ready : (t : TableId) (z : Sizes) (j : ℕ) (seat : Seat (Unit {0}) NodeView) (number seats : ℕ) → IsNew t z j seat number seats → IsPass t z seat seats × IsOut seat.me.0
new_ready t z j seat number seats new = (
  record { table = new.table; sizes = ap (λ (v : NodeView). v.sizes) new.view; count = new.count; none = new.none },
  subst IsOut (sym new.view) record { phase = refl; away = record { stay = refl; call = refl }; roots = refl },
)
