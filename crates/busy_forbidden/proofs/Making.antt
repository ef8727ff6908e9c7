-- The steps of each call may be made: each is in place by the own view, and meets the rule's
-- condition.
use Rattle.std.proofs.Common.{◌≡◌, ◌≢◌, ℕ, zero, suc, ◌+◌, ◌-◌, ◌<◌, ◌≤◌, eqb, true, false, cond, List, [], ◌∷◌, ◌++◌, length, refl, sym, ap, ◌∙◌, subst, arith, ne_eqb, add-one, inr}
use Rattle.std.specs.Prelude.{All}
use Rattle.lock_core.specs.declared.parts.Phase.TheVariants.{Out, Raised, Shared, Blocked, Holder}
use Rattle.lock_core.specs.declared.parts.Standing.TheVariants.{Free, Asked, Seen}
use Rattle.lock_core.specs.declared.parts.LockStep.{LockStep}
use Rattle.lock_core.specs.declared.parts.LockStep.TheVariants.{Raise, Look, Lower, Take, Ask, Peek, Unask, Give}
use Rattle.busy_forbidden.specs.declared.view.LockView.{LockView}
use Rattle.busy_forbidden.specs.Shown.{standing}
use Rattle.busy_forbidden.specs.Moves.{moved, MayStep, Fits}
use Rattle.busy_forbidden.specs.Rules.{seen, IsNext}
use Rattle.busy_forbidden.specs.Calls.{run, MayRun}
use Rattle.busy_forbidden.specs.Views.{put_same}
use Rattle.busy_forbidden.specs.Entries.{Steps, AllSet, AllWaited, entered, turned_away, failed_takes, took_after, waited, waits}
use Rattle.busy_forbidden.specs.Exclusive.{IsGranted, IsGranting, HasSeen, IsFreeing, HoldsBelow, asked_one, asked_below, freed_one, freed_below, released, refused_at, next_release, failed_asks, held_after}
use Rattle.busy_forbidden.proofs.Goes.{fits_after}
use Rattle.busy_forbidden.proofs.Asking.{run_append, takes_none, grants_one, grants_own, sees_one, seen_freeing, seen_granting, frees_one, frees_own, granted_freeing, all_freed, goes_free, begins_free, release_own, release_other}
use Rattle.busy_forbidden.proofs.Clearing.{choose}

-- the first of a list of which all are so, and the others
first_is : {A : Type 0} (P : A → Type 0) (x : A) (xs : List A) → All P (x ∷ xs) → P x
first_is P x xs all = all 0 x (omega arith)

rest_are : {A : Type 0} (P : A → Type 0) (x : A) (xs : List A) → All P (x ∷ xs) → All P xs
rest_are P x xs all k d below = all (suc k) d (omega arith)

cons_not : (f : ℕ) (fs : List ℕ) → f ∷ fs ≡ [] → ⊥
cons_not f fs e = let no : suc (length fs) ≡ 0 = ap length e in omega arith

eqb_is : (a b : ℕ) → eqb a b ≡ true → a ≡ b
eqb_is a b e = grind arith

eqb_not : (a b : ℕ) → eqb a b ≡ false → a ≢ b
eqb_not a b e h = grind arith

module _ {V : Type 0} (lock : V → LockView) (n i words : ℕ) (can : LockStep → V → Type 0) (next : LockStep → ℕ → V → V) (moves : (v : V) (x : LockStep) (f : ℕ) → lock (next x f v) ≡ moved (lock v) x f)
    (follows : (v : V) (x : LockStep) (f : ℕ) (y : LockStep) → MayStep n i (lock v) x → can x v → IsNext (lock v) x (seen x f) y → can y (next x (seen x f) v)) where
  abbrev Runs : V → Steps → Type 0
  Runs v xs = MayRun lock n can next i v xs

  runs_both : (xs ys : Steps) (v : V) → Runs v xs → Runs (run next xs v) ys → Runs v (xs ++ ys)
  runs_both [] ys v a b = b
  runs_both (x ∷ xs) ys v a b = (a.0, a.1, runs_both xs ys (next x.0 x.1 v) a.2 b)

  fits_next : (v : V) (x : LockStep) (f : ℕ) → Fits (lock v) i n words → MayStep n i (lock v) x → Fits (lock (next x f v)) i n words
  fits_next v x f fits ok = subst (λ z. Fits z i n words) (sym (moves v x f)) (fits_after (lock v) i n words x f fits ok)

  -- a seat that is out, and may take the mutex
  record IsIdle (x : LockStep) (v : V) : Type 0 where
    fits : Fits (lock v) i n words
    out : (lock v).phase ≡ Out
    may : can x v

  -- the holder that holds the others below j, and may ask
  record Grants (j : ℕ) (v : V) : Type 0 where
    fits : Fits (lock v) i n words
    granting : IsGranting (lock v) i j
    may : (k : ℕ) → can (Ask k) v

  -- the holder that frees the others from a to b
  record Frees (a b : ℕ) (v : V) : Type 0 where
    fits : Fits (lock v) i n words
    freeing : IsFreeing (lock v) i a b
    may : can (next_release i a (b - a)) v

  -- an ask and a peek
  record Tried (j f : ℕ) (v : V) : Type 0 where
    runs : Runs v ((Ask j, 0) ∷ (Peek j, f) ∷ [])
    fits : Fits (lock (next (Peek j) f (next (Ask j) 0 v))) i n words
    shown : lock (next (Peek j) f (next (Ask j) 0 v)) ≡ moved (moved (lock v) (Ask j) 0) (Peek j) f
    may : (y : LockStep) → IsNext (lock (next (Ask j) 0 v)) (Peek j) f y → can y (next (Peek j) f (next (Ask j) 0 v))

  tries_one : (j f : ℕ) (v : V) → j < n → j ≢ i → Grants j v → Tried j f v
  tries_one j f v below other g =
      let u : V = next (Ask j) 0 v in
      let asks : MayStep n i (lock v) (Ask j) = (g.granting.holder, below, other, g.granting.above j (omega arith)) in
      let shown = moves v (Ask j) 0 in
      let peeks : MayStep n i (lock u) (Peek j) = (ap (λ (l : LockView). l.phase) shown ∙ g.granting.holder, below, other, ap (λ (l : LockView). standing l j) shown ∙ put_same (lock v).standings j Asked) in
      let may : can (Peek j) u = follows v (Ask j) 0 (Peek j) asks (g.may j) refl in
      record {
        runs = (asks, g.may j, (peeks, may, tt));
        fits = fits_next u (Peek j) f (fits_next v (Ask j) 0 g.fits asks) peeks;
        shown = moves u (Peek j) f ∙ ap (λ (l : LockView). moved l (Peek j) f) shown;
        may = λ y h. follows u (Peek j) f y peeks may h;
      }

  asks_one : (j : ℕ) (v : V) → j < n → Grants j v → Runs v (asked_one i j) × Grants (j + 1) (run next (asked_one i j) v)
  asks_one j v below g =
      choose (λ xs. Runs v xs × Grants (j + 1) (run next xs v)) [] ((Ask j, 0) ∷ (Peek j, 0) ∷ []) (eqb j i)
      (λ e. (tt, record { fits = g.fits; granting = grants_own i j (lock v) g.granting (eqb_is j i e); may = g.may }))
      (λ e. let t = tries_one j 0 v below (eqb_not j i e) g in
      (t.runs, record { fits = t.fits; granting = subst (λ l. IsGranting l i (j + 1)) (sym t.shown) (grants_one i j (lock v) g.granting); may = λ k. t.may (Ask k) refl }))

  asks_below : (m : ℕ) (v : V) → m ≤ n → Grants 0 v → Runs v (asked_below i m) × Grants m (run next (asked_below i m) v)
  asks_below zero v few g = (tt, g)
  asks_below (suc m) v few g =
      let a = asks_below m v (omega arith) g in
      let b = asks_one m (run next (asked_below i m) v) (omega arith) a.1 in (
        runs_both (asked_below i m) (asked_one i m) v a.0 b.0,
        subst (Grants (suc m)) (sym (run_append next (asked_below i m) (asked_one i m) v)) (subst (λ (k : ℕ). Grants k (run next (asked_one i m) (run next (asked_below i m) v))) (add-one m) b.1),
      )

  takes_it : (v : V) → IsIdle Take v → Grants 0 (next Take 0 v)
  takes_it v t = record {
    fits = fits_next v Take 0 t.fits t.out;
    granting = subst (λ l. IsGranting l i 0) (sym (moves v Take 0)) (takes_none n i words (lock v) t.fits t.out);
    may = λ k. follows v Take 0 (Ask k) t.out t.may refl;
  }

  -- an exclusive entry that finds nobody in
  pub runs_exclusive : (v : V) → Fits (lock v) i n words → (lock v).phase ≡ Out → can Take v → Runs v ((Take, 0) ∷ asked_below i n)
  runs_exclusive v fits out may = (out, may, (asks_below n (next Take 0 v) (omega arith) (takes_it v record { fits = fits; out = out; may = may })).0)

  frees_it : (k b : ℕ) (v : V) → k < b → b ≤ n → Frees k b v → Runs v (freed_one i k) × Frees (k + 1) b (run next (freed_one i k) v)
  frees_it k b v below few g =
      let rest : ℕ = b - (k + 1) in
      let more : b - k ≡ suc rest = omega arith in
      let may : can (next_release i k (suc rest)) v = subst (λ (m : ℕ). can (next_release i k m) v) more g.may in
      choose (λ xs. Runs v xs × Frees (k + 1) b (run next xs v)) [] ((Unask k, 0) ∷ []) (eqb k i)
      (λ e. (
        tt,
        record {
          fits = g.fits;
          freeing = frees_own n i words k b (lock v) g.fits g.freeing (eqb_is k i e);
          may = subst (λ (m : ℕ). can (next_release i m rest) v) (sym (add-one k)) (release_own can v i k rest (eqb_is k i e) may);
        },
      ))
      (λ e.
      let other = eqb_not k i e in
      let unask : MayStep n i (lock v) (Unask k) = (g.freeing.holder, omega arith, other, g.freeing.asked k (omega arith) below other) in
      let allowed = release_other can v i k rest other may in (
        (unask, allowed, tt),
        record {
          fits = fits_next v (Unask k) 0 g.fits unask;
          freeing = subst (λ l. IsFreeing l i (k + 1) b) (sym (moves v (Unask k) 0)) (frees_one i k b (lock v) g.freeing);
          may = goes_free can (next (Unask k) 0 v) i (k + 1) rest (λ j. follows v (Unask k) 0 (Unask j) unask allowed tt) (follows v (Unask k) 0 Give unask allowed tt);
        },
      ))

  frees_below : (m b : ℕ) (v : V) → m ≤ b → b ≤ n → Frees 0 b v → Runs v (freed_below i m) × Frees m b (run next (freed_below i m) v)
  frees_below zero b v below few g = (tt, g)
  frees_below (suc m) b v below few g =
      let a = frees_below m b v (omega arith) few g in
      let c = frees_it m b (run next (freed_below i m) v) (omega arith) few a.1 in (
        runs_both (freed_below i m) (freed_one i m) v a.0 c.0,
        subst (Frees (suc m) b) (sym (run_append next (freed_below i m) (freed_one i m) v)) (subst (λ (k : ℕ). Frees k b (run next (freed_one i m) (run next (freed_below i m) v))) (add-one m) c.1),
      )

  releases : (b : ℕ) (v : V) → b ≤ n → Frees 0 b v → Runs v (released i b)
  releases b v few g =
      let a = frees_below b b v (omega arith) few g in
      let u : V = run next (freed_below i b) v in
      let none : b - b ≡ 0 = omega arith in
      let gives : MayStep n i (lock u) Give = (a.1.freeing.holder, λ j _ _. all_freed i b (lock u) a.1.freeing j) in
      runs_both (freed_below i b) ((Give, 0) ∷ []) v a.0 (gives, subst (λ (m : ℕ). can (next_release i b m) u) none a.1.may, tt)

  -- the end of exclusive access
  pub runs_leave : (v : V) → Fits (lock v) i n words → IsGranted (lock v) i n → can (next_release i 0 n) v → Runs v (released i n)
  runs_leave v fits granted may =
      let all : n ≡ n - 0 = omega arith in
      releases n v (omega arith) record { fits = fits; freeing = granted_freeing n i words (lock v) fits granted; may = subst (λ (m : ℕ). can (next_release i 0 m) v) all may }

  -- an exclusive entry that finds seat j in
  pub runs_refused : (j f : ℕ) (v : V) → Fits (lock v) i n words → (lock v).phase ≡ Out → can Take v → j < n → j ≢ i → f ≢ 0 → Runs v (refused_at i j f)
  runs_refused j f v fits out may below other busy =
      let u : V = next Take 0 v in
      let a = asks_below j u (omega arith) (takes_it v record { fits = fits; out = out; may = may }) in
      let w : V = run next (asked_below i j) u in
      let t = tries_one j f w below other a.1 in
      let x : V = next (Peek j) f (next (Ask j) 0 w) in
      let all : j + 1 ≡ (j + 1) - 0 = omega arith in
      let seen_it : HasSeen (lock x) i j = subst (λ l. HasSeen l i j) (sym t.shown) (sees_one i j f (lock w) a.1.granting busy) in
      let free : Frees 0 (j + 1) x = record {
        fits = t.fits;
        freeing = seen_freeing i j (lock x) seen_it;
        may = begins_free can x i j 0 ((j + 1) - 0) (λ k. t.may (Unask k) busy) (omega arith) (omega arith) other;
      } in
      let end = releases (j + 1) x (omega arith) free in
      (out, may, runs_both (asked_below i j) ((Ask j, 0) ∷ (Peek j, f) ∷ released i (j + 1)) u a.0 (runs_both ((Ask j, 0) ∷ (Peek j, f) ∷ []) (released i (j + 1)) w t.runs end))

  -- a shared entry that finds itself forbidden, and one that doesn't
  pub runs_turned_away : (f : ℕ) (v : V) → (lock v).phase ≡ Out → can Raise v → f ≢ 0 → Runs v (turned_away f)
  runs_turned_away f v out may busy =
      let u : V = next Raise 0 v in
      let w : V = next Look f u in
      let raised : (lock u).phase ≡ Raised = ap (λ (l : LockView). l.phase) (moves v Raise 0) in
      let looks = follows v Raise 0 Look out may tt in
      let blocked : (lock w).phase ≡ Blocked = ap (λ (l : LockView). l.phase) (moves u Look f) ∙ ap (λ b. cond b Shared Blocked) (ne_eqb f 0 busy) in
      (out, may, (raised, looks, (inr blocked, follows u Look f Lower raised looks busy, tt)))

  runs_entered : (v : V) → (lock v).phase ≡ Out → can Raise v → Runs v entered
  runs_entered v out may = (out, may, (ap (λ (l : LockView). l.phase) (moves v Raise 0), follows v Raise 0 Look out may tt, tt))

  -- tries for the mutex that fail
  fails_to_take : (held : List ℕ) (v : V) → IsIdle Take v → AllSet held → Runs v (failed_takes held) × IsIdle Take (run next (failed_takes held) v)
  fails_to_take [] v t all = (tt, t)
  fails_to_take (f ∷ held) v t all =
      let busy = first_is (λ f. f ≢ 0) f held all in
      let a = fails_to_take held v t (rest_are (λ f. f ≢ 0) f held all) in
      let u : V = run next (failed_takes held) v in (
        runs_both (failed_takes held) ((Take, f) ∷ []) v a.0 (a.1.out, a.1.may, tt),
        subst (IsIdle Take) (sym (run_append next (failed_takes held) ((Take, f) ∷ []) v)) record {
          fits = fits_next u Take f a.1.fits a.1.out;
          out = ap (λ (l : LockView). l.phase) (moves u Take f) ∙ ap (λ b. cond b Holder Out) (ne_eqb f 0 busy);
          may = follows u Take f Take a.1.out a.1.may busy;
        },
      )

  takes_after : (held : List ℕ) (v : V) → IsIdle Take v → AllSet held → Runs v (took_after held) × Grants 0 (run next (took_after held) v) × can Give (run next (took_after held) v)
  takes_after held v t all =
      let a = fails_to_take held v t all in
      let u : V = run next (failed_takes held) v in
      let same = sym (run_append next (failed_takes held) ((Take, 0) ∷ []) v) in (
        runs_both (failed_takes held) ((Take, 0) ∷ []) v a.0 (a.1.out, a.1.may, tt),
        subst (Grants 0) same (takes_it u a.1),
        subst (can Give) same (follows u Take 0 Give a.1.out a.1.may refl),
      )

  -- a round of waiting
  waits_once : (f : ℕ) (held : List ℕ) (v : V) → IsIdle Raise v → f ≢ 0 → AllSet held → Runs v (waited f held) × IsIdle Raise (run next (waited f held) v)
  waits_once f held v t busy all =
      let u : V = next Raise 0 v in
      let w : V = next Look f u in
      let x : V = next Lower 0 w in
      let away = runs_turned_away f v t.out t.may busy in
      let raised = away.2.0 in
      let blocked : (lock w).phase ≡ Blocked = ap (λ (l : LockView). l.phase) (moves u Look f) ∙ ap (λ b. cond b Shared Blocked) (ne_eqb f 0 busy) in
      let idle : IsIdle Take x = record {
        fits = fits_next w Lower 0 (fits_next u Look f (fits_next v Raise 0 t.fits t.out) raised) (inr blocked);
        out = ap (λ (l : LockView). l.phase) (moves w Lower 0);
        may = follows w Lower 0 Take (inr blocked) away.2.2.1 blocked;
      } in
      let a = takes_after held x idle all in
      let y : V = run next (took_after held) x in
      let gives : MayStep n i (lock y) Give = (a.1.granting.holder, λ j _ _. a.1.granting.above j (omega arith)) in
      let rest : Steps = took_after held ++ (Give, 0) ∷ [] in (
        runs_both (turned_away f) rest v away (runs_both (took_after held) ((Give, 0) ∷ []) x a.0 (gives, a.2, tt)),
        subst (IsIdle Raise) (sym (run_append next (took_after held) ((Give, 0) ∷ []) x)) record {
          fits = fits_next y Give 0 a.1.fits gives;
          out = ap (λ (l : LockView). l.phase) (moves y Give 0);
          may = follows y Give 0 Raise gives a.2 tt;
        },
      )

  waits_all : (rounds : List (ℕ × List ℕ)) (v : V) → IsIdle Raise v → AllWaited rounds → Runs v (waits rounds) × IsIdle Raise (run next (waits rounds) v)
  waits_all [] v t all = (tt, t)
  waits_all (r ∷ rounds) v t all =
      let one = first_is (λ (r : ℕ × List ℕ). (r.0 ≢ 0) × AllSet r.1) r rounds all in
      let a = waits_all rounds v t (rest_are (λ (r : ℕ × List ℕ). (r.0 ≢ 0) × AllSet r.1) r rounds all) in
      let b = waits_once r.0 r.1 (run next (waits rounds) v) a.1 one.0 one.1 in (
        runs_both (waits rounds) (waited r.0 r.1) v a.0 b.0,
        subst (IsIdle Raise) (sym (run_append next (waits rounds) (waited r.0 r.1) v)) b.1,
      )

  -- a shared entry, after some rounds of waiting
  pub runs_shared : (rounds : List (ℕ × List ℕ)) (v : V) → Fits (lock v) i n words → (lock v).phase ≡ Out → can Raise v → AllWaited rounds → Runs v (waits rounds ++ entered)
  runs_shared rounds v fits out may all =
      let a = waits_all rounds v record { fits = fits; out = out; may = may } all in
      runs_both (waits rounds) entered v a.0 (runs_entered (run next (waits rounds) v) a.1.out a.1.may)

  -- asks of seat j that see it, each of which is freed again
  fails_to_hold : (j : ℕ) (seen_words : List ℕ) (v : V) → j < n → j ≢ i → Grants j v → AllSet seen_words → Runs v (failed_asks j seen_words) × Grants j (run next (failed_asks j seen_words) v)
  fails_to_hold j [] v below other g all = (tt, g)
  fails_to_hold j (f ∷ fs) v below other g all =
      let busy = first_is (λ f. f ≢ 0) f fs all in
      let a = fails_to_hold j fs v below other g (rest_are (λ f. f ≢ 0) f fs all) in
      let u : V = run next (failed_asks j fs) v in
      let t = tries_one j f u below other a.1 in
      let x : V = next (Peek j) f (next (Ask j) 0 u) in
      let seen_it : HasSeen (lock x) i j = subst (λ l. HasSeen l i j) (sym t.shown) (sees_one i j f (lock u) a.1.granting busy) in
      let unask : MayStep n i (lock x) (Unask j) = (seen_it.holder, below, other, λ free. let no : Seen ≡ Free = sym seen_it.seen ∙ free in grind arith) in
      let allowed = t.may (Unask j) busy in
      let tried : Steps = (Ask j, 0) ∷ (Peek j, f) ∷ (Unask j, 0) ∷ [] in (
        runs_both (failed_asks j fs) tried v a.0 (runs_both ((Ask j, 0) ∷ (Peek j, f) ∷ []) ((Unask j, 0) ∷ []) u t.runs (unask, allowed, tt)),
        subst (Grants j) (sym (run_append next (failed_asks j fs) tried v)) record {
          fits = fits_next x (Unask j) 0 t.fits unask;
          granting = subst (λ l. IsGranting l i j) (sym (moves x (Unask j) 0)) (seen_granting i j (lock x) seen_it);
          may = λ k. follows x (Unask j) 0 (Ask k) unask allowed seen_it.seen;
        },
      )

  holds_one : (j : ℕ) (seen_words : List ℕ) (v : V) → j < n → Grants j v → AllSet seen_words → (j ≡ i → seen_words ≡ []) → Runs v (held_after i j seen_words) × Grants (j + 1) (run next (held_after i j seen_words) v)
  holds_one j [] v below g all own = asks_one j v below g
  holds_one j (f ∷ fs) v below g all own =
      let other : j ≢ i = λ e. cons_not f fs (own e) in
      let a = fails_to_hold j (f ∷ fs) v below other g all in
      let b = asks_one j (run next (failed_asks j (f ∷ fs)) v) below a.1 in (
        runs_both (failed_asks j (f ∷ fs)) (asked_one i j) v a.0 b.0,
        subst (Grants (j + 1)) (sym (run_append next (failed_asks j (f ∷ fs)) (asked_one i j) v)) b.1,
      )

  holds_below : (m : ℕ) (xs : Steps) (v : V) → m ≤ n → Grants 0 v → HoldsBelow i m xs → Runs v xs × Grants m (run next xs v)
  holds_below zero xs v few g holds = subst (λ ys. Runs v ys × Grants 0 (run next ys v)) (sym holds) (tt, g)
  holds_below (suc m) xs v few g holds =
      let ys : Steps = holds.0 in
      let fs : List ℕ = holds.2.0 in
      let a = holds_below m ys v (omega arith) g holds.1 in
      let b = holds_one m fs (run next ys v) (omega arith) a.1 holds.2.1 holds.2.2 in
      subst (λ zs. Runs v zs × Grants (suc m) (run next zs v)) (sym holds.2.3) (
        runs_both ys (held_after i m fs) v a.0 b.0,
        subst (Grants (suc m)) (sym (run_append next ys (held_after i m fs) v)) (subst (λ (k : ℕ). Grants k (run next (held_after i m fs) (run next ys v))) (add-one m) b.1),
      )

  -- an exclusive entry that waits
  pub runs_waiting : (held : List ℕ) (asks : Steps) (v : V) → Fits (lock v) i n words → (lock v).phase ≡ Out → can Take v → AllSet held → HoldsBelow i n asks → Runs v (took_after held ++ asks)
  runs_waiting held asks v fits out may all holds =
      let a = takes_after held v record { fits = fits; out = out; may = may } all in
      runs_both (took_after held) asks v a.0 (holds_below n asks (run next (took_after held) v) (omega arith) a.1 holds).0
