-- Marking the rows that a seat may name.
use Rattle.std.proofs.Common.{◌≡◌, ◌⊎◌, ℕ, zero, suc, ◌+◌, ◌<◌, Bool, true, false, List, [], ◌∷◌, ◌++◌, length, get_or, set, refl, sym, ap, ◌∙◌, subst, ⊎_elim, inl, inr, arith, true≢false}
use Rattle.std.specs.Prelude.{◌↔◌}
use Rattle.std.proofs.lemmas.Bool.{cases_lt}
use Rattle.store_model.specs.declared.view.Place.{Place}
use Rattle.store_model.specs.declared.view.Place.TheVariants.{RowWord, RootCount, Root}
use Rattle.store_model.specs.declared.view.View.{View}
use Rattle.store_model.specs.Machine.{Each, In, MayName, has_got, has_protected, has_argument}
use Rattle.store_core.specs.Naming.{IsMarked, unmarked, AreMarked, Halfway, Visits}
use Rattle.store_model.proofs.Basics.{each_map, each_in}

pub unmarked_set : (m : List Bool) (k : ℕ) → k < length m → get_or m k false ≡ false → suc (unmarked (set m k true)) ≡ unmarked m
unmarked_set [] k l e = absurd (omega arith)
unmarked_set (true ∷ m) zero l e = absurd (true≢false e)
unmarked_set (false ∷ m) zero l e = refl
unmarked_set (true ∷ m) (suc k) l e = unmarked_set m k (omega arith) e
unmarked_set (false ∷ m) (suc k) l e = ap suc (unmarked_set m k (omega arith) e)

marked_kept : (m : List Bool) (k r : ℕ) → IsMarked m r → IsMarked (set m k true) r
marked_kept [] k r h = h
marked_kept (x ∷ m) zero zero h = refl
marked_kept (x ∷ m) zero (suc r) h = h
marked_kept (x ∷ m) (suc k) zero h = h
marked_kept (x ∷ m) (suc k) (suc r) h = marked_kept m k r h

marked_at : (m : List Bool) (k : ℕ) → k < length m → IsMarked (set m k true) k
marked_at [] k l = absurd (omega arith)
marked_at (x ∷ m) zero l = refl
marked_at (x ∷ m) (suc k) l = marked_at m k (omega arith)

marked_only : (m : List Bool) (k r : ℕ) → IsMarked (set m k true) r → (r ≡ k) ⊎ IsMarked m r
marked_only [] k r h = inr h
marked_only (x ∷ m) zero zero h = inl refl
marked_only (x ∷ m) zero (suc r) h = inr h
marked_only (x ∷ m) (suc k) zero h = inr h
marked_only (x ∷ m) (suc k) (suc r) h = ⊎_elim (λ e. inl (ap suc e)) (λ n. inr n) (marked_only m k r h)

pub in_left : (r : ℕ) (xs ys : List ℕ) → In r xs → In r (xs ++ ys)
in_left r [] ys h = absurd h
in_left r (x ∷ xs) ys h = ⊎_elim (λ e. inl e) (λ k. inr (in_left r xs ys k)) h

pub in_last : (r : ℕ) (xs : List ℕ) → In r (xs ++ r ∷ [])
in_last r [] = inl refl
in_last r (x ∷ xs) = inr (in_last r xs)

pub in_before : (q r : ℕ) (xs : List ℕ) → In q (xs ++ r ∷ []) → In q xs ⊎ (q ≡ r)
in_before q r [] h = ⊎_elim (λ e. inr e) (λ k. absurd k) h
in_before q r (x ∷ xs) h = ⊎_elim (λ e. inl (inl e)) (λ k. ⊎_elim (λ i. inl (inr i)) (λ e. inr e) (in_before q r xs k)) h

pub in_at : (xs : List ℕ) (k : ℕ) → k < length xs → In (get_or xs k 0) xs
in_at [] k l = absurd (omega arith)
in_at (x ∷ xs) zero l = inl refl
in_at (x ∷ xs) (suc k) l = inr (in_at xs k (omega arith))

pub get_or_any : (xs : List ℕ) (k d : ℕ) → k < length xs → get_or xs k d ≡ get_or xs k 0
get_or_any [] k d l = absurd (omega arith)
get_or_any (x ∷ xs) zero d l = refl
get_or_any (x ∷ xs) (suc k) d l = get_or_any xs k d (omega arith)

-- the rows of a list are marked where each is by its place
pub each_marked : (m : List Bool) (xs : List ℕ) → ((k : ℕ) → k < length xs → IsMarked m (get_or xs k 0)) → Each (IsMarked m) xs
each_marked m [] h = tt
each_marked m (x ∷ xs) h = (h 0 (omega arith), each_marked m xs (λ k l. h (suc k) (omega arith)))

length_last : (ws : List ℕ) (r : ℕ) → length (ws ++ r ∷ []) ≡ suc (length ws)
length_last [] r = refl
length_last (x ∷ ws) r = ap suc (length_last ws r)

-- one row is marked, which waits then
pub visits_one : (m : List Bool) (r : ℕ) (ws : List ℕ) → r < length m → get_or m r false ≡ false → Visits m (set m r true) ws (ws ++ r ∷ [])
visits_one m r ws l e = record { kept = λ q h. marked_kept m r q h; less = let a = unmarked_set m r l e in let b = length_last ws r in omega arith }

-- after more rows, still more
pub visits_on : (a b c : List Bool) (ws us xs : List ℕ) → Visits a b ws us → Visits b c us xs → Visits a c ws xs
visits_on a b c ws us xs h k = record { kept = λ r m. k.kept r (h.kept r m); less = let p = h.less in let q = k.less in omega arith }

-- the first of some rows were marked, and the next one is
pub marked_more : (a b : List Bool) (f : ℕ → ℕ) (k r : ℕ) → ((q : ℕ) → IsMarked a q → IsMarked b q) → ((j : ℕ) → j < k → IsMarked a (f j)) → IsMarked b r → r ≡ f k → (j : ℕ) → j < k + 1 → IsMarked b (f j)
marked_more a b f k r kept h now e j l = ⊎_elim (λ below. kept (f j) (h j below)) (λ past. let same : k ≡ j = omega arith in subst (λ (x : ℕ). IsMarked b x) (e ∙ ap f same) now) (cases_lt j k)

-- a list without items
pub no_items : (xs : List ℕ) → length xs ≡ 0 → xs ≡ []
no_items [] e = refl
no_items (x ∷ xs) e = absurd (omega arith)

module _ (w : Place → ℕ) (i : ℕ) (v : View) where
  pub visited : (m : List Bool) (ws here : List ℕ) (r : ℕ) → r < length m → MayName w i v r → Halfway w i v m ws here → Halfway w i v (set m r true) (ws ++ r ∷ []) here
  visited m ws here r l may h = record {
    sound = λ q k. ⊎_elim (λ e. subst (MayName w i v) (sym e) may) (λ n. h.sound q n) (marked_only m r q k);
    waits = λ q k. ⊎_elim (λ b. marked_kept m r q (h.waits q b)) (λ e. subst (λ (x : ℕ). IsMarked (set m r true) x) (sym e) (marked_at m r l)) (in_before q r ws k);
    closed = λ q k. ⊎_elim (λ e. inl (inl (subst (λ (x : ℕ). In x (ws ++ r ∷ [])) (sym e) (in_last r ws))))
        (λ n. ⊎_elim (λ a. inl (⊎_elim (λ b. inl (in_left q ws (r ∷ []) b)) (λ b. inr b) a)) (λ a. inr (λ j l. marked_kept m r (w (RowWord q (suc (suc j)))) (a j l))) (h.closed q n))
        (marked_only m r q k);
  }

  pub taken : (m : List Bool) (ws : List ℕ) (r : ℕ) → Halfway w i v m (ws ++ r ∷ []) [] → Halfway w i v m ws (r ∷ [])
  taken m ws r h = record {
    sound = h.sound;
    waits = λ q k. h.waits q (in_left q ws (r ∷ []) k);
    closed = λ q k. ⊎_elim (λ a. inl (⊎_elim (λ b. ⊎_elim (λ c. inl c) (λ e. inr (inl e)) (in_before q r ws b)) (λ b. absurd b) a)) (λ a. inr a) (h.closed q k);
  }

  pub looked : (m : List Bool) (ws : List ℕ) (r : ℕ) → Halfway w i v m ws (r ∷ []) → AreMarked w m r (w (RowWord r 1)) → Halfway w i v m ws []
  looked m ws r h all = record {
    sound = h.sound;
    waits = h.waits;
    closed = λ q k. ⊎_elim (λ a. ⊎_elim (λ b. inl (inl b)) (λ b. ⊎_elim (λ e. inr (subst (λ (x : ℕ). AreMarked w m x (w (RowWord x 1))) (sym e) all)) (λ n. absurd n) b) a) (λ a. inr a) (h.closed q k);
  }

  all_marked : (m : List Bool) → Halfway w i v m [] [] → Each (IsMarked m) v.got → ((k : ℕ) → k < w (RootCount i) → IsMarked m (w (Root i k))) → (r : ℕ) → MayName w i v r → IsMarked m r
  all_marked m h got roots r (has_got _ k) = each_in (IsMarked m) r v.got got k
  all_marked m h got roots r (has_protected k l) = roots k l
  all_marked m h got roots a (has_argument r k n l) = ⊎_elim (λ b. ⊎_elim (λ x. absurd x) (λ x. absurd x) b) (λ all. all k l) (h.closed r (all_marked m h got roots r n))

  pub named : (m : List Bool) → Halfway w i v m [] [] → Each (IsMarked m) v.got → ((k : ℕ) → k < w (RootCount i) → IsMarked m (w (Root i k))) → (r : ℕ) → IsMarked m r ↔ MayName w i v r
  named m h got roots r = (h.sound r, all_marked m h got roots r)

  pub argument_named : (r k n : ℕ) → MayName w i v r → k < w (RowWord r 1) → n ≡ w (RowWord r (k + 2)) → MayName w i v n
  argument_named r k n h l e = subst (MayName w i v) (sym (e ∙ ap (λ (x : ℕ). w (RowWord r x)) (let q : k + 2 ≡ suc (suc k) = omega arith in q))) (has_argument r k h l)

  pub root_named : (k n : ℕ) → k < w (RootCount i) → n ≡ w (Root i k) → MayName w i v n
  root_named k n l e = subst (MayName w i v) (sym e) (has_protected k l)

  pub got_named : (k n : ℕ) → k < length v.got → n ≡ get_or v.got k 0 → MayName w i v n
  got_named k n l e = subst (MayName w i v) (sym e) (has_got (get_or v.got k 0) (in_at v.got k l))

  pub got_read : (rows : List ℕ) (k m n : ℕ) → rows ≡ v.got → k < length rows → m ≡ get_or rows k m → n ≡ m → MayName w i v n
  got_read rows k m n e l is same = got_named k n (subst (λ (rs : List ℕ). k < length rs) e l) (same ∙ (is ∙ (get_or_any rows k m l ∙ ap (λ (rs : List ℕ). get_or rs k 0) e)))

  -- a row that waits may be named
  pub waits_named : (m : List Bool) (ws here : List ℕ) (r : ℕ) → Halfway w i v m (ws ++ r ∷ []) here → MayName w i v r
  waits_named m ws here r h = h.sound r (h.waits r (in_last r ws))

  pub are_marked : (m : List Bool) (r n : ℕ) → n ≡ w (RowWord r 1) → ((k : ℕ) → k < n → IsMarked m (w (RowWord r (k + 2)))) → AreMarked w m r (w (RowWord r 1))
  are_marked m r n e h k l = subst (λ (x : ℕ). IsMarked m (w (RowWord r x))) (let q : k + 2 ≡ suc (suc k) = omega arith in q) (h k (omega arith))

  pub got_kept : (a b : List Bool) → ((r : ℕ) → IsMarked a r → IsMarked b r) → Each (IsMarked a) v.got → Each (IsMarked b) v.got
  got_kept a b k h = each_map (IsMarked a) (IsMarked b) v.got k h
