-- The history, where it isn't added to, and the lists of the seats where it is.
use Rattle.std.proofs.Common.{◌≡◌, ◌≢◌, ℕ, zero, suc, ◌<◌, ◌≤◌, Bool, true, false, cond, Option, None, Some, List, [], ◌∷◌, ◌++◌, length, get_or, set, refl, sym, ap, ◌∙◌, subst, ⊎_elim, inl, inr, arith, eq-eqb, ne_eqb, ext_get_or, ap₂}
use Rattle.std.specs.Prelude.{Contains, unwrap_or}
use mathlib.Core.Path.{fun_ext}
use Rattle.term_model.specs.declared.Head.{Head}
use Rattle.term_model.specs.declared.Head.TheVariants.{App, Int, Nil, Cons}
use Rattle.term_model.specs.Tree.{Tree, Leaf, More}
use Rattle.history_core.specs.TermSet.{IsHeld, trees_at}
use Rattle.history_core.specs.declared.entry.Entry.{Entry}
use Rattle.history_core.specs.Chronicle.{noted}
use Rattle.history_core.proofs.Members.{each_at}
use Rattle.history_core.specs.Recording.{IsFaithful, changed}
use Rattle.store_model.specs.Words.{Place, Base, Birth, put, RowWords}
use Rattle.store_model.specs.Calls.{Content, IsOver, View}
use Rattle.hash_buckets.specs.Spelled.{spelled}
use Rattle.store_model.specs.Machine.{Sizes, Each}
use Rattle.store_model.specs.Meaning as meaning
use Rattle.store_model.specs.Meaning.{Meaning, Matches}
use Rattle.store_model.specs.Invariant.{names_of, listed, HistoryFits}
use Rattle.store_model.proofs.Basics.{choose, put_case, put_same, put_other}
use Rattle.store_model.proofs.Chains.{some_words}

pub listed_same : {A : Type 0} (n : ℕ) (f g : ℕ → A) → ((j : ℕ) → f j ≡ g j) → listed n f ≡ listed n g
listed_same n f g e = ap (listed n) (fun_ext e)

pub listed_length : {A : Type 0} (n : ℕ) (f : ℕ → A) → length (listed n f) ≡ n
listed_length zero f = refl
listed_length (suc n) f = ap suc (listed_length n (λ j. f (suc j)))

pub listed_at : {A : Type 0} (n : ℕ) (f : ℕ → A) (i : ℕ) (d : A) → i < n → get_or (listed n f) i d ≡ f i
listed_at zero f i d l = absurd (omega arith)
listed_at (suc n) f zero d l = refl
listed_at (suc n) f (suc i) d l = listed_at n (λ j. f (suc j)) i d (omega arith)

pub listed_set : {A : Type 0} (n : ℕ) (f g : ℕ → A) (i : ℕ) (x : A) → i < n → g i ≡ x → ((j : ℕ) → j ≢ i → g j ≡ f j) → listed n g ≡ set (listed n f) i x
listed_set zero f g i x l here other = absurd (omega arith)
listed_set (suc n) f g zero x l here other = ap (λ y. y ∷ listed n (λ j. g (suc j))) here ∙ ap (λ ys. x ∷ ys) (listed_same n (λ j. g (suc j)) (λ j. f (suc j)) (λ j. other (suc j) (λ e. omega arith)))
listed_set (suc n) f g (suc i) x l here other = ap (λ y. y ∷ listed n (λ j. g (suc j))) (other 0 (λ e. omega arith))
    ∙ ap (λ ys. f 0 ∷ ys) (listed_set n (λ j. f (suc j)) (λ j. g (suc j)) i x (omega arith) here (λ j ne. other (suc j) (λ e. ne (let k : suc j ≡ suc i = e in omega arith))))

-- a seat notes one entry more
pub lists_noted : (n : ℕ) (view : ℕ → View) (i : ℕ) (v : View) (e : Entry) → i < n → v.entries ≡ (view i).entries ++ e ∷ [] → listed n (λ j. (put view i v j).entries) ≡ noted (listed n (λ j. (view j).entries)) i e
lists_noted n view i v e l more =
    listed_set n (λ j. (view j).entries) (λ j. (put view i v j).entries) i ((view i).entries ++ e ∷ []) l (ap (λ (p : View). p.entries) (put_same view i v) ∙ more) (λ j ne. ap (λ (p : View). p.entries) (put_other view i v j ne))
    ∙ ap (λ es. set (listed n (λ j. (view j).entries)) i (es ++ e ∷ [])) (sym (listed_at n (λ j. (view j).entries) i [] l))

pub seen_changed : (view : ℕ → View) (i : ℕ) (v : View) → (λ j. (put view i v j).seen) ≡ changed (λ j. (view j).seen) i v.seen
seen_changed view i v = fun_ext (λ j. put_case (λ (p : View). p.seen ≡ changed (λ j. (view j).seen) i v.seen j) view i v j
    (λ e. sym (ap (λ (b : Bool). cond b v.seen (view j).seen) (eq-eqb j i e))) (λ ne. sym (ap (λ (b : Bool). cond b v.seen (view j).seen) (ne_eqb j i ne))))

-- a name that is held is of a live row
pub held_live : (m : Meaning) (r : ℕ) → IsHeld (names_of m) r → m.live r ≡ true
held_live m r h = choose (λ (o : Option Tree). o ≡ Some h.0 → m.live r ≡ true) (m.live r) (Some (m.tree r)) None (λ l _. l) (λ _ e. absurd (cc)) h.1

pub live_held : (m : Meaning) (r : ℕ) → m.live r ≡ true → names_of m r ≡ Some (m.tree r)
live_held m r l = ap (λ (b : Bool). cond b (Some (m.tree r)) None) l

pub dead_free : (m : Meaning) (r : ℕ) → m.live r ≡ false → names_of m r ≡ None
dead_free m r l = ap (λ (b : Bool). cond b (Some (m.tree r)) None) l

module _ (z : Sizes) (w u : Place → ℕ) (m : Meaning) (view : ℕ → View) (i : ℕ) (v : View) where
  -- nothing is noted, and the seat may have seen more
  pub history_same : HistoryFits z w m view → v.entries ≡ (view i).entries → (view i).seen ≤ v.seen → u Base ≡ w Base → ((r : ℕ) → m.live r ≡ true → u (Birth r) ≡ w (Birth r)) → HistoryFits z u m (put view i v)
  history_same h same later base births =
      let lists : listed z.seats (λ j. (put view i v j).entries) ≡ listed z.seats (λ j. (view j).entries) = listed_same z.seats _ _ (λ j. put_case (λ (p : View). p.entries ≡ (view j).entries) view i v j (λ e. same ∙ ap (λ (k : ℕ). (view k).entries) (sym e)) (λ _. refl)) in
      let seen : (j : ℕ) → (view j).seen ≤ (put view i v j).seen = (λ j. put_case (λ (p : View). (view j).seen ≤ p.seen) view i v j (λ e. subst (λ (k : ℕ). (view k).seen ≤ v.seen) (sym e) later) (λ _. omega arith)) in
      subst (λ ls. IsFaithful z.rows record { names = names_of m; birth = λ r. u (Birth r); base = u Base; lists = ls; seen = λ j. (put view i v j).seen }) (sym lists)
      record {
        legal = h.legal;
        pairs = h.pairs;
        own = λ j d c. let a = h.own j d c in let b = seen j in omega arith;
        collects = λ y n c. let a = h.collects y n c in omega arith;
        births = λ r y n made held. let a = h.births r y n made held in let b = births r (held_live m r held) in omega arith;
        recent = λ r y n made. ⊎_elim (λ a. inl (omega arith)) inr (h.recent r y n made);
      }

-- trees by names and by rows
pub trees_named : (m : Meaning) (rs : List ℕ) → Each (λ r. m.live r ≡ true) rs → trees_at (names_of m) rs ≡ meaning.trees_at m.tree rs
trees_named m [] l = refl
trees_named m (r ∷ rs) l = ap₂ More (ap (λ (o : Option Tree). unwrap_or o (Leaf 0)) (live_held m r l.0)) (trees_named m rs l.1)

pub each_contains : (P : ℕ → Type 0) (rs : List ℕ) → Each P rs → (r : ℕ) → Contains rs r → P r
each_contains P rs h r c = each_at P rs r h c

-- a content is known by its words
pub spelled_once : (f g : Head) (xs ys : List ℕ) → IsOver f xs → IsOver g ys → ((k : ℕ) → k < length (spelled f xs) → k < length (spelled g ys) → get_or (spelled f xs) k 0 ≡ get_or (spelled g ys) k 0)
    → ◌≡◌ {A = Content} record { head = f; arguments = xs } record { head = g; arguments = ys }
spelled_once (App f) (App g) xs ys p q same =
    let e : f.0 ≡ g.0 = same 0 (omega arith) (omega arith) in
    let n : length xs ≡ length ys = same 1 (omega arith) (omega arith) in
    let t : xs ≡ ys = ext_get_or 0 xs ys n (λ k l. same (suc (suc k)) (omega arith) (omega arith)) in
    ap (λ (k : ℕ). record { head = App record { 0 = k }; arguments = xs }) e ∙ ap (λ (ts : List ℕ). record { head = App g; arguments = ts }) t
spelled_once (Int v) (Int u) xs ys p q same = let e : v ≡ u = same 2 (omega arith) (omega arith) in
    ap (λ (k : ℕ). record { head = Int k; arguments = xs }) e ∙ ap (λ (ts : List ℕ). record { head = Int u; arguments = ts }) (p ∙ sym q)
spelled_once Nil Nil xs ys p q same = ap (λ (ts : List ℕ). record { head = Nil; arguments = ts }) (p ∙ sym q)
spelled_once Cons Cons xs ys p q same = ap (λ (ts : List ℕ). record { head = Cons; arguments = ts }) (ext_get_or 0 xs ys (p ∙ sym q) (λ k l. same (suc (suc k)) (let a = p in omega arith) (let a = p in let b = q in omega arith)))
spelled_once f g xs ys p q same = absurd (let e = same 0 (some_words f xs) (some_words g ys) in omega arith)

pub content_once : (row : RowWords) (c d : Content) → IsOver c.head c.arguments → IsOver d.head d.arguments → Matches row c → Matches row d → c ≡ d
content_once row c d p q a b = spelled_once c.head d.head c.arguments d.arguments p q (λ k l r. sym (a k l) ∙ b k r)
