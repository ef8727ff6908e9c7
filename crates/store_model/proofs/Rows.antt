-- A write into a row that isn't live leaves what the chains and numbers say.
use Rattle.std.proofs.Common.{◌≡◌, ◌≢◌, ℕ, eqb, Bool, true, false, cond, Option, refl, sym, ap, ◌∙◌, subst, arith, ne_eqb, true≢false}
use Rattle.store_model.specs.Words.{Place, RowWord, Birth, Next, write, RowWords, row_at}
use Rattle.store_model.specs.Machine.{Sizes}
use Rattle.store_model.specs.Meaning.{Meaning, Matches, IsOlder, IsBorn, Stands, ChainsLinked}
use Rattle.store_model.specs.Invariant.{NumbersWithin}
use Rattle.store_model.proofs.Basics.{each_map}
use Rattle.store_model.proofs.Stable.{linked_kept}

pub word_off : (w : Place → ℕ) (q k n r : ℕ) → r ≢ q → row_at (write w (RowWord q k) n) r ≡ row_at w r
word_off w q k n r ne = subst (λ (b : Bool). ◌≡◌ {A = RowWords} record { content = λ l. cond (cond b (eqb l k) false) n (w (RowWord r l)); birth = w (Birth r); next = w (Next r) } (row_at w r)) (sym (ne_eqb r q ne)) refl

pub birth_off : (w : Place → ℕ) (q n r : ℕ) → r ≢ q → row_at (write w (Birth q) n) r ≡ row_at w r
birth_off w q n r ne = subst (λ (b : Bool). ◌≡◌ {A = RowWords} record { content = λ l. w (RowWord r l); birth = cond b n (w (Birth r)); next = w (Next r) } (row_at w r)) (sym (ne_eqb r q ne)) refl

pub next_off : (w : Place → ℕ) (q n r : ℕ) → r ≢ q → row_at (write w (Next q) n) r ≡ row_at w r
next_off w q n r ne = subst (λ (b : Bool). ◌≡◌ {A = RowWords} record { content = λ l. w (RowWord r l); birth = w (Birth r); next = cond b n (w (Next r)) } (row_at w r)) (sym (ne_eqb r q ne)) refl

-- a live row isn't one that isn't
pub live_apart : (live : ℕ → Bool) (q r : ℕ) → live q ≡ false → live r ≡ true → r ≢ q
live_apart live q r dead alive e = true≢false (sym alive ∙ (ap live e ∙ dead))

module _ (m : Meaning) (row row' : ℕ → RowWords) (same : (r : ℕ) → m.live r ≡ true → row' r ≡ row r) where
  birth_same : (r : ℕ) → m.live r ≡ true → (row' r).birth ≡ (row r).birth
  birth_same r l = ap (λ (q : RowWords). q.birth) (same r l)

  pub chains_rows : (z : Sizes) (in_use : ℕ) (head : ℕ → ℕ) → ChainsLinked z in_use head row m → ChainsLinked z in_use head row' m
  chains_rows z in_use head h = record {
    used = h.used;
    within = h.within;
    linked = λ b. linked_kept m row row' same (head b) (m.chain b) (each_map (Stands m in_use b) (λ r. m.live r ≡ true) (m.chain b) (λ r k. k.live) (h.standing b)) (h.linked b);
    standing = h.standing;
    beyond = h.beyond;
    present = h.present;
    below = h.below;
    over = h.over;
    words = λ r l. subst (λ (q : RowWords). Matches q (m.content r)) (sym (same r l)) (h.words r l);
    arguments = λ r l. each_map (IsOlder m.live row (row r).birth) (IsOlder m.live row' (row' r).birth) (m.content r).arguments
        (λ a k. record { live = k.live; older = let e = birth_same a k.live in let f = birth_same r l in let g = k.older in omega arith }) (h.arguments r l);
    trees = h.trees;
    differ = h.differ;
  }

  pub numbers_rows : (z : Sizes) (base count claim : ℕ) (place : ℕ → ℕ) (over : ℕ → Option ℕ) (roots : ℕ → ℕ) → NumbersWithin z base count claim place row m.live over roots → NumbersWithin z base count claim place row' m.live over roots
  numbers_rows z base count claim place over roots h = record {
    born = λ r l. subst (IsBorn base count place r) (sym (birth_same r l)) (h.born r l);
    differ = λ r q a b e. h.differ r q a b (sym (birth_same r a) ∙ (e ∙ birth_same q b));
    drawn = h.drawn;
    room = h.room;
    absent = h.absent;
  }
