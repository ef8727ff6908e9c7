-- A store of a collection, and what it changes of the words that were seen.
use Rattle.std.proofs.Common.{◌≡◌, ℕ, ◌+◌, ◌<◌, ◌≤◌, Bool, true, false, cond, Option, Some, List, ◌∷◌, get_or, refl, sym, ap, ◌∙◌, subst, ⊎_elim, arith, true≢false, ne_eqb}
use Rattle.std.proofs.lemmas.Bool.{cases_lt, lt-ltb}
use mathlib.Core.Path.{fun_ext}
use Rattle.atomic_table.specs.declared.shared.Seat.{Seat}
use Rattle.busy_forbidden.specs.Calls.{IsSame}
use Rattle.store_model.specs.declared.view.Call.{Call}
use Rattle.store_model.specs.declared.view.Call.TheVariants.{Storing}
use Rattle.store_model.specs.declared.view.Place.{Place}
use Rattle.store_model.specs.declared.view.Place.TheVariants.{Base, FreeCount, Claim, InUse, FreePlace, Bucket, RowWord, Birth, Next, RootCount, Root}
use Rattle.store_model.specs.Words.{same_place, write}
use Rattle.store_model.specs.Machine.{StoreAny, Each}
use Rattle.store_model.specs.Marks.{IsMarked}
use Rattle.store_model.specs.Shown.{in_table, index_of}
use Rattle.store_model.specs.Steps.{loads, stores, is_stored, is_storing}
use Rattle.store_model.specs.ByView.{seen_at, StoresNext}
use Rattle.node_rows.specs.declared.view.NodeView.{NodeView}
use Rattle.node_rows.specs.Collecting.{or_zero, stored_any, HasSeen, MayCollect}
use Rattle.node_rows.specs.Steps.{with_store}
use Rattle.row_sweep.specs.declared.sweep.Sweep.{Sweep}
use Rattle.row_sweep.specs.Gathered.{sizes_of, loads_of, StaysSeat}
use Rattle.row_sweep.specs.Read.{stays_itself, stays_in_turn}
use Rattle.row_sweep.specs.Compared.{told_by}
use Rattle.row_sweep.specs.Stored.{seen_of, Stores, StoresMore, is_next, is_head, is_place, is_number}
use Rattle.row_sweep.proofs.Values.{same_itself}
use Rattle.row_sweep.proofs.Loads.{alone_on, stays_by}

zero_in : (b : Bool) (n : ℕ) (o : Option ℕ) → or_zero (cond b (Some n) o) ≡ cond b n (or_zero o)
zero_in true n o = refl
zero_in false n o = refl

seen_in : (b : Bool) (n : ℕ) (o : Option ℕ) → (m : ℕ) × (o ≡ Some m) → (m : ℕ) × (cond b (Some n) o ≡ Some m)
seen_in true n o h = (n, refl)
seen_in false n o h = h

module _ (c : Sweep) (a : Seat (Unit {0}) NodeView) (i n : ℕ) (h : Stores c a i n) (p : Place) (v : ℕ) (there : in_table (sizes_of c) p ≡ true) where
  pub may_store : (k : ℕ) → is_stored p ≡ true → k ≡ index_of (sizes_of c) p → MayCollect (sizes_of c) i n a.me.0 (StoreAny p v) p k
  may_store k stored word = record { shown = (h.may, there, stored); granted = h.alone.granted; word = word }

  module _ (b : Seat (Unit {0}) NodeView) (j m : ℕ) (same : IsSame a b) (number : j ≡ i) (seats : m ≡ n) (view : b.me.0 ≡ with_store a.me.0 (stored_any a.me.0.store p v)) where
    call_after : b.me.0.store.call ≡ Storing (loads_of a) ((p, v) ∷ stores a.me.0.store.call)
    call_after = ap (λ (u : NodeView). u.store.call) view

    stays : StaysSeat a i n b j m
    stays = stays_by a i n b j m (Storing (loads_of a) ((p, v) ∷ stores a.me.0.store.call)) same number seats view

    pub stored_at : Stores c b j m
    stored_at = record {
      alone = alone_on c.store.now a i n b j m stays h.alone;
      may = subst (StoresNext (sizes_of c)) (sym call_after) tt;
      inside = subst (λ (x : Call). Each (λ (q : Place × ℕ). in_table (sizes_of c) q.0 ≡ true) (stores x)) (sym call_after) (there, h.inside);
    }

    pub stored_more : StoresMore a i n b j m
    stored_more = record {
      stays = stays;
      loads = ap loads call_after;
      seen = λ q s. subst (λ (x : Call). (t : ℕ) × (seen_at q (loads x) (stores x) ≡ Some t)) (sym call_after) (seen_in (same_place q p) v (seen_at q (loads_of a) (stores a.me.0.store.call)) s);
    }

    pub stored_is : is_storing b.me.0.store.call ≡ true
    stored_is = ap is_storing call_after

    pub stored_has : HasSeen b.me.0.store p
    stored_has = subst (λ (x : Call). (t : ℕ) × (seen_at p (loads x) (stores x) ≡ Some t)) (sym call_after) (v, ap (λ (t : Bool). cond t (Some v) (seen_at p (loads_of a) (stores a.me.0.store.call))) (same_itself p))

    pub stored_words : seen_of b ≡ write (seen_of a) p v
    stored_words = fun_ext (λ q. ap (λ (x : Call). or_zero (seen_at q (loads x) (stores x))) call_after ∙ zero_in (same_place q p) v (seen_at q (loads_of a) (stores a.me.0.store.call)))

pub stores_itself : (a : Seat (Unit {0}) NodeView) (i n : ℕ) → StoresMore a i n a i n
stores_itself a i n = record { stays = stays_itself a i n; loads = refl; seen = λ p h. h }

pub stores_in_turn : (a : Seat (Unit {0}) NodeView) (i n : ℕ) (b : Seat (Unit {0}) NodeView) (j m : ℕ) (c : Seat (Unit {0}) NodeView) (k l : ℕ) → StoresMore a i n b j m → StoresMore b j m c k l → StoresMore a i n c k l
stores_in_turn a i n b j m c k l e f = record { stays = stays_in_turn a i n b j m c k l e.stays f.stays; loads = f.loads ∙ e.loads; seen = λ p h. f.seen p (e.seen p h) }

-- what a write changes
pub written_here : (u w : Place → ℕ) (p : Place) (n : ℕ) → u ≡ write w p n → u p ≡ n
written_here u w p n e = ap (λ (f : Place → ℕ). f p) e ∙ ap (λ (b : Bool). cond b n (w p)) (same_itself p)

pub written_other : (u w : Place → ℕ) (p : Place) (n : ℕ) → u ≡ write w p n → (q : Place) → same_place q p ≡ false → u q ≡ w q
written_other u w p n e q not = ap (λ (f : Place → ℕ). f q) e ∙ ap (λ (b : Bool). cond b n (w q)) not

next_apart : (q : Place) (r : ℕ) → is_next q ≡ false → same_place q (Next r) ≡ false
next_apart (Next s) r e = absurd (true≢false e)
next_apart Base r e = refl
next_apart FreeCount r e = refl
next_apart Claim r e = refl
next_apart InUse r e = refl
next_apart (FreePlace s) r e = refl
next_apart (Bucket s) r e = refl
next_apart (RowWord s k) r e = refl
next_apart (Birth s) r e = refl
next_apart (RootCount s) r e = refl
next_apart (Root s k) r e = refl

place_apart : (q : Place) (r : ℕ) → is_place q ≡ false → same_place q (FreePlace r) ≡ false
place_apart (FreePlace s) r e = absurd (true≢false e)
place_apart Base r e = refl
place_apart FreeCount r e = refl
place_apart Claim r e = refl
place_apart InUse r e = refl
place_apart (Next s) r e = refl
place_apart (Bucket s) r e = refl
place_apart (RowWord s k) r e = refl
place_apart (Birth s) r e = refl
place_apart (RootCount s) r e = refl
place_apart (Root s k) r e = refl

head_apart : (u : ℕ) (q : Place) (r : ℕ) → r < u → is_head u q ≡ false → same_place q (Bucket r) ≡ false
head_apart u (Bucket s) r l e = ne_eqb s r (λ same. true≢false (sym (lt-ltb s u (let a : s ≡ r = same in omega arith)) ∙ e))
head_apart u Base r l e = refl
head_apart u FreeCount r l e = refl
head_apart u Claim r l e = refl
head_apart u InUse r l e = refl
head_apart u (Next s) r l e = refl
head_apart u (FreePlace s) r l e = refl
head_apart u (RowWord s k) r l e = refl
head_apart u (Birth s) r l e = refl
head_apart u (RootCount s) r l e = refl
head_apart u (Root s k) r l e = refl

-- one chain word more
module _ (w u v : Place → ℕ) (row : ℕ) (others : (p : Place) → same_place p (Next row) ≡ false → v p ≡ u p) where
  pub next_others : ((p : Place) → is_next p ≡ false → u p ≡ w p) → (p : Place) → is_next p ≡ false → v p ≡ w p
  next_others f p is = others p (next_apart p row is) ∙ f p is

  pub nexts_more : (marks : List Bool) (cells : List ℕ) → (IsMarked marks row → v (Next row) ≡ told_by (u (Next row)) (get_or cells row 0)) → u (Next row) ≡ w (Next row)
      → ((r : ℕ) → r < row → IsMarked marks r → u (Next r) ≡ told_by (w (Next r)) (get_or cells r 0)) → (r : ℕ) → r < row + 1 → IsMarked marks r → v (Next r) ≡ told_by (w (Next r)) (get_or cells r 0)
  nexts_more marks cells is was f r l m = ⊎_elim
      (λ less. others (Next r) (ne_eqb r row (λ same. let a : r ≡ row = same in omega arith)) ∙ f r less m)
      (λ past. let a : row ≡ r = omega arith in subst (λ (q : ℕ). IsMarked marks q → v (Next q) ≡ told_by (w (Next q)) (get_or cells q 0)) a (λ k. is k ∙ ap (λ (x : ℕ). told_by x (get_or cells row 0)) was) m) (cases_lt r row)

  pub nexts_rest : ((r : ℕ) → row ≤ r → u (Next r) ≡ w (Next r)) → (r : ℕ) → row + 1 ≤ r → v (Next r) ≡ w (Next r)
  nexts_rest f r l = others (Next r) (ne_eqb r row (λ same. let a : r ≡ row = same in omega arith)) ∙ f r (omega arith)

-- one head more
module _ (w u v : Place → ℕ) (b n used : ℕ) (below : b < used) (e : v ≡ write u (Bucket b) n) where
  pub head_others : ((p : Place) → is_head used p ≡ false → u p ≡ w p) → (p : Place) → is_head used p ≡ false → v p ≡ w p
  head_others f p is = written_other v u (Bucket b) n e p (head_apart used p b below is) ∙ f p is

  pub heads_more : (cells : List ℕ) → n ≡ told_by (w (Bucket b)) (get_or cells b 0) → ((c : ℕ) → c < b → u (Bucket c) ≡ told_by (w (Bucket c)) (get_or cells c 0)) → (c : ℕ) → c < b + 1 → v (Bucket c) ≡ told_by (w (Bucket c)) (get_or cells c 0)
  heads_more cells is f c l = ⊎_elim
      (λ less. written_other v u (Bucket b) n e (Bucket c) (ne_eqb c b (λ same. let a : c ≡ b = same in omega arith)) ∙ f c less)
      (λ past. let a : b ≡ c = omega arith in subst (λ (q : ℕ). v (Bucket q) ≡ told_by (w (Bucket q)) (get_or cells q 0)) a (written_here v u (Bucket b) n e ∙ is)) (cases_lt c b)

  pub heads_rest : ((c : ℕ) → b ≤ c → u (Bucket c) ≡ w (Bucket c)) → (c : ℕ) → b + 1 ≤ c → v (Bucket c) ≡ w (Bucket c)
  heads_rest f c l = written_other v u (Bucket b) n e (Bucket c) (ne_eqb c b (λ same. let a : c ≡ b = same in omega arith)) ∙ f c (omega arith)

-- one free place more
module _ (u v : Place → ℕ) (n k : ℕ) (e : v ≡ write u (FreePlace k) n) where
  pub place_here : v (FreePlace k) ≡ n
  place_here = written_here v u (FreePlace k) n e

  pub place_before : (i : ℕ) → i < k → v (FreePlace i) ≡ u (FreePlace i)
  place_before i l = written_other v u (FreePlace k) n e (FreePlace i) (ne_eqb i k (λ same. let a : i ≡ k = same in omega arith))

  pub place_later : (i : ℕ) → k + 1 ≤ i → v (FreePlace i) ≡ u (FreePlace i)
  place_later i l = written_other v u (FreePlace k) n e (FreePlace i) (ne_eqb i k (λ same. let a : i ≡ k = same in omega arith))

  pub place_others : (w : Place → ℕ) → ((p : Place) → is_place p ≡ false → u p ≡ w p) → (p : Place) → is_place p ≡ false → v p ≡ w p
  place_others w f p is = written_other v u (FreePlace k) n e p (place_apart p k is) ∙ f p is

-- the numbers
module _ (w u v t : Place → ℕ) (a b c : ℕ) (d : u ≡ write w FreeCount a) (e : v ≡ write u InUse b) (f : t ≡ write v Base c) where
  pub number_count : t FreeCount ≡ a
  number_count = written_other t v Base c f FreeCount refl ∙ (written_other v u InUse b e FreeCount refl ∙ written_here u w FreeCount a d)

  pub number_use : t InUse ≡ b
  number_use = written_other t v Base c f InUse refl ∙ written_here v u InUse b e

  pub number_base : t Base ≡ c
  number_base = written_here t v Base c f

  number_other : (p : Place) → same_place p Base ≡ false → same_place p InUse ≡ false → same_place p FreeCount ≡ false → t p ≡ w p
  number_other p x y z = written_other t v Base c f p x ∙ (written_other v u InUse b e p y ∙ written_other u w FreeCount a d p z)

  pub number_others : (p : Place) → is_number p ≡ false → t p ≡ w p
  number_others Base is = absurd (true≢false is)
  number_others FreeCount is = absurd (true≢false is)
  number_others InUse is = absurd (true≢false is)
  number_others Claim is = number_other Claim refl refl refl
  number_others (FreePlace k) is = number_other (FreePlace k) refl refl refl
  number_others (Bucket k) is = number_other (Bucket k) refl refl refl
  number_others (RowWord r k) is = number_other (RowWord r k) refl refl refl
  number_others (Birth r) is = number_other (Birth r) refl refl refl
  number_others (Next r) is = number_other (Next r) refl refl refl
  number_others (RootCount j) is = number_other (RootCount j) refl refl refl
  number_others (Root j k) is = number_other (Root j k) refl refl refl
