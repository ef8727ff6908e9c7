-- Steps on the own protected rows, and reads of rows, keep what holds of the store.
use Rattle.std.proofs.Common.{◌≡◌, ◌≢◌, ◌⊎◌, ℕ, suc, ◌<◌, ◌≤◌, eqb, Bool, false, cond, None, Some, List, [], ◌∷◌, ◌++◌, drop, get_or, refl, sym, ap, ◌∙◌, subst, ⊎_elim, arith, ne_eqb, eq-eqb, ltb-true}
use Rattle.std.specs.Prelude.{nat_lt}
use Rattle.store_model.specs.Words.{Place, Base, RowWord, RootCount, Root, write, put}
use Rattle.store_model.specs.Calls.{Call, Idle, Away, Ready, KnownWord, View}
use Rattle.store_model.specs.Staying.{led_to}
use Rattle.store_model.specs.Machine.{Sizes, State, Each, MayName, has_argument, with_call, with_got, knowing, rooted, root_counted, protected_in, rows_kept, acted, load}
use Rattle.store_model.specs.Meaning.{Meaning}
use Rattle.store_model.specs.Seats.{Where, wanted, MayWant, index, IsSeen, IsKnown, RowDrawn, RootsKnown}
use Rattle.store_model.specs.Invariant.{Holds, IsStoreSound}
use Rattle.store_model.proofs.Basics.{choose, each_map, each_join}
use Rattle.store_model.proofs.Histories.{history_same}
use Rattle.store_model.proofs.Gains.{named_seen, led_seen, led_known, protected_seen}
use Rattle.store_model.proofs.Views.{kept_with, loaded, same_overdrawn, regarded}
use Rattle.store_model.proofs.Own.{each_drop, each_set, each_roots, roots_are, protected_are}

module _ (z : Sizes) (s : State) (m : Meaning) (h : Holds z s m) (i : ℕ) (e : (s.view i).call ≡ Idle) (stay : (s.view i).stay ≡ Ready) where
  none : (a : ℕ) → index (s.view i).call ≡ Some a → (j : ℕ) → j ≢ i → index (s.view j).call ≢ Some a
  none a is = absurd (let f : None ≡ Some a = sym (ap index e) ∙ is in cc)

  own_base : (s.view i).base ≡ s.words Base
  own_base = (h.seats i).numbers.base (λ f. let a : Away ≡ Ready = sym f ∙ stay in absurd (cc))

  got_seen : (r : ℕ) → MayName s.words i (s.view i) r → IsSeen s.words m (s.view i).seen r
  got_seen r k = let old = h.seats i in named_seen z s.words m i (s.view i) h.chains old.protects.roots (old.protects.got own_base) r k

  -- a load that tells of rows
  kept_read : (p : Place) (got : List ℕ) (knows : List KnownWord) → Each (IsSeen s.words m (s.view i).seen) got → Each (IsKnown s.words m) knows
      → IsStoreSound z m.live (record { lock = s.lock; words = write s.words p (s.words p); view = put s.view i (record (s.view i) { got = got; knows = knows }) })
  kept_read p got knows a b =
      let v = s.view i in
      let v' : View = record v { got = got; knows = knows } in
      let there = protected_seen s.words m v.seen v (h.seats i).protects.keeps in
      record {
        meaning = m;
        grows = λ r l. l;
        holds = loaded z s m h i v' none (h.lock.access i) p refl (history_same z s.words s.words m s.view i v' h.history refl (omega arith) refl (λ r _. refl))
            (regarded s.words m i v v.roots v.root_count got knows v.path v.refused (λ _. a) (λ _. b)
            (led_seen z s.words m v.seen knows (protected_in v) h.chains b there) (led_known s.words m knows (led_to knows (protected_in v)) b) (h.seats i));
      }

  pub kept_load_root : (k : ℕ) → k < s.words (RootCount i) → IsStoreSound z m.live (acted s.words s.view i s.lock (load (Root i k) (with_got (s.view i))))
  kept_load_root k l = let old = (h.seats i).protects in kept_read (Root i k) (s.words (Root i k) ∷ (s.view i).got) (s.view i).knows (old.roots k l, old.got own_base) (old.knows own_base)

  pub kept_read_word : (r k : ℕ) → MayName s.words i (s.view i) r → IsStoreSound z m.live (acted s.words s.view i s.lock (load (RowWord r k) (knowing (s.view i) r k)))
  kept_read_word r k may = let old = (h.seats i).protects in
      kept_read (RowWord r k) (s.view i).got (record { row = r; word = k; value = s.words (RowWord r k) } ∷ (s.view i).knows) (old.got own_base) (record { live = (got_seen r may).live; value_is = refl }, old.knows own_base)

  pub kept_read_argument : (r j : ℕ) → MayName s.words i (s.view i) r → j < s.words (RowWord r 1) → IsStoreSound z m.live (acted s.words s.view i s.lock (load (RowWord r (suc (suc j))) (λ n. with_got (knowing (s.view i) r (suc (suc j)) n) n)))
  kept_read_argument r j may l = let old = (h.seats i).protects in let k : ℕ = suc (suc j) in
      kept_read (RowWord r k) (s.words (RowWord r k) ∷ (s.view i).got) (record { row = r; word = k; value = s.words (RowWord r k) } ∷ (s.view i).knows)
      (got_seen (s.words (RowWord r k)) (has_argument r j may l), old.got own_base) (record { live = (got_seen r may).live; value_is = refl }, old.knows own_base)

  module _ (known : RootsKnown z s.words i (s.view i)) where
    root_seen : (k : ℕ) → k < (s.view i).root_count → IsSeen s.words m (s.view i).seen (get_or (s.view i).roots k 0)
    root_seen k l = subst (IsSeen s.words m (s.view i).seen) (known.root k (let a = known.few in omega arith)) ((h.seats i).protects.roots k (let a = known.count in omega arith))

    pub kept_store_root : (k r : ℕ) → MayName s.words i (s.view i) r → IsStoreSound z m.live (record { lock = s.lock; words = write s.words (Root i k) r; view = put s.view i (rooted (s.view i) k r) })
    kept_store_root k r got =
        let old = h.seats i in
        let v = s.view i in
        let v' : View = rooted v k r in
        let u : Place → ℕ = write s.words (Root i k) r in
        let over = same_overdrawn z s m h i v' none (h.lock.access i) refl (s.words Base) in
        let now = got_seen r got in
        let same : (q : ℕ) → IsSeen s.words m v.seen q → IsSeen u m v.seen q = (λ q a. record { live = a.live; birth = a.birth }) in
        let gots : v.base ≡ s.words Base → Each (IsSeen u m v.seen) v.got = (λ b. each_map (IsSeen s.words m v.seen) (IsSeen u m v.seen) v.got same (old.protects.got b)) in
        let known : Each (IsKnown u m) v.knows = each_map (IsKnown s.words m) (IsKnown u m) v.knows (λ q a. record { live = a.live; value_is = a.value_is }) (old.protects.knows own_base) in
        let there = each_set (IsSeen u m v.seen) v.root_count k r v.roots (each_map (IsSeen s.words m v.seen) (IsSeen u m v.seen) (protected_in v) same (protected_seen s.words m v.seen v old.protects.keeps)) (same r now) in
        record {
          meaning = m;
          grows = λ r l. l;
          holds = kept_with z s m h i v' none (h.lock.access i) u m h.rows h.chains
              record { born = h.numbers.born; differ = h.numbers.differ; drawn = let a = h.numbers.drawn in omega arith; room = h.numbers.room; absent = h.numbers.absent }
              (history_same z s.words u m s.view i v' h.history refl (omega arith) refl (λ q _. refl))
              (λ j ne. record {
                base = refl;
                count = refl;
                in_use = refl;
                place = λ q. refl;
                claim = omega arith;
                rows = λ q _. refl;
                live = λ q l. l;
                tree = λ q _. refl;
                chain = λ b. record { more = []; is = refl };
                own = λ d _. refl;
                dead = λ q _ f. f;
                root_count = refl;
                root = λ q. ap (λ (b : Bool). cond (cond b (eqb q k) false) r (s.words (Root j q))) (ne_eqb j i ne);
              })
              record {
                walks = record { walk = old.walks.walk; look = old.walks.look };
                drawn = subst (λ (x : Call). RowDrawn u m (with_call v' x)) (sym e) (record { index = tt; row = tt });
                numbers = record { base = old.numbers.base; in_use = old.numbers.in_use; calls = old.numbers.calls; seen = old.numbers.seen; entered = old.numbers.entered; overdraw = old.numbers.overdraw; own = old.numbers.own; over = old.numbers.over; read = old.numbers.read };
                protects = record {
                  roots = λ q l. choose (IsSeen u m v.seen) (cond (eqb i i) (eqb q k) false) r (s.words (Root i q)) (λ _. record { live = now.live; birth = now.birth }) (λ _. let a = old.protects.roots q l in record { live = a.live; birth = a.birth });
                  wants = subst (λ (x : Call). Where (wanted x) (MayWant u m v.seen)) (sym e) tt;
                  got = λ b. choose (Each (IsSeen u m v.seen)) (nat_lt k v.root_count) (get_or v.roots k 0 ∷ v.got) v.got (λ less. (same (get_or v.roots k 0) (root_seen k (ltb-true k v.root_count less)), gots b)) (λ _. gots b);
                  knows = λ _. known;
                  keeps = led_seen z u m v.seen v.knows (protected_in v') h.chains known there;
                  keeps_words = led_known u m v.knows (rows_kept v') known;
                };
                notes = record { rises = old.notes.rises; keys = old.notes.keys; away = λ f. absurd (let a : Away ≡ Ready = sym f ∙ stay in cc) };
              };
        }

    pub kept_store_count : (n : ℕ) → i < z.seats → n ≤ z.depth → ((k : ℕ) → k < n → (k < (s.view i).root_count) ⊎ MayName s.words i (s.view i) (s.words (Root i k)))
        → IsStoreSound z m.live (record { lock = s.lock; words = write s.words (RootCount i) n; view = put s.view i (root_counted (s.view i) n) })
    kept_store_count n present few may =
        let old = h.seats i in
        let v = s.view i in
        let v' : View = root_counted v n in
        let u : Place → ℕ = write s.words (RootCount i) n in
        let over = same_overdrawn z s m h i v' none (h.lock.access i) refl (s.words Base) in
        let protected : Each (IsSeen s.words m v.seen) (protected_in v) = subst (Each (IsSeen s.words m v.seen)) (sym (protected_are z s.words i v known)) (each_roots (IsSeen s.words m v.seen) s.words i (s.words (RootCount i)) old.protects.roots) in
        let root : (q : ℕ) → q < n → IsSeen s.words m v.seen (s.words (Root i q)) = (λ q l. ⊎_elim (λ below. old.protects.roots q (let b = known.count in omega arith)) (λ k. got_seen (s.words (Root i q)) k) (may q l)) in
        let same : (q : ℕ) → IsSeen s.words m v.seen q → IsSeen u m v.seen q = (λ q a. record { live = a.live; birth = a.birth }) in
        let words : Each (IsKnown u m) v.knows = each_map (IsKnown s.words m) (IsKnown u m) v.knows (λ q a. record { live = a.live; value_is = a.value_is }) (old.protects.knows own_base) in
        let now : Each (IsSeen s.words m v.seen) (protected_in v') = subst (Each (IsSeen s.words m v.seen)) (roots_are z s.words i v known n few) (each_roots (IsSeen s.words m v.seen) s.words i n root) in
        record {
          meaning = m;
          grows = λ r l. l;
          holds = kept_with z s m h i v' none (h.lock.access i) u m h.rows h.chains
              record {
                born = h.numbers.born;
                differ = h.numbers.differ;
                drawn = let a = h.numbers.drawn in omega arith;
                room = h.numbers.room;
                absent = λ j l. ap (λ (b : Bool). cond b n (s.words (RootCount j))) (ne_eqb j i (λ f. omega arith)) ∙ h.numbers.absent j l;
              }
              (history_same z s.words u m s.view i v' h.history refl (omega arith) refl (λ q _. refl))
              (λ j ne. record {
                base = refl;
                count = refl;
                in_use = refl;
                place = λ q. refl;
                claim = omega arith;
                rows = λ q _. refl;
                live = λ q l. l;
                tree = λ q _. refl;
                chain = λ b. record { more = []; is = refl };
                own = λ d _. refl;
                dead = λ q _ f. f;
                root = λ q. refl;
                root_count = ap (λ (b : Bool). cond b n (s.words (RootCount j))) (ne_eqb j i ne);
              })
              record {
                walks = record { walk = old.walks.walk; look = old.walks.look };
                drawn = subst (λ (x : Call). RowDrawn u m (with_call v' x)) (sym e) (record { index = tt; row = tt });
                numbers = record { base = old.numbers.base; in_use = old.numbers.in_use; calls = old.numbers.calls; seen = old.numbers.seen; entered = old.numbers.entered; overdraw = old.numbers.overdraw; own = old.numbers.own; over = old.numbers.over; read = old.numbers.read };
                protects = record {
                  roots = λ q l. same (s.words (Root i q)) (root q (let is : u (RootCount i) ≡ n = ap (λ (b : Bool). cond b n (s.words (RootCount i))) (eq-eqb i i refl) in omega arith));
                  wants = subst (λ (x : Call). Where (wanted x) (MayWant u m v.seen)) (sym e) tt;
                  got = λ b. each_map (IsSeen s.words m v.seen) (IsSeen u m v.seen) (drop n (protected_in v) ++ v.got) same
                      (each_join (IsSeen s.words m v.seen) (drop n (protected_in v)) v.got (each_drop (IsSeen s.words m v.seen) n (protected_in v) protected) (old.protects.got b));
                  knows = λ _. words;
                  keeps = led_seen z u m v.seen v.knows (protected_in v') h.chains words (each_map (IsSeen s.words m v.seen) (IsSeen u m v.seen) (protected_in v') same now);
                  keeps_words = led_known u m v.knows (rows_kept v') words;
                };
                notes = record { rises = old.notes.rises; keys = old.notes.keys; away = λ f. absurd (let a : Away ≡ Ready = sym f ∙ stay in cc) };
              };
        }
