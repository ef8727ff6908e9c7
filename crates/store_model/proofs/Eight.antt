-- The eight facts follow from those that each step keeps.
use Rattle.std.proofs.Common.{◌≡◌, ◌≢◌, ◌⊎◌, ℕ, zero, suc, ◌<◌, ◌≤◌, Bool, true, false, Option, None, Some, List, [], ◌∷◌, ◌++◌, refl, sym, ap, ◌∙◌, subst, ⊎_elim, inl, inr, arith, true≢false}
use Rattle.std.specs.Prelude.{◌&&◌}
use Rattle.std.proofs.lemmas.Bool.{cases_lt}
use mathlib.Core.Logic.{dite}
use native.Mathlib.Decide.{ℕ_discrete}
use Rattle.term_model.specs.Tree.{Tree, is_well_formed, may_stand_over}
use Rattle.lock_core.specs.declared.parts.Phase.TheVariants as phase
use Rattle.lock_core.specs.Lock.{seat_of}
use Rattle.history_core.specs.TermSet.{empty}
use Rattle.history_core.specs.Chronicle.{chronicle, set_of, entries_of, NeverFalls, last_roots}
use Rattle.history_core.proofs.Own.{own_order_stays, roots_are_last}
use Rattle.history_core.proofs.Places.{rising_never_falls}
use Rattle.history_core.proofs.Sound.{legal_is_sound}
use Rattle.store_model.specs.Words.{Place, Base, FreeCount, Claim, InUse, FreePlace, Bucket, row_at}
use Rattle.store_model.specs.Calls.{Content, bucket, Call, Comparing, Passing, Ended, Counting, Drawing, Placing, Filling, Numbering, Linking, Publishing}
use Rattle.store_model.specs.Machine.{Sizes, State, Each, Granted}
use Rattle.store_model.specs.Meaning.{Meaning, Matches, Linked, Stands, grown, trees_at}
use Rattle.store_model.specs.Seats.{Where, index, drawn, wanted, Lacks, Walks, Walked, IsWalk, HoldsRow, IsSeen, MayWant, HasRead}
use Rattle.store_model.specs.Invariant.{listed, ChainsHold, Holds}
use Rattle.store_model.specs.Steps.{CoreHolds}
use Rattle.store_model.specs.Runs.{Inductive}
use Rattle.store_model.specs.RowsPartitioned.{IsAt, IsOneOf}
use Rattle.store_model.specs.WalksCurrent.{HasWalked, HasEnded, IsCurrent, IsShort}
use Rattle.store_model.specs.NumbersBounded.{CountIs, ReadFull}
use Rattle.store_model.specs.StoreHolds.{StoreHolds}
use Rattle.store_model.proofs.Basics.{where_at, where_map, each_map, each_in, each_left, each_right, each_both}
use Rattle.store_model.proofs.Histories.{listed_at, live_held}
use Rattle.store_model.proofs.Publishes.{content_is}
use Rattle.store_model.proofs.Chains.{linked_right}
use Rattle.store_model.proofs.Short.{distinct, chain_few, walks_few, walked_few}
use Rattle.store_model.proofs.Locks.{alone_in}

-- where a row lacks the words of c, it lacks its tree
lacks_tree : (z : Sizes) (w : Place → ℕ) (m : Meaning) → ChainsHold z w m → (c : Content) → Each (λ r. m.live r ≡ true) c.arguments → (q : ℕ) → m.live q ≡ true → Lacks (row_at w) c q → m.tree q ≢ grown m.tree c
lacks_tree z w m h c wants q l lacks is = lacks (subst (Matches (row_at w q)) (content_is z w m h c wants q l is) (h.words q l))

both_left : (a b : Bool) → (a && b) ≡ true → a ≡ true
both_left true b e = refl
both_left false b e = e

-- a row is in one of the first n places, or in none
pub in_places : (place : ℕ → ℕ) (r n : ℕ) → ((i : ℕ) × (i < n) × (place i ≡ r)) ⊎ ((i : ℕ) → i < n → place i ≢ r)
in_places place r zero = inr (λ i l. absurd (omega arith))
in_places place r (suc n) = dite (ℕ_discrete (place n) r) (λ e. inl (n, omega arith, e)) (λ ne. ⊎_elim
    (λ (t : (i : ℕ) × (i < n) × (place i ≡ r)). inl (t.0, (let l = t.1 in omega arith), t.2))
    (λ f. inr (λ i l. dite (ℕ_discrete i n) (λ e h. ne (ap place (sym e) ∙ h)) (λ d. f i (omega arith)))) (in_places place r n))

is_some : (o : Option ℕ) (k : ℕ) → (o ≡ Some k) ⊎ (o ≢ Some k)
is_some None k = inr (λ e. absurd (cc))
is_some (Some n) k = dite (ℕ_discrete n k) (λ e. inl (ap Some e)) (λ ne. inr (λ e. ne (let f : n ≡ k = cc in f)))

-- one of the first n has drawn k, or none
one_drew : (f : ℕ → Option ℕ) (k n : ℕ) → ((j : ℕ) × (j < n) × (f j ≡ Some k)) ⊎ ((j : ℕ) → j < n → f j ≢ Some k)
one_drew f k zero = inr (λ j l. absurd (omega arith))
one_drew f k (suc n) = ⊎_elim (λ e. inl (n, omega arith, e)) (λ ne. ⊎_elim
    (λ (t : (j : ℕ) × (j < n) × (f j ≡ Some k)). inl (t.0, (let l = t.1 in omega arith), t.2))
    (λ g. inr (λ j l. dite (ℕ_discrete j n) (λ e h. ne (ap f (sym e) ∙ h)) (λ d. g j (omega arith)))) (one_drew f k n)) (is_some (f n) k)

by_bool : (b : Bool) → (b ≡ true) ⊎ (b ≡ false)
by_bool true = inl refl
by_bool false = inr refl

module _ (z : Sizes) (s : State) (w : Place → ℕ) (m : Meaning) (h : Holds z (record { lock = s.lock; words = w; view = s.view }) m) where
  abbrev calls : ℕ → Call
  calls = λ i. (s.view i).call

  -- a row that isn't live has one of the first places, and is free, drawn or unused
  dead_row : (r k : ℕ) → k < w FreeCount → w (FreePlace k) ≡ r → m.live r ≡ false → IsOneOf z w m.live calls r
  dead_row r k l place dead =
      let at : IsAt w m.live r k = record { counts = l; place = place; dead = dead } in
      ⊎_elim
      (λ claimed. ⊎_elim
      (λ (t : (j : ℕ) × (j < z.seats) × (index (calls j) ≡ Some k)). inr (inl record {
        at = k;
        stands = at;
        claimed = claimed;
        seat = t.0;
        there = t.1;
        its = t.2;
        only = λ j e. dite (ℕ_discrete j t.0) (λ f. f) (λ ne. absurd (h.apart j t.0 (λ f. ne (sym f)) k e t.2));
      }))
      (λ none. inr (inr (inl record { at = k; stands = at; claimed = claimed; nobody = none }))) (one_drew (λ j. index (calls j)) k z.seats))
      (λ past. inl record { at = k; stands = at; unclaimed = omega arith }) (cases_lt k (w Claim))

  each_row : (r : ℕ) → r < z.rows → IsOneOf z w m.live calls r
  each_row r l = ⊎_elim (λ live. inr (inr (inr live))) (λ dead. ⊎_elim
      (λ (t : (i : ℕ) × (i < w FreeCount) × (w (FreePlace i) ≡ r)). dead_row r t.0 t.1 t.2 dead)
      (λ none. absurd (true≢false (sym (h.rows.others r l none) ∙ dead))) (in_places (λ i. w (FreePlace i)) r (w FreeCount))) (by_bool (m.live r))

  all_live : (b : ℕ) → Each (λ r. m.live r ≡ true) (m.chain b)
  all_live b = each_map (Stands m (w InUse) b) (λ r. m.live r ≡ true) (m.chain b) (λ r k. k.live) (h.chains.standing b)

  lack_trees : (c : Content) → Each (λ r. m.live r ≡ true) c.arguments → (xs : List ℕ) → Each (λ r. m.live r ≡ true) xs → Each (Lacks (row_at w) c) xs → Each (λ r. m.tree r ≢ grown m.tree c) xs
  lack_trees c wants xs live lacks = each_both (λ r. m.live r ≡ true) (Lacks (row_at w) c) (λ r. m.tree r ≢ grown m.tree c) xs (λ r l k. lacks_tree z w m h.chains c wants r l k) live lacks

  has_walked : (c : Content) → Each (λ r. m.live r ≡ true) c.arguments → (from old at n : ℕ) → Walks (row_at w) (m.chain (bucket c (w InUse))) c from old at n → HasWalked (row_at w) (m.chain (bucket c (w InUse))) m.tree c from at
  has_walked c wants from old at n k =
      let rest : List ℕ = k.here ∷ (k.todo ++ k.settled) in
      let live = each_right (λ r. m.live r ≡ true) k.fresh (k.walked ++ rest) (subst (Each (λ r. m.live r ≡ true)) k.chain_is (all_live (bucket c (w InUse)))) in
      record {
        newer = k.fresh;
        walked = k.walked;
        rest = rest;
        suffix = k.chain_is;
        from_head = k.from_head;
        come_to = (k.at_is, linked_right (row_at w) from k.walked k.here (k.todo ++ k.settled) k.from_head);
        lack = lack_trees c wants k.walked (each_left (λ r. m.live r ≡ true) k.walked rest live) k.walked_lack;
      }

  has_ended : (c : Content) → Each (λ r. m.live r ≡ true) c.arguments → (from n : ℕ) → Walked (row_at w) (m.chain (bucket c (w InUse))) c from n → HasEnded (row_at w) (m.chain (bucket c (w InUse))) m.tree c from
  has_ended c wants from n k = record {
    newer = k.fresh;
    walked = k.settled;
    suffix = k.chain_is;
    from_head = k.to_settled;
    lack = lack_trees c wants k.settled (each_right (λ r. m.live r ≡ true) k.fresh k.settled (subst (Each (λ r. m.live r ≡ true)) k.chain_is (all_live (bucket c (w InUse))))) k.settled_lack;
  }

  current : (n : ℕ) (x : Call) → Where (wanted x) (λ c. Each (λ r. m.live r ≡ true) c.arguments) → IsWalk (row_at w) m.chain (w InUse) n x → IsCurrent (row_at w) (λ c. m.chain (bucket c (w InUse))) m.tree x
  current n (Comparing c d from old at k) wants h = has_walked c wants from old at n h
  current n (Passing c d from old at dif) wants h = has_walked c wants from old at n h
  current n (Ended c from) wants h = has_ended c wants from n h
  current n (Counting c from k) wants h = has_ended c wants from n h
  current n (Drawing c from k) wants h = has_ended c wants from n h
  current n (Placing c from i) wants h = has_ended c wants from n h
  current n (Filling c from i r k) wants h = has_ended c wants from n h
  current n (Numbering c from i r) wants h = has_ended c wants from n h
  current n (Linking c from i r) wants h = has_ended c wants from n h
  current n (Publishing c from i r) wants h = has_ended c wants from n h
  current n x wants h = tt

  few_walks : (c : Content) (from old at n : ℕ) → Walks (row_at w) (m.chain (bucket c (w InUse))) c from old at n → n ≤ z.rows
  few_walks c from old at n k = let b : ℕ = bucket c (w InUse) in let a = walks_few (row_at w) (m.chain b) c from old at n k in let f = chain_few z w m h.chains b in omega arith

  few_walked : (c : Content) (from n : ℕ) → Walked (row_at w) (m.chain (bucket c (w InUse))) c from n → n ≤ z.rows
  few_walked c from n k = let b : ℕ = bucket c (w InUse) in let a = walked_few (row_at w) (m.chain b) c from n k in let f = chain_few z w m h.chains b in omega arith

  pub short : (n : ℕ) (x : Call) → IsWalk (row_at w) m.chain (w InUse) n x → IsShort z.rows n x
  short n (Comparing c d from old at k) h = few_walks c from old at n h
  short n (Passing c d from old at dif) h = few_walks c from old at n h
  short n (Ended c from) h = few_walked c from n h
  short n (Counting c from k) h = few_walked c from n h
  short n (Drawing c from k) h = few_walked c from n h
  short n (Placing c from i) h = few_walked c from n h
  short n (Filling c from i r k) h = few_walked c from n h
  short n (Numbering c from i r) h = few_walked c from n h
  short n (Linking c from i r) h = few_walked c from n h
  short n (Publishing c from i r) h = few_walked c from n h
  short n x h = tt

  wants_live : (i : ℕ) → Where (wanted (calls i)) (λ c. Each (λ r. m.live r ≡ true) c.arguments)
  wants_live i = where_map (wanted (calls i)) (MayWant w m (s.view i).seen) (λ c. Each (λ r. m.live r ≡ true) c.arguments) (λ c _ k. each_map (IsSeen w m (s.view i).seen) (λ r. m.live r ≡ true) c.arguments (λ r q. q.live) k.arguments) (h.seats i).protects.wants

  -- what a call has read
  count_is : (base count claim : ℕ) (o : Option ℕ) (x : Call) → HasRead base count claim o x → CountIs count x
  count_is base count claim o (Drawing c from n) k = k.0
  count_is base count claim o x k = tt

  read_full : (base count claim : ℕ) (o : Option ℕ) (x : Call) → HasRead base count claim o x → o ≡ Some base → ReadFull count x
  read_full base count claim o (Counting c from n) k e = k.0 e
  read_full base count claim o (Drawing c from n) k e = k.1 e
  read_full base count claim o x k e = tt

  formed : (r : ℕ) → m.live r ≡ true → may_stand_over (m.content r).head (trees_at m.tree (m.content r).arguments) ≡ true
  formed r l =
      let lists = listed z.seats (λ i. (s.view i).entries) in
      let sound = legal_is_sound z.rows (chronicle lists) h.history.legal in
      let well = sound.formed r (m.tree r) (ap (λ f. f r) h.history.pairs ∙ live_held m r l) in
      both_left _ _ (subst (λ (t : Tree). is_well_formed t ≡ true) (h.chains.trees r l) well)

  beyond : (b : ℕ) → w InUse ≤ b → w (Bucket b) ≡ 0
  beyond b l = subst (Linked (row_at w) (w (Bucket b))) (h.chains.beyond b l) (h.chains.linked b)

  roots_are : (i : ℕ) → i < z.seats → (set_of (chronicle (listed z.seats (λ j. (s.view j).entries)))).roots i ≡ last_roots [] (s.view i).entries
  roots_are i l =
      let lists = listed z.seats (λ j. (s.view j).entries) in
      let e : entries_of lists i ≡ (s.view i).entries = listed_at z.seats (λ j. (s.view j).entries) i [] l in
      roots_are_last empty (chronicle lists) i ∙ ap (last_roots []) (own_order_stays lists i (subst NeverFalls (sym e) (rising_never_falls (s.view i).entries (h.seats i).notes.rises)) ∙ e)

  held_row : (j i r : ℕ) → drawn (calls j) ≡ Some (i, r) → HoldsRow w (w Base) (calls j) (i, r)
  held_row j i r e = where_at (drawn (calls j)) (HoldsRow w (w Base) (calls j)) (i, r) e (h.seats j).drawn.row

-- the eight facts
pub eight : (z : Sizes) (s : State) → Inductive z s → StoreHolds z s
eight z s k =
    let m : Meaning = k.core.meaning in
    let w : Place → ℕ = k.core.kept in
    let h = k.core.holds in
    let under = k.core.under in
    let bases = k.core.bases in
    record {
      meaning = m;
      began = w;
      lock = record {
        busy = h.lock.sound.busy;
        one_holder = h.lock.sound.holder;
        forbidden = h.lock.sound.forbidden;
        held = h.lock.sound.held;
        seats = h.lock.seats;
        in_flight = λ i ne. subst (Granted s.lock i) ((h.seats i).numbers.calls ne) (h.lock.access i);
      };
      rows = record {
        rows = h.rows.there;
        differ = h.rows.differ;
        others = h.rows.others;
        each = each_row z s w m h;
        its_place = λ j i r e. sym (held_row z s w m h j i r e).place;
        stored = λ j i r e. (held_row z s w m h j i r e).filled;
      };
      chains = record {
        ended = h.chains.linked;
        live = all_live z s w m h;
        stands = h.chains.present;
        nowhere_else = λ r b i. sym (each_in (Stands m (w InUse) b) r (m.chain b) (h.chains.standing b) i).bucket;
        once = λ b. distinct (row_at w) (w (Bucket b)) (m.chain b) (h.chains.linked b);
        used = h.chains.used;
        within = h.chains.within;
        beyond = beyond z s w m h;
        below = h.chains.below;
        words = h.chains.words;
        arguments = h.chains.arguments;
        trees = h.chains.trees;
        formed = formed z s w m h;
        differ = h.chains.differ;
      };
      walks = record {
        walks = λ i. current z s w m h (s.view i).passed (s.view i).call (wants_live z s w m h i) (h.seats i).walks.walk;
        short = λ i. short z s w m h (s.view i).passed (s.view i).call (h.seats i).walks.walk;
      };
      numbers = record {
        born = h.numbers.born;
        differ = h.numbers.differ;
        claim = h.numbers.drawn;
        full = λ i. (h.seats i).numbers.overdraw;
        read_full = λ i. read_full z s w m h (w Base) (w FreeCount) (w Claim) (s.view i).overdraw (s.view i).call (h.seats i).numbers.read;
        room = h.numbers.room;
        base = λ i. (h.seats i).numbers.base;
        count = λ i. count_is z s w m h (w Base) (w FreeCount) (w Claim) (s.view i).overdraw (s.view i).call (h.seats i).numbers.read;
        in_use = λ i. (h.seats i).numbers.in_use;
        base_known = bases.known;
        loaded_known = bases.seats;
        collects = bases.numbers;
      };
      protected = record {
        protected = λ i. (h.seats i).protects.roots;
        arguments = λ i. where_map (wanted (s.view i).call) (MayWant w m (s.view i).seen) (λ c. Each (IsSeen w m (s.view i).seen) c.arguments) (λ c _ t. t.arguments) (h.seats i).protects.wants;
        got = λ i. (h.seats i).protects.got;
        knows = λ i. (h.seats i).protects.knows;
        keeps = λ i. (h.seats i).protects.keeps;
        keeps_words = λ i. (h.seats i).protects.keeps_words;
        away = λ i. (h.seats i).notes.away;
      };
      history = record { legal = h.history.legal; rises = λ i. (h.seats i).notes.rises; pairs = h.history.pairs; roots = roots_are z s w m h };
      collection = record {
        calm = under.calm;
        loaded = under.loaded;
        whole = under.whole;
        claim = λ i c. under.stored i c Claim refl;
        present = under.present;
        alone = under.alone;
        nobody_shared = λ i j c shared. dite (ℕ_discrete j i)
            (λ e. let f = (under.alone i c).holder in let g : (seat_of s.lock i).phase ≡ phase.Shared = ap (λ (q : ℕ). (seat_of s.lock q).phase) (sym e) ∙ shared in let a : phase.Holder ≡ phase.Shared = sym f ∙ g in absurd (cc))
            (λ ne. alone_in s.lock h.lock.sound i j (under.alone i c) ne (inl (inl shared)));
        one = λ i j c d. dite (ℕ_discrete j i) sym (λ ne. absurd (alone_in s.lock h.lock.sound i j (under.alone i c) ne (inl (inr (under.alone j d)))));
      };
      strengthened = record { holds = h; under = under; bases = bases; fresh = k.core.fresh; remembers = k.remembers };
    }

-- the form that each step is shown to keep
abbrev pub core_of : (z : Sizes) (s : State) → StoreHolds z s → CoreHolds z s
core_of z s k = record { meaning = k.meaning; kept = k.began; holds = k.strengthened.holds; under = k.strengthened.under; bases = k.strengthened.bases; fresh = k.strengthened.fresh }

pub inductive : (z : Sizes) (s : State) → StoreHolds z s → Inductive z s
inductive z s k = record { core = core_of z s k; remembers = k.strengthened.remembers }
