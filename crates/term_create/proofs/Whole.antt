-- What the steps of a creation make together.
use Rattle.std.proofs.Common.{◌≡◌, ◌≢◌, inl, inr, ℕ, zero, suc, pred, ◌+◌, ◌<◌, ◌≤◌, eqb, Bool, true, false, cond, Option, None, Some, List, [], ◌∷◌, ◌++◌, length, max, refl, sym, ap, ◌∙◌, subst, ⊎_elim, arith, eq-eqb}
use Rattle.std.specs.Prelude.{nat_lt}
use Rattle.std.proofs.lemmas.Bool.Decides.{nat_tests}
use Rattle.term_model.specs.declared.Head.{Head}
use Rattle.term_model.specs.declared.Head.TheVariants.{App, Int, Nil, Cons}
use Rattle.store_model.specs.declared.view.Sizes.{Sizes}
use Rattle.store_model.specs.declared.view.Content.{Content}
use Rattle.store_model.specs.declared.view.Passed.{Passed}
use Rattle.store_model.specs.declared.view.Refusal.{Refusal}
use Rattle.store_model.specs.declared.view.Call.{Call}
use Rattle.store_model.specs.declared.view.Call.TheVariants.{Comparing, Passing, Ended, Counting, Drawing, Placing, Linking}
use Rattle.store_model.specs.Calls.{IsOver}
use Rattle.store_model.specs.Machine.{with_call, with_path, refusing, overdrawn, arrived, ended, passing, widest}
use Rattle.store_model.specs.Reads.{Differs, PathTo}
use Rattle.store_model.proofs.Basics.{choose}
use Rattle.node_rows.specs.declared.view.NodeView.{NodeView}
use Rattle.node_rows.specs.Steps.{with_store, over, Known, Few}
use Rattle.atomic_table.specs.declared.shared.Seat.{Seat}
use Rattle.term_create.specs.Fitting.{Fits}
use Rattle.term_create.specs.declared.asked.Asked.{Asked}
use Rattle.term_create.specs.Stage.{HoldsAllAlone, FillsAfter, SameSeat, at_call, at_walk, HasWalked, HasPassed, GoesOn, IsOther, Finds, Makes, IsFull, IsRefused}
use Rattle.history_core.specs.declared.entry.Entry.TheVariants.{Make}
use Rattle.node_rows.specs.Rows.{names}
use Rattle.term_create.specs.Created.{NotesOne, Gets, KeepsCause, WasFilled, GetsNone, KeepsRest}

not_less : (a b : ℕ) → b ≤ a → nat_lt a b ≡ false
not_less a b l = grind (arith, nat_tests)

is_less : (a b : ℕ) → a < b → nat_lt a b ≡ true
is_less a b l = grind (arith, nat_tests)

-- a row has room for a head over at most the widest list of rows
pub words_fit : (z : Sizes) (f : Head) (rs : List ℕ) → IsOver f rs → length rs ≤ widest z → Fits z f rs
words_fit z (App s) rs o l = omega (arith, l)
words_fit z (Int n) rs o l = omega arith
words_fit z Nil rs o l = omega arith
words_fit z Cons rs o l = omega (arith, l)

append_to : {A : Type 0} (xs ys zs : List A) → (xs ++ ys) ++ zs ≡ xs ++ (ys ++ zs)
append_to [] ys zs = refl
append_to (x ∷ xs) ys zs = ap (λ (l : List _). x ∷ l) (append_to xs ys zs)

no_more : {A : Type 0} (xs : List A) → xs ++ [] ≡ xs
no_more [] = refl
no_more (x ∷ xs) = ap (λ (l : List _). x ∷ l) (no_more xs)

row_there : (at : ℕ) → 0 < at → at ≡ suc (pred at)
row_there zero l = absurd (omega arith)
row_there (suc n) l = refl

path_more : (c : Content) (from : ℕ) (ps : List Passed) (p : Passed) → PathTo c from ps (suc p.row) → Differs c p.word p.found → PathTo c from (ps ++ p ∷ []) p.next
path_more c from [] p h d = (h, d, refl)
path_more c from (q ∷ ps) p h d = (h.0, h.1, path_more c q.next ps p h.2 d)

-- after a row that differs a walk has passed one more
pub walk_goes_on : (v u w x : NodeView) (c : Content) (d : Option (ℕ × ℕ)) (from old at next n : ℕ) → HasWalked v u c d from old at n → IsOther u w c d from old at → GoesOn w x c d from old at next → 0 < at → HasWalked v x c d from old next (n + 1)
walk_goes_on v u w x c d from old at next n h o g l = record {
  path = h.path ++ passing at (g.word, g.found) next ∷ [];
  leads = path_more c from h.path (passing at (g.word, g.found) next) (subst (PathTo c from h.path) (row_there at l) h.leads) g.differs;
  view = g.view ∙ (ap (λ (y : NodeView). at_walk y (suc y.store.passed) (y.store.path ++ passing at (g.word, g.found) next ∷ []) (arrived c d from old next)) (o.view ∙ ap (λ (y : NodeView). at_call y (Passing c d from old at (o.word, o.found))) h.view)
      ∙ (ap (λ (ps : List Passed). at_walk v (suc (v.store.passed + n)) ps (arrived c d from old next)) (append_to v.store.path h.path (passing at (g.word, g.found) next ∷ []))
      ∙ ap (λ (m : ℕ). at_walk v m (v.store.path ++ (h.path ++ passing at (g.word, g.found) next ∷ [])) (arrived c d from old next)) (let e : suc (v.store.passed + n) ≡ v.store.passed + (n + 1) = omega arith in e)));
}

few_ended : (N n : ℕ) (c : Content) (d : Option (ℕ × ℕ)) (from : ℕ) → Few N n (ended c d from) → n ≤ N
few_ended N n c None from h = h
few_ended N n c (Some d) from h = h

-- a walk passes no more rows than there are
few_arrived : (N n : ℕ) (c : Content) (d : Option (ℕ × ℕ)) (from old at : ℕ) → Few N n (arrived c d from old at) → n ≤ N
few_arrived N n c d from old at = choose (λ (x : Call). Few N n x → n ≤ N) (eqb at old) (ended c d from) (Comparing c d from old at 0) (λ _. few_ended N n c d from) (λ _ h. let l : n < N = h in omega arith)

-- so the walk ends
pub walk_ends : (z : Sizes) (v w : NodeView) (k : ℕ) (c : Content) (d : Option (ℕ × ℕ)) (from old at : ℕ) → HasWalked v w c d from old at k → Known z w.store → z.rows < k → ⊥
walk_ends z v w k c d from old at h known l =
    let f : Few z.rows (v.store.passed + k) (arrived c d from old at) = subst (λ (u : NodeView). Few z.rows u.store.passed u.store.call) h.view known.few in
    let g = few_arrived z.rows (v.store.passed + k) c d from old at f in absurd (omega arith)

pub link_ends : (z : Sizes) (v w : NodeView) (n k : ℕ) (ps : List Passed) (c : Content) (from i r : ℕ) → v.store.passed + k ≤ n → w ≡ at_walk v n ps (Linking c from i r) → Known z w.store → z.rows < k → ⊥
link_ends z v w n k ps c from i r m e known l =
    let f : n ≤ z.rows = subst (λ (u : NodeView). Few z.rows u.store.passed u.store.call) e known.few in absurd (omega arith)

some_passed : (v : NodeView) (k : ℕ) → k ≢ 0 → v.store.passed < v.store.passed + k
some_passed v zero ne = absurd (ne refl)
some_passed v (suc k) ne = omega arith

-- at the word where it is to end the walk has ended
pub walk_passes : (v w : NodeView) (k : ℕ) (c : Content) (d : Option (ℕ × ℕ)) (from old at : ℕ) → HasWalked v w c d from old at k → (k ≡ 0 → at ≡ from) → at ≡ old → HasPassed v w c (ended c d from) from old
walk_passes v w k c d from old at h first here = record {
  passed = v.store.passed + k;
  path = h.path;
  no_fewer = omega arith;
  some = λ ne. some_passed v k (λ z. ne (sym (first z) ∙ here));
  leads = subst (PathTo c from h.path) here h.leads;
  view = h.view ∙ ap (λ (b : Bool). at_walk v (v.store.passed + k) (v.store.path ++ h.path) (cond b (ended c d from) (Comparing c d from old at 0))) (eq-eqb at old here);
}

-- a claim that was read as below the free count notes nothing
pub count_holds : (a : Asked) (v v1 v2 : NodeView) (c : Content) (from claim count : ℕ) → v1 ≡ at_call v (Counting c from claim) → v2 ≡ with_store v1 (cond (nat_lt claim count) (with_call v1.store (Drawing c from count)) (refusing v1.store c from claim count)) → claim < count → HoldsAllAlone a v2 → HoldsAllAlone a v
count_holds a v v1 v2 c from claim count e f l h = subst (HoldsAllAlone a) e
    (subst (λ (b : Bool). HoldsAllAlone a (with_store v1 (cond b (with_call v1.store (Drawing c from count)) (refusing v1.store c from claim count)))) (is_less claim count l) (subst (HoldsAllAlone a) f h))

-- what a creation finds on its way counts from where it began
pub filled_before : (a : Asked) (i j : ℕ) → j ≡ i → (v w : NodeView) (n : ℕ) (ps : List Passed) (x : Call) → w ≡ at_walk v n ps x → FillsAfter a j w → FillsAfter a i v
filled_before a i j same v w n ps x e h = λ fresh.
    let t : WasFilled a.store.now.sizes i (at_walk v n ps x) a.head (names a.args.now) = subst (λ (y : ℕ × NodeView). FillsAfter a y.0 y.1) (λ k. (same k, e k)) h fresh in
    record { passed = t.passed; path = t.path; call = t.call; filled = t.filled }

pub count_fills : (a : Asked) (i j : ℕ) → j ≡ i → (v v1 v2 : NodeView) (c : Content) (from claim count : ℕ) → v1 ≡ at_call v (Counting c from claim) → v2 ≡ with_store v1 (cond (nat_lt claim count) (with_call v1.store (Drawing c from count)) (refusing v1.store c from claim count)) → claim < count → FillsAfter a j v2 → FillsAfter a i v
count_fills a i j same v v1 v2 c from claim count e f l h =
    filled_before a i i refl v v1 v.store.passed v.store.path (Counting c from claim) e
    (filled_before a i j same v1 v2 v1.store.passed v1.store.path (Drawing c from count)
    (f ∙ ap (λ (b : Bool). with_store v1 (cond b (with_call v1.store (Drawing c from count)) (refusing v1.store c from claim count))) (is_less claim count l)) h)

-- the claim was read as full
pub full_count : (v v1 w : NodeView) (c : Content) (from claim count : ℕ) → v1 ≡ at_call v (Counting c from claim) → w ≡ with_store v1 (cond (nat_lt claim count) (with_call v1.store (Drawing c from count)) (refusing v1.store c from claim count)) → count ≤ claim → IsFull v w c from
full_count v v1 w c from claim count e f l = record {
  claim = claim;
  count = count;
  full = l;
  view = inl (f ∙ (ap (λ (b : Bool). with_store v1 (cond b (with_call v1.store (Drawing c from count)) (refusing v1.store c from claim count))) (not_less claim count l) ∙ ap (λ (u : NodeView). with_store u (refusing u.store c from claim count)) e));
}

-- the draw was past the free count
pub full_draw : (v v1 v2 w : NodeView) (c : Content) (from claim count drawn : ℕ) → v1 ≡ at_call v (Counting c from claim) → v2 ≡ with_store v1 (cond (nat_lt claim count) (with_call v1.store (Drawing c from count)) (refusing v1.store c from claim count))
    → w ≡ with_store v2 (cond (nat_lt drawn count) (with_call v2.store (Placing c from drawn)) (overdrawn v2.store c from drawn count)) → claim < count → count ≤ drawn → IsFull v w c from
full_draw v v1 v2 w c from claim count drawn e f g less l = record {
  claim = drawn;
  count = count;
  full = l;
  view = inr (g ∙ (ap (λ (b : Bool). with_store v2 (cond b (with_call v2.store (Placing c from drawn)) (overdrawn v2.store c from drawn count))) (not_less drawn count l)
      ∙ (ap (λ (u : NodeView). with_store u (overdrawn u.store c from drawn count)) f
      ∙ (ap (λ (b : Bool). let u = cond b (with_call v1.store (Drawing c from count)) (refusing v1.store c from claim count) in with_store v1 (overdrawn u c from drawn count)) (is_less claim count less)
      ∙ ap (λ (u : NodeView). with_store u (overdrawn u.store c from drawn count)) e))));
}

-- a walk to the end of a chain, and then no free row
pub refused_after : (v m w : NodeView) (c : Content) (from : ℕ) → HasPassed v m c (Ended c from) from 0 → IsFull m w c from → IsRefused v w c
refused_after v m w c from h full = record {
  head = from;
  passed = h.passed;
  path = h.path;
  leads = h.leads;
  full = record {
    claim = full.claim;
    count = full.count;
    full = full.full;
    view = ⊎_elim (λ e. inl (e ∙ ap (λ (u : NodeView). with_store u (refusing u.store c from full.claim full.count)) h.view))
        (λ e. inr (e ∙ ap (λ (u : NodeView). with_store u (overdrawn u.store c from full.claim full.count)) h.view)) full.view;
  };
}

pub max_less : (a b : ℕ) → a < b → max a b ≡ b
max_less a b l = omega arith

max_not_less : (a b : ℕ) → a ≤ max a b
max_not_less a b = omega arith

-- what a creation with a row leaves
pub made_notes : (v w : NodeView) (f : Head) (rs : List ℕ) (r n : ℕ) → Makes v w f rs r n → NotesOne v.store w.store f rs r
made_notes v w f rs r n h = subst (λ (u : NodeView). NotesOne v.store u.store f rs r) (sym h.view)
    (let e = max_less v.store.seen n h.later in
    inl (let l = h.later in (let m : v.store.seen < max v.store.seen n = omega arith in m), ap (λ (k : ℕ). v.store.entries ++ Make k f rs r ∷ []) (sym e)))

pub found_notes : (v w : NodeView) (f : Head) (rs : List ℕ) (r n : ℕ) → Finds v w f rs r n → NotesOne v.store w.store f rs r
found_notes v w f rs r n h = subst (λ (u : NodeView). NotesOne v.store u.store f rs r) (sym h.view) (inr (max_not_less v.store.seen n, refl))

pub made_gets : (v w : NodeView) (f : Head) (rs : List ℕ) (r n : ℕ) → Makes v w f rs r n → Gets v.store w.store f rs r
made_gets v w f rs r n h = subst (λ (u : NodeView). Gets v.store u.store f rs r) (sym h.view) record { got = refl; knows = refl; refused = refl; overdraw = refl }

pub found_gets : (v w : NodeView) (f : Head) (rs : List ℕ) (r n : ℕ) → Finds v w f rs r n → Gets v.store w.store f rs r
found_gets v w f rs r n h = subst (λ (u : NodeView). Gets v.store u.store f rs r) (sym h.view) record { got = refl; knows = refl; refused = refl; overdraw = refl }

pub made_rest : (v w : NodeView) (f : Head) (rs : List ℕ) (r n : ℕ) → Makes v w f rs r n → KeepsRest v.store w.store
made_rest v w f rs r n h = subst (λ (u : NodeView). KeepsRest v.store u.store) (sym h.view) record { stay = refl; base = refl; in_use = refl; fresh = refl; roots = refl; root_count = refl }

pub found_rest : (v w : NodeView) (f : Head) (rs : List ℕ) (r n : ℕ) → Finds v w f rs r n → KeepsRest v.store w.store
found_rest v w f rs r n h = subst (λ (u : NodeView). KeepsRest v.store u.store) (sym h.view) record { stay = refl; base = refl; in_use = refl; fresh = refl; roots = refl; root_count = refl }

-- the view v, at the begin of a creation
abbrev pub at_begin : NodeView → NodeView
at_begin v = with_store v (with_path v.store 0 [])

abbrev refusal_of : Content → ℕ → List Passed → ℕ → ℕ → Refusal
refusal_of c from path claim count = record { content = c; head = from; path = path; claim = claim; count = count }

-- what a creation with no row leaves
pub refused_cause : (v w : NodeView) (f : Head) (rs : List ℕ) → IsRefused (at_begin v) w (over f rs) → KeepsCause v.store w.store f rs
refused_cause v w f rs h = record {
  refusal = refusal_of (over f rs) h.head h.path h.full.claim h.full.count;
  wanted = refl;
  cause = record { path = h.leads; full = h.full.full };
  kept = ⊎_elim (λ e. ap (λ (u : NodeView). u.store.refused) e) (λ e. ap (λ (u : NodeView). u.store.refused) e) h.full.view;
}

pub refused_none : (v w : NodeView) (f : Head) (rs : List ℕ) → IsRefused (at_begin v) w (over f rs) → GetsNone v.store w.store
refused_none v w f rs h = ⊎_elim
    (λ e. subst (λ (u : NodeView). GetsNone v.store u.store) (sym e) record { entries = refl; got = refl; knows = refl; seen = refl; overdraw = inl refl })
    (λ e. subst (λ (u : NodeView). GetsNone v.store u.store) (sym e) record { entries = refl; got = refl; knows = refl; seen = refl; overdraw = inr refl }) h.full.view

pub refused_rest : (v w : NodeView) (f : Head) (rs : List ℕ) → IsRefused (at_begin v) w (over f rs) → KeepsRest v.store w.store
refused_rest v w f rs h = ⊎_elim
    (λ e. subst (λ (u : NodeView). KeepsRest v.store u.store) (sym e) record { stay = refl; base = refl; in_use = refl; fresh = refl; roots = refl; root_count = refl })
    (λ e. subst (λ (u : NodeView). KeepsRest v.store u.store) (sym e) record { stay = refl; base = refl; in_use = refl; fresh = refl; roots = refl; root_count = refl }) h.full.view

-- past the store nothing of the view has changed
pub made_only : (v w : NodeView) (f : Head) (rs : List ℕ) (r n : ℕ) → Makes v w f rs r n → w ≡ with_store v w.store
made_only v w f rs r n h = subst (λ (u : NodeView). u ≡ with_store v u.store) (sym h.view) refl

pub found_only : (v w : NodeView) (f : Head) (rs : List ℕ) (r n : ℕ) → Finds v w f rs r n → w ≡ with_store v w.store
found_only v w f rs r n h = subst (λ (u : NodeView). u ≡ with_store v u.store) (sym h.view) refl

pub refused_only : (v w : NodeView) (f : Head) (rs : List ℕ) → IsRefused (at_begin v) w (over f rs) → w ≡ with_store v w.store
refused_only v w f rs h = ⊎_elim (λ e. subst (λ (u : NodeView). u ≡ with_store v u.store) (sym e) refl) (λ e. subst (λ (u : NodeView). u ≡ with_store v u.store) (sym e) refl) h.full.view

-- the same seat, from one to the next
pub same_joined : {a b c : Seat (Unit {0}) NodeView} {i j k m n o : ℕ} → SameSeat a b i j m n → SameSeat b c j k n o → SameSeat a c i k m o
same_joined s t = record {
  same = record { table = t.same.table ∙ s.same.table; id = t.same.id ∙ s.same.id; slots = t.same.slots ∙ s.same.slots };
  number = t.number ∙ s.number;
  seats = t.seats ∙ s.seats;
}
