-- What the steps of a creation leave of the view, one after another.
use Rattle.std.proofs.Common.{◌≡◌, ◌≢◌, ℕ, ◌+◌, ◌<◌, suc, eqb, Bool, true, false, cond, Option, None, Some, is_some, ◌++◌, length, get_or, sym, ap, ◌∙◌, subst, arith, eq-eqb}
use Rattle.std.specs.Prelude.{nat_lt, IfSome}
use Rattle.std.proofs.lemmas.Bool.Decides.{nat_tests}
use Rattle.term_model.specs.declared.Head.{Head}
use Rattle.history_core.specs.declared.entry.Entry.TheVariants.{Make}
use Rattle.store_model.specs.declared.view.Content.{Content}
use Rattle.store_model.specs.declared.view.Call.{Call}
use Rattle.store_model.specs.declared.view.Call.TheVariants.{Comparing, Passing, Counting, Drawing, Placing, Linking, Publishing}
use Rattle.store_model.specs.Machine.{with_call, refusing, overdrawn, arrived, ended, gained, action, compared}
use Rattle.store_model.specs.Calls.{words_of}
use Rattle.store_model.specs.Seats.{Where, index}
use Rattle.node_rows.specs.declared.view.NodeView.{NodeView}
use Rattle.node_rows.specs.Steps.{with_store, went}
use Rattle.node_rows.specs.Rows.{names}
use Rattle.term_create.specs.declared.asked.Asked.{Asked}
use Rattle.term_create.specs.Stage.{IsBased, IsOther, HasWalked, HasPassed, Relinks, Makes, content, at_call, at_walk, stage}

differs : (m n : ℕ) → m ≢ n → eqb m n ≡ false
differs m n ne = grind (arith, nat_tests)

-- a call after another
pub on_call : (v u w : NodeView) (x y : Call) → u ≡ at_call v x → w ≡ at_call u y → w ≡ at_call v y
on_call v u w x y e f = f ∙ ap (λ (q : NodeView). at_call q y) e

-- the call changes neither the base nor the buckets in use
pub based_on : (a : Asked) (v u : NodeView) (x : Call) → u ≡ at_call v x → IsBased a v.store → IsBased a u.store
based_on a v u x e h =
    let t : IsBased a (with_call v.store x) = record { base = h.base; place = h.place } in
    subst (λ (q : NodeView). IsBased a q.store) (sym e) t

-- the claim was read as below the free count
pub drawing : (v v1 v2 : NodeView) (c : Content) (from claim count : ℕ) → v1 ≡ at_call v (Counting c from claim)
    → v2 ≡ with_store v1 (cond (nat_lt claim count) (with_call v1.store (Drawing c from count)) (refusing v1.store c from claim count))
    → claim < count → v2 ≡ at_call v (Drawing c from count)
drawing v v1 v2 c from claim count e f l =
    let less : nat_lt claim count ≡ true = grind (arith, nat_tests) in
    f ∙ (ap (λ (b : Bool). with_store v1 (cond b (with_call v1.store (Drawing c from count)) (refusing v1.store c from claim count))) less
    ∙ ap (λ (q : NodeView). at_call q (Drawing c from count)) e)

-- a number was drawn that is below the count, so the call is at placing it
pub placing : (v v2 v3 : NodeView) (c : Content) (from count drawn : ℕ) → v2 ≡ at_call v (Drawing c from count)
    → v3 ≡ with_store v2 (cond (nat_lt drawn count) (with_call v2.store (Placing c from drawn)) (overdrawn v2.store c from drawn count))
    → drawn < count → v3 ≡ at_call v (Placing c from drawn)
placing v v2 v3 c from count drawn e f l =
    let less : nat_lt drawn count ≡ true = grind (arith, nat_tests) in
    f ∙ (ap (λ (b : Bool). with_store v2 (cond b (with_call v2.store (Placing c from drawn)) (overdrawn v2.store c from drawn count))) less
    ∙ ap (λ (q : NodeView). at_call q (Placing c from drawn)) e)

-- the exchange was lost
pub lost : (v l u : NodeView) (f : Head) (a : Asked) (from i r found number : ℕ) → l ≡ at_call v (Publishing (content a) from i r)
    → u ≡ with_store l (cond (eqb found from) (gained l.store (content a) r number (Make number f (names a.args.now) r))
    (with_call l.store (arrived (content a) (Some (i, r)) found from found)))
    → found ≢ from → u ≡ at_call v (arrived (content a) (Some (i, r)) found from found)
lost v l u f a from i r found number e h ne =
    let no = differs found from ne in
    h ∙ (ap (λ (b : Bool). with_store l (cond b (gained l.store (content a) r number (Make number f (names a.args.now) r))
    (with_call l.store (arrived (content a) (Some (i, r)) found from found)))) no
    ∙ ap (λ (q : NodeView). at_call q (arrived (content a) (Some (i, r)) found from found)) e)

-- the exchange was made
pub makes : (v l u : NodeView) (a : Asked) (from i r found : ℕ) → l ≡ at_call v (Publishing (content a) from i r)
    → u ≡ with_store l (cond (eqb found from) (gained l.store (content a) r (a.base + i) (Make (a.base + i) a.head (names a.args.now) r))
    (with_call l.store (arrived (content a) (Some (i, r)) found from found)))
    → found ≡ from → IsBased a v.store → v.store.call ≡ Linking (content a) from i r → Where (index v.store.call) (λ k. v.store.seen < v.store.base + k)
    → Makes v u a.head (names a.args.now) r (a.base + i)
makes v l u a from i r found e h is based stage later = record {
  passed = v.store.passed;
  path = v.store.path;
  later = subst (λ (b : ℕ). v.store.seen < b + i) (sym based.base) (subst (λ (x : Call). Where (index x) (λ k. v.store.seen < v.store.base + k)) stage later);
  view = h ∙ (ap (λ (b : Bool). with_store l (cond b (gained l.store (content a) r (a.base + i) (Make (a.base + i) a.head (names a.args.now) r))
      (with_call l.store (arrived (content a) (Some (i, r)) found from found)))) (eq-eqb found from is)
      ∙ ap (λ (q : NodeView). with_store q (gained q.store (content a) r (a.base + i) (Make (a.base + i) a.head (names a.args.now) r))) e);
}

-- it was lost, and the walk has come to the old head
pub relinks : (v u w : NodeView) (c : Content) (x : Call) (from i r found : ℕ) → u ≡ at_call v x → HasPassed u w c (Linking c found i r) found from → found ≢ from
    → Relinks v w (Linking c found i r)
relinks v u w c x from i r found e h ne = record {
  passed = h.passed;
  path = u.store.path ++ h.path;
  more = subst (λ (q : NodeView). q.store.passed < h.passed) e (h.some ne);
  view = h.view ∙ ap (λ (q : NodeView). at_walk q h.passed (u.store.path ++ h.path) (Linking c found i r)) e;
}

-- a walk that isn't at its end compares the row that it is at
pub compares : (v u : NodeView) (c : Content) (d : Option (ℕ × ℕ)) (from old at n : ℕ) → HasWalked v u c d from old at n → at ≢ old → u.store.call ≡ Comparing c d from old at 0
compares v u c d from old at n h ne =
    let no = differs at old ne in
    ap (λ (q : NodeView). q.store.call) h.view ∙ ap (λ (b : Bool). cond b (ended c d from) (Comparing c d from old at 0)) no

-- a row that differs, by the view in which it does
pub other_here : (u w : NodeView) (c : Content) (d : Option (ℕ × ℕ)) (from old at : ℕ) → IsOther u w c d from old at → IsOther w w c d from old at
other_here u w c d from old at h = record {
  word = h.word;
  found = h.found;
  differs = h.differs;
  view = h.view ∙ sym (ap (λ (q : NodeView). at_call q (Passing c d from old at (h.word, h.found))) h.view);
}

-- a word was loaded, and is the one that is asked
pub same_word : (v w : NodeView) (c : Content) (d : Option (ℕ × ℕ)) (from old at k n : ℕ) → v.store.call ≡ Comparing c d from old at k → w ≡ with_store v (went v.store n)
    → n ≡ get_or (words_of c) k 0 → w ≡ at_call v (stage c d from old at (k + 1))
same_word v w c d from old at k n e f is =
    let more : suc k ≡ k + 1 = omega arith in
    f ∙ (ap (λ (x : Call). with_store v ((action v.store x).moved n)) e
    ∙ (ap (λ (b : Bool). at_call v (cond b (compared c d from old at k) (Passing c d from old at (k, n)))) (eq-eqb n (get_or (words_of c) k 0) is)
    ∙ ap (λ (m : ℕ). at_call v (stage c d from old at m)) more))

-- the word that was found is another than the content's
pub other_word : (v w : NodeView) (c : Content) (d : Option (ℕ × ℕ)) (from old at k n : ℕ) → v.store.call ≡ Comparing c d from old at k → w ≡ with_store v (went v.store n)
    → n ≢ get_or (words_of c) k 0 → w ≡ at_call v (Passing c d from old at (k, n))
other_word v w c d from old at k n e f ne =
    let no : eqb n (get_or (words_of c) k 0) ≡ false = differs n (get_or (words_of c) k 0) ne in
    f ∙ (ap (λ (x : Call). with_store v ((action v.store x).moved n)) e
    ∙ ap (λ (b : Bool). at_call v (cond b (compared c d from old at k) (Passing c d from old at (k, n)))) no)

-- a word of the row was found to be another, so the row holds another content
pub other_row : (v w : NodeView) (c : Content) (d : Option (ℕ × ℕ)) (from old at k : ℕ) (r : Option ℕ) → is_some r ≡ true → k < length (words_of c)
    → IfSome r (λ n. (n ≢ get_or (words_of c) k 0) × (w ≡ at_call v (Passing c d from old at (k, n)))) → IsOther v w c d from old at
other_row v w c d from old at k (Some n) e below h = record { word = k; found = n; differs = record { there = below; other = h.0 }; view = h.1 }
other_row v w c d from old at k None e below h = cc
