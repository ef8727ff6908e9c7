-- How a creation ends, and that its row has the asked tree.
use Rattle.std.proofs.Common.{◌≡◌, ◌≢◌, ◌⊎◌, ℕ, zero, suc, pred, ◌+◌, ◌<◌, eqb, true, Option, None, Some, List, [], ◌∷◌, ◌++◌, length, get_or, refl, sym, ap, ◌∙◌, subst, inl, inr, arith, max}
use Rattle.std.specs.Prelude.{nat_lt}
use Rattle.history_core.specs.declared.entry.Entry.TheVariants.{Make, Find}
use Rattle.history_core.specs.TermSet.{Names}
use Rattle.store_model.specs.Words.{Place, RowWord, row_at}
use Rattle.store_model.specs.Calls.{Content, words_of, Call, Idle, Comparing, Passing, Finding, Ended, Counting, Drawing, Placing, Filling, Numbering, Linking, Publishing, Loading, Storing, Away, Ready, View}
use Rattle.store_model.specs.Machine.{State, Each, IsCreation, action, with_call, with_path, gained, refusing, overdrawn, arrived, compared, passing, words_known}
use Rattle.store_model.specs.Meaning.{Meaning, Matches, IsOlder, grown}
use Rattle.store_model.specs.Seats.{wanted, IsSeen, IsKnown, MayWant}
use Rattle.store_model.specs.StoreSteps as steps
use Rattle.store_model.specs.StoreSteps.{meant}
use Rattle.store_model.specs.StoreHolds.{StoreHolds}
use Rattle.store_model.specs.Laws.{made, found, EndsWithRow, EndsFull, CreationEnds, RefusalsHaveCause, HoldsTree, RowIsAsked}
use Rattle.store_model.proofs.Basics.{choose, where_at, each_map, each_left}
use Rattle.store_model.proofs.Histories.{content_once, live_held}
use Rattle.store_model.proofs.Noting.{tree_is}
use Rattle.store_model.proofs.Eight.{eight, inductive}
use Rattle.store_model.proofs.Runs.{step_kept}

-- how the view u comes about from v, at the end of a creation of c
abbrev Ends : View → Content → View → Type 0
Ends v c u = u.call ≡ Idle → EndsWithRow v u c ⊎ EndsFull v u c

goes_on : (v : View) (c : Content) (u : View) → u.call ≢ Idle → Ends v c u
goes_on v c u ne e = absurd (ne e)

arrives : (v u : View) (c b : Content) (d : Option (ℕ × ℕ)) (from old at : ℕ) → Ends v b (with_call u (arrived c d from old at))
arrives v u c b None from old at = choose (λ (y : Call). Ends v b (with_call u y)) (eqb at old) (Ended c from) (Comparing c None from old at 0) (λ _. goes_on v b _ (λ e. absurd (cc))) (λ _. goes_on v b _ (λ e. absurd (cc)))
arrives v u c b (Some d) from old at = choose (λ (y : Call). Ends v b (with_call u y)) (eqb at old) (Linking c from d.0 d.1) (Comparing c (Some d) from old at 0) (λ _. goes_on v b _ (λ e. absurd (cc))) (λ _. goes_on v b _ (λ e. absurd (cc)))

-- of the content that the call has
ends : (v : View) (x : Call) (c : Content) (n : ℕ) → IsCreation x → wanted x ≡ Some c → Ends v c ((action v x).moved n)
ends v Idle c n is e = absurd is
ends v (Loading ls) c n is e = absurd is
ends v (Storing ls ss) c n is e = absurd is
ends v (Comparing b d from old at k) c n is e = choose (λ (y : Call). Ends v c (with_call v y)) (eqb n (get_or (words_of b) k 0)) (compared b d from old at k) (Passing b d from old at (k, n))
    (λ _. choose (λ (y : Call). Ends v c (with_call v y)) (eqb (suc k) (length (words_of b))) (Finding b d (pred at)) (Comparing b d from old at (suc k)) (λ _. goes_on v c _ (λ e. absurd (cc))) (λ _. goes_on v c _ (λ e. absurd (cc))))
    (λ _. goes_on v c _ (λ e. absurd (cc)))
ends v (Passing b d from old at dif) c n is e = arrives v (with_path v (suc v.passed) (v.path ++ passing at dif n ∷ [])) b c d from old n
ends v (Finding b d r) c n is e =
    let same : b ≡ c = cc in
    λ idle. inl (subst (λ (k : Content). EndsWithRow v ((action v (Finding b d r)).moved n) k) same record { row = r; number = n; entry = Find (max v.seen n) b.head b.arguments r; is = refl; of = found (max v.seen n) })
ends v (Ended b from) c n is e = goes_on v c _ (λ e. absurd (cc))
ends v (Counting b from claim) c n is e =
    let same : b ≡ c = cc in
    choose (Ends v c) (nat_lt claim n) (with_call v (Drawing b from n)) (refusing v b from claim n) (λ _. goes_on v c _ (λ e. absurd (cc)))
    (λ _ _. inr (subst (EndsFull v (refusing v b from claim n)) same record { refusal = record { content = b; head = from; path = v.path; claim = claim; count = n }; content = refl; refused = refl; entries = refl; path = refl }))
ends v (Drawing b from count) c n is e =
    let same : b ≡ c = cc in
    choose (Ends v c) (nat_lt n count) (with_call v (Placing b from n)) (overdrawn v b from n count) (λ _. goes_on v c _ (λ e. absurd (cc)))
    (λ _ _. inr (subst (EndsFull v (overdrawn v b from n count)) same record { refusal = record { content = b; head = from; path = v.path; claim = n; count = count }; content = refl; refused = refl; entries = refl; path = refl }))
ends v (Placing b from a) c n is e = goes_on v c _ (λ e. absurd (cc))
ends v (Filling b from a r k) c n is e = choose (λ (y : Call). Ends v c (with_call v y)) (eqb (suc k) (length (words_of b))) (Numbering b from a r) (Filling b from a r (suc k)) (λ _. goes_on v c _ (λ e. absurd (cc))) (λ _. goes_on v c _ (λ e. absurd (cc)))
ends v (Numbering b from a r) c n is e = goes_on v c _ (λ e. absurd (cc))
ends v (Linking b from a r) c n is e = goes_on v c _ (λ e. absurd (cc))
ends v (Publishing b from a r) c n is e =
    let same : b ≡ c = cc in
    choose (Ends v c) (eqb n from) (gained v b r (v.base + a) (Make (v.base + a) b.head b.arguments r)) (with_call v (arrived b (Some (a, r)) n from n))
    (λ _ _. inl (subst (EndsWithRow v (gained v b r (v.base + a) (Make (v.base + a) b.head b.arguments r))) same record { row = r; number = v.base + a; entry = Make (v.base + a) b.head b.arguments r; is = refl; of = made (v.base + a) }))
    (λ _. arrives v v b c (Some (a, r)) n from n)

pub creation_ends : CreationEnds
creation_ends v x c n is e = ends v x c n is e

pub refusals_have_cause : RefusalsHaveCause
refusals_have_cause z s i k = (k.strengthened.remembers.reads i).refusals

known_words : (w : Place → ℕ) (m : Meaning) (r k : ℕ) (ns : List ℕ) → Each (IsKnown w m) (words_known r k ns) → (j : ℕ) → j < length ns → w (RowWord r (k + j)) ≡ get_or ns j 0
known_words w m r k [] h j l = absurd (omega arith)
known_words w m r k (n ∷ ns) h zero l = ap (λ (q : ℕ). w (RowWord r q)) (let e : k + 0 ≡ k = omega arith in e) ∙ h.0.value_is
known_words w m r k (n ∷ ns) h (suc j) l = ap (λ (q : ℕ). w (RowWord r q)) (let e : k + suc j ≡ suc k + j = omega arith in e) ∙ known_words w m r (suc k) ns h.1 j (omega arith)

pub not_idle : (x : Call) (c : Content) → wanted x ≡ Some c → x ≢ Idle
not_idle x c e f = absurd (let g : None ≡ Some c = sym (ap wanted f) ∙ e in cc)

pub row_is_asked : RowIsAsked
row_is_asked z s i x c r number e k ok wants is =
    let t : State = steps.after z s i x in
    let q : StoreHolds z t = eight z t (step_kept (meant s i x) z s i (inductive z s k) ok.step) in
    let w : Place → ℕ = q.began in
    let m : Meaning = q.meaning in
    let before = k.strengthened.holds.seats i in
    let want = where_at (wanted (s.view i).call) (MayWant k.began k.meaning (s.view i).seen) c wants before.protects.wants in
    let stay : (t.view i).stay ≡ Ready = ap (λ (v : View). v.stay) is ∙ before.numbers.calls (not_idle (s.view i).call c wants) in
    let own = q.numbers.base i (λ f. let a : Away ≡ Ready = sym f ∙ stay in absurd (cc)) in
    let got : Each (IsSeen w m (t.view i).seen) (r ∷ (s.view i).got) = subst (λ (v : View). Each (IsSeen w m (t.view i).seen) v.got) is (q.protected.got i own) in
    let knows : Each (IsKnown w m) (words_known r 0 (words_of c) ++ (s.view i).knows) = subst (λ (v : View). Each (IsKnown w m) v.knows) is (q.protected.knows i own) in
    let words = each_left (IsKnown w m) (words_known r 0 (words_of c)) (s.view i).knows knows in
    let matches : Matches (row_at w r) c = (λ j l. ap (λ (p : ℕ). w (RowWord r p)) (let f : j ≡ 0 + j = omega arith in f) ∙ known_words w m r 0 (words_of c) words j l) in
    let live = got.0.live in
    let chains = q.strengthened.holds.chains in
    let same : m.content r ≡ c = content_once (row_at w r) (m.content r) c (chains.over r live) want.over (chains.words r live) matches in
    let arguments : Each (λ a. m.live a ≡ true) c.arguments = each_map (IsOlder m.live (row_at w) (row_at w r).birth) (λ a. m.live a ≡ true) c.arguments (λ a h. h.live) (subst (λ (d : Content). Each (IsOlder m.live (row_at w) (row_at w r).birth) d.arguments) same (chains.arguments r live)) in
    let tree : m.tree r ≡ grown m.tree c = chains.trees r live ∙ ap (grown m.tree) same in
    subst (λ (held : Names). HoldsTree held r c) (sym q.history.pairs) (live_held m r live ∙ ap Some (tree ∙ sym (tree_is m c arguments)))
