-- What a whole creation tells.
use Rattle.std.proofs.Common.{◌≡◌, ◌⊎◌, ◌<◌, ℕ, Bool, true, Result, Ok, Err, List, [], ◌∷◌, ◌++◌, max, ⊎_elim, inl, inr, sym, ap, ◌∙◌, subst, arith}
use Rattle.std.specs.Prelude.{MatchResult, IfOk, IfErr}
use Rattle.term_model.specs.declared.Head.{Head}
use Rattle.term_model.specs.declared.Row.{Row}
use Rattle.history_core.specs.declared.entry.Entry.TheVariants as entry
use Rattle.store_model.specs.declared.view.Call.{Call}
use Rattle.store_model.specs.declared.view.Call.TheVariants.{Idle, Ended}
use Rattle.store_model.specs.declared.view.Passed.{Passed}
use Rattle.store_model.specs.declared.view.Sizes.{Sizes}
use Rattle.store_model.specs.declared.view.Stay.TheVariants.{Away, Ready}
use Rattle.store_model.specs.Machine.{Each, with_call, with_path}
use Rattle.node_rows.specs.declared.view.NodeView.{NodeView}
use Rattle.node_rows.specs.declared.store.Last.{Last}
use Rattle.node_rows.specs.declared.store.Last.TheVariants as last
use Rattle.node_rows.specs.Steps.{with_store, over, Known}
use Rattle.node_rows.specs.Told.{IsTold}
use Rattle.node_rows.proofs.Tellings.{told_made, told_found, told_on}
use Rattle.term_create.specs.declared.asked.Noted.{Noted}
use Rattle.term_create.specs.declared.asked.Noted.TheVariants.{Made, Found}
use Rattle.term_create.specs.Stage.{Finds, Makes, Notes, NotesRow, HasPassed, IsFull, IsRefused, row_of, at_walk}
use Rattle.term_create.specs.Ended.{Ends}
use Rattle.term_create.specs.Created.{NotesOne, Gets, KeepsCause, WasFilled, GetsNone, KeepsRest}
use Rattle.term_create.proofs.Whole.{at_begin, max_less, made_notes, found_notes, made_gets, found_gets, made_rest, found_rest, made_only, found_only, refused_after, refused_cause, refused_none, refused_rest, refused_only}

-- how a creation that has begun ends
abbrev pub EndsRow : {E : Type 0} → NodeView → NodeView → NodeView → Head → List ℕ → Result Row E → Type 0
EndsRow v m w f rs r = MatchResult r (NotesRow v w f rs) (λ _. IsRefused m w (over f rs))

begin_notes : (v w : NodeView) (f : Head) (rs : List ℕ) (x : Call) (n : Noted) → Notes (with_store v (with_call (with_path v.store 0 []) x)) w f rs n → Notes v w f rs n
begin_notes v w f rs x (Made r n) h = record { passed = h.passed; path = h.path; later = h.later; view = h.view }
begin_notes v w f rs x (Found r n) h = record { passed = h.passed; path = h.path; view = h.view }

begin_refused : (v w : NodeView) (f : Head) (rs : List ℕ) (x : Call) → IsRefused (with_store v (with_call (with_path v.store 0 []) x)) w (over f rs) → IsRefused (at_begin v) w (over f rs)
begin_refused v w f rs x h = record {
  head = h.head;
  passed = h.passed;
  path = h.path;
  leads = h.leads;
  full = record { claim = h.full.claim; count = h.full.count; full = h.full.full; view = h.full.view };
}

-- a creation that has come so far ends as it does from its begin on
pub notes_on : (v u w : NodeView) (p : ℕ) (ps : List Passed) (x : Call) (f : Head) (rs : List ℕ) (n : Noted) → u ≡ at_walk v p ps x → Notes u w f rs n → Notes v w f rs n
notes_on v u w p ps x f rs (Made r k) e h =
    let t = subst (λ (q : NodeView). Makes q w f rs r k) e h in
    record { passed = t.passed; path = t.path; later = t.later; view = t.view }
notes_on v u w p ps x f rs (Found r k) e h =
    let t = subst (λ (q : NodeView). Finds q w f rs r k) e h in
    record { passed = t.passed; path = t.path; view = t.view }

-- what was made, or refused, after a walk to a chain's end
pub made_after : {E : Type 0} → (v m w : NodeView) (f : Head) (rs : List ℕ) (from : ℕ) (r : Result Row E) → HasPassed v m (over f rs) (Ended (over f rs) from) from 0
    → MatchResult r (NotesRow m w f rs) (λ _. IsFull m w (over f rs) from) → EndsRow v v w f rs r
made_after v m w f rs from (Ok row) h o = (o.0, o.1, notes_on v m w h.passed (v.store.path ++ h.path) (Ended (over f rs) from) f rs o.0 h.view o.2)
made_after v m w f rs from (Err full) h o = refused_after v m w (over f rs) from h o

-- where it is refused after a collection
pub ends_filled : {A E : Type 0} → (z : Sizes) (i j : ℕ) (v m : NodeView) (f : Head) (rs : List ℕ) (n : ℕ) (ps : List Passed) (x : Call) (r : Result A E) → j ≡ i → m ≡ at_walk v n ps x
    → IfErr r (λ _. m.store.fresh ≡ true → WasFilled z j m f rs) → IfErr r (λ _. v.store.fresh ≡ true → WasFilled z i v f rs)
ends_filled z i j v m f rs n ps x (Ok a) same e h = tt
ends_filled z i j v m f rs n ps x (Err full) same e h = λ fresh.
    let t : WasFilled z i (at_walk v n ps x) f rs = subst (λ (y : ℕ × NodeView). y.1.store.fresh ≡ true → WasFilled z y.0 y.1 f rs) (λ k. (same k, e k)) h fresh in
    record { passed = t.passed; path = t.path; call = t.call; filled = t.filled }

-- the row of it
pub noted_ends : (v w : NodeView) (f : Head) (rs : List ℕ) (n : Noted) (row : ℕ) → row ≡ row_of n → Notes v w f rs n → (k : ℕ) × (Makes v w f rs row k ⊎ Finds v w f rs row k)
noted_ends v w f rs (Made r k) row e h = (k, inl (subst (λ (q : ℕ). Makes v w f rs q k) (sym e) h))
noted_ends v w f rs (Found r k) row e h = (k, inr (subst (λ (q : ℕ). Finds v w f rs q k) (sym e) h))

-- with its first step
pub ends_whole : {E : Type 0} → (v m w : NodeView) (f : Head) (rs : List ℕ) (x : Call) (r : Result Row E) → m ≡ with_store v (with_call (with_path v.store 0 []) x) → EndsRow m m w f rs r → Ends v w f rs r
ends_whole v m w f rs x (Ok row) e h = noted_ends v w f rs h.0 row.0 h.1 (begin_notes v w f rs x h.0 (subst (λ (u : NodeView). Notes u w f rs h.0) e h.2))
ends_whole v m w f rs x (Err full) e h = begin_refused v w f rs x (subst (λ (u : NodeView). IsRefused u w (over f rs)) e h)

got_below : (z : Sizes) (v w : NodeView) (r : ℕ) → w.store.stay ≡ v.store.stay → w.store.got ≡ r ∷ v.store.got → v.store.stay ≡ Ready → Known z w.store → r < z.rows
got_below z v w r stays got ready known = (subst (Each (λ q. q < z.rows)) got (known.got (λ e. let no : Ready ≡ Away = sym ready ∙ (sym stays ∙ e) in grind arith))).0

-- it is a row of the store
pub noted_below : (z : Sizes) (v w : NodeView) (f : Head) (rs : List ℕ) (n : Noted) → v.store.stay ≡ Ready → Known z w.store → Notes v w f rs n → row_of n < z.rows
noted_below z v w f rs (Made r k) ready known h = got_below z v w r (ap (λ (u : NodeView). u.store.stay) h.view) (ap (λ (u : NodeView). u.store.got) h.view) ready known
noted_below z v w f rs (Found r k) ready known h = got_below z v w r (ap (λ (u : NodeView). u.store.stay) h.view) (ap (λ (u : NodeView). u.store.got) h.view) ready known

-- what the pass then tells
pub made_tells : (v w : NodeView) (f : Head) (rs : List ℕ) (r number rows seen : ℕ) (x : Last) (marks : List Bool) → IsTold v.store rows seen x marks → Makes v w f rs r number → IsTold w.store rows number (last.Make number) marks
made_tells v w f rs r number rows seen x marks told h =
    told_made v.store w.store rows seen x marks number f rs r told (ap (λ (u : NodeView). u.store.entries) h.view)
    (sym (ap (λ (u : NodeView). u.store.seen) h.view ∙ max_less v.store.seen number h.later))

pub found_tells : (v w : NodeView) (f : Head) (rs : List ℕ) (r birth rows seen after : ℕ) (x : Last) (marks : List Bool) → IsTold v.store rows seen x marks → after ≡ max seen birth → Finds v w f rs r birth → IsTold w.store rows after (last.Find after) marks
found_tells v w f rs r birth rows seen after x marks told e h =
    let is : after ≡ max v.store.seen birth = e ∙ ap (λ (n : ℕ). max n birth) told.seen_is in
    told_found v.store w.store rows seen x marks after f rs r told
    (ap (λ (u : NodeView). u.store.entries) h.view ∙ ap (λ (n : ℕ). v.store.entries ++ entry.Find n f rs r ∷ []) (sym is))
    (is ∙ sym (ap (λ (u : NodeView). u.store.seen) h.view))

-- nor does it tell more where it is refused
pub full_tells : (v w : NodeView) (f : Head) (rs : List ℕ) (from rows seen : ℕ) (x : Last) (marks : List Bool) → IsTold v.store rows seen x marks → IsFull v w (over f rs) from → IsTold w.store rows seen x marks
full_tells v w f rs from rows seen x marks told h = ⊎_elim
    (λ e. told_on v.store w.store rows seen x marks (ap (λ (u : NodeView). u.store.entries) e) (ap (λ (u : NodeView). u.store.seen) e) told)
    (λ e. told_on v.store w.store rows seen x marks (ap (λ (u : NodeView). u.store.entries) e) (ap (λ (u : NodeView). u.store.seen) e) told)
    h.view

module _ {E : Type 0} (v w : NodeView) (f : Head) (rs : List ℕ) where
  pub ends_notes : (r : Result Row E) → Ends v w f rs r → IfOk r (λ row. NotesOne v.store w.store f rs row.0)
  ends_notes (Ok row) h = ⊎_elim (made_notes v w f rs row.0 h.0) (found_notes v w f rs row.0 h.0) h.1
  ends_notes (Err full) h = tt

  pub ends_gets : (r : Result Row E) → Ends v w f rs r → IfOk r (λ row. Gets v.store w.store f rs row.0)
  ends_gets (Ok row) h = ⊎_elim (made_gets v w f rs row.0 h.0) (found_gets v w f rs row.0 h.0) h.1
  ends_gets (Err full) h = tt

  pub ends_cause : (r : Result Row E) → Ends v w f rs r → IfErr r (λ _. KeepsCause v.store w.store f rs)
  ends_cause (Ok row) h = tt
  ends_cause (Err full) h = refused_cause v w f rs h

  pub ends_none : (r : Result Row E) → Ends v w f rs r → IfErr r (λ _. GetsNone v.store w.store)
  ends_none (Ok row) h = tt
  ends_none (Err full) h = refused_none v w f rs h

  pub ends_rest : (r : Result Row E) → Ends v w f rs r → KeepsRest v.store w.store
  ends_rest (Ok row) h = ⊎_elim (made_rest v w f rs row.0 h.0) (found_rest v w f rs row.0 h.0) h.1
  ends_rest (Err full) h = refused_rest v w f rs h

  pub ends_idle : (r : Result Row E) → Ends v w f rs r → w.store.call ≡ Idle
  ends_idle (Ok row) h = ⊎_elim (λ (t : Makes v w f rs row.0 h.0). ap (λ (u : NodeView). u.store.call) t.view) (λ (t : Finds v w f rs row.0 h.0). ap (λ (u : NodeView). u.store.call) t.view) h.1
  ends_idle (Err full) h = ⊎_elim (λ e. ap (λ (u : NodeView). u.store.call) e) (λ e. ap (λ (u : NodeView). u.store.call) e) h.full.view

  pub ends_only : (r : Result Row E) → Ends v w f rs r → w ≡ with_store v w.store
  ends_only (Ok row) h = ⊎_elim (made_only v w f rs row.0 h.0) (found_only v w f rs row.0 h.0) h.1
  ends_only (Err full) h = refused_only v w f rs h

-- what holds anyway holds where it is refused
pub where_refused : {A E : Type 0} {X : Type 0} (r : Result A E) → X → IfErr r (λ _. X)
where_refused (Ok a) x = tt
where_refused (Err e) x = x
