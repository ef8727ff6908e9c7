-- What a pass's plain data tell, after its entries and leaves.
use Rattle.std.proofs.Common.{◌≡◌, ℕ, zero, suc, ◌≤◌, Bool, true, false, List, [], ◌∷◌, ◌++◌, ◌-◌, get_or, length, max, pred, replicate, refl, sym, ap, ◌∙◌, subst, arith}
use Rattle.std.specs.Prelude.{◌↔◌, Contains}
use Rattle.std.proofs.lemmas.List.{length-replicate, get_or_past}
use Rattle.term_model.specs.declared.Head.{Head}
use Rattle.term_model.specs.declared.Row.{Row}
use Rattle.history_core.specs.declared.entry.Entry.{Entry}
use Rattle.history_core.specs.declared.entry.Entry.TheVariants as entry
use Rattle.mark_phase.specs.Reachable.{IsMarked}
use Rattle.store_model.specs.declared.view.View.{View}
use Rattle.store_model.specs.declared.view.Sizes.{Sizes}
use Rattle.store_model.specs.Machine.{based, ready, left, protected_in}
use Rattle.node_rows.specs.declared.view.NodeView.{NodeView}
use Rattle.node_rows.specs.Steps.{with_store}
use Rattle.store_model.specs.Steps.{newcomer}
use Rattle.node_rows.specs.declared.store.Last.{Last}
use Rattle.node_rows.specs.declared.store.Last.TheVariants.{Nothing, Make, Find, Roots, Collect}
use Rattle.node_rows.specs.Crowding.{kept_after, kept_in}
use Rattle.node_rows.specs.CrowdsKept.{kept_snoc}
use Rattle.node_rows.specs.Told.{told_by, last_from, last_in, IsTold}

last_snoc : (x : Last) (es : List Entry) (e : Entry) → last_from x (es ++ e ∷ []) ≡ told_by e
last_snoc x [] e = refl
last_snoc x (d ∷ es) e = last_snoc (told_by d) es e

-- a base and the number of buckets in use were loaded
pub told_arrived : (v : View) (rows seen : ℕ) (last : Last) (marks : List Bool) (base in_use : ℕ) → IsTold v rows seen last marks → IsTold (ready (based v base) in_use) rows (max seen (pred base)) last marks
told_arrived v rows seen last marks base in_use h = record {
  seen_is = ap (λ (n : ℕ). max n (pred base)) h.seen_is;
  last_is = h.last_is;
  room = h.room;
  kept = h.kept;
}

pub told_arrived_as : (v u w : NodeView) (rows seen later : ℕ) (last : Last) (marks : List Bool) (base in_use : ℕ) → u ≡ with_store v (based v.store base) → w ≡ with_store u (ready u.store in_use) → later ≡ max seen (pred base) → IsTold v.store rows seen last marks → IsTold w.store rows later last marks
told_arrived_as v u w rows seen later last marks base in_use is_u is_w is_later h =
    let store : w.store ≡ ready (based v.store base) in_use = ap (λ (q : NodeView). q.store) is_w ∙ ap (λ (q : NodeView). ready q.store in_use) is_u in
    subst (λ (x : View × ℕ). IsTold x.0 rows x.1 last marks) (λ k. (sym store k, sym is_later k)) (told_arrived v.store rows seen last marks base in_use h)

-- the view of the store stays
pub told_same : (v w : View) (rows seen : ℕ) (last : Last) (marks : List Bool) → w ≡ v → IsTold v rows seen last marks → IsTold w rows seen last marks
told_same v w rows seen last marks is h = subst (λ (u : View). IsTold u rows seen last marks) (sym is) h

-- nothing was noted
pub told_on : (v w : View) (rows seen : ℕ) (last : Last) (marks : List Bool) → w.entries ≡ v.entries → w.seen ≡ v.seen → IsTold v rows seen last marks → IsTold w rows seen last marks
told_on v w rows seen last marks entries same h = record {
  seen_is = h.seen_is ∙ sym same;
  last_is = h.last_is ∙ ap last_in (sym entries);
  room = h.room;
  kept = λ r. subst (λ (es : List Entry). IsMarked marks r ↔ Contains (kept_in es) r.0) (sym entries) (h.kept r);
}

-- one entry was noted, which is no Collect
module _ (v w : View) (rows seen : ℕ) (last : Last) (marks : List Bool) (told : IsTold v rows seen last marks) (e : Entry) (entries : w.entries ≡ v.entries ++ e ∷ []) (keeps : (ns : List ℕ) → kept_after ns e ≡ ns) (n : ℕ) (now : n ≡ w.seen) where
  noted_last : told_by e ≡ last_in w.entries
  noted_last = sym (ap last_in entries ∙ last_snoc Nothing v.entries e)

  noted_kept : kept_in w.entries ≡ kept_in v.entries
  noted_kept = ap kept_in entries ∙ (kept_snoc [] v.entries e ∙ keeps (kept_in v.entries))

  pub told_noted : IsTold w rows n (told_by e) marks
  told_noted = record {
    seen_is = now;
    last_is = noted_last;
    room = told.room;
    kept = λ r. subst (λ (ns : List ℕ). IsMarked marks r ↔ Contains ns r.0) (sym noted_kept) (told.kept r);
  }

-- a leave
pub told_left : (v : View) (rows seen : ℕ) (last : Last) (marks : List Bool) (rs : List ℕ) → IsTold v rows seen last marks → IsTold (left v rs) rows seen (Roots seen) marks
told_left v rows seen last marks rs h = subst (λ (n : ℕ). IsTold (left v rs) rows seen (Roots n) marks) (sym h.seen_is)
    (told_noted v (left v rs) rows seen last marks h (entry.Roots v.seen rs) refl (λ ns. refl) seen h.seen_is)

pub told_left_as : (v w : View) (rows seen : ℕ) (last : Last) (marks : List Bool) → w ≡ left v (protected_in v) → IsTold v rows seen last marks → IsTold w rows seen (Roots seen) marks
told_left_as v w rows seen last marks is h = subst (λ (u : View). IsTold u rows seen (Roots seen) marks) (sym is) (told_left v rows seen last marks (protected_in v) h)

pub told_made : (v w : View) (rows seen : ℕ) (last : Last) (marks : List Bool) (number : ℕ) (f : Head) (rs : List ℕ) (r : ℕ) → IsTold v rows seen last marks → w.entries ≡ v.entries ++ entry.Make number f rs r ∷ [] → number ≡ w.seen → IsTold w rows number (Make number) marks
told_made v w rows seen last marks number f rs r h e s = told_noted v w rows seen last marks h (entry.Make number f rs r) e (λ ns. refl) number s

pub told_found : (v w : View) (rows seen : ℕ) (last : Last) (marks : List Bool) (after : ℕ) (f : Head) (rs : List ℕ) (r : ℕ) → IsTold v rows seen last marks → w.entries ≡ v.entries ++ entry.Find after f rs r ∷ [] → after ≡ w.seen → IsTold w rows after (Find after) marks
told_found v w rows seen last marks after f rs r h e s = told_noted v w rows seen last marks h (entry.Find after f rs r) e (λ ns. refl) after s

pub before_base : (n : ℕ) → pred n ≡ n - 1
before_base zero = refl
before_base (suc n) = let e : suc n - 1 ≡ n = omega arith in sym e

-- a collection
pub told_collected : (w : View) (es : List Entry) (rows number : ℕ) (marks : List Bool) (kept : List ℕ) → w.entries ≡ es ++ entry.Collect number kept ∷ [] → number ≡ w.seen → length marks ≡ rows
    → ((r : Row) → IsMarked marks r ↔ Contains kept r.0) → IsTold w rows number (Collect number) marks
told_collected w es rows number marks kept entries seen room marked = record {
  seen_is = seen;
  last_is = sym (ap last_in entries ∙ last_snoc Nothing es (entry.Collect number kept));
  room = room;
  kept = λ r. subst (λ (ns : List ℕ). IsMarked marks r ↔ Contains ns r.0) (sym (ap kept_in entries ∙ kept_snoc [] es (entry.Collect number kept))) (marked r);
}

unmarked : (n k : ℕ) → get_or (replicate n false) k false ≡ false
unmarked zero k = refl
unmarked (suc n) zero = refl
unmarked (suc n) (suc k) = unmarked n k

-- a new pass, with no mark
pub told_new : (z : Sizes) (v : View) (rows : ℕ) (marks : List Bool) → v ≡ newcomer z → marks ≡ replicate rows false → IsTold v rows 0 Nothing marks
told_new z v rows marks is none = subst (λ (u : View). IsTold u rows 0 Nothing marks) (sym is) (subst (IsTold (newcomer z) rows 0 Nothing) (sym none) record {
  seen_is = refl;
  last_is = refl;
  room = length-replicate rows false;
  kept = λ r. (
    (λ m. absurd (let no : false ≡ true = sym (unmarked rows r.0) ∙ m in grind arith)),
    (λ h. absurd (let l = h.1 in omega arith)),
  );
})

-- a row that isn't below the rows has no mark
pub none_beyond : (v : View) (rows seen : ℕ) (last : Last) (marks : List Bool) (r : Row) → IsTold v rows seen last marks → rows ≤ r.0 → Contains (kept_in v.entries) r.0 → ⊥
none_beyond v rows seen last marks r h beyond has =
    let none : get_or marks r.0 false ≡ false = get_or_past marks r.0 false (let e = h.room in omega arith) in
    let no : false ≡ true = sym none ∙ (h.kept r).1 has in grind arith
