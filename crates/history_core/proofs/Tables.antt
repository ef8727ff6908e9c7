-- What holds of the fields of a table, and what it answers to each kind of entry.
use Rattle.std.proofs.Common.{◌≡◌, ℕ, ◌<◌, zero, suc, Bool, true, false, Option, Some, None, Result, Ok, Err, List, [], ◌∷◌, length, get_or, set, replicate, refl, sym, ap, ◌∙◌, subst, arith, ◌⊎◌, inl, inr, get_or-set_same, get_or-set_other}
use Rattle.std.specs.Prelude.{Contains, ◌↔◌, slice_index_or, is_some, IfOk, OnErr, IsTrue}
use Rattle.std.proofs.lemmas.Bool.{cases_eq, and_parts}
use Rattle.std.proofs.lemmas.List.{length-set, length-replicate}
use Rattle.faults.specs.declared.Memory.{Memory}
use Rattle.term_model.specs.declared.Head.{Head}
use Rattle.history_core.specs.Entry.{Make, Find, Collect, after}
use Rattle.history_core.specs.declared.slots.Term.{Term}
use Rattle.history_core.specs.Slots.{Slots, slot_at, args_of, term_of, are_taken, is_marked, kept_if}
use Rattle.history_core.specs.TermSet.{empty}
use Rattle.history_core.specs.Table.{Table, Shows, Decides, MayCreateIn, Makes, Collects, IsTable}
use Rattle.history_core.proofs.Members.{contains_none, contains_cases}
use Rattle.history_core.proofs.Marked.{in_joined, of_joined}
use Rattle.history_core.proofs.SlotLemmas.{taken_below, none_in_free}
use Rattle.history_core.proofs.Sound.{empty_sound}
use Rattle.history_core.proofs.Stepping.{make_shows, make_needs, find_shows, collect_is_step, collect_shows}

abbrev no_names : List ℕ
no_names = []

no_lists : (callers i : ℕ) → get_or (replicate callers no_names) i no_names ≡ no_names
no_lists zero i = refl
no_lists (suc callers) zero = refl
no_lists (suc callers) (suc i) = no_lists callers i

pub table_start : (rows callers : ℕ) → IsTable (replicate rows None) (replicate callers []) (replicate rows false)
table_start rows callers = record {
  marked = length-replicate {A = Bool} rows false ∙ sym (length-replicate {A = Option Term} rows None);
  args = λ n m c. absurd (contains_none m (subst (λ (o : Option Term). Contains (args_of o) m) (none_in_free rows n) c));
  within = λ n c. let at = of_joined (replicate callers []) n c in absurd (contains_none n (subst (λ (ns : List ℕ). Contains ns n) (no_lists callers at.0) at.2));
}

-- a table without terms and roots has the empty set
pub shows_empty : (t : Table) (rows callers : ℕ) → t.slots ≡ replicate rows None → t.roots ≡ replicate callers [] → Shows t empty
shows_empty t rows callers free none = record {
  sound = empty_sound (length t.slots);
  free = λ n e. refl;
  taken = λ n term e. absurd (let no : slot_at t.slots n ≡ None = ap (λ (s : Slots). slot_at s n) free ∙ none_in_free rows n in let both : None ≡ Some term = sym no ∙ e in cc);
  roots = λ caller. sym (ap (λ (r : List (List ℕ)). slice_index_or r caller []) none ∙ no_lists callers caller);
}

pub table_size : (t : Table) (rows callers : ℕ) → t.slots ≡ replicate rows None → t.roots ≡ replicate callers [] → (length t.slots ≡ rows) × (length t.roots ≡ callers)
table_size t rows callers free none =
    (ap length free ∙ length-replicate {A = Option Term} rows None, ap length none ∙ length-replicate {A = List ℕ} callers [])

pub taken_within : (slots : Slots) (ns : List ℕ) → are_taken slots ns ≡ true → (m : ℕ) → Contains ns m → m < length slots
taken_within slots [] h m c = absurd (contains_none m c)
taken_within slots (n ∷ ns) h m c =
    let both = and_parts (is_some (slot_at slots n)) (are_taken slots ns) h in
    elim (contains_cases n ns m c) [ inl same ↦ subst (λ (k : ℕ). k < length slots) same (go (slot_at slots n) refl both.0) | inr later ↦ taken_within slots ns both.1 m later ]
  where
    go : (o : Option Term) → slot_at slots n ≡ o → is_some o ≡ true → n < length slots
    go None e k = cc
    go (Some x) e k = taken_below slots n x e

table_made : (slots new : Slots) (roots : List (List ℕ)) (marks : List Bool) (h : Head) (args : List ℕ) (row : ℕ) (b : Bool) → IsTable slots roots marks
    → Makes slots new h args row b → IsTable new roots marks
table_made slots new roots marks h args row false k m = subst (λ (s : Slots). IsTable s roots marks) (sym m.0) k
table_made slots new roots marks h args row true k m = subst (λ (s : Slots). IsTable s roots marks) (sym m.2) record {
  marked = k.marked ∙ sym size;
  args = λ n a c. subst (λ (j : ℕ). a < j) (sym size) (go n a c (cases_eq n row));
  within = λ n c. subst (λ (j : ℕ). n < j) (sym size) (k.within n c);
}
  where
    size : length (set slots row (Some (term_of h args))) ≡ length slots
    size = length-set slots row (Some (term_of h args))

    go : (n a : ℕ) → Contains (args_of (slot_at (set slots row (Some (term_of h args))) n)) a → (n ≡ row) ⊎ (n ≡ row → ⊥) → a < length slots
    go n a c (inl same) =
        let here = ap (slot_at (set slots row (Some (term_of h args)))) same ∙ get_or-set_same slots row (Some (term_of h args)) None m.1.below in
        taken_within slots args m.0.taken a (subst (λ (o : Option Term). Contains (args_of o) a) here c)
    go n a c (inr ne) = k.args n a (subst (λ (o : Option Term). Contains (args_of o) a) (get_or-set_other slots row n (Some (term_of h args)) None ne) c)

pub table_put : (slots new : Slots) (roots : List (List ℕ)) (marks : List Bool) (h : Head) (args : List ℕ) (row : ℕ) (r : Result Bool Memory) → IsTable slots roots marks
    → IfOk r (Makes slots new h args row) → OnErr r (new ≡ slots) → IsTable new roots marks
table_put slots new roots marks h args row (Ok b) k made memory = table_made slots new roots marks h args row b k made
table_put slots new roots marks h args row (Err e) k made memory = subst (λ (s : Slots). IsTable s roots marks) (sym memory) k

pub table_roots : (slots : Slots) (roots : List (List ℕ)) (marks : List Bool) (caller : ℕ) (names : List ℕ) → IsTable slots roots marks → caller < length roots
    → are_taken slots names ≡ true → IsTable slots (set roots caller names) marks
table_roots slots roots marks caller names k less taken = record { marked = k.marked; args = k.args; within = λ n c. within n (of_joined (set roots caller names) n c) }
  where
    within : (n : ℕ) → (i : ℕ) × (i < length (set roots caller names)) × Contains (get_or (set roots caller names) i []) n → n < length slots
    within n at = go (cases_eq at.0 caller)
      where
        go : (at.0 ≡ caller) ⊎ (at.0 ≡ caller → ⊥) → n < length slots
        go (inl same) =
            let here = ap (λ (i : ℕ). get_or (set roots caller names) i []) same ∙ get_or-set_same roots caller names [] less in
            taken_within slots names taken n (subst (λ (ns : List ℕ). Contains ns n) here at.2)
        go (inr ne) = k.within n (in_joined roots at.0 n (omega (arith, length-set {A = List ℕ} roots caller names, at.1))
            (subst (λ (ns : List ℕ). Contains ns n) (get_or-set_other roots caller at.0 names [] ne) at.2))

pub table_marked : (slots same : Slots) (roots : List (List ℕ)) (marks new : List Bool) → IsTable slots roots marks → same ≡ slots → length new ≡ length (replicate (length marks) false) → IsTable same roots new
table_marked slots same roots marks new k is size = subst (λ (s : Slots). IsTable s roots new) (sym is) record {
  marked = size ∙ length-replicate {A = Bool} (length marks) false ∙ k.marked;
  args = k.args;
  within = k.within;
}

pub table_kept : (slots new : Slots) (roots : List (List ℕ)) (marks : List Bool) → IsTable slots roots marks → length new ≡ length slots
    → ((n : ℕ) → slot_at new n ≡ kept_if (is_marked marks n) (slot_at slots n)) → IsTable new roots marks
table_kept slots new roots marks k size kept = record {
  marked = k.marked ∙ sym size;
  args = λ n m c. subst (λ (j : ℕ). m < j) (sym size) (go n m (is_marked marks n) (subst (λ (o : Option Term). Contains (args_of o) m) (kept n) c));
  within = λ n c. subst (λ (j : ℕ). n < j) (sym size) (k.within n c);
}
  where
    go : (n m : ℕ) (b : Bool) → Contains (args_of (kept_if b (slot_at slots n))) m → m < length slots
    go n m true c = k.args n m c
    go n m false c = absurd (contains_none m c)

-- a table by its fields
table_is : (new : Table) (slots : Slots) (roots : List (List ℕ)) → new.slots ≡ slots → new.roots ≡ roots → new ≡ record { slots = slots; roots = roots }
table_is new slots roots a b = ap (λ (s : Slots). record { slots = s; roots = new.roots }) a ∙ ap (λ (r : List (List ℕ)). record { slots = slots; roots = r }) b

pub decides_make : (old new : Table) (caller number : ℕ) (h : Head) (args : List ℕ) (row : ℕ) (r : Result Bool Memory) → IfOk r (Makes old.slots new.slots h args row) → new.roots ≡ old.roots
    → IfOk r (Decides old new caller (Make number h args row))
decides_make old new caller number h args row (Err e) made roots = made
decides_make old new caller number h args row (Ok true) made roots = λ s sh.
    let both = make_shows old s sh caller number h args row made.0 made.1 in
    (both.0, subst (λ (t : Table). Shows t (after s caller (Make number h args row))) (sym (table_is new _ _ made.2 roots)) both.1)
decides_make old new caller number h args row (Ok false) made roots = (
  table_is new old.slots old.roots made.0 roots,
  λ s sh step. let needs = make_needs old s sh number h args row step in made.1 needs.0 needs.1,
)

pub decides_find : (t : Table) (caller seen : ℕ) (h : Head) (args : List ℕ) (row : ℕ) (b : Bool)
    → IsTrue b ↔ (MayCreateIn t.slots h args × (slot_at t.slots row ≡ Some (term_of h args))) → Decides t t caller (Find seen h args row) b
decides_find t caller seen h args row true k = λ s sh. ((find_shows t s sh seen h args row).0 (k.0 refl), sh)
decides_find t caller seen h args row false k = (refl, λ s sh step. let yes : IsTrue false = k.1 ((find_shows t s sh seen h args row).1 step) in cc)

pub decides_collect : (old new : Table) (caller number : ℕ) (kept : List ℕ) (b : Bool) → Collects old new kept b → Decides old new caller (Collect number kept) b
decides_collect old new caller number kept true k = λ s sh. (
  (collect_is_step old s sh k.0 k.1 number kept).0 k.2,
  collect_shows old new s sh k.0 k.1 caller number kept k.2 k.3 k.4 k.5,
)
decides_collect old new caller number kept false k = (k.2, λ s sh step. k.3 ((collect_is_step old s sh k.0 k.1 number kept).1 step))
