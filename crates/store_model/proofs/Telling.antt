-- What is recalled when a seat has noted one entry more.
use Rattle.std.proofs.Common.{◌≡◌, ◌≢◌, ℕ, Some, List, [], ◌∷◌, ◌++◌, append_assoc, append-nil, refl, sym, ap, ◌∙◌, subst, eq-eqb, ne_eqb}
use Rattle.std.specs.Prelude.{map, ◌==◌}
use Rattle.std.proofs.lemmas.Bool.{cond-true, cond-false}
use Rattle.term_model.specs.Tree.{Tree, Node, list_of}
use Rattle.history_core.specs.declared.entry.Entry.{Entry}
use Rattle.history_core.specs.declared.entry.Entry.TheVariants.{Roots}
use Rattle.history_core.specs.Entry as entry
use Rattle.history_core.specs.TermSet as term_set
use Rattle.history_core.specs.TermSet.{Names, TermSet, Holds, empty}
use Rattle.history_core.specs.Chronicle.{chronicle, noted, IsLegal, set_of, MayNote}
use Rattle.history_core.specs.Told as history
use Rattle.history_core.proofs.Insertion.{noting_keeps}
use Rattle.history_core.proofs.Noted.{noted_stays}
use Rattle.history_core.proofs.Sets.{Grows}
use Rattle.history_core.proofs.Growing.{step_grows}
use Rattle.history_core.proofs.Sound.{legal_is_sound}
use Rattle.history_core.proofs.Told.{noting_tells, named_tells, rooted_tells}
use Rattle.store_model.specs.Words.{put}
use Rattle.store_model.specs.Calls.{Content, View}
use Rattle.store_model.specs.Machine.{Each, gained, left, protected_in}
use Rattle.store_model.specs.Seats.{wanted}
use Rattle.store_model.specs.Laws.{IsEntryOf, made, found}
use Rattle.store_model.specs.Told.{Told, tree_over, created, after, told_from, told, roots_told, all_roots_from, all_roots, nothing}
use Rattle.store_model.specs.Recalls.{IsRecalled, held_in, NoneSince, RowsRecalled, SeatRecalls}
use Rattle.store_model.proofs.Basics.{each_map, where_map}
use Rattle.store_model.proofs.Recalled.{list_trees, trees_recalled, recalled_put, recalled_new, recalled_grows}

pub told_one : (t : Told) (es : List Entry) (e : Entry) → told_from t (es ++ e ∷ []) ≡ after (told_from t es) e
told_one t [] e = refl
told_one t (d ∷ es) e = told_one (after t d) es e

pub roots_one : (t : Told) (es : List Entry) (e : Entry) → all_roots_from t (es ++ e ∷ []) ≡ all_roots_from t es ++ roots_told (told_from t es) e
roots_one t [] e = append-nil (roots_told t e)
roots_one t (d ∷ es) e =
    ap (λ (ts : List Tree). roots_told t d ++ ts) (roots_one (after t d) es e)
    ∙ sym (append_assoc (roots_told t d) (all_roots_from (after t d) es) (roots_told (told_from (after t d) es) e))

-- the entry of a creation
after_entry : (c : Content) (r : ℕ) (e : Entry) → IsEntryOf c r e → (t : Told) → after t e ≡ created t c.head c.arguments r
after_entry c r _ (made number) t = refl
after_entry c r _ (found seen) t = refl

roots_entry : (c : Content) (r : ℕ) (e : Entry) → IsEntryOf c r e → (t : Told) → roots_told t e ≡ []
roots_entry c r _ (made number) t = refl
roots_entry c r _ (found seen) t = refl

named_entry : (c : Content) (r : ℕ) (e : Entry) → IsEntryOf c r e → (h : Names) → history.named h e ≡ term_set.tree_over h c.head c.arguments ∷ []
named_entry c r _ (made number) h = refl
named_entry c r _ (found seen) h = refl

rooted_entry : (c : Content) (r : ℕ) (e : Entry) → IsEntryOf c r e → (h : Names) → history.rooted_trees h e ≡ []
rooted_entry c r _ (made number) h = refl
rooted_entry c r _ (found seen) h = refl

-- rows that are recalled by one set and by another
pub all_recalled : (held now : Names) (tree next : ℕ → Tree) → ((r : ℕ) → IsRecalled held tree r → IsRecalled now next r) → (rs : List ℕ) → Each (IsRecalled held tree) rs → Each (IsRecalled now next) rs
all_recalled held now tree next f rs k = each_map (IsRecalled held tree) (IsRecalled now next) rs f k

module _ (rows : ℕ) (lists : List (List Entry)) (i : ℕ) (e : Entry) (legal : IsLegal rows (chronicle lists)) (may : MayNote rows lists i e) where
  abbrev with_it : List (List Entry)
  with_it = noted lists i e

  pub noted_legal : IsLegal rows (chronicle (noted lists i e))
  noted_legal = (noting_keeps rows lists i e legal may).0

  pub noted_leaves : set_of (chronicle (noted lists i e)) ≡ entry.after (set_of (chronicle lists)) i e
  noted_leaves = (noting_keeps rows lists i e legal may).1

  noted_grows : Grows (held_in lists) (held_in (noted lists i e))
  noted_grows = subst (λ (s : TermSet). Grows (held_in lists) s.held) (sym noted_leaves) (step_grows rows (set_of (chronicle lists)) i e may.step may.kind)

  pub noted_recalled : (tree : ℕ → Tree) (r : ℕ) → IsRecalled (held_in lists) tree r → IsRecalled (held_in (noted lists i e)) tree r
  noted_recalled tree r k = recalled_grows rows (set_of (chronicle lists)) (set_of (chronicle with_it)) tree r
      (legal_is_sound rows (chronicle lists) legal) (legal_is_sound rows (chronicle with_it) noted_legal) noted_grows k

  pub none_before : (base : ℕ) → NoneSince (noted lists i e) base → NoneSince lists base
  none_before base h y n c = h y (noted_stays lists i e y may.present n) c

  pub rows_stay : (tree : ℕ → Tree) (v : View) → RowsRecalled lists tree v → RowsRecalled (noted lists i e) tree v
  rows_stay tree v h =
      let each = all_recalled (held_in lists) (held_in with_it) tree tree (noted_recalled tree) in record {
        protected = each (protected_in v) h.protected;
        got = λ none. each v.got (h.got (none_before v.base none));
        wants = where_map (wanted v.call) (λ c. Each (IsRecalled (held_in lists) tree) c.arguments) (λ c. Each (IsRecalled (held_in with_it) tree) c.arguments) (λ c _ k. each c.arguments k) h.wants;
      }

  -- what f tells of another seat, and of the seat itself
  tells_other : (f : Names → Entry → List Tree) → history.TellsNeeded f → (j : ℕ) → j ≢ i → history.told f j empty (chronicle (noted lists i e)) ≡ history.told f j empty (chronicle lists)
  tells_other f needs j ne = noting_tells rows lists i e legal may f needs j
      ∙ (ap (λ (ts : List Tree). history.told f j empty (chronicle lists) ++ ts) (cond-false (i == j) (f (held_in lists) e) [] (ne_eqb i j (λ same. ne (sym same))))
      ∙ append-nil (history.told f j empty (chronicle lists)))

  tells_own : (f : Names → Entry → List Tree) → history.TellsNeeded f → history.told f i empty (chronicle (noted lists i e)) ≡ history.told f i empty (chronicle lists) ++ f (held_in lists) e
  tells_own f needs = noting_tells rows lists i e legal may f needs i
      ∙ ap (λ (ts : List Tree). history.told f i empty (chronicle lists) ++ ts) (cond-true (i == i) (f (held_in lists) e) [] (eq-eqb i i refl))

  pub others_recall : (j : ℕ) (v : View) → j ≢ i → SeatRecalls lists j v → SeatRecalls (noted lists i e) j v
  others_recall j v ne h = record {
    rows = rows_stay (told v.entries).tree v h.rows;
    entries = record {
      named = tells_other history.named named_tells j ne ∙ h.entries.named;
      rooted = tells_other history.rooted_trees rooted_tells j ne ∙ h.entries.rooted;
    };
  }

  -- the seat has gained a row by a creation
  module _ (v : View) (c : Content) (r number : ℕ) (of : IsEntryOf c r e) (at : Holds (held_in (noted lists i e)) r (term_set.tree_over (held_in lists) c.head c.arguments))
      (h : SeatRecalls lists i v) (args : Each (IsRecalled (held_in lists) (told v.entries).tree) c.arguments) where
    abbrev was : Told
    was = told v.entries

    abbrev grown : Tree
    grown = tree_over was.tree c.head c.arguments

    told_then : told (v.entries ++ e ∷ []) ≡ created was c.head c.arguments r
    told_then = told_one nothing v.entries e ∙ after_entry c r e of was

    grown_is : term_set.tree_over (held_in lists) c.head c.arguments ≡ grown
    grown_is = ap (Node c.head) (trees_recalled (held_in lists) was.tree c.arguments args)

    holds : Holds (held_in (noted lists i e)) r grown
    holds = at ∙ ap Some grown_is

    still : (q : ℕ) → IsRecalled (held_in lists) was.tree q → IsRecalled (held_in (noted lists i e)) (put was.tree r grown) q
    still q k = recalled_put (held_in with_it) was.tree r grown holds q (noted_recalled was.tree q k)

    still_each : (rs : List ℕ) → Each (IsRecalled (held_in lists) was.tree) rs → Each (IsRecalled (held_in (noted lists i e)) (told (v.entries ++ e ∷ [])).tree) rs
    still_each rs k = subst (λ (t : Told). Each (IsRecalled (held_in with_it) t.tree) rs) (sym told_then)
        (all_recalled (held_in lists) (held_in with_it) was.tree (put was.tree r grown) still rs k)

    new : IsRecalled (held_in (noted lists i e)) (told (v.entries ++ e ∷ [])).tree r
    new = subst (λ (t : Told). IsRecalled (held_in with_it) t.tree r) (sym told_then)
        (recalled_new (held_in with_it) was.tree r grown holds (legal_is_sound rows (chronicle with_it) noted_legal).one_name c.head c.arguments refl
        (all_recalled (held_in lists) (held_in with_it) was.tree was.tree (noted_recalled was.tree) c.arguments args))

    pub gained_recalls : SeatRecalls (noted lists i e) i (gained v c r number e)
    gained_recalls = record {
      rows = record {
        protected = still_each (protected_in v) h.rows.protected;
        got = λ none. (new, still_each v.got (h.rows.got (none_before v.base none)));
        wants = tt;
      };
      entries = record {
        named = tells_own history.named named_tells
            ∙ (ap (λ (ts : List Tree). ts ++ history.named (held_in lists) e) h.entries.named
            ∙ (ap (λ (ts : List Tree). was.built ++ ts) (named_entry c r e of (held_in lists) ∙ ap (λ (t : Tree). t ∷ []) grown_is)
            ∙ sym (ap (λ (t : Told). t.built) told_then)));
        rooted = tells_own history.rooted_trees rooted_tells
            ∙ (ap (λ (ts : List Tree). ts ++ history.rooted_trees (held_in lists) e) h.entries.rooted
            ∙ (ap (λ (ts : List Tree). all_roots v.entries ++ ts) (rooted_entry c r e of (held_in lists) ∙ sym (roots_entry c r e of was))
            ∙ sym (roots_one nothing v.entries e)));
      };
    }

-- the seat has left
module _ (rows : ℕ) (lists : List (List Entry)) (i : ℕ) (v : View) (legal : IsLegal rows (chronicle lists)) (may : MayNote rows lists i (Roots v.seen (protected_in v))) (h : SeatRecalls lists i v) where
  abbrev rs : List ℕ
  rs = protected_in v

  abbrev e : Entry
  e = Roots v.seen (protected_in v)

  abbrev known : Told
  known = told v.entries

  left_told : told (v.entries ++ e ∷ []) ≡ after known e
  left_told = told_one nothing v.entries e

  roots_are : history.rooted_trees (held_in lists) e ≡ roots_told known e
  roots_are = ap list_of (trees_recalled (held_in lists) known.tree rs h.rows.protected) ∙ list_trees (map known.tree rs)

  left_rows : RowsRecalled (noted lists i e) known.tree (left v rs)
  left_rows = let a = rows_stay rows lists i e legal may known.tree v h.rows in record { protected = a.protected; got = a.got; wants = a.wants }

  pub left_recalls : SeatRecalls (noted lists i e) i (left v rs)
  left_recalls = record {
    rows = subst (λ (t : Told). RowsRecalled (noted lists i e) t.tree (left v rs)) (sym left_told) left_rows;
    entries = record {
      named = tells_own rows lists i e legal may history.named named_tells
          ∙ (append-nil (history.told history.named i empty (chronicle lists)) ∙ (h.entries.named ∙ sym (ap (λ (t : Told). t.built) left_told)));
      rooted = tells_own rows lists i e legal may history.rooted_trees rooted_tells
          ∙ (ap (λ (ts : List Tree). ts ++ history.rooted_trees (held_in lists) e) h.entries.rooted
          ∙ (ap (λ (ts : List Tree). all_roots v.entries ++ ts) roots_are
          ∙ sym (roots_one nothing v.entries e)));
    };
  }
