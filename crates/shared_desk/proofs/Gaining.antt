-- What a creation gives is seen as a row gained; and what a leave, protected rows and reads are
-- seen as.
use Rattle.std.proofs.Common.{◌≡◌, ◌⊎◌, ◌&&◌, inl, inr, ℕ, ◌<◌, Bool, true, false, Option, Some, None, List, [], ◌∷◌, ◌++◌, length, get_or, map, cond, refl, sym, ap, ap₂, ◌∙◌, subst, ⊎_elim, arith}
use Rattle.std.specs.Prelude.{max, slice_get}
use mathlib.Core.Path.{fun_ext}
use Rattle.std.proofs.lemmas.List.{length-map}
use Rattle.std.proofs.lemmas.Option.{slice_get-get_or}
use Rattle.std.proofs.lemmas.List.Elements.{Contains-get_or}
use Rattle.term_model.specs.declared.Head.{Head}
use Rattle.term_model.specs.declared.Head.TheVariants.{App, Int, Nil, Cons}
use Rattle.term_model.specs.Tree.{Tree, Leaf, Node, trees_of, arguments, may_stand_over, may_be_list}
use Rattle.history_core.specs.declared.entry.Entry.{Entry}
use Rattle.history_core.specs.declared.entry.Entry.TheVariants.{Make, Find, Roots}
use Rattle.terms_api.specs.Terms.{HasTree, IsHeld, tree_at}
use Rattle.terms_api.proofs.Callers.{tree_at-has, held-has, has-held}
use Rattle.store_model.specs.declared.view.View.{View}
use Rattle.store_model.specs.declared.view.KnownWord.{KnownWord}
use Rattle.store_model.specs.Calls.{IsOver}
use Rattle.store_model.specs.Machine.{Each, protected_in}
use Rattle.store_model.specs.ByView.{KnowsWord, KnowsSecond}
use Rattle.node_rows.specs.Knowing.{KnowsTree}
use Rattle.store_model.specs.Invariant.{listed}
use Rattle.store_model.specs.Told.{Told, told, nothing, after, created, tree_over, subtrees_in}
use Rattle.shared_desk.specs.Held.{names, held_in, tree_in, Has, IsOnce, HasOneRow, IsWhole}
use Rattle.node_rows.specs.Crowding.{ends_in_collect}
use Rattle.node_rows.specs.Rows as node
use Rattle.shared_desk.specs.Pass.{PassView, WhichStore, WhichPass, own, over, MayCreate, Got, NotesCreation, left}
use Rattle.shared_desk.specs.Seen.{row_of, rows_of, telling, noting, seen, is_swept}
use Rattle.shared_desk.specs.Passes.{IsSymbolNumber}
use Rattle.shared_desk.proofs.Trees.{Within, tree_within, names_within, known_before, named_of, argument_known}
use Rattle.shared_desk.proofs.Wholes.{told_more, Gives, IsMade, given_is, given_has, given_only, given_more, given_keeps, whole_given}
use Rattle.shared_desk.proofs.Views.{has_tree, tree_has, known_has, has_known, rows_trees, each_held}

-- the numbers of rows by their numbers
pub numbers : (rs : List ℕ) → node.names (rows_of rs) ≡ rs
numbers [] = refl
numbers (r ∷ rs) = ap (λ (ns : List ℕ). r ∷ ns) (numbers rs)

-- what a Make and a Find of row r tell
pub noted_told : (v w : View) (n : ℕ) (f : Head) (rs : List ℕ) (r : ℕ) → (w.entries ≡ v.entries ++ Make n f rs r ∷ []) ⊎ (w.entries ≡ v.entries ++ Find n f rs r ∷ []) → told w.entries ≡ created (told v.entries) f rs r
noted_told v w n f rs r h = ⊎_elim (λ e. ap told e ∙ told_more nothing v.entries (Make n f rs r)) (λ e. ap told e ∙ told_more nothing v.entries (Find n f rs r)) h

-- a head that may stand over trees is over so many
pub over_trees : (f : Head) (tree : ℕ → Tree) (rs : List ℕ) → IsSymbolNumber f → may_stand_over f (trees_of (map tree rs)) ≡ true → IsOver f rs
over_trees (App s) tree rs l h = l
over_trees (Int n) tree [] l h = refl
over_trees (Int n) tree (r ∷ rs) l h = absurd (cc)
over_trees Nil tree [] l h = refl
over_trees Nil tree (r ∷ rs) l h = absurd (cc)
over_trees Cons tree [] l h = absurd (cc)
over_trees Cons tree (a ∷ []) l h = absurd (cc)
over_trees Cons tree (a ∷ b ∷ []) l h = refl
over_trees Cons tree (a ∷ b ∷ c ∷ rs) l h = absurd (cc)

list_known : (ks : List KnownWord) (b : ℕ) (t : Tree) → KnowsTree ks b t → may_be_list t ≡ true → KnowsWord b 0 4294967297 ks ⊎ KnowsWord b 0 4294967298 ks
list_known ks b (Leaf x) k h = absurd k
list_known ks b (Node (App f) ts) k h = absurd (cc)
list_known ks b (Node (Int n) ts) k h = absurd (cc)
list_known ks b (Node Nil ts) k h = inl (k.1.words 0 (omega arith))
list_known ks b (Node Cons ts) k h = inr (k.1.words 0 (omega arith))

-- the second of a cell is known to be a list
pub second_known : (ks : List KnownWord) (tree : ℕ → Tree) (f : Head) (rs : List ℕ) → Each (λ r. KnowsTree ks r (tree r)) rs → may_stand_over f (trees_of (map tree rs)) ≡ true → KnowsSecond ks f rs
second_known ks tree Cons (a ∷ b ∷ []) k h = list_known ks b (tree b) k.1.0 h
second_known ks tree Cons (a ∷ b ∷ c ∷ rs) k h = absurd (cc)
second_known ks tree Cons (a ∷ []) k h = tt
second_known ks tree Cons [] k h = tt
second_known ks tree (App f) rs k h = tt
second_known ks tree (Int n) rs k h = tt
second_known ks tree Nil rs k h = tt

bool_same : (a b : Bool) → (a ≡ true → b ≡ true) → (b ≡ true → a ≡ true) → a ≡ b
bool_same true b f g = sym (f refl)
bool_same false true f g = g refl
bool_same false false f g = refl

module _ (st : WhichStore) (seat : WhichPass) (a b : Bool) (crowd : List Tree) (v w : View) (h : IsWhole st.sizes v) where
  abbrev before : PassView
  before = seen st seat a b crowd v

  abbrev now : PassView
  now = seen st seat a b crowd w

  -- the same without the entries
  abbrev bare : PassView
  bare = telling st seat a b (is_swept v) v.base (held_in v) (protected_in v) (told v.entries) crowd

  -- what may be created, and what is asked
  pub over_is : (f : Head) (rs : List ℕ) → Each (Has v) rs → over before f (rows_of rs) ≡ tree_over (tree_in v) f rs
  over_is f rs each = ap (λ (ts : List Tree). Node f (trees_of ts)) (rows_trees st seat a b crowd v h rs each)

  pub held_each : (f : Head) (rs : List ℕ) → MayCreate before f (rows_of rs) → Each (Has v) rs
  held_each f rs may = each_held st seat a b crowd v h rs may.held

  pub formed_over : (f : Head) (rs : List ℕ) → MayCreate before f (rows_of rs) → may_stand_over f (trees_of (map (tree_in v) rs)) ≡ true
  formed_over f rs may = subst (λ (ts : List Tree). may_stand_over f (trees_of ts) ≡ true) (rows_trees st seat a b crowd v h rs (held_each f rs may)) may.head

  pub made_of : (f : Head) (rs : List ℕ) (r : ℕ) → IsSymbolNumber f → MayCreate before f (rows_of rs) → r < st.sizes.rows → IsMade st.sizes v f rs r
  made_of f rs r range may below =
      record {
        held = held_each f rs may;
        over = over_trees f (tree_in v) rs range (formed_over f rs may);
        width = omega (arith, may.width, length-map rs row_of);
        formed = formed_over f rs may;
        below = below;
      }

  -- a creation gave row r
  pub got_seen : (f : Head) (rs : List ℕ) (r : ℕ) → IsMade st.sizes v f rs r → Gives v w f rs r → IsOnce w.knows → HasOneRow w.knows
      → told w.entries ≡ created (told v.entries) f rs r → w.base ≡ v.base → NotesCreation v.entries w.entries f (rows_of rs) (row_of r) → Got before now f (rows_of rs) (row_of r)
  got_seen f rs r m g once one_row notes base entry =
      let whole = whole_given st.sizes v w f rs r h m g once one_row in
      let is = over_is f rs m.held in
      record {
        rest = ap (λ (x : PassView). noting x w) (ap (λ (n : ℕ). telling st seat a b (is_swept w) n (held_in w) (protected_in w) (told w.entries) crowd) base
            ∙ ap₂ (λ (qs : List ℕ) (t : Told). telling st seat a b (is_swept w) v.base (held_in w) qs t crowd) g.roots notes
            ∙ ap (λ (t : Tree). record bare { fresh = is_swept w; held = listed st.sizes.rows (held_in w); built = (told v.entries).built ++ t ∷ [] }) (sym is));
        notes = entry;
        tree = has_tree st seat a b crowd w whole (row_of r) (given_has st.sizes v w f rs r h m g) ∙ ap Some (given_is st.sizes v w f rs r h m g ∙ sym is);
        all = λ q t e.
            (let x = tree_has st seat a b crowd v h q t e in
            has_tree st seat a b crowd w whole q (given_more st.sizes v w f rs r h m g q.0 x.0) ∙ ap Some (given_keeps st.sizes v w f rs r h m g once q.0 x.0 ∙ x.1));
        only = λ q t e.
            (let x = tree_has st seat a b crowd w whole q t e in
            ⊎_elim (λ (k : q.0 ≡ r). inr (sym x.1 ∙ ap (tree_in w) k ∙ given_is st.sizes v w f rs r h m g ∙ sym is))
            (λ (has : Has v q.0). inl (has_tree st seat a b crowd v h q has ∙ ap Some (sym (given_keeps st.sizes v w f rs r h m g once q.0 has) ∙ x.1)))
            (given_only st.sizes v w f rs r h m g q.0 x.0));
      }

  -- nothing that a desk sees has changed
  pub same_seen : w.fresh ≡ v.fresh → w.base ≡ v.base → protected_in w ≡ protected_in v → w.entries ≡ v.entries → w.seen ≡ v.seen → ((r : ℕ) → names r w.knows ≡ names r v.knows) → now ≡ before
  same_seen fresh base roots entries greatest named =
      let swept : is_swept w ≡ is_swept v = ap₂ (λ (f : Bool) (es : List Entry). f && ends_in_collect es) fresh entries in
      let held : held_in w ≡ held_in v = fun_ext (λ r. ap₂ (λ (k : Bool) (es : List Entry). cond k (Some ((told es).tree r)) None) (named r) entries) in
      ap (λ (x : PassView). noting x w) (ap₂ (λ (f : Bool) (n : ℕ). telling st seat a b f n (held_in w) (protected_in w) (told w.entries) crowd) swept base
      ∙ ap (λ (x : ℕ → Option Tree). telling st seat a b (is_swept v) v.base x (protected_in w) (told w.entries) crowd) held
      ∙ ap₂ (λ (qs : List ℕ) (es : List Entry). telling st seat a b (is_swept v) v.base (held_in v) qs (told es) crowd) roots entries)
      ∙ ap₂ (λ (es : List Entry) (n : ℕ). record bare { entries = es; greatest = n }) entries greatest

  -- words were read of a row of the own list
  pub read_named : (xs : List KnownWord) (r : ℕ) → Has v r → Each (λ (x : KnownWord). x.row ≡ r) xs → w.knows ≡ xs ++ v.knows → (q : ℕ) → names q w.knows ≡ names q v.knows
  read_named xs r has all e q =
      ap (names q) e ∙ bool_same (names q (xs ++ v.knows)) (names q v.knows)
      (λ k. ⊎_elim (λ (same : q ≡ r). subst (Has v) (sym same) has) (λ (i : names q v.knows ≡ true). i) (named_of r q xs v.knows all k))
      (λ k. names_within v.knows (xs ++ v.knows) (known_before xs v.knows) q k)

  -- a leave noted the protected rows
  pub left_seen : w.fresh ≡ false → w.base ≡ v.base → protected_in w ≡ protected_in v → w.knows ≡ v.knows → w.entries ≡ v.entries ++ Roots v.seen (protected_in v) ∷ [] → w.seen ≡ v.seen
      → seen st seat false false crowd w ≡ left before
  left_seen fresh base roots knows entries greatest =
      let t = told v.entries in
      let rs = protected_in v in
      let swept : is_swept w ≡ false = ap (λ (f : Bool). f && ends_in_collect w.entries) fresh in
      let notes : told w.entries ≡ after t (Roots v.seen rs) = ap told entries ∙ told_more nothing v.entries (Roots v.seen rs) in
      ap (λ (x : PassView). noting x w) (ap₂ (λ (f : Bool) (m : ℕ). telling st seat false false f m (held_in w) (protected_in w) (told w.entries) crowd) swept base
      ∙ ap (λ (ks : List KnownWord). telling st seat false false false v.base (λ r. cond (names r ks) (Some (tree_in w r)) None) (protected_in w) (told w.entries) crowd) knows
      ∙ ap₂ (λ (qs : List ℕ) (u : Told). telling st seat false false false v.base (λ r. cond (names r v.knows) (Some (u.tree r)) None) qs u crowd) roots notes
      ∙ ap (λ (ts : List Tree). record bare { shared = false; alone = false; fresh = false; noted = rows_of rs; rooted = ts; load = max t.load (subtrees_in ts) }) (sym (rows_trees st seat a b crowd v h rs h.protects)))
      ∙ ap₂ (λ (es : List Entry) (m : ℕ). record (left before) { entries = es; greatest = m }) (entries ∙ ap (λ (qs : List ℕ). v.entries ++ Roots v.seen qs ∷ []) (sym (numbers rs))) greatest

  -- the row of argument j of a row of the own list
  pub child_seen : (r j child : ℕ) → Within v.knows w.knows → HasOneRow w.knows → IsHeld (own before) (row_of r) → j < length (arguments (tree_at (own before) (row_of r)))
      → ((t : Tree) → KnowsTree v.knows r t → KnowsTree w.knows child (get_or (arguments t) j (Leaf 0)))
      → IsHeld (own before) (row_of child) × (slice_get (arguments (tree_at (own before) (row_of r))) j ≡ Some (tree_at (own before) (row_of child)))
  child_seen r j child more one_row held lt told_tree =
      let t = tree_at (own before) (row_of r) in
      let xs = arguments t in
      let u = get_or xs j (Leaf 0) in
      let known = has_known st seat a b crowd v h (row_of r) t (has-held (own before) (row_of r) held) in
      let x = argument_known v.knows t u r known (Contains-get_or xs j (Leaf 0) lt) in
      let same : x.0 ≡ child = one_row x.0 child u (tree_within v.knows w.knows more u x.0 x.1) (told_tree t known) in
      let has : HasTree (own before) (row_of child) u = known_has st seat a b crowd v h (row_of child) u (subst (λ (q : ℕ). KnowsTree v.knows q u) same x.1) in
      (held-has (own before) (row_of child) u has, slice_get-get_or xs j (Leaf 0) lt ∙ ap Some (sym (tree_at-has (own before) (row_of child) u has)))
