-- What each call in an access leaves of a pass, as its desk sees it.
use Rattle.std.proofs.Common.{◌≡◌, ◌⊎◌, inl, inr, ℕ, suc, ◌+◌, ◌<◌, ◌≤◌, ◌&&◌, Bool, true, false, not, List, [], ◌∷◌, ◌++◌, length, take, map, true≢false, refl, sym, ap, ap₂, ◌∙◌, subst, ⊎_elim, arith}
use Rattle.std.specs.Prelude.{All, Contains, Result, Ok, Err, IfOk, IfErr, OnOk, OnErr}
use Rattle.std.proofs.lemmas.List.{length-map}
use Rattle.term_model.specs.declared.Row.{Row}
use Rattle.term_model.specs.declared.Head.{Head}
use Rattle.term_model.specs.declared.Head.TheVariants.{App, Int, Nil, Cons}
use Rattle.term_model.specs.Tree.{Tree, trees_of}
use Rattle.history_core.specs.declared.entry.Entry.{Entry}
use Rattle.history_core.specs.declared.entry.Entry.TheVariants.{Make, Find, Roots, Collect}
use Rattle.history_core.specs.Chronicle.{last_roots}
use Rattle.busy_forbidden.specs.declared.view.LockView.{LockView}
use Rattle.busy_forbidden.specs.Calls.{IsSame}
use Rattle.busy_forbidden.specs.Exclusive.{IsGranted}
use Rattle.store_model.specs.declared.view.KnownWord.{KnownWord}
use Rattle.store_model.specs.declared.view.Stay.{Stay}
use Rattle.store_model.specs.declared.view.Stay.TheVariants.{Away, Ready}
use Rattle.store_model.specs.declared.view.View.{View}
use Rattle.store_model.specs.Machine.{Each, In, protected_in}
use Rattle.store_model.specs.Steps.{AreLastRoots}
use Rattle.store_model.proofs.Basics.{each_map, each_in}
use Rattle.terms_api.specs.Terms.{IsHeld}
use Rattle.node_rows.specs.declared.view.NodeView.{NodeView}
use Rattle.node_rows.specs.declared.store.Store.{Store}
use Rattle.node_rows.specs.declared.store.Pass.{Pass}
use Rattle.node_rows.specs.Inside.{IsInside}
use Rattle.node_rows.specs.Knowing.{KnowsTree}
use Rattle.node_rows.specs.Rows as node
use Rattle.node_rows.specs.Told.{view_of}
use Rattle.node_rows.specs.Crowding.{IsSwept, ends_in_collect}
use Rattle.node_rows.specs.CrowdFull.{IsCrowded}
use Rattle.node_rows.specs.Steps.{over as node_over}
use Rattle.row_sweep.specs.Collected.{Collects}
use Rattle.row_sweep.specs.Gathered.{IsWorn}
use Rattle.row_sweep.specs.declared.sweep.Kept.{Kept}
use Rattle.term_create.specs.Created.{MayCreate, NotesOne, Gets, GetsNone, KeepsRest}
use Rattle.term_create.specs.Read.{Reads, ReadsChild, head_words, word}
use Rattle.root_sets.specs.Protected.{Keeps}
use Rattle.store_model.specs.Told.{Told, told, told_from, nothing, after, created}
use Rattle.shared_desk.specs.Held.{names, tree_in, Has, IsOnce, HasOneRow, IsWhole, Forgets}
use Rattle.shared_desk.specs.Pass as desk
use Rattle.shared_desk.specs.Pass.{PassView, WhichPass, own, Got, NotesCreation}
use Rattle.shared_desk.specs.Seen.{row_of, rows_of, seen, is_swept}
use Rattle.shared_desk.specs.Passes.{IsSymbolNumber, is_shared, is_ready, in_shared, in_exclusive, store_of, pass_of, seen_of, IsPlaced, IsStanding}
use Rattle.shared_desk.proofs.Trees.{Within, known_before, trees_known}
use Rattle.shared_desk.proofs.Wholes.{Gives, IsMade, whole_grows, whole_given}
use Rattle.shared_desk.proofs.Losing.{Comes, whole_comes, swept_seen, collect_tree}
use Rattle.shared_desk.proofs.Remembering.{collected_forgets}
use Rattle.shared_desk.proofs.Gaining.{over_is, noted_told, second_known, over_trees, formed_over, held_each, made_of, got_seen, same_seen, read_named, numbers}
use Rattle.shared_desk.proofs.Views.{each_held}
use Rattle.shared_desk.proofs.Standing.{is_in_shared, is_in_exclusive, pass_same}

-- in an access p has come to q, which is in the same access with nothing under way
pub record Goes (s : Store) (p q : Pass) : Type 0 where
  pub access : (in_shared (view_of p) ≡ true) ⊎ (in_exclusive (view_of p) ≡ true)
  pub inside : IsInside s q
  pub same : IsSame p.seat.seat q.seat.seat × (q.seat.number ≡ p.seat.number)
  pub lock : (view_of q).lock ≡ (view_of p).lock

and_both : (a b : Bool) → a && b ≡ true → (a ≡ true) × (b ≡ true)
and_both true b e = (refl, e)
and_both false b e = absurd (true≢false (sym e))

head_all : (r : ℕ) (f : Head) → Each (λ (x : KnownWord). x.row ≡ r) (head_words r f)
head_all r (App s) = (refl, tt)
head_all r (Int n) = (refl, (refl, tt))
head_all r Nil = (refl, tt)
head_all r Cons = (refl, tt)

module _ (s : Store) (p q : Pass) (h : IsStanding s p) (g : Goes s p q) where
  abbrev crowd : List Tree
  crowd = (view_of p).crowd

  abbrev v : View
  v = (view_of p).store

  abbrev w : View
  w = (view_of q).store

  stays_ready : v.stay ≡ Ready
  stays_ready = ⊎_elim (λ a. (is_in_shared s p h a).1.rest.stay) (λ a. (is_in_exclusive s p h a).1.rest.stay) g.access

  same_access : (in_shared (view_of q) ≡ in_shared (view_of p)) × (in_exclusive (view_of q) ≡ in_exclusive (view_of p))
  same_access =
      let stay : w.stay ≡ v.stay = g.inside.ready.rest.stay ∙ sym stays_ready in (
        ap₂ (λ (a : Stay) (l : LockView). is_ready a && is_shared l.phase) stay g.lock,
        ap₂ (λ (a : Stay) (l : LockView). is_ready a && not (is_shared l.phase)) stay g.lock,
      )

  pub goes_placed : IsPlaced s q
  goes_placed = ⊎_elim
      (λ a. inr (inl (ap (λ (l : LockView). l.phase) g.lock ∙ (is_in_shared s p h a).0, g.inside.ready)))
      (λ a. (let granted = (is_in_exclusive s p h a).0 in
      let seats : q.seat.seats ≡ p.seat.seats = g.inside.pass.count ∙ sym h.of.pass.count in
      let one = subst (λ (l : LockView). IsGranted l p.seat.number p.seat.seats) (sym g.lock) granted in
      let two = subst (λ (n : ℕ). IsGranted (view_of q).lock n p.seat.seats) (sym g.same.1) one in
      inr (inr (subst (λ (n : ℕ). IsGranted (view_of q).lock q.seat.number n) (sym seats) two, g.inside.ready))))
      g.access

  pub goes_standing : IsWhole s.sizes w → IsStanding s q
  goes_standing whole =
      record {
        of = record { store = g.inside.store; pass = g.inside.pass };
        told = g.inside.told;
        placed = goes_placed;
        whole = whole;
        small = h.small;
      }

  pub goes_seen : seen_of s q ≡ seen (store_of s) (pass_of p) (in_shared (view_of p)) (in_exclusive (view_of p)) (view_of q).crowd w
  goes_seen =
      ap (λ (i : WhichPass). seen (store_of s) i (in_shared (view_of q)) (in_exclusive (view_of q)) (view_of q).crowd w) (pass_same p q g.same.0 g.same.1)
      ∙ ap₂ (λ (a b : Bool). seen (store_of s) (pass_of p) a b (view_of q).crowd w) same_access.0 same_access.1

  -- all but a collection leave the crowd
  pub goes_kept : (view_of q).crowd ≡ crowd → seen_of s q ≡ seen (store_of s) (pass_of p) (in_shared (view_of p)) (in_exclusive (view_of p)) crowd w
  goes_kept kept = goes_seen ∙ ap (λ (ts : List Tree). seen (store_of s) (pass_of p) (in_shared (view_of p)) (in_exclusive (view_of p)) ts w) kept

  pub once_now : IsOnce w.knows
  once_now = g.inside.ready.known.words g.inside.ready.rest

  pub one_row_now : HasOneRow w.knows
  one_row_now = g.inside.ready.known.trees g.inside.ready.rest

  pub below_now : (r : ℕ) → In r w.got → r < s.sizes.rows
  below_now r i = each_in (λ q. q < s.sizes.rows) r w.got (g.inside.ready.known.got (λ e. let no : Ready ≡ Away = sym g.inside.ready.rest.stay ∙ e in grind arith)) i

  -- rows were protected
  module _ (k : Keeps (view_of p) (view_of q)) (rs : List ℕ) (rows : protected_in w ≡ rs) where
    pub whole_rooted : Each (Has v) rs → length rs ≤ s.sizes.depth → IsWhole s.sizes w
    whole_rooted each few =
        let knows : w.knows ≡ v.knows = ap (λ (u : NodeView). u.store.knows) k.only in
        let entries : w.entries ≡ v.entries = ap (λ (u : NodeView). u.store.entries) k.only in
        whole_grows s.sizes v w h.whole
        record {
          knows = subst (Within v.knows) (sym knows) (λ r k n x. x);
          none = λ r has. subst (λ (ks : List KnownWord). names r ks ≡ true) knows has;
          uses = k.uses;
          tree = λ r. ap (λ (es : List Entry). (told es).tree r) entries;
        }
        once_now one_row_now (subst (Each (Has v)) (sym rows) each) (subst (λ (xs : List ℕ). length xs ≤ s.sizes.depth) (sym rows) few)

    pub rooted_is : seen_of s q ≡ record (seen_of s p) { roots = rows_of rs }
    rooted_is =
        goes_kept (ap (λ (u : NodeView). u.crowd) k.only)
        ∙ ap (λ (u : NodeView). seen (store_of s) (pass_of p) (in_shared (view_of p)) (in_exclusive (view_of p)) crowd u.store) k.only
        ∙ ap (λ (xs : List ℕ). record (seen_of s p) { roots = rows_of xs }) rows

  -- words of row r were read
  pub record Read (r : ℕ) (xs : List KnownWord) : Type 0 where
    pub knows : w.knows ≡ xs ++ v.knows
    pub all : Each (λ (x : KnownWord). x.row ≡ r) xs
    pub uses : (q : ℕ) → In q v.got → In q w.got
    pub crowd_is : (view_of q).crowd ≡ crowd
    pub fresh : w.fresh ≡ v.fresh
    pub base : w.base ≡ v.base
    pub roots : protected_in w ≡ protected_in v
    pub entries : w.entries ≡ v.entries
    pub greatest : w.seen ≡ v.seen

  pub reads_read : (r : ℕ) (xs : List KnownWord) → Each (λ (x : KnownWord). x.row ≡ r) xs → Reads (view_of p) (view_of q) xs → Read r xs
  reads_read r xs all e =
      record {
        knows = ap (λ (u : NodeView). u.store.knows) e;
        all = all;
        uses = λ q i. subst (In q) (sym (ap (λ (u : NodeView). u.store.got) e)) i;
        crowd_is = ap (λ (u : NodeView). u.crowd) e;
        fresh = ap (λ (u : NodeView). u.store.fresh) e;
        base = ap (λ (u : NodeView). u.store.base) e;
        roots = ap (λ (u : NodeView). protected_in u.store) e;
        entries = ap (λ (u : NodeView). u.store.entries) e;
        greatest = ap (λ (u : NodeView). u.store.seen) e;
      }

  pub head_read : (r : ℕ) (f : Head) → Reads (view_of p) (view_of q) (head_words r f) → Read r (head_words r f)
  head_read r f e = reads_read r (head_words r f) (head_all r f) e

  pub count_read : (r n : ℕ) → Reads (view_of p) (view_of q) (word r 1 n ∷ []) → Read r (word r 1 n ∷ [])
  count_read r n e = reads_read r (word r 1 n ∷ []) (refl, tt) e

  pub child_read : (r j child : ℕ) → ReadsChild (view_of p) (view_of q) r j child → Read r (word r (suc (suc j)) child ∷ [])
  child_read r j child e =
      record {
        knows = ap (λ (u : NodeView). u.store.knows) e;
        all = (refl, tt);
        uses = λ q i. subst (In q) (sym (ap (λ (u : NodeView). u.store.got) e)) (inr i);
        crowd_is = ap (λ (u : NodeView). u.crowd) e;
        fresh = ap (λ (u : NodeView). u.store.fresh) e;
        base = ap (λ (u : NodeView). u.store.base) e;
        roots = ap (λ (u : NodeView). protected_in u.store) e;
        entries = ap (λ (u : NodeView). u.store.entries) e;
        greatest = ap (λ (u : NodeView). u.store.seen) e;
      }

  module _ (r : ℕ) (xs : List KnownWord) (x : Read r xs) (has : Has v r) where
    read_same : (q : ℕ) → names q w.knows ≡ names q v.knows
    read_same = read_named (store_of s) (pass_of p) (in_shared (view_of p)) (in_exclusive (view_of p)) crowd v w h.whole xs r has x.all x.knows

    pub read_within : Within v.knows w.knows
    read_within = subst (Within v.knows) (sym x.knows) (known_before xs v.knows)

    pub whole_read : IsWhole s.sizes w
    whole_read =
        whole_grows s.sizes v w h.whole
        record {
          knows = read_within;
          none = λ q i. sym (read_same q) ∙ i;
          uses = x.uses;
          tree = λ q. ap (λ (es : List Entry). (told es).tree q) x.entries;
        }
        once_now one_row_now (subst (Each (Has v)) (sym x.roots) h.whole.protects) (subst (λ (qs : List ℕ). length qs ≤ s.sizes.depth) (sym x.roots) h.whole.few)

    pub read_is : seen_of s q ≡ seen_of s p
    read_is =
        goes_kept x.crowd_is
        ∙ same_seen (store_of s) (pass_of p) (in_shared (view_of p)) (in_exclusive (view_of p)) crowd v w h.whole x.fresh x.base x.roots x.entries x.greatest read_same

  -- a creation ended
  module _ (f : Head) (rs : List ℕ) (may : desk.MayCreate (seen_of s p) f (rows_of rs)) (range : IsSymbolNumber f) (kept : (view_of q).crowd ≡ crowd) (rest : KeepsRest v w) where
    roots_same : protected_in w ≡ protected_in v
    roots_same = ap₂ (λ (n : ℕ) (xs : List ℕ). take n xs) rest.root_count rest.roots

    module _ (r : ℕ) (notes : NotesOne v w f rs r) (gets : Gets v w f rs r) where
      noted : told w.entries ≡ created (told v.entries) f rs r
      noted = ⊎_elim (λ x. noted_told v w w.seen f rs r (inl x.1)) (λ x. noted_told v w w.seen f rs r (inr x.1)) notes

      gives : Gives v w f rs r
      gives = record { got = gets.got; knows = gets.knows; tree = λ q. ap (λ (t : Told). t.tree q) noted; roots = roots_same }

      made : IsMade s.sizes v f rs r
      made = made_of (store_of s) (pass_of p) (in_shared (view_of p)) (in_exclusive (view_of p)) crowd v w h.whole f rs r range may
          (below_now r (subst (In r) (sym gets.got) (inl refl)))

      pub whole_created : IsWhole s.sizes w
      whole_created = whole_given s.sizes v w f rs r h.whole made gives once_now one_row_now

      -- the one entry that was noted
      entry : NotesCreation v.entries w.entries f (rows_of rs) (row_of r)
      entry = (
        w.seen,
        ⊎_elim
            (λ x. inl (x.1 ∙ ap (λ (ns : List ℕ). v.entries ++ Make w.seen f ns r ∷ []) (sym (numbers rs))))
            (λ x. inr (x.1 ∙ ap (λ (ns : List ℕ). v.entries ++ Find w.seen f ns r ∷ []) (sym (numbers rs)))) notes,
      )

      pub created_is : Got (seen_of s p) (seen_of s q) f (rows_of rs) (row_of r)
      created_is = subst (λ (x : PassView). Got (seen_of s p) x f (rows_of rs) (row_of r)) (sym (goes_kept kept))
          (got_seen (store_of s) (pass_of p) (in_shared (view_of p)) (in_exclusive (view_of p)) crowd v w h.whole f rs r made gives once_now one_row_now noted rest.base entry)

    module _ (none : GetsNone v w) where
      same_names : (q : ℕ) → names q w.knows ≡ names q v.knows
      same_names q = ap (names q) none.knows

      pub whole_refused : IsWhole s.sizes w
      whole_refused =
          whole_grows s.sizes v w h.whole
          record {
            knows = subst (Within v.knows) (sym none.knows) (λ r k n x. x);
            none = λ q i. sym (same_names q) ∙ i;
            uses = λ q i. subst (In q) (sym none.got) i;
            tree = λ q. ap (λ (es : List Entry). (told es).tree q) none.entries;
          }
          once_now one_row_now (subst (Each (Has v)) (sym roots_same) h.whole.protects) (subst (λ (qs : List ℕ). length qs ≤ s.sizes.depth) (sym roots_same) h.whole.few)

      pub refused_is : seen_of s q ≡ seen_of s p
      refused_is =
          goes_kept kept
          ∙ same_seen (store_of s) (pass_of p) (in_shared (view_of p)) (in_exclusive (view_of p)) crowd v w h.whole rest.fresh rest.base roots_same none.entries none.seen same_names

-- the access of the last collection, with nothing noted since
pub swept_of : (v : View) → is_swept v ≡ true → IsSwept v
swept_of v e = let both = and_both v.fresh (ends_in_collect v.entries) e in record { fresh = both.0; last = both.1 }

-- where a creation after a collection was Full
filled_is : (s : Store) (p : Pass) → IsStanding s p → (f : Head) (rs : List ℕ) → desk.MayCreate (seen_of s p) f (rows_of rs)
    → IsCrowded s.sizes (view_of p) (node_over f rs) → desk.IsFilled (seen_of s p) f (rows_of rs)
filled_is s p h f rs may fills =
    let crowd = (view_of p).crowd in
    let v = (view_of p).store in
    let st = store_of s in
    let a = in_shared (view_of p) in
    let b = in_exclusive (view_of p) in
    let each = held_each st (pass_of p) a b crowd v v h.whole f rs may in
    let known = trees_known v.knows (tree_in v) rs (each_map (Has v) (λ q. KnowsTree v.knows q (tree_in v q)) rs (λ q i. (h.whole.rows q i).known) each) in
    record {
      full = fills.full;
      absent = λ c. fills.absent (trees_of (map (tree_in v) rs)) known (subst (λ (t : Tree). Contains crowd t) (over_is st (pass_of p) a b crowd v v h.whole f rs each) c);
    }

-- what the store asks of a creation
pub may_create : (s : Store) (p : Pass) → IsStanding s p → (f : Head) (rs : List ℕ) → IsSymbolNumber f → desk.MayCreate (seen_of s p) f (rows_of rs)
    → MayCreate s.sizes (view_of p).store f rs
may_create s p h f rs range may =
    let crowd = (view_of p).crowd in
    let v = (view_of p).store in
    let st = store_of s in
    let a = in_shared (view_of p) in
    let b = in_exclusive (view_of p) in
    let each = held_each st (pass_of p) a b crowd v v h.whole f rs may in
    let formed = formed_over st (pass_of p) a b crowd v v h.whole f rs may in
    record {
      few = omega (arith, may.width, length-map rs row_of);
      over = over_trees f (tree_in v) rs range formed;
      second = second_known v.knows (tree_in v) f rs (each_map (Has v) (λ q. KnowsTree v.knows q (tree_in v q)) rs (λ q i. (h.whole.rows q i).known) each) formed;
      got = each_map (Has v) (λ q. In q v.got) rs (λ q i. (h.whole.rows q i).uses) each;
    }

-- rows by their numbers are those rows
pub rows_named : (rows : List Row) → rows_of (node.names rows) ≡ rows
rows_named [] = refl
rows_named (r ∷ rows) = ap (λ (xs : List Row). r ∷ xs) (rows_named rows)

-- rows of the own list, by their numbers
pub has_each : (s : Store) (p : Pass) → IsStanding s p → (rows : List Row) → All (IsHeld (own (seen_of s p))) rows → Each (Has (view_of p).store) (node.names rows)
has_each s p h rows held =
    each_held (store_of s) (pass_of p) (in_shared (view_of p)) (in_exclusive (view_of p)) (view_of p).crowd (view_of p).store h.whole (node.names rows) (subst (All (IsHeld (own (seen_of s p)))) (sym (rows_named rows)) held)

-- what may be asked over rows may be asked over those of their numbers
pub may_named : (v : PassView) (f : Head) (rows : List Row) → desk.MayCreate v f rows → desk.MayCreate v f (rows_of (node.names rows))
may_named v f rows may = subst (desk.MayCreate v f) (sym (rows_named rows)) may

module _ {E : Type 0} (s : Store) (p q : Pass) (h : IsStanding s p) (g : Goes s p q) (f : Head) (rows : List Row) (may : desk.MayCreate (seen_of s p) f rows) (range : IsSymbolNumber f)
    (kept : (view_of q).crowd ≡ (view_of p).crowd) (rest : KeepsRest (view_of p).store (view_of q).store) where
  pub standing_after : (r : Result Row E) → IfOk r (λ row. NotesOne (view_of p).store (view_of q).store f (node.names rows) row.0) → IfOk r (λ row. Gets (view_of p).store (view_of q).store f (node.names rows) row.0)
      → IfErr r (λ _. GetsNone (view_of p).store (view_of q).store) → IsStanding s q
  standing_after (Ok row) notes gets none = goes_standing s p q h g (whole_created s p q h g f (node.names rows) (may_named (seen_of s p) f rows may) range kept rest row.0 notes gets)
  standing_after (Err x) notes gets none = goes_standing s p q h g (whole_refused s p q h g f (node.names rows) (may_named (seen_of s p) f rows may) range kept rest none)

  pub got_after : (r : Result Row E) → IfOk r (λ row. NotesOne (view_of p).store (view_of q).store f (node.names rows) row.0) → IfOk r (λ row. Gets (view_of p).store (view_of q).store f (node.names rows) row.0)
      → IfOk r (Got (seen_of s p) (seen_of s q) f rows)
  got_after (Ok row) notes gets = subst (λ (xs : List Row). Got (seen_of s p) (seen_of s q) f xs row) (rows_named rows) (created_is s p q h g f (node.names rows) (may_named (seen_of s p) f rows may) range kept rest row.0 notes gets)
  got_after (Err x) notes gets = tt

  pub unchanged_after : (r : Result Row E) → IfErr r (λ _. GetsNone (view_of p).store (view_of q).store) → OnErr r (seen_of s q ≡ seen_of s p)
  unchanged_after (Ok row) none = tt
  unchanged_after (Err x) none = refused_is s p q h g f (node.names rows) (may_named (seen_of s p) f rows may) range kept rest none

  pub filled_after : (r : Result Row E) → (seen_of s p).fresh ≡ true → IfErr r (λ _. IsSwept (view_of p).store → IsCrowded s.sizes (view_of p) (node_over f (node.names rows))) → OnErr r (desk.IsFilled (seen_of s p) f rows)
  filled_after (Ok row) fresh fills = tt
  filled_after (Err x) fresh fills = subst (desk.IsFilled (seen_of s p) f) (rows_named rows) (filled_is s p h f (node.names rows) (may_named (seen_of s p) f rows may) (fills (swept_of (view_of p).store fresh)))

-- a collection ended
module _ (s : Store) (p q : Pass) (h : IsStanding s p) (g : Goes s p q) where
  collect_comes : (n m : ℕ) → Collects s.sizes p.seat.number (view_of p).store (view_of q).store n m → Comes (view_of p).store (view_of q).store
  collect_comes n m k =
      let v = (view_of p).store in
      let number = v.base + k.claim in
      record {
        forgets = subst (Forgets v) (sym k.view) (collected_forgets v (number + 1) number m k.kept);
        tree = λ r. ap (λ (x : View). (told x.entries).tree r) k.view ∙ collect_tree v.entries number k.kept r;
        roots = ap (λ (x : View). protected_in x) k.view;
        base = inr (let e = ap (λ (x : View). x.base) k.view in omega (arith, e));
      }

  pub standing_collected : {E : Type 0} (r : Result Kept E) → IfOk r (λ kept. Collects s.sizes p.seat.number (view_of p).store (view_of q).store kept.live kept.buckets)
      → IfErr r (λ _. view_of q ≡ view_of p) → IsStanding s q
  standing_collected (Ok u) k e =
      goes_standing s p q h g (whole_comes (store_of s) (pass_of p) false false false false [] [] (view_of p).store (view_of q).store h.whole (collect_comes u.live u.buckets k))
  standing_collected (Err x) k e = goes_standing s p q h g (subst (λ (v : NodeView). IsWhole s.sizes v.store) (sym e) h.whole)

  pub swept_is : {E : Type 0} (r : Result Kept E) → IfOk r (λ kept. Collects s.sizes p.seat.number (view_of p).store (view_of q).store kept.live kept.buckets)
      → OnOk r (desk.Swept (seen_of s p) (seen_of s q))
  swept_is (Ok u) k = subst (λ (x : PassView). desk.Swept (seen_of s p) x) (sym (goes_seen s p q h g))
      (swept_seen (store_of s) (pass_of p) (in_shared (view_of p)) (in_exclusive (view_of p)) (view_of p).crowd (view_of q).crowd (view_of p).store (view_of q).store ((view_of p).store.base + k.claim) k.kept h.whole
      (collect_comes u.live u.buckets k) (ap (λ (x : View). x.entries) k.view) (ap (λ (x : View). x.fresh) k.view) k.ascends k.below)
  swept_is (Err x) k = tt

  pub worn_is : {A E : Type 0} (r : Result A E) → IfErr r (λ _. view_of q ≡ view_of p) → OnErr r (seen_of s q ≡ seen_of s p)
  worn_is (Ok u) e = tt
  worn_is (Err x) e = ap₂ (λ (i : WhichPass) (v : NodeView). seen (store_of s) i (in_shared v) (in_exclusive v) v.crowd v.store) (pass_same p q g.same.0 g.same.1) e

  -- a collection that is worn has loaded a claim below one epoch
  pub wears : {A E : Type 0} (r : Result A E) → IfErr r (λ _. IsWorn s.sizes p.seat.number (view_of p).store) → OnErr r (desk.IsWorn (seen_of s p))
  wears (Ok u) e = tt
  wears (Err x) e = omega (arith, e.loads.few, e.beyond)

-- the last Roots are what the entries tell as such
roots_told : (t : Told) (es : List Entry) → last_roots t.noted es ≡ (told_from t es).noted
roots_told t [] = refl
roots_told t (Make n f rs r ∷ es) = roots_told (after t (Make n f rs r)) es
roots_told t (Find n f rs r ∷ es) = roots_told (after t (Find n f rs r)) es
roots_told t (Roots n rs ∷ es) = roots_told (after t (Roots n rs)) es
roots_told t (Collect n ks ∷ es) = roots_told (after t (Collect n ks)) es

pub last_noted : (s : Store) (p : Pass) → (seen_of s p).roots ≡ (seen_of s p).noted → AreLastRoots (view_of p).store
last_noted s p e =
    let v = (view_of p).store in
    roots_told nothing v.entries ∙ sym (numbers (told v.entries).noted) ∙ sym (ap (map (λ (r : Row). r.0)) e) ∙ numbers (protected_in v)
