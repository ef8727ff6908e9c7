-- What a creation leaves in what its pass knows of the store.
use Rattle.std.specs.Prelude.{◌≡◌, ◌⊎◌, ℕ, ◌<◌, ◌≤◌, Some, List, [], ◌∷◌, ◌++◌, length}
use Rattle.term_model.specs.declared.Head.{Head}
use Rattle.history_core.specs.declared.entry.Entry.TheVariants.{Make, Find}
use Rattle.hash_buckets.specs.Spelled.{spelled}
use Rattle.store_model.specs.declared.view.Sizes.{Sizes}
use Rattle.store_model.specs.declared.view.View.{View}
use Rattle.store_model.specs.declared.view.Refusal.{Refusal}
use Rattle.store_model.specs.declared.view.Passed.{Passed}
use Rattle.store_model.specs.declared.view.Call.{Call}
use Rattle.store_model.specs.Calls.{IsOver}
use Rattle.store_model.specs.ByView.{KnowsSecond}
use Rattle.store_model.specs.Machine.{Each, In, widest, words_known, with_call, with_path}
use Rattle.store_model.specs.Reads.{IsRefusal}
use Rattle.node_rows.specs.declared.view.NodeView.{NodeView}
use Rattle.node_rows.specs.Full.{IsFilled}
use Rattle.node_rows.specs.Steps.{over, with_store}

-- A pass may create a head over these rows: there is room for them, the head may stand over so
-- many, the pass got them in its epoch, and it knows of a cell's second argument that it is a list.
pub record MayCreate (z : Sizes) (v : View) (f : Head) (rs : List ℕ) : Type 0 where
  pub few : length rs ≤ widest z
  pub over : IsOver f rs
  pub second : KnowsSecond v.knows f rs
  pub got : Each (λ r. In r v.got) rs

-- One entry was noted: a Make of this row, whose number is above all that the pass had seen, or a
-- Find, after all that.
abbrev pub NotesOne : View → View → Head → List ℕ → ℕ → Type 0
NotesOne v w f rs r =
    ((v.seen < w.seen) × (w.entries ≡ v.entries ++ Make w.seen f rs r ∷ []))
    ⊎ ((v.seen ≤ w.seen) × (w.entries ≡ v.entries ++ Find w.seen f rs r ∷ []))

-- the pass got the row, knows its words, and wasn't refused
pub record Gets (v w : View) (f : Head) (rs : List ℕ) (r : ℕ) : Type 0 where
  pub got : w.got ≡ r ∷ v.got
  pub knows : w.knows ≡ words_known r 0 (spelled f rs) ++ v.knows
  pub refused : w.refused ≡ v.refused
  pub overdraw : w.overdraw ≡ v.overdraw

-- The pass keeps why it was refused: the chain from a head that it loaded was read to its end, each
-- row there differed, and the claim was read or drawn as at least the free count.
pub record KeepsCause (v w : View) (f : Head) (rs : List ℕ) : Type 0 where
  pub refusal : Refusal
  pub wanted : refusal.content ≡ over f rs
  pub cause : IsRefusal refusal
  pub kept : w.refused ≡ v.refused ++ refusal ∷ []

-- At a moment of the creation, when seat i knew what is in the view v but for its call under way,
-- each row had a tree, and none the asked one.
pub record WasFilled (z : Sizes) (i : ℕ) (v : NodeView) (f : Head) (rs : List ℕ) : Type 0 where
  pub passed : ℕ
  pub path : List Passed
  pub call : Call
  pub filled : IsFilled z i
      (with_store v (with_call (with_path v.store passed path) call)) (over f rs)

-- nothing was noted, and no row was got
pub record GetsNone (v w : View) : Type 0 where
  pub entries : w.entries ≡ v.entries
  pub got : w.got ≡ v.got
  pub knows : w.knows ≡ v.knows
  pub seen : w.seen ≡ v.seen
  pub overdraw : (w.overdraw ≡ v.overdraw) ⊎ (w.overdraw ≡ Some v.base)

-- the epoch, the access and the protected rows are as they were
pub record KeepsRest (v w : View) : Type 0 where
  pub stay : w.stay ≡ v.stay
  pub base : w.base ≡ v.base
  pub in_use : w.in_use ≡ v.in_use
  pub fresh : w.fresh ≡ v.fresh
  pub roots : w.roots ≡ v.roots
  pub root_count : w.root_count ≡ v.root_count
