-- What the last store of a collection needs, which sets the claim back.
use Rattle.std.specs.Prelude.{◌≡◌, ◌↔◌, ℕ, ◌+◌, ◌<◌, ◌≤◌, ◌^◌, true, List, Contains}
use Rattle.history_core.specs.declared.entry.Entry.TheVariants.{Collect}
use Rattle.history_core.specs.Entry.{IsAscending}
use Rattle.history_core.specs.Chronicle.{chronicle, set_of}
use Rattle.store_model.specs.Words.{Place, Base, Claim, RowWord, Birth, RootCount, Root}
use Rattle.store_model.specs.Calls.{Idle, Ready, View}
use Rattle.store_model.specs.Machine.{Sizes, In, rows_kept, words_kept}
use Rattle.store_model.specs.Meaning.{Meaning}
use Rattle.store_model.specs.Invariant.{span, listed, RowsHold, ChainsHold}
use Rattle.std.specs.Prelude.{[], ◌∷◌, ◌++◌}

-- a row that a seat has protected, or that is an argument of one that is reached
pub data Reaches (w : Place → ℕ) (m : Meaning) : ℕ → Type 0 where
  protected : (j k : ℕ) → k < w (RootCount j) → Reaches w m (w (Root j k))
  argument : (r a : ℕ) → Reaches w m r → In a (m.content r).arguments → Reaches w m a

-- the words u after the last store of a collection that loaded w; n is the meaning m with the
-- chains and the live rows of u
pub record IsCollected (z : Sizes) (w u : Place → ℕ) (m n : Meaning) : Type 0 where
  pub rows : RowsHold z u n
  pub chains : ChainsHold z u n
  pub content : n.content ≡ m.content
  pub tree : n.tree ≡ m.tree
  pub live : (r : ℕ) → (n.live r ≡ true) ↔ Reaches w m r
  pub births : (r : ℕ) → u (Birth r) ≡ w (Birth r)
  pub row_words : (r k : ℕ) → u (RowWord r k) ≡ w (RowWord r k)
  pub root_counts : (j : ℕ) → u (RootCount j) ≡ w (RootCount j)
  pub roots : (j k : ℕ) → u (Root j k) ≡ w (Root j k)
  pub base : u Base ≡ w Base + w Claim + 1
  pub claim : u Claim ≡ 0
  pub room : u Base + span z ≤ 2 ^ 62

-- the seats' protected rows are those of their last Roots
abbrev pub RootsMatch : Sizes → (Place → ℕ) → (ℕ → View) → Type 0
RootsMatch z w view = (j r : ℕ)
    → Contains ((set_of (chronicle (listed z.seats (λ i. (view i).entries)))).roots j) r
    ↔ ((k : ℕ) × (k < w (RootCount j)) × (w (Root j k) ≡ r))

-- the names that stay, in ascending order
pub record AreKept (n : Meaning) (kept : List ℕ) : Type 0 where
  pub ascending : IsAscending kept
  pub each : (r : ℕ) → Contains kept r ↔ (n.live r ≡ true)

-- the view of the seat that collected: its own store of the base begins an epoch, and what it keeps
-- is what its protected rows lead to
abbrev pub collected : View → (base number in_use : ℕ) → List ℕ → View
collected v base number in_use kept = record v {
  call = Idle;
  stay = Ready;
  base = base;
  in_use = in_use;
  got = rows_kept v;
  knows = words_kept v;
  seen = number;
  entries = v.entries ++ Collect number kept ∷ [];
  fresh = true;
}
