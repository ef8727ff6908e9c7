-- The words of a store by their places, and what a write changes.
use Rattle.std.specs.Prelude.{ℕ, Bool, true, false, ◌==◌, if◌then◌else◌}
pub use Rattle.store_model.specs.declared.view.Place.{Place}
pub use Rattle.store_model.specs.declared.view.Place.TheVariants.{Base, FreeCount, Claim, InUse, FreePlace, Bucket, RowWord, Birth, Next, RootCount, Root}

abbrev pub same_place : Place → Place → Bool
same_place Base Base = true
same_place FreeCount FreeCount = true
same_place Claim Claim = true
same_place InUse InUse = true
same_place (FreePlace i) (FreePlace j) = i == j
same_place (Bucket i) (Bucket j) = i == j
same_place (RowWord r k) (RowWord q l) = if r == q then k == l else false
same_place (Birth r) (Birth q) = r == q
same_place (Next r) (Next q) = r == q
same_place (RootCount i) (RootCount j) = i == j
same_place (Root i k) (Root j l) = if i == j then k == l else false
same_place p q = false

abbrev pub write : (Place → ℕ) → Place → ℕ → Place → ℕ
write w p n q = if same_place q p then n else w q

-- f with x at i
abbrev pub put : {A : Type 0} → (ℕ → A) → ℕ → A → ℕ → A
put f i x j = if j == i then x else f j

-- the words of a row
pub record RowWords : Type 0 where
  pub content : ℕ → ℕ
  pub birth : ℕ
  pub next : ℕ

abbrev pub row_at : (Place → ℕ) → ℕ → RowWords
row_at w r = record { content = λ k. w (RowWord r k); birth = w (Birth r); next = w (Next r) }
