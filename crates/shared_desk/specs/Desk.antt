-- A desk as a store of terms, and what its steps come to.
use Rattle.std.specs.Prelude.{◌≡◌, ℕ, ◌+◌, ◌*◌, ◌^◌, ◌<◌, ◌≤◌, ◌⊎◌, Bool, true, false, List, [], ◌∷◌, ◌++◌, Result, Ok, Err, refl}
use Rattle.std.proofs.Common.{◌∙◌, inl, inr, sym, subst, ⊎_elim}
use Rattle.std.proofs.Math.Nat.{le_refl, le_trans, lt_of_lt_of_le, add-le-add_iff_right}
use Rattle.term_model.specs.declared.Row.{Row}
use Rattle.term_model.specs.declared.Head.{Head}
use Rattle.term_model.specs.Tree.{Tree}
use Rattle.terms_api.specs.declared.terms.BuildFault.{BuildFault}
use Rattle.terms_api.specs.declared.terms.BuildFault.TheVariants.{Deep, StoreFull, Worn}
use Rattle.terms_api.specs.Terms.{Store, HasTree, IsSound, GainsNone, Loses, Loads, IsCrowded, trees, but_last, asked}
use Rattle.row_stack.specs.Places.{Places}
use Rattle.shared_desk.specs.Pass as pass
use Rattle.store_model.specs.Invariant.{span}
use Rattle.shared_desk.specs.Pass.{PassView, WhichStore, IsWorn, shown, store}
use Rattle.shared_desk.specs.Code.{Contents}

abbrev pub store_of : Contents → Store
store_of c = shown c.pass c.stack c.refusals c.spent

-- The same store and the same seat. The numbers were told since to be used up only where the pass
-- is worn.
pub record IsSame (c d : Contents) : Type 0 where
  pub pass : pass.IsSame c.pass d.pass
  pub worn : d.spent ≡ true → (c.spent ≡ true) ⊎ IsWorn d.pass

pub same_itself : (c : Contents) → IsSame c c
same_itself c = record {
  pass = record {
    rows = refl;
    arity = refl;
    depth = refl;
    store = refl;
    seat = refl;
    base = le_refl c.pass.base;
  };
  worn = λ spent. inl spent;
}

pub pass_in_turn : (v w x : PassView) → pass.IsSame v w → pass.IsSame w x → pass.IsSame v x
pass_in_turn v w x f g = record {
  rows = g.rows ∙ f.rows;
  arity = g.arity ∙ f.arity;
  depth = g.depth ∙ f.depth;
  store = g.store ∙ f.store;
  seat = g.seat ∙ f.seat;
  base = le_trans f.base g.base;
}

-- a pass that is worn stays so
pub worn_still : (v w : PassView) → pass.IsSame v w → IsWorn v → IsWorn w
worn_still v w same worn =
    let more = 2 * span w.store.sizes in
    let here : 2 ^ 62 < v.base + more =
    subst (λ (s : WhichStore). 2 ^ 62 < v.base + 2 * span s.sizes) (sym same.store) worn in
    lt_of_lt_of_le here ((add-le-add_iff_right more).1 same.base)

pub same_turn : (c d e : Contents) → IsSame c d → IsSame d e → IsSame c e
same_turn c d e f g = record {
  pass = pass_in_turn c.pass d.pass e.pass f.pass g.pass;
  worn = λ spent. ⊎_elim
      (λ before. ⊎_elim (λ (first : c.spent ≡ true). inl first)
      (λ (worn : IsWorn d.pass). inr (worn_still d.pass e.pass g.pass worn)) (f.worn before))
      (λ (worn : IsWorn e.pass). inr worn) (g.worn spent);
}

-- Between calls no exclusive access is held, and outside the protected rows are the stack.
pub record IsRight (v : PassView) (p : Places) : Type 0 where
  pub sound : IsSound (store v p.items)
  pub roots : v.shared ≡ false → v.roots ≡ p.items
  pub alone : v.alone ≡ false
  pub room : v.depth ≤ p.room

pub record IsIn (v : PassView) (p : Places) : Type 0 where
  pub right : IsRight v p
  pub shared : v.shared ≡ true

-- in exclusive access, with the stack protected
pub record IsAlone (v : PassView) (p : Places) : Type 0 where
  pub sound : IsSound (store v p.items)
  pub alone : v.alone ≡ true
  pub shared : v.shared ≡ false
  pub roots : v.roots ≡ p.items
  pub room : v.depth ≤ p.room

-- and the last Roots had the stack's trees
pub record IsReady (v : PassView) (p : Places) : Type 0 where
  pub alone : IsAlone v p
  pub noted : v.roots ≡ v.noted
  pub rooted : v.rooted ≡ trees (store v p.items)

-- The stack stayed, and rows may have been lost, with so many collections.
pub record Passed (k : ℕ) (v w : PassView) (xs : List Row) : Type 0 where
  pub none : GainsNone (store v xs) (store w xs)
  pub rows : Loses (store v xs) (store w xs)
  pub built : w.built ≡ v.built
  pub sweeps : w.sweeps ≡ v.sweeps + k
  pub load : Loads (store v xs) (store w xs) (trees (store v xs))
  pub same : pass.IsSame v w
  pub sound : IsSound (store w xs)

-- The last n places of the stack have become the row of the tree.
pub record Placed (k : ℕ) (v w : PassView) (xs ys : List Row) (n : ℕ) (t : Tree) : Type 0 where
  pub row : Row
  pub stack : ys ≡ but_last n xs ++ row ∷ []
  pub tree : HasTree (store w ys) row t
  pub built : w.built ≡ v.built ++ t ∷ []
  pub only : (r : Row) (u : Tree) → HasTree (store w ys) r u → HasTree (store v xs) r u ⊎ (u ≡ t)
  pub rows : Loses (store v xs) (store w ys)
  pub sweeps : w.sweeps ≡ v.sweeps + k
  pub load : Loads (store v xs) (store w ys) (trees (store v xs) ++ t ∷ [])
  pub same : pass.IsSame v w
  pub sound : IsSound (store w ys)

-- Without a collection they have become the row of the tree that was asked.
abbrev pub Creates : PassView → PassView → List Row → List Row → Head → ℕ → Type 0
Creates v w xs ys h n = Placed 0 v w xs ys n (asked (store v xs) h n)

-- what building leaves, by its answer
abbrev pub Outcome : PassView → PassView → List Row → List Row → Head → ℕ
    → Result (Unit {0}) BuildFault → Type 0
Outcome v w xs ys h n (Ok u) = (k : ℕ) × (k ≤ 1) × Placed k v w xs ys n (asked (store v xs) h n)
Outcome v w xs ys h n (Err Deep) = ⊥
Outcome v w xs ys h n (Err StoreFull) =
    (ys ≡ xs) × Passed 1 v w xs × IsCrowded (store v xs) (store w xs) h n
Outcome v w xs ys h n (Err Worn) = (ys ≡ xs) × Passed 0 v w xs × IsWorn w

-- how many refusals are counted after a build came to this, where there were so many before
abbrev pub refusals_after : Result (Unit {0}) BuildFault → ℕ → ℕ
refusals_after (Ok u) k = k
refusals_after (Err Deep) k = k
refusals_after (Err StoreFull) k = k + 1
refusals_after (Err Worn) k = k + 1

-- and whether it was told then that the numbers are used up
abbrev pub spent_after : Result (Unit {0}) BuildFault → Bool → Bool
spent_after (Ok u) s = s
spent_after (Err Deep) s = s
spent_after (Err StoreFull) s = s
spent_after (Err Worn) s = true
