-- The steps of a call that is refused, and of a leave, clear the flags that were set.
use Rattle.std.proofs.Common.{◌≡◌, ◌≢◌, ℕ, zero, suc, ◌+◌, eqb, Bool, true, false, cond, [], ◌∷◌, ◌++◌, refl, sym, subst, arith, ne_eqb}
use Rattle.std.specs.Prelude.{Contains}
use Rattle.std.proofs.lemmas.List.Elements.{Contains-append_left, Contains-append_right}
use mathlib.Core.Logic.{dite}
use native.Mathlib.Decide.{ℕ_discrete}
use Rattle.lock_core.specs.declared.parts.LockStep.{LockStep}
use Rattle.lock_core.specs.declared.parts.LockStep.TheVariants.{Raise, Look, Lower, Take, Ask, Peek, Unask, Give}
use Rattle.busy_forbidden.specs.Entries.{Steps, ClearedBy, ClearsAll, turned_away}
use Rattle.busy_forbidden.specs.Exclusive.{FreesOthers, asked_one, asked_below, freed_one, freed_below, released, refused_at}

first_in : (x : LockStep × ℕ) (xs : Steps) → Contains (x ∷ xs) x
first_in x xs = (0, omega arith, refl)

-- a flag that is cleared is cleared also where steps come before
later_still : (xs ys : Steps) (x : LockStep) → ClearedBy ys x → ClearedBy (xs ++ ys) x
later_still xs ys Raise h = Contains-append_right xs ys _ h
later_still xs ys Look h = tt
later_still xs ys Lower h = tt
later_still xs ys Take h = tt
later_still xs ys (Ask j) h = Contains-append_right xs ys _ h
later_still xs ys (Peek j) h = tt
later_still xs ys (Unask j) h = tt
later_still xs ys Give h = tt

-- ys clear each flag that xs set
abbrev pub AllClearedBy : Steps → Steps → Type 0
AllClearedBy ys [] = Unit {0}
AllClearedBy ys (x ∷ xs) = ClearedBy ys x.0 × AllClearedBy ys xs

both_cleared : (ys xs zs : Steps) → AllClearedBy ys xs → AllClearedBy ys zs → AllClearedBy ys (xs ++ zs)
both_cleared ys [] zs a b = b
both_cleared ys (x ∷ xs) zs a b = (a.0, both_cleared ys xs zs a.1 b)

clears_both : (xs ys : Steps) → AllClearedBy ys xs → ClearsAll ys → ClearsAll (xs ++ ys)
clears_both [] ys a b = b
clears_both (x ∷ xs) ys a b = (later_still xs ys x.0 a.0, clears_both xs ys a.1 b)

pub choose : (P : Steps → Type 0) (xs ys : Steps) (b : Bool) → (b ≡ true → P xs) → (b ≡ false → P ys) → P (cond b xs ys)
choose P xs ys true p q = p refl
choose P xs ys false p q = q refl

frees_it : (i k : ℕ) → k ≢ i → Contains (freed_one i k) (Unask k, 0)
frees_it i k other = subst (λ (b : Bool). Contains {X = LockStep × ℕ} (cond b [] ((Unask k, 0) ∷ [])) (Unask k, 0)) (sym (ne_eqb k i other)) (first_in (Unask k, 0) [])

frees_below : (i m : ℕ) → FreesOthers i m (freed_below i m)
frees_below i zero k below other = absurd (omega arith)
frees_below i (suc m) k below other = dite (ℕ_discrete k m)
    (λ e. Contains-append_right (freed_below i m) (freed_one i m) _ (subst (λ (j : ℕ). Contains (freed_one i j) (Unask k, 0)) e (frees_it i k other)))
    (λ ne. Contains-append_left (freed_below i m) (freed_one i m) _ (frees_below i m k (omega arith) other))

-- a release frees each seat that it goes over, but the own
pub releases_all : (i m : ℕ) → FreesOthers i m (released i m)
releases_all i m k below other = Contains-append_left (freed_below i m) ((Give, 0) ∷ []) _ (frees_below i m k below other)

asked_cleared : (ys : Steps) (i m : ℕ) → FreesOthers i m ys → AllClearedBy ys (asked_below i m)
asked_cleared ys i zero frees = tt
asked_cleared ys i (suc m) frees = both_cleared ys (asked_below i m) (asked_one i m) (asked_cleared ys i m (λ k below. frees k (omega arith)))
    (choose (AllClearedBy ys) [] ((Ask m, 0) ∷ (Peek m, 0) ∷ []) (eqb m i) (λ _. tt) (λ e. (frees m (omega arith) (λ own. grind (arith, own)), (tt, tt))))

freed_cleared : (ys : Steps) (i m : ℕ) → AllClearedBy ys (freed_below i m)
freed_cleared ys i zero = tt
freed_cleared ys i (suc m) = both_cleared ys (freed_below i m) (freed_one i m) (freed_cleared ys i m)
    (choose (AllClearedBy ys) [] ((Unask m, 0) ∷ []) (eqb m i) (λ _. tt) (λ _. (tt, tt)))

release_clears : (i m : ℕ) → ClearsAll (released i m)
release_clears i m = clears_both (freed_below i m) ((Give, 0) ∷ []) (freed_cleared ((Give, 0) ∷ []) i m) (tt, tt)

-- an exclusive entry that is refused
pub refused_clears : (i j f : ℕ) → j ≢ i → ClearsAll (refused_at i j f)
refused_clears i j f other =
    let end : Steps = released i (j + 1) in
    let rest : Steps = (Ask j, 0) ∷ (Peek j, f) ∷ end in
    let within : (xs : Steps) → FreesOthers i (j + 1) (xs ++ end) = λ xs k below ne. Contains-append_right xs end _ (releases_all i (j + 1) k below ne) in (
      tt,
      clears_both (asked_below i j) rest (asked_cleared rest i j (λ k below. within ((Ask j, 0) ∷ (Peek j, f) ∷ []) k (omega arith)))
          (within ((Peek j, f) ∷ []) j (omega arith) other, (tt, release_clears i (j + 1))),
    )

-- a shared entry that is refused
pub turned_away_clears : (f : ℕ) → ClearsAll (turned_away f)
turned_away_clears f = (Contains-append_right ((Look, f) ∷ []) ((Lower, 0) ∷ []) _ (first_in (Lower, 0) []), (tt, (tt, tt)))
