-- A schedule comes to one thing alone.
use Rattle.std.proofs.Common.{◌≡◌, ◌≢◌, ◌⊎◌, ℕ, ◌+◌, ◌*◌, ◌<◌, ◌≤◌, ◌^◌, List, [], ◌∷◌, ◌++◌, refl, sym, ap, ◌∙◌, subst, ⊎_elim, arith, Result, Err}
use Rattle.std.specs.Fmt.{decimal}
use Rattle.std.specs.Str.Parse.{digits_value}
use Rattle.std.proofs.lemmas.Fmt.{decimal_is_IsNumeral}
use Rattle.lock_core.specs.declared.parts.LockStep.{LockStep}
use Rattle.lock_core.specs.declared.parts.LockStep.TheVariants.{Raise, Look, Lower, Take, Ask, Peek, Unask, Give}
use Rattle.lock_core.specs.declared.reading.LineFault.{LineFault}
use Rattle.lock_core.specs.Lock.{Lock, InPlace, after}
use Rattle.lock_core.specs.Schedule.{step_text, IsOnSeat, IsLine, IsBadLine, ComesTo}
use Rattle.lock_core.proofs.Separated.{same_parts}
use Rattle.lock_core.proofs.StepTexts.{decimal_lacks}

same_number : (m n : ℕ) → m < 2 ^ 64 → n < 2 ^ 64 → decimal m ≡ decimal n → m ≡ n
same_number m n a b e = sym (decimal_is_IsNumeral m a).1 ∙ (ap (digits_value 10) e ∙ (decimal_is_IsNumeral n b).1)

-- the first and the third byte tell the steps' words apart
abbrev tag : List ℕ → ℕ
tag [] = 0
tag (a ∷ []) = 0
tag (a ∷ b ∷ []) = 0
tag (a ∷ b ∷ c ∷ rest) = a * 1000 + c

same_step : (n : ℕ) → n ≤ 16 → (x y : LockStep) → IsOnSeat n x → IsOnSeat n y → step_text x ≡ step_text y → x ≡ y
same_step n few Raise Raise a b e = refl
same_step n few Look Look a b e = refl
same_step n few Lower Lower a b e = refl
same_step n few Take Take a b e = refl
same_step n few (Ask i) (Ask j) a b e = let d : decimal i ≡ decimal j = cc in ap Ask (same_number i j (omega arith) (omega arith) d)
same_step n few (Peek i) (Peek j) a b e = let d : decimal i ≡ decimal j = cc in ap Peek (same_number i j (omega arith) (omega arith) d)
same_step n few (Unask i) (Unask j) a b e = let d : decimal i ≡ decimal j = cc in ap Unask (same_number i j (omega arith) (omega arith) d)
same_step n few Give Give a b e = refl
same_step n few x y a b e = let t = ap tag e in absurd (omega arith)

same_line : (n : ℕ) → n ≤ 16 → (line : List ℕ) (i j : ℕ) (x y : LockStep) → IsLine n line i x → IsLine n line j y → (i ≡ j) × (x ≡ y)
same_line n few line i j x y a b =
    let p = a.seat_there in let q = b.seat_there in
    let parts = same_parts 32 (decimal i) (step_text x) (decimal j) (step_text y) (decimal_lacks i (omega arith)) (decimal_lacks j (omega arith)) (sym a.text ∙ b.text) in
    (same_number i j (omega arith) (omega arith) parts.0, same_step n few x y a.on_seat b.on_seat parts.1)

pub one_outcome : (n : ℕ) → n ≤ 16 → (l : Lock) (k : ℕ) (ls : List (List ℕ)) (r q : Result Lock LineFault) → ComesTo n l k ls r → ComesTo n l k ls q → r ≡ q
one_outcome n few l k [] r q a b = a ∙ sym b
one_outcome n few l k (line ∷ rest) r q a b =
    let Tried : ℕ → LockStep → Result Lock LineFault → Type 0 = λ i x r.
    ((InPlace l i x → ⊥) × (r ≡ Err record { kind = 16; line = k })) ⊎ (InPlace l i x × ComesTo n (after l i x) (k + 1) rest r) in
    let Read : Result Lock LineFault → Type 0 = λ r. (i : ℕ) × (x : LockStep) × IsLine n line i x × Tried i x r in
    let Bad : Result Lock LineFault → Type 0 = λ r. IsBadLine n line × (r ≡ Err record { kind = 15; line = k }) in
    ⊎_elim
    (λ (s : Bad r). ⊎_elim (λ (t : Bad q). s.1 ∙ sym t.1) (λ (t : Read q). absurd (s.0 t.0 t.1 t.2)) b)
    (λ (s : Read r). ⊎_elim (λ (t : Bad q). absurd (t.0 s.0 s.1 s.2))
    (λ (t : Read q).
    let same = same_line n few line t.0 s.0 t.1 s.1 t.2 s.2 in
    let theirs : Tried s.0 s.1 q = subst (λ (z : ℕ × LockStep). Tried z.0 z.1 q) (λ i. (same.0 i, same.1 i)) t.3 in
    ⊎_elim
    (λ (u : (InPlace l s.0 s.1 → ⊥) × (r ≡ Err record { kind = 16; line = k })). ⊎_elim (λ (v : (InPlace l s.0 s.1 → ⊥) × (q ≡ Err record { kind = 16; line = k })). u.1 ∙ sym v.1) (λ (v : InPlace l s.0 s.1 × ComesTo n (after l s.0 s.1) (k + 1) rest q). absurd (u.0 v.0)) theirs)
    (λ (u : InPlace l s.0 s.1 × ComesTo n (after l s.0 s.1) (k + 1) rest r). ⊎_elim (λ (v : (InPlace l s.0 s.1 → ⊥) × (q ≡ Err record { kind = 16; line = k })). absurd (v.0 u.0)) (λ (v : InPlace l s.0 s.1 × ComesTo n (after l s.0 s.1) (k + 1) rest q). one_outcome n few (after l s.0 s.1) (k + 1) rest r q u.1 v.1) theirs)
    s.3)
    b)
    a
