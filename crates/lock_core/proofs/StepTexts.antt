-- Which texts are steps and lines.
use Rattle.std.proofs.Common.{◌≡◌, ◌≢◌, ℕ, ◌+◌, ◌<◌, ◌^◌, ◌%◌, List, [], ◌∷◌, ◌++◌, refl, sym, ap, ◌∙◌, subst, arith, Option, Some, None, codes}
use Rattle.std.specs.Prelude.{MatchOption}
use Rattle.std.specs.Fmt.{decimal}
use Rattle.std.proofs.lemmas.Fmt.{decimal_by_steps}
use Rattle.lock_core.specs.declared.parts.LockStep.{LockStep}
use Rattle.lock_core.specs.declared.parts.LockStep.TheVariants.{Raise, Look, Lower, Take, Ask, Peek, Unask, Give}
use Rattle.lock_core.specs.Lines.{Lacks, IsNoStepAlone, IsNoStepOn}
use Rattle.lock_core.specs.Schedule.{step_text, IsOnSeat, IsLine, IsBadLine}
use Rattle.lock_core.proofs.Separated.{same_parts, not_lacking, lacks_by, lacks_end}

-- a number in decimal has no space
pub decimal_lacks : (n : ℕ) → n < 2 ^ 64 → Lacks 32 (decimal n)
decimal_lacks = decimal_by_steps (λ n text. Lacks 32 text) (λ n small. lacks_end 32 (48 + n) [] (λ k h. absurd (omega arith)) (λ h. omega arith)) (λ n front large l. lacks_end 32 (48 + n % 10) front l (λ h. omega arith))

-- no step, where there is no space
no_step_alone : (n : ℕ) (text : List ℕ) → Lacks 32 text → IsNoStepAlone text → (x : LockStep) → IsOnSeat n x → text ≢ step_text x
no_step_alone n text l w Raise o e = w.no_raise e
no_step_alone n text l w Look o e = w.no_look e
no_step_alone n text l w Lower o e = w.no_lower e
no_step_alone n text l w Take o e = w.no_take e
no_step_alone n text l w (Ask j) o e = not_lacking 32 (codes "ask") (decimal j) (subst (Lacks 32) e l)
no_step_alone n text l w (Peek j) o e = not_lacking 32 (codes "peek") (decimal j) (subst (Lacks 32) e l)
no_step_alone n text l w (Unask j) o e = not_lacking 32 (codes "unask") (decimal j) (subst (Lacks 32) e l)
no_step_alone n text l w Give o e = w.no_give e

-- a text with a space is no step of one word, and else its parts are those of the step
no_step_parts : (n : ℕ) (word seat : List ℕ) → Lacks 32 word → ((j : ℕ) → j < n → word ≡ codes "ask" → seat ≢ decimal j) → ((j : ℕ) → j < n → word ≡ codes "peek" → seat ≢ decimal j)
    → ((j : ℕ) → j < n → word ≡ codes "unask" → seat ≢ decimal j) → (x : LockStep) → IsOnSeat n x → word ++ 32 ∷ seat ≢ step_text x
no_step_parts n word seat l a p u Raise o e = not_lacking 32 word seat (subst (Lacks 32) (sym e) (lacks_by 32 (codes "raise") refl))
no_step_parts n word seat l a p u Look o e = not_lacking 32 word seat (subst (Lacks 32) (sym e) (lacks_by 32 (codes "look") refl))
no_step_parts n word seat l a p u Lower o e = not_lacking 32 word seat (subst (Lacks 32) (sym e) (lacks_by 32 (codes "lower") refl))
no_step_parts n word seat l a p u Take o e = not_lacking 32 word seat (subst (Lacks 32) (sym e) (lacks_by 32 (codes "take") refl))
no_step_parts n word seat l a p u (Ask j) o e = let s = same_parts 32 word seat (codes "ask") (decimal j) l (lacks_by 32 (codes "ask") refl) e in a j o s.0 s.1
no_step_parts n word seat l a p u (Peek j) o e = let s = same_parts 32 word seat (codes "peek") (decimal j) l (lacks_by 32 (codes "peek") refl) e in p j o s.0 s.1
no_step_parts n word seat l a p u (Unask j) o e = let s = same_parts 32 word seat (codes "unask") (decimal j) l (lacks_by 32 (codes "unask") refl) e in u j o s.0 s.1
no_step_parts n word seat l a p u Give o e = not_lacking 32 word seat (subst (Lacks 32) (sym e) (lacks_by 32 (codes "give") refl))

abbrev pub IsStepAnswer : ℕ → List ℕ → Option LockStep → Type 0
IsStepAnswer n text r = MatchOption r ((x : LockStep) → IsOnSeat n x → text ≢ step_text x) (λ x. IsOnSeat n x × (text ≡ step_text x))

pub alone_answers : (n : ℕ) (text : List ℕ) (r : Option LockStep) → Lacks 32 text → MatchOption r (IsNoStepAlone text) (λ x. (text ≡ step_text x) × ((n : ℕ) → IsOnSeat n x)) → IsStepAnswer n text r
alone_answers n text None l a = no_step_alone n text l a
alone_answers n text (Some x) l a = (a.1 n, a.0)

pub no_seat_answers : (n : ℕ) (text word seat : List ℕ) (r : Option LockStep) → r ≡ None → Lacks 32 word → text ≡ word ++ 32 ∷ seat → ((i : ℕ) → i < n → seat ≢ decimal i) → IsStepAnswer n text r
no_seat_answers n text word seat r none l e not_one = subst (IsStepAnswer n text) (sym none) (λ x o h. no_step_parts n word seat l (λ j b _. not_one j b) (λ j b _. not_one j b) (λ j b _. not_one j b) x o (sym e ∙ h))

pub on_answers : (n : ℕ) (text word seat : List ℕ) (j : ℕ) (r : Option LockStep) → Lacks 32 word → text ≡ word ++ 32 ∷ seat → j < n → seat ≡ decimal j
    → MatchOption r (IsNoStepOn word) (λ x. (word ++ 32 ∷ decimal j ≡ step_text x) × ((n : ℕ) → j < n → IsOnSeat n x)) → IsStepAnswer n text r
on_answers n text word seat j None l e b is a = λ x o h. no_step_parts n word seat l (λ _ _ w _. a.no_ask w) (λ _ _ w _. a.no_peek w) (λ _ _ w _. a.no_unask w) x o (sym e ∙ h)
on_answers n text word seat j (Some x) l e b is a = (a.1 n b, e ∙ (ap (λ (s : List ℕ). word ++ 32 ∷ s) is ∙ a.0))

abbrev pub IsLineAnswer : ℕ → List ℕ → Option (ℕ × LockStep) → Type 0
IsLineAnswer n line r = MatchOption r (IsBadLine n line) (λ read. IsLine n line read.0 read.1)

pub no_space_answers : (n : ℕ) (line : List ℕ) (r : Option (ℕ × LockStep)) → r ≡ None → Lacks 32 line → IsLineAnswer n line r
no_space_answers n line r none l = subst (IsLineAnswer n line) (sym none) (λ i x h. not_lacking 32 (decimal i) (step_text x) (subst (Lacks 32) h.text l))

pub bad_seat_answers : (n : ℕ) (line seat text : List ℕ) (r : Option (ℕ × LockStep)) → n < 2 ^ 64 → r ≡ None → Lacks 32 seat → line ≡ seat ++ 32 ∷ text → ((i : ℕ) → i < n → seat ≢ decimal i) → IsLineAnswer n line r
bad_seat_answers n line seat text r fits none l e not_one = subst (IsLineAnswer n line) (sym none)
    (λ i x h. not_one i h.seat_there (same_parts 32 seat text (decimal i) (step_text x) l (decimal_lacks i (let b = h.seat_there in omega arith)) (sym e ∙ h.text)).0)

pub bad_step_answers : (n : ℕ) (line seat text : List ℕ) (r : Option (ℕ × LockStep)) → n < 2 ^ 64 → r ≡ None → Lacks 32 seat → line ≡ seat ++ 32 ∷ text → ((x : LockStep) → IsOnSeat n x → text ≢ step_text x) → IsLineAnswer n line r
bad_step_answers n line seat text r fits none l e not_one = subst (IsLineAnswer n line) (sym none)
    (λ i x h. not_one x h.on_seat (same_parts 32 seat text (decimal i) (step_text x) l (decimal_lacks i (let b = h.seat_there in omega arith)) (sym e ∙ h.text)).1)
