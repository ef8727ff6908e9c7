-- A history without a Collect only adds pairs.
use Rattle.std.proofs.Common.{◌≡◌, ℕ, false, [], ◌∷◌, ◌++◌, refl, sym, ◌∙◌}
use Rattle.std.specs.List.{AllByRecursion}
use Rattle.history_core.specs.TermSet.{TermSet, tree_over}
use Rattle.history_core.specs.Entry.{Entry, Make, Find, Roots, Collect, is_collect, Made, IsStep, after}
use Rattle.history_core.specs.Chronicle.{History, Legal, left_by}
use Rattle.history_core.proofs.Sets.{Grows, grows_none, grows_on, grows_pair, pair_other}

pub legal_parts : (rows : ℕ) (s : TermSet) (xs ys : History) → Legal rows s (xs ++ ys) → Legal rows s xs × Legal rows (left_by s xs) ys
legal_parts rows s [] ys l = (tt, l)
legal_parts rows s (x ∷ xs) ys l = let rest = legal_parts rows (after s x.0 x.1) xs ys l.1 in ((l.0, rest.0), rest.1)

pub legal_both : (rows : ℕ) (s : TermSet) (xs ys : History) → Legal rows s xs → Legal rows (left_by s xs) ys → Legal rows s (xs ++ ys)
legal_both rows s [] ys l m = m
legal_both rows s (x ∷ xs) ys l m = (l.0, legal_both rows (after s x.0 x.1) xs ys l.1 m)

pub left_parts : (s : TermSet) (xs ys : History) → left_by s (xs ++ ys) ≡ left_by (left_by s xs) ys
left_parts s [] ys = refl
left_parts s (x ∷ xs) ys = left_parts (after s x.0 x.1) xs ys

-- none of the entries is a Collect
abbrev pub Adds : History → Type 0
Adds l = AllByRecursion (λ (y : ℕ × Entry). is_collect y.1 ≡ false) l

pub step_grows : (rows : ℕ) (s : TermSet) (caller : ℕ) (e : Entry) → IsStep rows s e → is_collect e ≡ false → Grows s.held (after s caller e).held
step_grows rows s caller (Make number head args row) step kind = grows_pair s.held row (tree_over s.held head args) step.2
step_grows rows s caller (Find seen head args row) step kind = grows_none s.held
step_grows rows s caller (Roots seen names) step kind = grows_none s.held
step_grows rows s caller (Collect number kept) step kind = cc

pub history_grows : (rows : ℕ) (s : TermSet) (l : History) → Legal rows s l → Adds l → Grows s.held (left_by s l).held
history_grows rows s [] legal adds = grows_none s.held
history_grows rows s (y ∷ l) legal adds =
    grows_on (step_grows rows s y.0 y.1 legal.0 adds.0) (history_grows rows (after s y.0 y.1) l legal.1 adds.1)

-- a name stands for what it stood for, unless a Make gave it
pub step_leaves : (s : TermSet) (caller : ℕ) (e : Entry) (n : ℕ) → is_collect e ≡ false → (Made e n → ⊥) → (after s caller e).held n ≡ s.held n
step_leaves s caller (Make number head args row) n kind other = pair_other s.held row (tree_over s.held head args) n (λ e. other (sym e))
step_leaves s caller (Find seen head args row) n kind other = refl
step_leaves s caller (Roots seen names) n kind other = refl
step_leaves s caller (Collect number kept) n kind other = cc

pub history_leaves : (s : TermSet) (l : History) (n : ℕ) → Adds l → AllByRecursion (λ (y : ℕ × Entry). Made y.1 n → ⊥) l → (left_by s l).held n ≡ s.held n
history_leaves s [] n adds others = refl
history_leaves s (y ∷ l) n adds others =
    history_leaves (after s y.0 y.1) l n adds.1 others.1 ∙ step_leaves s y.0 y.1 n adds.0 others.0
