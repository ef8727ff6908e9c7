-- The entries of desks are those of the passes that they give back, and a log of their lines is one
-- of all these.
use Rattle.std.proofs.Common.{◌≡◌, ℕ, zero, suc, ◌+◌, List, [], ◌∷◌, ◌++◌, get_or, length, map, append_assoc, append-nil, refl, sym, ap, ◌∙◌, arith}
use Rattle.std.specs.Prelude.{Some, None, Option, IfSome, slice_get, unwrap_or}
use Rattle.std.proofs.lemmas.Option.{same_Some}
use Rattle.std.proofs.lemmas.List.{map_push}
use Rattle.history_core.specs.declared.entry.Entry.{Entry}
use Rattle.log_text.specs.Lines.{lines_of, caller_text, callers_from}
use Rattle.node_rows.specs.declared.store.Pass.{Pass}
use Rattle.node_rows.specs.Told.{view_of}
use Rattle.shared_desk.specs.Code.{Contents}
use Rattle.shared_desk.specs.Pass.{PassView}
use Rattle.work_desks.specs.NewDesks.{AreBack}
use Rattle.work_desks.specs.Texts.{AddsCaller}

abbrev pub entries_of_desk : Contents → List Entry
entries_of_desk d = d.pass.entries

abbrev pub entries_of_pass : Pass → List Entry
entries_of_pass p = (view_of p).store.entries

-- a list that has these values in turn
pub same_lists : {A : Type 0} (f : A → List Entry) (xs : List A) (lists : List (List Entry)) → length xs ≡ length lists
    → ((k : ℕ) (x : A) → slice_get xs k ≡ Some x → get_or lists k [] ≡ f x) → map f xs ≡ lists
same_lists f [] [] e each = refl
same_lists f [] (l ∷ ls) e each = absurd (omega (arith, e))
same_lists f (x ∷ xs) [] e each = absurd (omega (arith, e))
same_lists f (x ∷ xs) (l ∷ ls) e each =
    ap (λ (es : List Entry). es ∷ map f xs) (sym (each 0 x refl))
    ∙ ap (λ (ms : List (List Entry)). l ∷ ms) (same_lists f xs ls (omega (arith, e)) (λ k y at. each (suc k) y at))

mapped_at : {A : Type 0} (g : A → List Entry) (xs : List A) (k : ℕ) (x : A) → slice_get xs k ≡ Some x → get_or (map g xs) k [] ≡ g x
mapped_at g [] zero x e = absurd cc
mapped_at g [] (suc k) x e = absurd cc
mapped_at g (y ∷ ys) zero x e = ap g (same_Some y x e)
mapped_at g (y ∷ ys) (suc k) x e = mapped_at g ys k x e

pub long_map : {A B : Type 0} (g : A → B) (xs : List A) → length (map g xs) ≡ length xs
long_map g [] = refl
long_map g (x ∷ xs) = ap suc (long_map g xs)

-- the entries of desks are those of the passes that they gave back
pub back_entries : (desks : List Contents) (passes : List Pass) → AreBack desks passes → map entries_of_pass passes ≡ map entries_of_desk desks
back_entries desks passes back = same_lists entries_of_pass passes (map entries_of_desk desks) (back.count ∙ sym (long_map entries_of_desk desks))
    (λ k p at.
    let b = back.each k p at in
    mapped_at entries_of_desk desks k b.desk b.at ∙ sym (ap (λ (x : PassView). x.entries) b.back.seen))

-- the callers' steps, one caller more
pub callers_last : (k : ℕ) (lists : List (List Entry)) (es : List Entry) → callers_from k (lists ++ es ∷ []) ≡ callers_from k lists ++ (caller_text (k + length lists) ++ lines_of es)
callers_last k [] es = append-nil (caller_text k ++ lines_of es) ∙ ap (λ (j : ℕ). caller_text j ++ lines_of es) (omega arith)
callers_last k (l ∷ ls) es =
    ap (λ (ts : List ℕ). (caller_text k ++ lines_of l) ++ ts) (callers_last (suc k) ls es ∙ ap (λ (j : ℕ). callers_from (suc k) ls ++ (caller_text j ++ lines_of es)) (omega arith))
    ∙ sym (append_assoc (caller_text k ++ lines_of l) (callers_from (suc k) ls) (caller_text (k + suc (length ls)) ++ lines_of es))

-- a log of callers has this one more, whose number is next
pub one_caller_more : (old new : Option (List ℕ)) (head : List ℕ) (ds : List Contents) (d : Contents) (caller : ℕ) → caller ≡ length ds
    → IfSome old (λ text. text ≡ head ++ callers_from 0 (map entries_of_desk ds)) → AddsCaller old new caller (entries_of_desk d)
    → IfSome new (λ text. text ≡ head ++ callers_from 0 (map entries_of_desk (ds ++ d ∷ [])))
one_caller_more old None head ds d caller same told adds = tt
one_caller_more None (Some text) head ds d caller same told adds = absurd (cc)
one_caller_more (Some before) (Some text) head ds d caller same told adds =
    let step = caller_text caller ++ lines_of (entries_of_desk d) in
    let lists = map entries_of_desk ds in
    let is : text ≡ before ++ step = ap (λ (o : Option (List ℕ)). unwrap_or o []) adds in
    let number : caller ≡ 0 + length lists = omega (arith, same, long_map entries_of_desk ds) in
    is ∙ (ap (λ (ts : List ℕ). ts ++ step) told ∙ (append_assoc head (callers_from 0 lists) step
    ∙ ap (λ (ts : List ℕ). head ++ ts)
    (ap (λ (j : ℕ). callers_from 0 lists ++ (caller_text j ++ lines_of (entries_of_desk d))) number
    ∙ (sym (callers_last 0 lists (entries_of_desk d)) ∙ ap (callers_from 0) (sym (map_push entries_of_desk ds d))))))
