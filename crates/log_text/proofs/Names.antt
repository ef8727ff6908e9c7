-- The texts of names in turn.
use Rattle.std.proofs.Common.{◌≡◌, ◌∙◌, ℕ, List, [], ◌∷◌, ◌++◌, append_assoc, append-nil, ◌+◌, ◌<◌, take, length, get_or, ap, sym}
use Rattle.std.specs.Prelude.{decimal}
use Rattle.std.proofs.lemmas.List.{map_more}
use Rattle.term_model.specs.declared.Row.{Row}
use Rattle.log_text.specs.Lines.{names, names_text}

pub names_last : (ns : List ℕ) (n : ℕ) → names_text (ns ++ n ∷ []) ≡ names_text ns ++ (32 ∷ decimal n)
names_last [] n = ap (λ (ds : List ℕ). 32 ∷ ds) (append-nil (decimal n))
names_last (m ∷ ns) n =
    ap (λ (ds : List ℕ). 32 ∷ (decimal m ++ ds)) (names_last ns n)
    ∙ ap (λ (ds : List ℕ). 32 ∷ ds) (sym (append_assoc (decimal m) (names_text ns) (32 ∷ decimal n)))

-- one row more
pub one_more : (old : List ℕ) (rows : List Row) (i : ℕ) (d : Row) → i < length rows
    → (old ++ names_text (names (take i rows))) ++ (32 ∷ []) ++ decimal (get_or rows i d).0 ≡ old ++ names_text (names (take (i + 1) rows))
one_more old rows i d l =
    append_assoc (old ++ names_text (names (take i rows))) (32 ∷ []) (decimal (get_or rows i d).0)
    ∙ (append_assoc old (names_text (names (take i rows))) (32 ∷ decimal (get_or rows i d).0)
    ∙ ap (λ (ts : List ℕ). old ++ ts) (sym (ap names_text (map_more (λ (r : Row). r.0) rows i d l) ∙ names_last (names (take i rows)) (get_or rows i d).0)))
