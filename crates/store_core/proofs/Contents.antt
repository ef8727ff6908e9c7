-- The hash of rows that are read one after another.
use Rattle.std.proofs.Common.{◌≡◌, ℕ, suc, ◌<◌, List, [], ◌∷◌, ◌++◌, length, get_or, drop, map, Bor, ap, sym, ◌∙◌}
use Rattle.std.proofs.Math.Seq.{drop-cons, drop-length}
use Rattle.store_model.specs.declared.view.KnownWord.{KnownWord}
use Rattle.store_model.specs.Machine.{words_known}
use Rattle.hash_buckets.specs.Hash.{mixed, mixed_all}

-- one row more
pub mixed_on : (first h next : ℕ) (rows : List (Bor ℕ)) (row : Bor ℕ) → h ≡ mixed_all first (map (λ r. r.now) rows) → next ≡ mixed h row.now → next ≡ mixed_all first (map (λ r. r.now) (rows ++ row ∷ []))
mixed_on first h next [] row e f = f ∙ ap (λ (n : ℕ). mixed n row.now) e
mixed_on first h next (r ∷ rows) row e f = mixed_on (mixed first r.now) h next rows row e f

-- one word more, before those that are known
pub known_more : (r w value : ℕ) (ws : List ℕ) (old rest : List KnownWord) → w < length ws → value ≡ get_or ws w 0 → old ≡ words_known r (suc w) (drop (suc w) ws) ++ rest → ◌≡◌ {A = List KnownWord} (record { row = r; word = w; value = value } ∷ old) (words_known r w (drop w ws) ++ rest)
known_more r w value ws old rest l e f =
    ap (λ (n : ℕ). record { row = r; word = w; value = n } ∷ old) e ∙ (ap (λ (xs : List KnownWord). record { row = r; word = w; value = get_or ws w 0 } ∷ xs) f
    ∙ ap (λ (xs : List ℕ). words_known r w xs ++ rest) (sym (drop-cons ws w 0 l)))

-- no word is left, and all are before those that were known
pub known_none : (r : ℕ) (ws : List ℕ) → words_known r (length ws) (drop (length ws) ws) ≡ []
known_none r ws = ap (words_known r (length ws)) (drop-length ws)
