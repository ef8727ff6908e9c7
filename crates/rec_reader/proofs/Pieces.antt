-- What begins at a place of the bytes.
use Rattle.std.proofs.Common.{◌≡◌, ◌<◌, ◌∙◌, ℕ, ◌+◌, List, ◌∷◌, length, drop, take, get_or, Bool, true, false, cond, eqb, ap, sym, Option}
use Rattle.std.proofs.lemmas.List.{drop_more}
use Rattle.std.proofs.Math.Numerals.{add-one}
use Rattle.rec_reader.specs.declared.token.Sign.{Sign}
use Rattle.rec_reader.specs.declared.scanner.Piece.TheVariants.{Whole}
use Rattle.rec_reader.specs.Tokens.{is_space, is_name_byte, run_length, word_of, mark_of, mark_or_bad, token_of_run, word_or_name, piece_at}

run_front : (b : ℕ) (bs : List ℕ) → is_name_byte (b ∷ bs) ≡ true → run_length (b ∷ bs) ≡ run_length bs + 1
run_front b bs n = ap (λ t. cond t (run_length bs + 1) 0) n

-- a run goes on by one name byte
pub run_more : (bytes : List ℕ) (at : ℕ) → at < length bytes → is_name_byte (drop at bytes) ≡ true → run_length (drop at bytes) ≡ run_length (drop (at + 1) bytes) + 1
run_more bytes at h n =
    let front = drop_more bytes at 0 h in
    ap run_length front ∙ run_front (get_or bytes at 0) (drop (at + 1) bytes) (sym (ap is_name_byte front) ∙ n)

pub first : {A : Type 0} (s : Bool) (x y : A) → s ≡ true → cond s x y ≡ x
first s x y e = ap (λ t. cond t x y) e

pub second : {A : Type 0} (s c : Bool) (x y z : A) → s ≡ false → c ≡ true → cond s x (cond c y z) ≡ y
second s c x y z e f = ap (λ t. cond t x (cond c y z)) e ∙ ap (λ t. cond t y z) f

pub third : {A : Type 0} (s c n : Bool) (x y z w : A) → s ≡ false → c ≡ false → n ≡ true → cond s x (cond c y (cond n z w)) ≡ z
third s c n x y z w e f g =
    ap (λ t. cond t x (cond c y (cond n z w))) e ∙ ap (λ t. cond t y (cond n z w)) f ∙ ap (λ t. cond t z w) g

pub fourth : {A : Type 0} (s c n : Bool) (x y z w : A) → s ≡ false → c ≡ false → n ≡ false → cond s x (cond c y (cond n z w)) ≡ w
fourth s c n x y z w e f g =
    ap (λ t. cond t x (cond c y (cond n z w))) e ∙ ap (λ t. cond t y (cond n z w)) f ∙ ap (λ t. cond t z w) g

-- a run begins where a name byte stands
pub piece_run : (bytes : List ℕ) (at : ℕ) → at < length bytes → is_space (get_or bytes at 0) ≡ false → eqb (get_or bytes at 0) 37 ≡ false → is_name_byte (drop at bytes) ≡ true → piece_at at (drop at bytes) ≡ Whole (token_of_run at (take (run_length (drop (at + 1) bytes) + 1) (drop at bytes))) (run_length (drop (at + 1) bytes))
piece_run bytes at h s c n =
    let front = drop_more bytes at 0 h in
    let more : ℕ = run_length (drop (at + 1) bytes) in
    let taken : take (more + 1) (drop at bytes) ≡ get_or bytes at 0 ∷ take more (drop (at + 1) bytes) = ap (take (more + 1)) front ∙ ap (λ n. take n (get_or bytes at 0 ∷ drop (at + 1) bytes)) (add-one more) in
    ap (piece_at at) front ∙ third _ _ _ _ _ _ _ s c (sym (ap is_name_byte front) ∙ n) ∙ ap (λ run. Whole (token_of_run at run) more) (sym taken)

-- a mark stands where nothing else begins
pub piece_mark : (bytes : List ℕ) (at : ℕ) → at < length bytes → is_space (get_or bytes at 0) ≡ false → eqb (get_or bytes at 0) 37 ≡ false → is_name_byte (drop at bytes) ≡ false → piece_at at (drop at bytes) ≡ mark_or_bad at (mark_of (drop at bytes))
piece_mark bytes at h s c n =
    let front = drop_more bytes at 0 h in
    ap (piece_at at) front ∙ fourth _ _ _ _ _ _ _ s c (sym (ap is_name_byte front) ∙ n) ∙ ap (λ bs. mark_or_bad at (mark_of bs)) (sym front)

-- the token of a run that was cut out
pub run_token : (start end : ℕ) (run : List ℕ) (o : Option Sign) → word_of run ≡ o → start + length run ≡ end → token_of_run start run ≡ word_or_name start end o
run_token start end run o e n = ap (λ w. word_or_name start (start + length run) w) e ∙ ap (λ m. word_or_name start m o) n
