-- Parts that join to bytes have the bytes' tokens.
use Rattle.std.proofs.Common.{◌≡◌, ◌≢◌, ◌<◌, ◌∙◌, ℕ, suc, ◌+◌, List, [], ◌∷◌, ◌++◌, length, drop, take, true, false, ◌||◌, cond, eqb, refl, ap, sym, subst, arith, Option, Some, None, ◌⊎◌, inl, inr, Ok, codes}
use Rattle.std.specs.Prelude.{All}
use Rattle.std.specs.Option.{option_to_list}
use Rattle.std.proofs.lemmas.Bool.{both_ways}
use Rattle.std.proofs.lemmas.Bool.Decides.{eqb_tells}
use Rattle.std.proofs.lemmas.List.Elements.{All-head, All-tail}
use Rattle.std.proofs.Math.Seq.{take-append_seam}
use Rattle.rec_reader.specs.declared.token.Token.{Token}
use Rattle.rec_reader.specs.declared.token.Token.TheVariants.{Named, At}
use Rattle.rec_reader.specs.declared.token.Sign.{Sign}
use Rattle.rec_reader.specs.declared.token.Sign.TheVariants.{RecSpec, Sorts, Cons, Opns, Vars, Rules, Eval, EndSpec, If, AndIf, Joins, Parts, Arrow, Colon, Comma, Open, Close, Equal, Unequal}
use Rattle.rec_reader.specs.declared.scanner.Piece.TheVariants.{Blank, Whole, Bad}
use Rattle.rec_reader.specs.Tokens.{is_space, is_name_byte, run_length, comment_length, word_of, word_or_name, token_of_run, mark_or_bad, begins, piece_at, tokens_from}
use Rattle.rec_reader.specs.Cut.{text_of, IsLongestRun, EndsBefore, Part, IsPart, joined, tokens_in, AreParts, OthersAreNoCut, NothingBegins}
use Rattle.rec_reader.proofs.Pieces.{first, third}
use Rattle.rec_reader.proofs.Parted.{word_known}
use Rattle.rec_reader.proofs.Cutting.{piece_of, with_part, piece_read}

comment_long : (words rest : List ℕ) → All (λ b. b ≢ 10) words → ((rest ≡ []) ⊎ ((after : List ℕ) × (rest ≡ 10 ∷ after))) → comment_length (words ++ rest) ≡ length words
comment_long [] rest w (inl e) = ap comment_length e
comment_long [] rest w (inr a) = ap comment_length a.1
comment_long (b ∷ bs) rest w ends =
    let P : ℕ → Type 0 = λ x. x ≢ 10 in
    let more : ℕ = comment_length (bs ++ rest) in
    let others : more ≡ length bs = comment_long bs rest (All-tail P b bs w) ends in
    let long : more + 1 ≡ length (b ∷ bs) = omega (arith, others) in
    elim (eqb_tells b 10) [
      | inl h ↦ absurd (All-head P b bs w h.1)
      | inr h ↦ ap (λ t. cond t 0 (more + 1)) h.0 ∙ long
    ]

none_long : (rest : List ℕ) → is_name_byte rest ≡ false → run_length rest ≡ 0
none_long [] h = refl
none_long (b ∷ bs) h = ap (λ t. cond t (run_length bs + 1) 0) h

run_long : (text rest : List ℕ) → ((k : ℕ) → k < length text → is_name_byte (drop k (text ++ rest)) ≡ true) → is_name_byte rest ≡ false → run_length (text ++ rest) ≡ length text
run_long [] rest each longest = none_long rest longest
run_long (b ∷ bs) rest each longest =
    let more : ℕ = run_length (bs ++ rest) in
    let others : more ≡ length bs = run_long bs rest (λ k h. each (suc k) (omega (arith, h))) longest in
    let long : more + 1 ≡ length (b ∷ bs) = omega (arith, others) in
    ap (λ t. cond t (more + 1) 0) (each 0 (omega arith)) ∙ long

-- a name byte is neither white space nor '%'
isnt : (b k : ℕ) (bs : List ℕ) → is_name_byte (b ∷ bs) ≡ true → is_name_byte (k ∷ bs) ≡ false → eqb b k ≡ false
isnt b k bs n f =
    elim (eqb_tells b k) [
      | inl h ↦ absurd (both_ways (is_name_byte (k ∷ bs)) f (sym (ap (λ x. is_name_byte (x ∷ bs)) h.1) ∙ n))
      | inr h ↦ h.0
    ]

no_space : (b : ℕ) (bs : List ℕ) → is_name_byte (b ∷ bs) ≡ true → is_space b ≡ false
no_space b bs n =
    ap (λ t. t || eqb b 9 || eqb b 13 || eqb b 10) (isnt b 32 bs n refl)
    ∙ ap (λ t. t || eqb b 13 || eqb b 10) (isnt b 9 bs n refl)
    ∙ ap (λ t. t || eqb b 10) (isnt b 13 bs n refl)
    ∙ isnt b 10 bs n refl

-- the piece that is read where this text stands
record HasPiece (at : ℕ) (text rest : List ℕ) (o : Option Token) : Type 0 where
  byte : ℕ
  words : List ℕ
  is : text ≡ byte ∷ words
  piece : piece_at at (byte ∷ words ++ rest) ≡ piece_of o (length words)

run_piece : (at : ℕ) (text rest : List ℕ) (o : Option Sign) → IsLongestRun text rest → word_of text ≡ o → HasPiece at text rest (Some (word_or_name at (at + length text) o))
run_piece at [] rest o run w = absurd (omega (arith, run.some))
run_piece at (b ∷ t) rest o run w =
    let n : is_name_byte (b ∷ t ++ rest) ≡ true = run.each 0 run.some in
    let long : run_length (t ++ rest) ≡ length t = run_long t rest (λ k h. run.each (suc k) (omega (arith, h))) run.longest in
    record {
      byte = b;
      words = t;
      is = refl;
      piece =
          third (is_space b) (eqb b 37) (is_name_byte (b ∷ t ++ rest)) _ _ _ _ (no_space b (t ++ rest) n) (isnt b 37 (t ++ rest) n refl) n
          ∙ ap (λ k. Whole (token_of_run at (b ∷ take k (t ++ rest))) k) long
          ∙ ap (λ u. Whole (token_of_run at (b ∷ u)) (length t)) (take-append_seam t rest)
          ∙ ap (λ q. Whole (word_or_name at (at + length (b ∷ t)) q) (length t)) w;
    }

sign_piece : (at : ℕ) (sign : Sign) (rest : List ℕ) → EndsBefore rest sign → HasPiece at (text_of sign) rest (Some (At sign at))
sign_piece at RecSpec rest h = run_piece at (codes "REC-SPEC") rest (Some RecSpec) h refl
sign_piece at Sorts rest h = run_piece at (codes "SORTS") rest (Some Sorts) h refl
sign_piece at Cons rest h = run_piece at (codes "CONS") rest (Some Cons) h refl
sign_piece at Opns rest h = run_piece at (codes "OPNS") rest (Some Opns) h refl
sign_piece at Vars rest h = run_piece at (codes "VARS") rest (Some Vars) h refl
sign_piece at Rules rest h = run_piece at (codes "RULES") rest (Some Rules) h refl
sign_piece at Eval rest h = run_piece at (codes "EVAL") rest (Some Eval) h refl
sign_piece at EndSpec rest h = run_piece at (codes "END-SPEC") rest (Some EndSpec) h refl
sign_piece at If rest h = run_piece at (codes "if") rest (Some If) h refl
sign_piece at AndIf rest h = run_piece at (codes "and-if") rest (Some AndIf) h refl
sign_piece at Joins rest h = record { byte = 45; words = codes "><-"; is = refl; piece = refl }
sign_piece at Parts rest h = record { byte = 45; words = codes ">/<-"; is = refl; piece = refl }
sign_piece at Colon rest h = record { byte = 58; words = []; is = refl; piece = refl }
sign_piece at Comma rest h = record { byte = 44; words = []; is = refl; piece = refl }
sign_piece at Open rest h = record { byte = 40; words = []; is = refl; piece = refl }
sign_piece at Close rest h = record { byte = 41; words = []; is = refl; piece = refl }
sign_piece at Equal rest h = record { byte = 61; words = []; is = refl; piece = refl }
sign_piece at Unequal rest h = record { byte = 60; words = codes ">"; is = refl; piece = refl }
sign_piece at Arrow rest h = record {
  byte = 45;
  words = codes ">";
  is = refl;
  piece =
      ap (λ c. mark_or_bad at (cond c (Some (Joins, 3)) (cond (begins rest (codes "/<-")) (Some (Parts, 4)) (Some (Arrow, 1))))) h.0
      ∙ ap (λ c. mark_or_bad at (cond c (Some (Parts, 4)) (Some (Arrow, 1)))) h.1;
}

-- a run that is no sign's text is no reserved word
no_word : (text rest : List ℕ) → IsLongestRun text rest → ((sign : Sign) → text ≢ text_of sign) → word_of text ≡ None
no_word text rest run none = by (word_of text) refl
  where
    by : (o : Option Sign) → word_of text ≡ o → word_of text ≡ None
    by None e = e
    by (Some sign) e = absurd (none sign (word_known text rest sign run e).0)

part_piece : (at : ℕ) (text rest : List ℕ) (o : Option Token) → IsPart at text rest o → HasPiece at text rest o
part_piece at text rest None (inl s) = record { byte = s.byte; words = []; is = s.is; piece = first (is_space s.byte) _ _ s.space }
part_piece at text rest None (inr c) = record { byte = 37; words = c.words; is = c.is; piece = ap Blank (comment_long c.words rest c.within c.ends) }
part_piece at text rest (Some (Named n)) h =
    let P : Token → Type 0 = λ t. HasPiece at text rest (Some t) in
    let start = ap (λ s. Named (record { start = s; end = at + length text })) (sym h.0) in
    let end = ap (λ k. Named (record { start = n.start; end = k })) (sym h.1) in
    subst P (start ∙ end) (run_piece at text rest None h.2 (no_word text rest h.2 h.3))
part_piece at text rest (Some (At sign p)) h =
    let P : List ℕ → Type 0 = λ t. HasPiece at t rest (Some (At sign p)) in
    let Q : ℕ → Type 0 = λ q. HasPiece at (text_of sign) rest (Some (At sign q)) in
    subst P (sym h.1) (subst Q (sym h.0) (sign_piece at sign rest h.2))

is_no_bad : (o : Option Token) (more : ℕ) → piece_of o more ≡ Bad → ⊥
is_no_bad None more e = cc
is_no_bad (Some t) more e = cc

-- where nothing begins no part does
pub nothing_begins : (at : ℕ) (bytes : List ℕ) → piece_at at bytes ≡ Bad → NothingBegins at bytes
nothing_begins at bytes p text after o is part =
    let k = part_piece at text after o part in
    let here : bytes ≡ k.byte ∷ k.words ++ after = is ∙ ap (λ t. t ++ after) k.is in
    is_no_bad o (length k.words) (sym k.piece ∙ ap (piece_at at) (sym here) ∙ p)

-- a part is read, and then what follows it
pub part_read : (at : ℕ) (text rest : List ℕ) (o : Option Token) → IsPart at text rest o → tokens_from at 0 (text ++ rest) ≡ with_part o (tokens_from (at + length text) 0 rest)
part_read at text rest o part =
    let k = part_piece at text rest o part in
    let P : List ℕ → Type 0 = λ t. tokens_from at 0 (t ++ rest) ≡ with_part o (tokens_from (at + length t) 0 rest) in
    let long : length (k.byte ∷ k.words) ≡ length k.words + 1 = omega arith in
    subst P (sym k.is) (piece_read at k.byte (k.words ++ rest) (k.byte ∷ k.words) rest (length k.words) o refl long k.piece)

before_ok : (o : Option Token) (ts : List Token) → with_part o (Ok ts) ≡ Ok (option_to_list o ++ ts)
before_ok None ts = refl
before_ok (Some t) ts = refl

parts_read : (at : ℕ) (parts : List Part) → AreParts at parts → tokens_from at 0 (joined parts) ≡ Ok (tokens_in parts)
parts_read at [] h = refl
parts_read at (p ∷ ps) h =
    part_read at p.text (joined ps) p.token h.0
    ∙ ap (with_part p.token) (parts_read (at + length p.text) ps h.1)
    ∙ before_ok p.token (tokens_in ps)

pub others_are_no_cut : OthersAreNoCut
others_are_no_cut bytes tokens c =
    sym (ap (tokens_from 0 0) c.join) ∙ parts_read 0 c.parts c.each ∙ ap Ok c.spelled
