-- The tokens of bytes are those of parts that join to the bytes.
use Rattle.std.proofs.Common.{◌≡◌, ◌≤◌, ◌∙◌, ℕ, zero, suc, ◌+◌, List, [], ◌∷◌, ◌++◌, length, drop, take, Bool, true, false, eqb, refl, ap, sym, subst, arith, Option, Some, None, ◌⊎◌, inl, inr, Result, Ok, Err}
use Rattle.std.proofs.lemmas.List.{length-append}
use Rattle.std.proofs.lemmas.Bool.Decides.{Decides-eqb}
use Rattle.std.proofs.Math.Seq.{drop-append_seam, take-append_seam}
use Rattle.std.proofs.Math.Numerals.{add-one}
use Rattle.std.specs.Option.{option_to_list}
use Rattle.rec_reader.specs.declared.token.Token.{Token}
use Rattle.rec_reader.specs.declared.token.Token.TheVariants.{At}
use Rattle.rec_reader.specs.declared.token.Sign.{Sign}
use Rattle.rec_reader.specs.declared.scanner.Piece.{Piece}
use Rattle.rec_reader.specs.declared.scanner.Piece.TheVariants.{Blank, Whole, Bad}
use Rattle.rec_reader.specs.Tokens.{is_space, is_name_byte, run_length, comment_length, word_of, word_or_name, token_of_run, mark_of, mark_or_bad, piece_at, read_piece, after_token, tokens_from}
use Rattle.rec_reader.specs.Cut.{text_of, IsLongestRun, IsTextOf, IsPart, IsCut, TokensAreCut}
use Rattle.rec_reader.proofs.Reading.{passed_over}
use Rattle.rec_reader.proofs.Pieces.{first, second, third, fourth}
use Rattle.rec_reader.proofs.Parted.{commented, run_of, marked, no_sign, word_known}

split : {G : Type 0} (c : Bool) → (c ≡ true → G) → (c ≡ false → G) → G
split true then' else' = then' refl
split false then' else' = else' refl

-- what follows a part is read from its end on
pub passed : (b : ℕ) (bs text rest : List ℕ) (at more : ℕ) → b ∷ bs ≡ text ++ rest → length text ≡ more + 1 → tokens_from (at + 1) more bs ≡ tokens_from (at + length text) 0 rest
passed b bs text rest at more e n =
    let whole : length (b ∷ bs) ≡ length text + length rest = ap length e ∙ length-append text rest in
    let fits : more ≤ length bs = omega (arith, whole, n) in
    let left : drop more bs ≡ rest = sym (ap (λ k. drop k (b ∷ bs)) (n ∙ add-one more)) ∙ ap (drop (length text)) e ∙ drop-append_seam text rest in
    let same : at + 1 + more ≡ at + length text = omega (arith, n) in
    passed_over more (at + 1) bs fits ∙ ap (tokens_from (at + 1 + more) 0) left ∙ ap (λ k. tokens_from k 0 rest) same

-- a part before those of what follows it
before : (at : ℕ) (text rest : List ℕ) (o : Option Token) (ts : List Token) → IsPart at text rest o → IsCut (at + length text) rest ts → IsCut at (text ++ rest) (option_to_list o ++ ts)
before at text rest o ts p c =
    let P : List ℕ → Type 0 = λ r. IsPart at text r o in
    record {
      parts = record { text = text; token = o } ∷ c.parts;
      join = ap (λ r. text ++ r) c.join;
      spelled = ap (λ us. option_to_list o ++ us) c.spelled;
      each = (subst P (sym c.join) p, c.each);
    }

-- shorter bytes are cut
abbrev Below : ℕ → Type 0
Below fuel = (at : ℕ) (rest : List ℕ) (us : List Token) → length rest ≤ fuel → tokens_from at 0 rest ≡ Ok us → IsCut at rest us

after_ok : (t : Token) (r : Result (List Token) ℕ) (ts : List Token) → after_token t r ≡ Ok ts → (us : List Token) × (r ≡ Ok us) × (t ∷ us ≡ ts)
after_ok t (Ok us) ts e = let same : t ∷ us ≡ ts = cc in (us, refl, same)
after_ok t (Err at) ts e = absurd cc

-- bytes before which a part stands that has a text
pub record Front (at b : ℕ) (bs : List ℕ) (more : ℕ) (o : Option Token) : Type 0 where
  pub text : List ℕ
  pub rest : List ℕ
  pub is : b ∷ bs ≡ text ++ rest
  pub long : length text ≡ more + 1
  pub part : IsPart at text rest o

-- the piece of a part, of which so many bytes follow the first
abbrev pub piece_of : Option Token → ℕ → Piece
piece_of None more = Blank more
piece_of (Some t) more = Whole t more

-- what reading gives, with a part before it
abbrev pub with_part : Option Token → Result (List Token) ℕ → Result (List Token) ℕ
with_part None r = r
with_part (Some t) r = after_token t r

pub shorter : (fuel b : ℕ) (bs text rest : List ℕ) (more : ℕ) → length (b ∷ bs) ≤ suc fuel → b ∷ bs ≡ text ++ rest → length text ≡ more + 1 → length rest ≤ fuel
shorter fuel b bs text rest more h e n =
    let whole : length (b ∷ bs) ≡ length text + length rest = ap length e ∙ length-append text rest in
    omega (arith, whole, n, h)

comment_front : (at b : ℕ) (bs : List ℕ) → eqb b 37 ≡ true → Front at b bs (comment_length bs) None
comment_front at b bs c =
    let k = commented bs in
    record {
      text = b ∷ k.split.text;
      rest = k.split.rest;
      is = ap (λ xs. b ∷ xs) k.split.is;
      long = omega (arith, k.split.long);
      part = inr (record { words = k.split.text; is = ap (λ x. x ∷ k.split.text) ((Decides-eqb b 37).0 c); within = k.within; ends = k.ends });
    }

-- a longest run is the text of its token
run_known : (at : ℕ) (text rest : List ℕ) → IsLongestRun text rest → (o : Option Sign) → word_of text ≡ o → IsTextOf at text rest (word_or_name at (at + length text) o)
run_known at text rest run None w =
    (refl, refl, run, λ sign e. no_sign sign rest (sym (ap word_of e) ∙ w) (sym (ap (λ t. is_name_byte (t ++ rest)) e) ∙ run.each 0 run.some))
run_known at text rest run (Some sign) w = let k = word_known text rest sign run w in (refl, k.0, k.1)

-- a run at the front, with the token that is read of it
record RunFront (at b : ℕ) (bs : List ℕ) : Type 0 where
  token : Token
  piece : piece_at at (b ∷ bs) ≡ Whole token (run_length bs)
  front : Front at b bs (run_length bs) (Some token)

run_front : (at b : ℕ) (bs : List ℕ) → is_space b ≡ false → eqb b 37 ≡ false → is_name_byte (b ∷ bs) ≡ true → RunFront at b bs
run_front at b bs s c n =
    let r = run_of (b ∷ bs) in
    let text = r.split.text in
    let rest = r.split.rest in
    let long : length text ≡ run_length bs + 1 = r.split.long ∙ first (is_name_byte (b ∷ bs)) (run_length bs + 1) 0 n in
    let taken : b ∷ take (run_length bs) bs ≡ text = sym (ap (λ k. take k (b ∷ bs)) (long ∙ add-one (run_length bs))) ∙ ap (take (length text)) r.split.is ∙ take-append_seam text rest in
    let run : IsLongestRun text rest = record { some = omega (arith, long); each = r.each; longest = r.longest } in
    record {
      token = token_of_run at text;
      piece = third (is_space b) (eqb b 37) (is_name_byte (b ∷ bs)) _ _ _ _ s c n ∙ ap (λ t. Whole (token_of_run at t) (run_length bs)) taken;
      front = record { text = text; rest = rest; is = r.split.is; long = long; part = run_known at text rest run (word_of text) refl };
    }

-- a part at the front, as it is read
pub record HasFront (at b : ℕ) (bs : List ℕ) : Type 0 where
  pub more : ℕ
  pub token : Option Token
  pub piece : piece_at at (b ∷ bs) ≡ piece_of token more
  pub front : Front at b bs more token

mark_front : (at b : ℕ) (bs : List ℕ) (o : Option (Sign × ℕ)) → piece_at at (b ∷ bs) ≡ mark_or_bad at o → mark_of (b ∷ bs) ≡ o → (piece_at at (b ∷ bs) ≡ Bad) ⊎ HasFront at b bs
mark_front at b bs None p is = inl p
mark_front at b bs (Some m) p is =
    let k = marked (b ∷ bs) m is in
    inr (record {
      more = m.1;
      token = Some (At m.0 at);
      piece = p;
      front = record { text = text_of m.0; rest = k.rest; is = k.is; long = k.long; part = (refl, refl, k.ends) };
    })

-- nothing begins at the front, or a part does
pub front_of : (at b : ℕ) (bs : List ℕ) → (piece_at at (b ∷ bs) ≡ Bad) ⊎ HasFront at b bs
front_of at b bs =
    split (is_space b)
    (λ s. inr (record {
      more = 0;
      token = None;
      piece = first (is_space b) _ _ s;
      front = record { text = b ∷ []; rest = bs; is = refl; long = refl; part = inl (record { byte = b; is = refl; space = s }) };
    }))
    (λ s. split (eqb b 37)
    (λ c. inr (record { more = comment_length bs; token = None; piece = second (is_space b) (eqb b 37) _ _ _ s c; front = comment_front at b bs c }))
    (λ c. split (is_name_byte (b ∷ bs))
    (λ n. let r = run_front at b bs s c n in inr (record { more = run_length bs; token = Some r.token; piece = r.piece; front = r.front }))
    (λ n. mark_front at b bs (mark_of (b ∷ bs)) (fourth (is_space b) (eqb b 37) (is_name_byte (b ∷ bs)) _ _ _ _ s c n) refl)))

-- a piece is read, and then what follows it
pub piece_read : (at b : ℕ) (bs text rest : List ℕ) (more : ℕ) (o : Option Token) → b ∷ bs ≡ text ++ rest → length text ≡ more + 1 → piece_at at (b ∷ bs) ≡ piece_of o more → tokens_from at 0 (b ∷ bs) ≡ with_part o (tokens_from (at + length text) 0 rest)
piece_read at b bs text rest more None is long p =
    ap (λ q. read_piece at q (λ n. tokens_from (at + 1) n bs)) p ∙ passed b bs text rest at more is long
piece_read at b bs text rest more (Some t) is long p =
    ap (λ q. read_piece at q (λ n. tokens_from (at + 1) n bs)) p ∙ ap (after_token t) (passed b bs text rest at more is long)

part_ok : (o : Option Token) (r : Result (List Token) ℕ) (ts : List Token) → with_part o r ≡ Ok ts → (us : List Token) × (r ≡ Ok us) × (option_to_list o ++ us ≡ ts)
part_ok None r ts e = (ts, e, refl)
part_ok (Some t) r ts e = after_ok t r ts e

cut_front : (fuel at b : ℕ) (bs : List ℕ) (ts : List Token) → Below fuel → length (b ∷ bs) ≤ suc fuel → tokens_from at 0 (b ∷ bs) ≡ Ok ts → (piece_at at (b ∷ bs) ≡ Bad) ⊎ HasFront at b bs → IsCut at (b ∷ bs) ts
cut_front fuel at b bs ts below h e (inl p) =
    let bad : Err at ≡ Ok ts = sym (ap (λ q. read_piece at q (λ n. tokens_from (at + 1) n bs)) p) ∙ e in absurd cc
cut_front fuel at b bs ts below h e (inr f) =
    let text = f.front.text in
    let rest = f.front.rest in
    let a = part_ok f.token (tokens_from (at + length text) 0 rest) ts (sym (piece_read at b bs text rest f.more f.token f.front.is f.front.long f.piece) ∙ e) in
    let c = below (at + length text) rest a.0 (shorter fuel b bs text rest f.more h f.front.is f.front.long) a.1 in
    let P : List ℕ → Type 0 = λ xs. IsCut at xs (option_to_list f.token ++ a.0) in
    let Q : List Token → Type 0 = λ us. IsCut at (b ∷ bs) us in
    subst Q a.2 (subst P (sym f.front.is) (before at text rest f.token a.0 f.front.part c))

cut_from : (fuel : ℕ) → Below fuel
cut_from fuel at [] ts h e = let same : [] ≡ ts = cc in record { parts = []; join = refl; spelled = same; each = tt }
cut_from zero at (b ∷ bs) ts h e = absurd (omega (arith, h))
cut_from (suc fuel) at (b ∷ bs) ts h e = cut_front fuel at b bs ts (cut_from fuel) h e (front_of at b bs)

pub tokens_are_cut : TokensAreCut
tokens_are_cut bytes ts e = cut_from (length bytes) 0 bytes ts (omega arith) e
