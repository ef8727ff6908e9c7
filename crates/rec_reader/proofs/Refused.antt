-- Bytes are refused at the first one at which nothing begins, and nowhere else.
use Rattle.std.proofs.Common.{◌≡◌, ◌<◌, ◌≤◌, ◌∙◌, ℕ, zero, suc, ◌+◌, List, [], ◌∷◌, ◌++◌, length, refl, ap, sym, subst, arith, Option, Some, None, ◌⊎◌, inl, inr, Result, Ok, Err}
use Rattle.std.proofs.lemmas.List.{append_assoc, length-append}
use Rattle.rec_reader.specs.declared.token.Token.{Token}
use Rattle.rec_reader.specs.declared.scanner.Piece.TheVariants.{Bad}
use Rattle.rec_reader.specs.Tokens.{piece_at, read_piece, tokens_from}
use Rattle.rec_reader.specs.Cut.{Part, IsPart, joined, ArePartsBefore, NothingBegins, RefusedAtFirstBad, OthersAreNotRefused}
use Rattle.rec_reader.proofs.Cutting.{with_part, HasFront, front_of, piece_read, shorter}
use Rattle.rec_reader.proofs.Joined.{nothing_begins, part_read}

-- the first bad byte of bytes that stand at a place
record IsBadFrom (at : ℕ) (bytes : List ℕ) (offset : ℕ) : Type 0 where
  parts : List Part
  rest : List ℕ
  join : bytes ≡ joined parts ++ rest
  place : at + length (joined parts) ≡ offset
  each : ArePartsBefore rest at parts
  some : 0 < length rest
  bad : NothingBegins offset rest

-- a part before bytes that are refused
before : (at : ℕ) (text rest : List ℕ) (o : Option Token) (offset : ℕ) → IsPart at text rest o → IsBadFrom (at + length text) rest offset → IsBadFrom at (text ++ rest) offset
before at text rest o offset p c =
    let P : List ℕ → Type 0 = λ r. IsPart at text r o in
    let long = length-append text (joined c.parts) in
    record {
      parts = record { text = text; token = o } ∷ c.parts;
      rest = c.rest;
      join = ap (λ r. text ++ r) c.join ∙ sym (append_assoc text (joined c.parts) c.rest);
      place = let e : at + length (text ++ joined c.parts) ≡ at + length text + length (joined c.parts) = omega (arith, long) in e ∙ c.place;
      each = (subst P c.join p, c.each);
      some = c.some;
      bad = c.bad;
    }

part_err : (o : Option Token) (r : Result (List Token) ℕ) (offset : ℕ) → with_part o r ≡ Err offset → r ≡ Err offset
part_err None r offset e = e
part_err (Some t) (Ok us) offset e = absurd cc
part_err (Some t) (Err at) offset e = e

abbrev Below : ℕ → Type 0
Below fuel = (at : ℕ) (rest : List ℕ) (offset : ℕ) → length rest ≤ fuel → tokens_from at 0 rest ≡ Err offset → IsBadFrom at rest offset

bad_front : (fuel at b : ℕ) (bs : List ℕ) (offset : ℕ) → Below fuel → length (b ∷ bs) ≤ suc fuel → tokens_from at 0 (b ∷ bs) ≡ Err offset → (piece_at at (b ∷ bs) ≡ Bad) ⊎ HasFront at b bs → IsBadFrom at (b ∷ bs) offset
bad_front fuel at b bs offset below h e (inl p) =
    let given : Err at ≡ Err offset = sym (ap (λ q. read_piece at q (λ n. tokens_from (at + 1) n bs)) p) ∙ e in
    let here : at ≡ offset = cc in
    record {
      parts = [];
      rest = b ∷ bs;
      join = refl;
      place = let z : at + 0 ≡ at = omega arith in z ∙ here;
      each = tt;
      some = omega arith;
      bad = subst (λ k. NothingBegins k (b ∷ bs)) here (nothing_begins at (b ∷ bs) p);
    }
bad_front fuel at b bs offset below h e (inr f) =
    let text = f.front.text in
    let rest = f.front.rest in
    let r = part_err f.token (tokens_from (at + length text) 0 rest) offset (sym (piece_read at b bs text rest f.more f.token f.front.is f.front.long f.piece) ∙ e) in
    let c = below (at + length text) rest offset (shorter fuel b bs text rest f.more h f.front.is f.front.long) r in
    let P : List ℕ → Type 0 = λ xs. IsBadFrom at xs offset in
    subst P (sym f.front.is) (before at text rest f.token offset f.front.part c)

bad_from : (fuel : ℕ) → Below fuel
bad_from fuel at [] offset h e = absurd cc
bad_from zero at (b ∷ bs) offset h e = absurd (omega (arith, h))
bad_from (suc fuel) at (b ∷ bs) offset h e = bad_front fuel at b bs offset (bad_from fuel) h e (front_of at b bs)

pub refused_at_first_bad : RefusedAtFirstBad
refused_at_first_bad bytes offset e =
    let c = bad_from (length bytes) 0 bytes offset (omega arith) e in
    let z : length (joined c.parts) ≡ 0 + length (joined c.parts) = omega arith in
    record { parts = c.parts; rest = c.rest; join = c.join; place = z ∙ c.place; each = c.each; some = c.some; bad = c.bad }

-- what reading gives where the rest of the bytes is refused
part_refused : (o : Option Token) (offset : ℕ) → with_part o (Err offset) ≡ Err offset
part_refused None offset = refl
part_refused (Some t) offset = refl

parts_refused : (at : ℕ) (parts : List Part) (rest : List ℕ) (offset : ℕ) → ArePartsBefore rest at parts → tokens_from (at + length (joined parts)) 0 rest ≡ Err offset → tokens_from at 0 (joined parts ++ rest) ≡ Err offset
parts_refused at [] rest offset h e = let z : at ≡ at + 0 = omega arith in ap (λ k. tokens_from k 0 rest) z ∙ e
parts_refused at (p ∷ ps) rest offset h e =
    let long = length-append p.text (joined ps) in
    let same : at + length p.text + length (joined ps) ≡ at + length (p.text ++ joined ps) = omega (arith, long) in
    ap (tokens_from at 0) (append_assoc p.text (joined ps) rest)
    ∙ part_read at p.text (joined ps ++ rest) p.token h.0
    ∙ ap (with_part p.token) (parts_refused (at + length p.text) ps rest offset h.1 (ap (λ k. tokens_from k 0 rest) same ∙ e))
    ∙ part_refused p.token offset

-- bytes at whose front nothing begins
is_bad : (at b : ℕ) (bs : List ℕ) → NothingBegins at (b ∷ bs) → (piece_at at (b ∷ bs) ≡ Bad) ⊎ HasFront at b bs → piece_at at (b ∷ bs) ≡ Bad
is_bad at b bs none (inl p) = p
is_bad at b bs none (inr f) = absurd (none f.front.text f.front.rest f.token f.front.is f.front.part)

rest_refused : (at : ℕ) (rest : List ℕ) → 0 < length rest → NothingBegins at rest → tokens_from at 0 rest ≡ Err at
rest_refused at [] some none = absurd (omega (arith, some))
rest_refused at (b ∷ bs) some none = ap (λ q. read_piece at q (λ n. tokens_from (at + 1) n bs)) (is_bad at b bs none (front_of at b bs))

pub others_are_not_refused : OthersAreNotRefused
others_are_not_refused bytes offset c =
    let z : 0 + length (joined c.parts) ≡ length (joined c.parts) = omega arith in
    ap (tokens_from 0 0) c.join
    ∙ parts_refused 0 c.parts c.rest offset c.each (ap (λ k. tokens_from k 0 c.rest) (z ∙ c.place) ∙ rest_refused offset c.rest c.some c.bad)
