-- Reading on, piece by piece.
use Rattle.std.proofs.Common.{◌≡◌, ◌≤◌, ◌<◌, ◌∙◌, ℕ, zero, suc, ◌+◌, List, [], ◌∷◌, ◌++◌, length, length-drop, drop, refl, ap, sym, arith, append_assoc, Result, Ok, Err}
use Rattle.rec_reader.specs.declared.token.Token.{Token}
use Rattle.rec_reader.specs.declared.scanner.Piece.TheVariants.{Blank, Whole, Bad}
use Rattle.rec_reader.specs.Tokens.{tokens_from, after_token, piece_at, read_piece}
use Rattle.std.proofs.lemmas.List.{drop_more, drop-drop}

-- what reading gives, with tokens before it
abbrev pub after_tokens : List Token → Result (List Token) ℕ → Result (List Token) ℕ
after_tokens ts (Ok us) = Ok (ts ++ us)
after_tokens ts (Err at) = Err at

-- bytes that belong to a piece are passed over
pub passed_over : (more at : ℕ) (bytes : List ℕ) → more ≤ length bytes → tokens_from at more bytes ≡ tokens_from (at + more) 0 (drop more bytes)
passed_over zero at bytes h = let e : at ≡ at + 0 = omega arith in ap (λ n. tokens_from n 0 bytes) e
passed_over (suc more) at [] h = absurd (omega arith)
passed_over (suc more) at (b ∷ bs) h =
    let e : at + 1 + more ≡ at + suc more = omega arith in
    passed_over more (at + 1) bs (omega arith) ∙ ap (λ n. tokens_from n 0 (drop more bs)) e

-- a piece is read at its place, and then what follows it
pub read_at : (bytes : List ℕ) (at : ℕ) → at < length bytes → tokens_from at 0 (drop at bytes) ≡ read_piece at (piece_at at (drop at bytes)) (λ more. tokens_from (at + 1) more (drop (at + 1) bytes))
read_at bytes at h =
    let front = drop_more bytes at 0 h in
    ap (tokens_from at 0) front ∙ ap (λ bs. read_piece at (piece_at at bs) (λ more. tokens_from (at + 1) more (drop (at + 1) bytes))) (sym front)

pub after_push : (ts : List Token) (t : Token) (r : Result (List Token) ℕ) → after_tokens (ts ++ t ∷ []) r ≡ after_tokens ts (after_token t r)
after_push ts t (Ok us) = ap Ok (append_assoc ts (t ∷ []) us)
after_push ts t (Err at) = refl

-- what follows a piece is read from its end on
pub read_after : (bytes : List ℕ) (at more next : ℕ) → at + more < length bytes → next ≡ at + (more + 1) → tokens_from (at + 1) more (drop (at + 1) bytes) ≡ tokens_from next 0 (drop next bytes)
read_after bytes at more next h e =
    let fits : more ≤ length (drop (at + 1) bytes) = omega (arith, length-drop (at + 1) bytes) in
    let same : at + 1 + more ≡ next = omega arith in
    passed_over more (at + 1) (drop (at + 1) bytes) fits
    ∙ ap (tokens_from (at + 1 + more) 0) (drop-drop more (at + 1) bytes)
    ∙ ap (λ n. tokens_from n 0 (drop n bytes)) same

pub blank_read : (bytes : List ℕ) (at more next : ℕ) → at + more < length bytes → next ≡ at + (more + 1) → piece_at at (drop at bytes) ≡ Blank more → tokens_from at 0 (drop at bytes) ≡ tokens_from next 0 (drop next bytes)
blank_read bytes at more next h e p =
    read_at bytes at (omega arith)
    ∙ ap (λ q. read_piece at q (λ n. tokens_from (at + 1) n (drop (at + 1) bytes))) p
    ∙ read_after bytes at more next h e

pub whole_read : (bytes : List ℕ) (at more next : ℕ) (t : Token) → at + more < length bytes → next ≡ at + (more + 1) → piece_at at (drop at bytes) ≡ Whole t more → tokens_from at 0 (drop at bytes) ≡ after_token t (tokens_from next 0 (drop next bytes))
whole_read bytes at more next t h e p =
    read_at bytes at (omega arith)
    ∙ ap (λ q. read_piece at q (λ n. tokens_from (at + 1) n (drop (at + 1) bytes))) p
    ∙ ap (after_token t) (read_after bytes at more next h e)

pub bad_read : (bytes : List ℕ) (at : ℕ) → at < length bytes → piece_at at (drop at bytes) ≡ Bad → tokens_from at 0 (drop at bytes) ≡ Err at
bad_read bytes at h p =
    read_at bytes at h ∙ ap (λ q. read_piece at q (λ n. tokens_from (at + 1) n (drop (at + 1) bytes))) p
