-- Reading on, piece by piece.
use Rattle.std.proofs.Common.{◌≡◌, ◌≤◌, ◌<◌, ◌∙◌, ℕ, zero, suc, ◌+◌, ◌-◌, List, [], ◌∷◌, ◌++◌, length, length-drop, drop, refl, ap, sym, arith, append_assoc, append-nil, Result, Ok, Err}
use Rattle.read_faults.specs.declared.fail.ReadFail.{ReadFail}
use Rattle.read_faults.specs.declared.fail.ReadFail.TheVariants.{Refused, Memory}
use Rattle.faults.specs.declared.refusal.Refusal.{Refusal}
use Rattle.read_faults.specs.Fault.{IsDue}
use Rattle.term_syntax.specs.Token.{Token, Piece, Blank, Whole}
use Rattle.term_syntax.specs.Reached.{HasTokens}
use Rattle.term_syntax.specs.Tokens.{tokens_from, tokens_of, after_token, after_piece, next_of, piece_at, read_piece}
use Rattle.std.proofs.lemmas.List.{drop_more, drop_all, drop-drop}

-- what reading gives, with tokens before it
abbrev pub after_tokens : List Token → Result (List Token) Refusal → Result (List Token) Refusal
after_tokens ts (Ok us) = Ok (ts ++ us)
after_tokens ts (Err f) = Err f

pub after_none : (r : Result (List Token) Refusal) → after_tokens [] r ≡ r
after_none (Ok us) = refl
after_none (Err f) = refl

-- at the end all tokens were read
pub all_cut : (bytes : List ℕ) (at : ℕ) (ts : List Token) → length bytes ≤ at → after_tokens ts (tokens_from at 0 (drop at bytes)) ≡ tokens_of bytes → tokens_of bytes ≡ Ok ts
all_cut bytes at ts h read =
    sym read
    ∙ ap (λ bs. after_tokens ts (tokens_from at 0 bs)) (drop_all at bytes h)
    ∙ ap Ok (append-nil ts)

-- bytes that belong to a piece are passed over
pub passed_over : (more at : ℕ) (bytes : List ℕ) → more ≤ length bytes → tokens_from at more bytes ≡ tokens_from (at + more) 0 (drop more bytes)
passed_over zero at bytes h = let e : at ≡ at + 0 = omega arith in ap (λ n. tokens_from n 0 bytes) e
passed_over (suc more) at [] h = absurd (omega arith)
passed_over (suc more) at (b ∷ bs) h =
    let e : at + 1 + more ≡ at + suc more = omega arith in
    passed_over more (at + 1) bs (omega arith) ∙ ap (λ n. tokens_from n 0 (drop more bs)) e

-- a piece is read at its place, and then what follows it
pub read_at : (bytes : List ℕ) (at : ℕ) → at < length bytes → tokens_from at 0 (drop at bytes) ≡ read_piece at (piece_at at (drop at bytes)) (λ next. tokens_from (at + 1) (next - (at + 1)) (drop (at + 1) bytes))
read_at bytes at h =
    let front = drop_more bytes at 0 h in
    ap (tokens_from at 0) front ∙ ap (λ bs. read_piece at (piece_at at bs) (λ next. tokens_from (at + 1) (next - (at + 1)) (drop (at + 1) bytes))) (sym front)

-- what follows a piece is read from its end on
pub read_after : (bytes : List ℕ) (at next : ℕ) → at < next → next ≤ length bytes → tokens_from (at + 1) (next - (at + 1)) (drop (at + 1) bytes) ≡ tokens_from next 0 (drop next bytes)
read_after bytes at next l h =
    let fits : next - (at + 1) ≤ length (drop (at + 1) bytes) = omega (arith, length-drop (at + 1) bytes) in
    let same : at + 1 + (next - (at + 1)) ≡ next = omega arith in
    passed_over (next - (at + 1)) (at + 1) (drop (at + 1) bytes) fits
    ∙ ap (tokens_from (at + 1 + (next - (at + 1))) 0) (drop-drop (next - (at + 1)) (at + 1) bytes)
    ∙ ap (λ n. tokens_from n 0 (drop n bytes)) same

pub piece_read : (bytes : List ℕ) (at : ℕ) (p : Piece) → at < length bytes → at < next_of at p → next_of at p ≤ length bytes → piece_at at (drop at bytes) ≡ Ok p → tokens_from at 0 (drop at bytes) ≡ after_piece p (tokens_from (next_of at p) 0 (drop (next_of at p) bytes))
piece_read bytes at p within l h e =
    read_at bytes at within
    ∙ ap (λ q. read_piece at q (λ next. tokens_from (at + 1) (next - (at + 1)) (drop (at + 1) bytes))) e
    ∙ ap (after_piece p) (read_after bytes at (next_of at p) l h)

pub after_push : (ts : List Token) (t : Token) (r : Result (List Token) Refusal) → after_tokens (ts ++ t ∷ []) r ≡ after_tokens ts (after_token t r)
after_push ts t (Ok us) = ap Ok (append_assoc ts (t ∷ []) us)
after_push ts t (Err at) = refl

-- a piece that is refused
pub due_at : (bytes : List ℕ) (at : ℕ) (ts : List Token) (e : ReadFail) → at < length bytes → after_tokens ts (tokens_from at 0 (drop at bytes)) ≡ tokens_of bytes → IsDue (piece_at at (drop at bytes)) e → IsDue (tokens_of bytes) e
due_at bytes at ts (Refused kind offset) h read due =
    sym read ∙ ap (after_tokens ts) (read_at bytes at h ∙ ap (λ q. read_piece at q (λ next. tokens_from (at + 1) (next - (at + 1)) (drop (at + 1) bytes))) due)
due_at bytes at ts Memory h read due = tt

-- all tokens that begin before a place were cut, and none of them is kept
abbrev pub ReadTo : List ℕ → ℕ → Type 0
ReadTo bytes at = (ts : List Token) × (after_tokens ts (tokens_from at 0 (drop at bytes)) ≡ tokens_of bytes)

pub read_none : (bytes : List ℕ) → ReadTo bytes 0
read_none bytes = ([], after_none (tokens_of bytes))

pub read_blank : (bytes : List ℕ) (at : ℕ) → at < length bytes → piece_at at (drop at bytes) ≡ Ok Blank → ReadTo bytes at → ReadTo bytes (at + 1)
read_blank bytes at h e r = (r.0, ap (after_tokens r.0) (sym (piece_read bytes at Blank h (omega arith) (omega (arith, h)) e)) ∙ r.1)

pub read_whole : (bytes : List ℕ) (at next : ℕ) (t : Token) → at < length bytes → at < next → next ≤ length bytes → piece_at at (drop at bytes) ≡ Ok (Whole t next) → ReadTo bytes at → ReadTo bytes next
read_whole bytes at next t h after fits e r = (
  r.0 ++ t ∷ [],
  after_push r.0 t (tokens_from next 0 (drop next bytes))
      ∙ ap (after_tokens r.0) (sym (piece_read bytes at (Whole t next) h after fits e))
      ∙ r.1,
)

pub read_all : (bytes : List ℕ) (at : ℕ) → length bytes ≤ at → ReadTo bytes at → HasTokens bytes
read_all bytes at h r = (r.0, all_cut bytes at r.0 h r.1)

pub read_due : (bytes : List ℕ) (at : ℕ) (e : ReadFail) → at < length bytes → ReadTo bytes at → IsDue (piece_at at (drop at bytes)) e → IsDue (tokens_of bytes) e
read_due bytes at e h r due = due_at bytes at r.0 e h r.1 due
