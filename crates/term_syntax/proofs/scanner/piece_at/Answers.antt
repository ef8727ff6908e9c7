use Rattle.std.proofs.Common.{◌≡◌, ◌<◌, ◌∙◌, ◌+◌, ℕ, List, ◌∷◌, length, drop, get_or, ap, sym, arith}
use Rattle.std.proofs.lemmas.List.{drop_more}
use Rattle.term_syntax.specs.Tokens.{mark_of, mark_piece, piece_at}
use Rattle.term_syntax.proofs.scanner.piece_at.Goals as goal

-- the piece that begins with this byte
begins : (bytes : List ℕ) (at byte : ℕ) → at < length bytes → get_or bytes at 0 ≡ byte → piece_at at (drop at bytes) ≡ piece_at at (byte ∷ drop (at + 1) bytes)
begins bytes at byte h e = ap (piece_at at) (drop_more bytes at 0 h) ∙ ap (λ b. piece_at at (b ∷ drop (at + 1) bytes)) e

pub returns-in-40 : goal.returns-in-40
returns-in-40 c =
    let is = c.in-40.is in
    let e = c.mark.ensures in
    record {
      begins = e.begins;
      piece = begins c.args.bytes.now c.args.at 40 c.requires is ∙ ap (λ b. mark_piece c.args.at (mark_of b)) (sym is) ∙ e.mark;
      after = omega (arith, e.after);
      fits = omega (arith, e.after, c.requires);
      refused = tt;
    }

pub returns-in-41 : goal.returns-in-41
returns-in-41 c =
    let is = c.in-41.is in
    let e = c.mark-in-41.ensures in
    record {
      begins = e.begins;
      piece = begins c.args.bytes.now c.args.at 41 c.requires is ∙ ap (λ b. mark_piece c.args.at (mark_of b)) (sym is) ∙ e.mark;
      after = omega (arith, e.after);
      fits = omega (arith, e.after, c.requires);
      refused = tt;
    }

pub returns-in-91 : goal.returns-in-91
returns-in-91 c =
    let is = c.in-91.is in
    let e = c.mark-in-91.ensures in
    record {
      begins = e.begins;
      piece = begins c.args.bytes.now c.args.at 91 c.requires is ∙ ap (λ b. mark_piece c.args.at (mark_of b)) (sym is) ∙ e.mark;
      after = omega (arith, e.after);
      fits = omega (arith, e.after, c.requires);
      refused = tt;
    }

pub returns-in-93 : goal.returns-in-93
returns-in-93 c =
    let is = c.in-93.is in
    let e = c.mark-in-93.ensures in
    record {
      begins = e.begins;
      piece = begins c.args.bytes.now c.args.at 93 c.requires is ∙ ap (λ b. mark_piece c.args.at (mark_of b)) (sym is) ∙ e.mark;
      after = omega (arith, e.after);
      fits = omega (arith, e.after, c.requires);
      refused = tt;
    }

pub returns-in-44 : goal.returns-in-44
returns-in-44 c =
    let is = c.in-44.is in
    let e = c.mark-in-44.ensures in
    record {
      begins = e.begins;
      piece = begins c.args.bytes.now c.args.at 44 c.requires is ∙ ap (λ b. mark_piece c.args.at (mark_of b)) (sym is) ∙ e.mark;
      after = omega (arith, e.after);
      fits = omega (arith, e.after, c.requires);
      refused = tt;
    }
