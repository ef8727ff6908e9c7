use Rattle.std.proofs.Common.{◌<◌, ◌≤◌, length, ap, subst, ◌∙◌, arith, Ok}
use Rattle.term_syntax.specs.declared.scanner.Cut.{Cut}
use Rattle.term_syntax.specs.Shown.{piece_in, token_in}
use Rattle.term_syntax.specs.Tokens.{next_of}
use Rattle.term_syntax.proofs.Cutting.{read_none, read_blank, read_whole}
use Rattle.term_syntax.proofs.scanner.look_through.Goals as goal

pub loop-at-init : goal.loop-at-init
loop-at-init c = record { within = omega arith; read = read_none c.args.bytes.now }

pub loop-at-preserved-in-Blank : goal.loop-at-preserved-in-Blank
loop-at-preserved-in-Blank c =
    let l = c.loop-at in
    let bytes = c.args.bytes.now in
    let piece = c.in_ok-piece_at.ensures.piece ∙ ap (λ k. Ok (piece_in bytes k)) c.in-Blank.is in
    record {
      within = omega (arith, c.loop-at-test.true);
      read = read_blank bytes l.at c.loop-at-test.true piece l.invariant.read;
    }

pub loop-at-preserved : goal.loop-at-preserved
loop-at-preserved c =
    let l = c.loop-at in
    let bytes = c.args.bytes.now in
    let next = c.in-Whole.next in
    let t = token_in bytes c.in-Whole._token in
    let piece = c.in_ok-piece_at.ensures.piece ∙ ap (λ k. Ok (piece_in bytes k)) c.in-Whole.is in
    let P : Cut → Type 0 = λ k. l.at < next_of l.at (piece_in bytes k) in
    let Q : Cut → Type 0 = λ k. next_of l.at (piece_in bytes k) ≤ length bytes in
    let after = subst P c.in-Whole.is c.in_ok-piece_at.ensures.after in
    let fits = subst Q c.in-Whole.is c.in_ok-piece_at.ensures.fits in
    record {
      within = fits;
      read = read_whole bytes l.at next t c.loop-at-test.true after fits piece l.invariant.read;
    }
