use Rattle.std.proofs.Common.{◌≡◌, ◌<◌, ◌≤◌, ◌∙◌, ℕ, List, length, drop, ap, sym, subst, arith, Ok}
use Rattle.std.proofs.lemmas.Result.{err_from_is_err_and}
use Rattle.term_syntax.specs.declared.scanner.Cut.{Cut}
use Rattle.term_syntax.specs.Shown.{piece_in, token_in, machine_in}
use Rattle.term_syntax.specs.Tokens.{next_of, piece_at}
use Rattle.term_syntax.proofs.Passing.{Passed, passed_none, passed_blank, passed_whole, passed_all, few_before, stopped_piece, stopped_token}
use Rattle.term_syntax.proofs.parser.run.Goals as goal

-- the piece that was cut, and the place after it
shown : (bytes : List ℕ) (at : ℕ) (c d : Cut) → piece_at at (drop at bytes) ≡ Ok (piece_in bytes c) → c ≡ d → piece_at at (drop at bytes) ≡ Ok (piece_in bytes d)
shown bytes at c d e is = e ∙ ap (λ k. Ok (piece_in bytes k)) is

later : (bytes : List ℕ) (at : ℕ) (c d : Cut) → at < next_of at (piece_in bytes c) → c ≡ d → at < next_of at (piece_in bytes d)
later bytes at c d h is = subst (λ k. at < next_of at (piece_in bytes k)) is h

fits_in : (bytes : List ℕ) (at : ℕ) (c d : Cut) → next_of at (piece_in bytes c) ≤ length bytes → c ≡ d → next_of at (piece_in bytes d) ≤ length bytes
fits_in bytes at c d h is = subst (λ k. next_of at (piece_in bytes k) ≤ length bytes) is h

pub loop-at-init : goal.loop-at-init
loop-at-init c = record { within = omega arith; passed = subst (Passed c.args.bytes.now 0) (sym c.start-machine.ensures) (passed_none c.args.bytes.now) }

pub loop-at-preserved-in-Blank : goal.loop-at-preserved-in-Blank
loop-at-preserved-in-Blank c =
    let l = c.loop-at in
    let bytes = c.args.bytes.now in
    record {
      within = omega (arith, c.loop-at-test.true);
      passed = passed_blank bytes l.at (machine_in bytes l.machine) c.loop-at-test.true (shown bytes l.at _ _ c.in_ok-piece_at.ensures.piece c.in-Blank.is) l.invariant.passed;
    }

pub loop-at-preserved : goal.loop-at-preserved
loop-at-preserved c =
    let l = c.loop-at in
    let bytes = c.args.bytes.now in
    let after = later bytes l.at _ _ c.in_ok-piece_at.ensures.after c.in-Whole.is in
    let fits = fits_in bytes l.at _ _ c.in_ok-piece_at.ensures.fits c.in-Whole.is in
    let piece = shown bytes l.at _ _ c.in_ok-piece_at.ensures.piece c.in-Whole.is in
    record {
      within = fits;
      passed = passed_whole bytes l.at c.in-Whole.next (token_in bytes c.in-Whole.token) (machine_in bytes l.machine) (machine_in bytes c.take.new.machine) c.loop-at-test.true after fits piece c.in_ok-take-in-Whole.ensures.taken l.invariant.passed;
    }

pub take-requires : goal.take-requires
take-requires c = few_before c.args.bytes.now c.loop-at.at (machine_in c.args.bytes.now c.loop-at.machine) c.loop-at-test.true c.requires c.loop-at.invariant.passed

pub returns-in_err-piece_at : goal.returns-in_err-piece_at
returns-in_err-piece_at c =
    let p = err_from_is_err_and c.from_residual.result c.from_residual.ensures.1 in
    let l = c.loop-at in
    let bytes = c.args.bytes.now in
    record {
      ran = rw p.1 tt;
      stopped = rw (p.1, p.2) (stopped_piece bytes l.at (machine_in bytes l.machine) c.in_err-piece_at.field-0.0 c.loop-at-test.true c.in_err-piece_at.ensures.refused l.invariant.passed);
    }

pub returns-in_err-take-in-Whole : goal.returns-in_err-take-in-Whole
returns-in_err-take-in-Whole c =
    let p = err_from_is_err_and c.from_residual-in_err-take-in-Whole.result c.from_residual-in_err-take-in-Whole.ensures.1 in
    let l = c.loop-at in
    let bytes = c.args.bytes.now in
    let after = later bytes l.at _ _ c.in_ok-piece_at.ensures.after c.in-Whole.is in
    let fits = fits_in bytes l.at _ _ c.in_ok-piece_at.ensures.fits c.in-Whole.is in
    let piece = shown bytes l.at _ _ c.in_ok-piece_at.ensures.piece c.in-Whole.is in
    record {
      ran = rw p.1 tt;
      stopped = rw (p.1, p.2) (stopped_token bytes l.at c.in-Whole.next (token_in bytes c.in-Whole.token) (machine_in bytes l.machine) c.in_err-take-in-Whole.field-0.0 c.loop-at-test.true after fits piece c.in_err-take-in-Whole.ensures.untaken l.invariant.passed);
    }

pub returns : goal.returns
returns c =
    let l = c.loop-at in
    record {
      ran = passed_all c.args.bytes.now l.at (machine_in c.args.bytes.now l.machine) c.loop-at-test.false l.invariant.within c.requires l.invariant.passed;
      stopped = tt;
    }
