use Rattle.std.proofs.Common.{◌≡◌, ◌+◌, ◌-◌, length, take, drop, arith, ap, sym, ◌∙◌, length-take-le, length-drop, Some, ℕ, List}
use Rattle.rec_reader.specs.Tokens.{word_of}
use Rattle.rec_reader.proofs.Pieces.{run_token}
use Rattle.rec_reader.proofs.scanner.token_of_run.Goals as goal

cut : (bytes : List ℕ) (at more : ℕ) → take (at + more + 1 - at) (drop at bytes) ≡ take (more + 1) (drop at bytes)
cut bytes at more = let e : at + more + 1 - at ≡ more + 1 = omega arith in ap (λ n. take n (drop at bytes)) e

pub returns-in-Some : goal.returns-in-Some
returns-in-Some c =
    let bytes = c.args.bytes.now in
    let at = c.args.at in
    let more = c.args.more in
    let run : List ℕ = take (more + 1) (drop at bytes) in
    let fits : length run ≡ more + 1 = length-take-le (more + 1) (drop at bytes) (omega (arith, length-drop at bytes)) in
    sym (run_token at (at + more + 1) run (Some c.in-Some.sign) (ap word_of (sym (cut bytes at more)) ∙ sym c.word_of.ensures ∙ c.in-Some.is) (omega (arith, fits)))
