use Rattle.std.proofs.Common.{arith}
use Rattle.std.proofs.lemmas.Result.{err_from_is_err_and}
use Rattle.term_file.specs.Parts.{contents_of_parts}
use Rattle.term_file.proofs.Decoded.{is_file, accepted}
use Rattle.term_file.proofs.Files.{file_takes}
use Rattle.term_file.proofs.decoding.decode.Goals as goal

pub returns-clause-found : goal.returns-clause-found
returns-clause-found c =
    is_file c.args.bytes.now (contents_of_parts c.in_ok-symbols.symbols c.in_ok-symbols.table c.in_ok-symbols.roots.items) (λ i. omega (arith, c.type_inv.bytes i)) c.in_ok-symbols.ensures.read

pub invariant_of-result : goal.invariant_of-result
invariant_of-result c = record {
  right = (file_takes c.args.bytes.now (contents_of_parts c.in_ok-symbols.symbols c.in_ok-symbols.table c.in_ok-symbols.roots.items) (λ i. omega (arith, c.type_inv.bytes i)) c.in_ok-symbols.ensures.read).right;
  count = c.in_ok-symbols.ensures.count;
}

pub returns-in_err-symbols-clause-accepted : goal.returns-in_err-symbols-clause-accepted
returns-in_err-symbols-clause-accepted c =
    let p = err_from_is_err_and c.from_residual.result c.from_residual.ensures.1 in
    rw (p.1, p.2) (accepted c.args.bytes.now c.in_err-symbols.field-0.0 c.in_err-symbols.ensures.read)
