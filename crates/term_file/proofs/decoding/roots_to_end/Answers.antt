use Rattle.std.proofs.Common.{◌∙◌, ℕ, eqb, sym, ap}
use Rattle.std.proofs.lemmas.Result.{err_from_is_err_and}
use Rattle.term_file.specs.Reading.{number_where}
use Rattle.term_file.specs.Found.{records_of}
use Rattle.term_file.proofs.Files.{due_at_root_count, due_at_roots, due_at_end, read_whole}
use Rattle.term_file.proofs.Loops.{same_due}
use Rattle.term_file.proofs.decoding.roots_to_end.Goals as goal

pub returns-in_err-count : goal.returns-in_err-count
returns-in_err-count c symbols size =
    let counted = ap (λ (k : ℕ). number_where c.args.total 4 (λ n. eqb c.args.found.now.used k) c.args.bytes.now) size in
    let p = err_from_is_err_and c.from_residual.result c.from_residual.ensures.1 in
    rw (p.1, p.2) (due_at_root_count c.args.total symbols (records_of c.args.found.now) c.args.bytes.now c.in_err-count.field-0.0 (same_due _ _ c.in_err-count.field-0.0 counted c.in_err-count.ensures))

pub returns-in_err-roots : goal.returns-in_err-roots
returns-in_err-roots c symbols size =
    let counted = ap (λ (k : ℕ). number_where c.args.total 4 (λ n. eqb c.args.found.now.used k) c.args.bytes.now) size in
    let p = err_from_is_err_and c.from_residual-in_err-roots.result c.from_residual-in_err-roots.ensures.1 in
    rw (p.1, p.2) (due_at_roots c.args.total symbols (records_of c.args.found.now) c.args.bytes.now _ (sym counted ∙ c.in_ok-count.ensures) c.in_err-roots.field-0.0 c.in_err-roots.ensures)

pub returns-in_err-ended : goal.returns-in_err-ended
returns-in_err-ended c symbols size =
    let counted = ap (λ (k : ℕ). number_where c.args.total 4 (λ n. eqb c.args.found.now.used k) c.args.bytes.now) size in
    let p = err_from_is_err_and c.from_residual-in_err-ended.result c.from_residual-in_err-ended.ensures.1 in
    rw (p.1, p.2) (due_at_end c.args.total symbols (records_of c.args.found.now) c.args.bytes.now _ (sym counted ∙ c.in_ok-count.ensures) _ c.in_ok-roots.ensures c.in_err-ended.field-0.0 c.in_err-ended.ensures)

pub returns : goal.returns
returns c symbols size =
    let counted = ap (λ (k : ℕ). number_where c.args.total 4 (λ n. eqb c.args.found.now.used k) c.args.bytes.now) size in
    read_whole c.args.total symbols (records_of c.args.found.now) c.args.bytes.now _ (sym counted ∙ c.in_ok-count.ensures) _ c.in_ok-roots.ensures c.in_ok-ended.ensures
