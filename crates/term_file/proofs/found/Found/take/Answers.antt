use Rattle.std.proofs.Common.{Bool, ap}
use Rattle.term_file.specs.Outcome.{view}
use Rattle.term_file.specs.Found.{records_of}
use Rattle.term_file.specs.Reading as spec
use Rattle.term_file.proofs.Loops.{bad_due}
use Rattle.term_file.proofs.TableLaws.{not_new}
use Rattle.term_file.proofs.found.Found.take.Goals as goal

pub returns-in-Some-clause-taken : goal.returns-in-Some-clause-taken
returns-in-Some-clause-taken c =
    bad_due _ c.bad_at.result _ _ c.bad_at.ensures
    (ap (λ (b : Bool). spec.checked c.args.total c.args.last.now b (spec.with_record (records_of c.args.self.now) (view c.args.entry))) (not_new c.args.self.now.table _ (view c.args.entry) c.in-Some.ensures.found))
