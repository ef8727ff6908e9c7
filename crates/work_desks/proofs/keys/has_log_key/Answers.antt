use Rattle.std.proofs.Common.{◌∙◌, ap}
use Rattle.std.specs.Prelude.{nat_lt}
use Rattle.work_desks.specs.Keys.{number_of}
use Rattle.work_desks.proofs.keys.has_log_key.Goals as goal

pub returns : goal.returns
returns c = ap (λ n. nat_lt n 4611686018427387904) (c.number_of.ensures ∙ ap number_of c.last.ensures)
