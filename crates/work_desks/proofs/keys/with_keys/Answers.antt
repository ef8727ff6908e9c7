use Rattle.std.proofs.Common.{◌∙◌, sym}
use Rattle.work_desks.proofs.LastKeys.{keys_told}
use Rattle.work_desks.proofs.keys.with_keys.Goals as goal

pub returns-then-have_log_keys-clause-keys : goal.returns-then-have_log_keys-clause-keys
returns-then-have_log_keys-clause-keys c = keys_told c.args.log c.args.passes.now (sym c.have_log_keys.ensures ∙ c.if-have_log_keys.true)
