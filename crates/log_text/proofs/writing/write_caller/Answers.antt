use Rattle.std.proofs.Common.{rules, append_assoc}
use Rattle.log_text.proofs.writing.write_caller.Goals as goal

pub returns : goal.returns
returns c = search (rules, append_assoc)
