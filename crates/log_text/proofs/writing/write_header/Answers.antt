use Rattle.std.proofs.Common.{rules, append_assoc}
use Rattle.log_text.proofs.writing.write_header.Goals as goal

pub returns : goal.returns
returns c = search (rules, append_assoc)
