use Rattle.std.proofs.Common.{sym, ◌∙◌}
use Rattle.rec_reader.proofs.Words.{mark_not_plain}
use Rattle.rec_reader.proofs.scanner.is_plain.Goals as goal

pub returns-then-is_frequent_mark : goal.returns-then-is_frequent_mark
returns-then-is_frequent_mark c = sym (mark_not_plain c.args.byte (sym c.is_frequent_mark.ensures ∙ c.if-is_frequent_mark.true))
