use Rattle.std.proofs.Common.{sym, ◌∙◌}
use Rattle.rec_reader.proofs.Words.{no_word}
use Rattle.rec_reader.proofs.scanner.word_of.Goals as goal

pub returns-else-may_be_word : goal.returns-else-may_be_word
returns-else-may_be_word c = sym (no_word c.args.run.now (sym c.may_be_word.ensures ∙ c.if-may_be_word.false))
