use Rattle.std.proofs.Common.{length, get_or, sym, ap, ◌∙◌}
use Rattle.term_model.specs.declared.Head.{Head}
use Rattle.store_model.specs.Calls.{words_of}
use Rattle.node_rows.specs.Rows.{names}
use Rattle.node_rows.specs.Steps.{over}
use Rattle.term_create.proofs.Arguments.{argument_at}
use Rattle.term_create.proofs.words.later_word.Goals as goal

pub returns-in-App : goal.returns-in-App
returns-in-App c =
    let rows = c.args.args.now in
    argument_at c.in-App.field-0.0 (length (names rows)) rows c.args.k c.requires.later ∙ ap (λ (f : Head). get_or (words_of (over f (names rows))) c.args.k 0) (sym c.in-App.is)

pub returns-in-Cons : goal.returns-in-Cons
returns-in-Cons c =
    let rows = c.args.args.now in
    argument_at 4294967298 2 rows c.args.k c.requires.later ∙ ap (λ (f : Head). get_or (words_of (over f (names rows))) c.args.k 0) (sym c.in-Cons.is)
