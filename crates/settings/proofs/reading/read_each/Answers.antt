use Rattle.std.proofs.Common.{◌∙◌, sym, String}
use Rattle.std.specs.Global.{Global}
use Rattle.std.specs.String.{string_bytes}
use Rattle.settings.specs.Words.{texts}
use Rattle.settings.specs.Line.{is_end_of_options}
use Rattle.settings.proofs.Basics.{any_among}
use Rattle.settings.proofs.Ends.{ends_refused}
use Rattle.settings.proofs.reading.read_each.Goals as goal

pub returns-then-ends_options : goal.returns-then-ends_options
returns-then-ends_options c = λ usage.
    ends_refused c.args.command (texts c.args.words.now)
    (any_among is_end_of_options (λ (word : String Global). string_bytes word) c.args.words.now ∙ (sym c.ends_options.ensures ∙ c.if-ends_options.true))

pub read_matches-requires : goal.read_matches-requires
read_matches-requires c =
    any_among is_end_of_options (λ (word : String Global). string_bytes word) c.args.words.now ∙ (sym c.ends_options.ensures ∙ c.if-ends_options.false)
