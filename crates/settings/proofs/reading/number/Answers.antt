use Rattle.std.proofs.Common.{◌≡◌, ◌∙◌, ap}
use Rattle.std.specs.Str.Parse.{ParsesUnsigned, ExplainsUnsignedError, HasUnsignedDigitsIfOk}
use Rattle.clap.specs.Words.{found_of, one_text}
use Rattle.settings.specs.Words.{name_of}
use Rattle.settings.proofs.Values.{most_small, number_read}
use Rattle.settings.proofs.reading.number.Goals as goal

pub returns : goal.returns
returns c = λ uses shows takes.
    let f = found_of c.args.matches.now in
    let named : c.name.result.now ≡ name_of c.args.option = c.name.ensures in
    c.unwrap_or.ensures
    ∙ number_read (λ bs r. ParsesUnsigned 64 10 bs r × ExplainsUnsignedError 10 bs r × HasUnsignedDigitsIfOk bs r) 64 (λ t r g. g.0)
    f c.args.option uses c.args.default c.get_one.result shows takes (most_small c.args.option)
    (λ e. c.get_one.ensures.none (ap (one_text f) named ∙ e)) (λ t e. c.get_one.ensures.value t (ap (one_text f) named ∙ e))
