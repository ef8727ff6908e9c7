use Rattle.std.proofs.Common.{false, sym, ap, ◌∙◌, ◌==◌}
use Rattle.std.specs.Option.{option_copied, option_map_or}
use Rattle.rec_reader.proofs.Words.{begins_first}
use Rattle.rec_reader.proofs.scanner.begins_with.Goals as goal

pub returns-in-Some : goal.returns-in-Some
returns-in-Some c =
    ap (λ o. option_map_or (λ x. x == c.args.byte) o false) (sym (ap option_copied c.in-Some.is) ∙ c.first.ensures.value)
    ∙ begins_first c.args.bytes.now c.args.byte

pub returns-in-None : goal.returns-in-None
returns-in-None c =
    ap (λ o. option_map_or (λ x. x == c.args.byte) o false) (sym (ap option_copied c.in-None.is) ∙ c.first.ensures.value)
    ∙ begins_first c.args.bytes.now c.args.byte
