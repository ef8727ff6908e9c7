use Rattle.std.proofs.Common.{◌∙◌, sym}
use Rattle.term_syntax.proofs.Pieces.{digits_cut, value_again, no_value, value_past}
use Rattle.term_syntax.proofs.scanner.integer_at.Goals as goal

pub returns-then-place-bytes : goal.returns-then-place-bytes
returns-then-place-bytes c = value_past c.args.bytes.now c.args.place c.if-place-bytes.true

pub integer_of-requires : goal.integer_of-requires
integer_of-requires c = digits_cut c.args.bytes.now c.args.place c.number_end-end.result c.if-place-bytes.false c.number_end-end.ensures.end (sym c.is_ascii_digit.ensures.value ∙ c.if-is_ascii_digit.true)

pub returns-then-is_ascii_digit : goal.returns-then-is_ascii_digit
returns-then-is_ascii_digit c = c.integer_of.ensures ∙ value_again c.args.bytes.now c.args.place c.number_end-end.result c.if-place-bytes.false (sym c.is_ascii_digit.ensures.value ∙ c.if-is_ascii_digit.true) c.number_end-end.ensures.end

pub returns-else-is_ascii_digit : goal.returns-else-is_ascii_digit
returns-else-is_ascii_digit c = no_value c.args.bytes.now c.args.place c.if-place-bytes.false (sym c.is_ascii_digit.ensures.value ∙ c.if-is_ascii_digit.false)
