use Rattle.std.proofs.Common.{◌+◌, take, drop, get_or, ap, sym, ◌∙◌}
use Rattle.std.proofs.lemmas.List.{take_rest}
use Rattle.std.proofs.lemmas.Bool.{ne_eqb}
use Rattle.rec_reader.specs.declared.scanner.Piece.TheVariants.{Whole}
use Rattle.rec_reader.specs.Tokens.{run_length, mark_of, mark_or_bad, token_of_run}
use Rattle.rec_reader.proofs.Pieces.{piece_run, piece_mark}
use Rattle.rec_reader.proofs.scanner.piece_at.Goals as goal

pub returns-then-is_name_byte-clause-piece : goal.returns-then-is_name_byte-clause-piece
returns-then-is_name_byte-clause-piece c =
    let bytes = c.args.bytes.now in
    let at = c.args.at in
    let more = c.run_length-more.result in
    let counted = c.run_length-more.ensures.counted in
    let token = c.token_of_run.ensures ∙ ap (λ n. token_of_run at (take (n + 1) (drop at bytes))) counted in
    let is = piece_run bytes at c.requires (sym c.is_space.ensures ∙ c.if-is_space.false) (ne_eqb (get_or bytes at 0) 37 c.if-bytes-at-eq37.false) (sym c.is_name_byte.ensures ∙ c.if-is_name_byte.true) in
    ap (λ t. Whole t more) token ∙ ap (λ n. Whole (token_of_run at (take (run_length (drop (at + 1) bytes) + 1) (drop at bytes))) n) counted ∙ sym is

pub returns-in-Some-clause-piece : goal.returns-in-Some-clause-piece
returns-in-Some-clause-piece c =
    let bytes = c.args.bytes.now in
    let at = c.args.at in
    let is = piece_mark bytes at c.requires (sym c.is_space.ensures ∙ c.if-is_space.false) (ne_eqb (get_or bytes at 0) 37 c.if-bytes-at-eq37.false) (sym c.is_name_byte.ensures ∙ c.if-is_name_byte.false) in
    let mark = ap mark_of (sym (take_rest bytes at)) ∙ sym c.mark_of.ensures.mark ∙ c.in-Some.is in
    sym (is ∙ ap (mark_or_bad at) mark)

pub returns-in-None-clause-piece : goal.returns-in-None-clause-piece
returns-in-None-clause-piece c =
    let bytes = c.args.bytes.now in
    let at = c.args.at in
    let is = piece_mark bytes at c.requires (sym c.is_space.ensures ∙ c.if-is_space.false) (ne_eqb (get_or bytes at 0) 37 c.if-bytes-at-eq37.false) (sym c.is_name_byte.ensures ∙ c.if-is_name_byte.false) in
    let mark = ap mark_of (sym (take_rest bytes at)) ∙ sym c.mark_of.ensures.mark ∙ c.in-None.is in
    sym (is ∙ ap (mark_or_bad at) mark)
