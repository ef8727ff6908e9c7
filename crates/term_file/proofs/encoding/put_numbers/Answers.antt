use Rattle.std.proofs.Common.{◌++◌, ◌∙◌, take, get_or, ap, sym}
use Rattle.std.proofs.lemmas.List.{flat_map_more, take_all, take_more}
use Rattle.byteorder.specs.Endian.{big_bytes}
use Rattle.term_file.specs.File.{numbers_bytes}
use Rattle.term_file.proofs.encoding.put_numbers.Goals as goal

pub loop-number-preserved : goal.loop-number-preserved
loop-number-preserved c =
    let l = c.loop-number in
    let numbers = c.args.numbers.now in
    let was = c.args.out.now.items in
    let n = get_or numbers l.number-index 0 in
    c.in_ok-put_u32.ensures
    ∙ ap (λ xs. xs ++ big_bytes 4 n) l.invariant
    ∙ flat_map_more (big_bytes 4) was (take l.number-index numbers) n
    ∙ ap (λ xs. was ++ numbers_bytes xs) (sym (take_more numbers l.number-index 0 c.loop-number-test.true))

pub returns : goal.returns
returns c =
    let l = c.loop-number in
    l.invariant ∙ ap (λ xs. c.args.out.now.items ++ numbers_bytes xs) (take_all l.number-index c.args.numbers.now c.loop-number-test.false)
