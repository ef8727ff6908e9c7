use Rattle.std.proofs.Common.{◌∙◌, ◌++◌, ℕ, length, ap}
use Rattle.std.specs.List.{flat_map}
use Rattle.byteorder.specs.Endian.{big_bytes}
use Rattle.term_file.specs.File.{magic, symbol_bytes, record_bytes, numbers_bytes}
use Rattle.term_file.proofs.Pieces.{seven}
use Rattle.term_file.proofs.encoding.put_file.Goals as goal

pub returns : goal.returns
returns c =
    let x1 = c.extend_from_slice.new.self.items in
    let x3 = c.put_symbols.new.out.items in
    seven c.args.out.now.items magic (big_bytes 4 (length c.args.symbols.now)) (flat_map symbol_bytes c.args.symbols.now) (big_bytes 4 (length c.args.table.now)) (flat_map record_bytes c.args.table.now) (big_bytes 4 (length c.args.roots.now)) (numbers_bytes c.args.roots.now)
    x1 c.put_u32.new.out.items x3 c.put_u32-2.new.out.items c.put_records.new.out.items c.put_u32-3.new.out.items c.put_numbers.new.out.items
    c.in_ok-extend_from_slice.ensures.items
    (c.in_ok-put_u32.ensures ∙ ap (λ (n : ℕ). x1 ++ big_bytes 4 n) c.requires.count)
    c.in_ok-put_symbols.ensures
    (c.in_ok-put_u32-2.ensures ∙ ap (λ (n : ℕ). x3 ++ big_bytes 4 n) c.len.ensures)
    c.in_ok-put_records.ensures
    c.in_ok-put_u32-3.ensures
    c.in_ok-put_numbers.ensures
