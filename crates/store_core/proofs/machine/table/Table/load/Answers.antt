use Rattle.std.proofs.Common.{◌∙◌, sym, arith}
use Rattle.store_core.proofs.Tables.{inside, read}
use Rattle.store_core.proofs.machine.table.Table.load.Goals as goal

pub index-requires-in-Some : goal.index-requires-in-Some
index-requires-in-Some c = let s = c.args.self.now in let e = s.words.ok.0 in let below = inside s.sizes s.words.items c.args.place.now c.in-Some.word c.in-Some.ensures (sym s.words.ok.0 ∙ s.whole) in omega arith

pub returns-in-Some : goal.returns-in-Some
returns-in-Some c = let s = c.args.self.now in read s.sizes s.words.items c.args.place.now c.in-Some.word c.in-Some.ensures (sym s.words.ok.0 ∙ s.whole) c.index-in-Some.result.now c.index-in-Some.ensures
