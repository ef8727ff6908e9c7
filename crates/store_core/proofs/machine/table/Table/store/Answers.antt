use Rattle.std.proofs.Common.{◌∙◌, sym, arith}
use Rattle.store_core.proofs.Tables.{inside, written}
use Rattle.store_core.proofs.machine.table.Table.store.Goals as goal

pub index_mut-requires : goal.index_mut-requires
index_mut-requires c = let s = c.args.self.now in let e = s.words.ok.0 in let below = inside s.sizes s.words.items c.args.place.now c.in-Some.at c.in-Some.ensures (sym s.words.ok.0 ∙ s.whole) in omega arith

pub returns-in-Some-clause-words : goal.returns-in-Some-clause-words
returns-in-Some-clause-words c = let s = c.args.self.now in written s.sizes s.words.items c.args.place.now c.in-Some.at c.in-Some.ensures (sym s.words.ok.0 ∙ s.whole) c.args.word
