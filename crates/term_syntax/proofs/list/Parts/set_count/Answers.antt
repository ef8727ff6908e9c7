use Rattle.std.proofs.Common.{ap, ◌∙◌, arith, set, length}
use Rattle.term_syntax.specs.declared.machine.Entry.{Entry}
use Rattle.term_syntax.specs.Counts.{counted}
use Rattle.term_syntax.proofs.Keeping.{kept_at, kept_past}
use Rattle.term_syntax.proofs.list.Parts.set_count.Goals as goal

pub returns-then-part-len : goal.returns-then-part-len
returns-then-part-len c =
    let items = c.self.inside.items.items in
    let d = c.index_mut.result.now in
    let n = c.args.count in
    ap (λ (p : Entry). set items c.args.part (record p { count = n })) c.index_mut.ensures.value
    ∙ kept_at items c.args.part n d (omega (arith, c.len.ensures, c.if-part-len.true))
    ∙ ap (λ es. counted es c.args.part n) c.self.view_is

pub returns-else-part-len : goal.returns-else-part-len
returns-else-part-len c = kept_past c.args.self.now c.args.part c.args.count (omega (arith, c.len.ensures, c.if-part-len.false, ap length c.self.view_is))
