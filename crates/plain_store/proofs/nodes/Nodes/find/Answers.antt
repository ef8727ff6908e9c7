use Rattle.std.proofs.Common.{◌∙◌, ap, sym, subst, arith}
use Rattle.plain_store.specs.Slots.{Slots}
use Rattle.plain_store.specs.Index.{word_at, IsIndexedTo}
use Rattle.plain_store.proofs.Indexing.{passed_all}
use Rattle.plain_store.proofs.nodes.Nodes.find.Goals as goal

pub returns-then-word-clause-absent : goal.returns-then-word-clause-absent
returns-then-word-clause-absent c =
    let x = c.self.inside.index in
    let indexed = subst (λ (t : Slots). IsIndexedTo c.self.inside.fresh t.slots x) c.self.view_is c.self.invariant in
    let vacant_there = ap (word_at x) (sym c.loop-passed.invariant.place) ∙ sym c.word-word.ensures ∙ c.if-word.true in
    passed_all c.self.inside.fresh c.args.self.now.slots x (c.args.head, c.args.arguments.now) c.args.hashed c.loop-passed.passed c.requires.hashed indexed c.loop-passed.invariant.none (λ lt. vacant_there)

pub returns-clause-absent : goal.returns-clause-absent
returns-clause-absent c =
    let x = c.self.inside.index in
    let indexed = subst (λ (t : Slots). IsIndexedTo c.self.inside.fresh t.slots x) c.self.view_is c.self.invariant in
    passed_all c.self.inside.fresh c.args.self.now.slots x (c.args.head, c.args.arguments.now) c.args.hashed c.loop-passed.passed c.requires.hashed indexed c.loop-passed.invariant.none
    (λ lt. absurd (omega (arith, lt, c.loop-passed-test.false, c.len-passed-end.ensures)))
