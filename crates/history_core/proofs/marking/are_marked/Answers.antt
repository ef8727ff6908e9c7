use Rattle.std.proofs.Common.{◌∙◌, sym, arith}
use Rattle.history_core.proofs.MarkedNames.{marked_step, first_same, not_none}
use Rattle.history_core.proofs.marking.are_marked.Goals as goal

pub next-requires : goal.next-requires
next-requires c = tt

pub returns-in_default : goal.returns-in_default
returns-in_default c = (
  (λ h. cc),
  (λ same.
      let step = marked_step c.args.marks.now c.loop-name.name (omega (arith, c.requires, c.loop-name-test.true)) (c.has.ensures.0 c.if-has.true) in
      absurd (not_none c.loop-name.name _ c.loop-name.left c.in_default.ensures.steps.0 (c.loop-name.invariant.1 same ∙ step))),
)

pub returns-then-next-name : goal.returns-then-next-name
returns-then-next-name c = (
  (λ h. cc),
  (λ same.
      let step = marked_step c.args.marks.now c.loop-name.name (omega (arith, c.requires, c.loop-name-test.true)) (c.has.ensures.0 c.if-has.true) in
      let head = first_same c.in-Some.next.now c.loop-name.name c.next.new.self _ (sym c.in-Some.ensures.steps ∙ c.loop-name.invariant.1 same ∙ step) in
      absurd (c.if-next-name.true head)),
)
