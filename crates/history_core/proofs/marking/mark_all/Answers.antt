use Rattle.std.proofs.Common.{◌≡◌, ◌∙◌, ◌<◌, ◌+◌, ◌∷◌, [], ℕ, List, drop, length, sym, ap, subst, arith}
use Rattle.std.specs.Prelude.{Contains}
use Rattle.std.proofs.lemmas.List.{drop_more, drop_all, get_or_default}
use Rattle.history_core.specs.Slots.{Slots, children}
use Rattle.history_core.specs.Marking.{AddsAll, ArgsWithin, joined}
use Rattle.history_core.proofs.Marked.{adds_none, adds_both, in_joined}
use Rattle.history_core.proofs.marking.mark_all.Goals as goal

pub mark_names-requires-clause-args : goal.mark_names-requires-clause-args
mark_names-requires-clause-args c = subst ArgsWithin (sym c.loop-names.invariant.same) c.requires.args

pub mark_names-requires-clause-within : goal.mark_names-requires-clause-within
mark_names-requires-clause-within c = λ n k.
    let roots = c.args.roots.now in
    let i = c.loop-names.names-index in
    let here = c.names-item.is ∙ get_or_default roots i c.names-item.result [] c.loop-names-test.true in
    subst (λ (s : Slots). n < length s) (sym c.loop-names.invariant.same)
    (c.requires.within n (in_joined roots i n c.loop-names-test.true (subst (λ (ns : List ℕ). Contains ns n) here k)))

pub loop-names-preserved : goal.loop-names-preserved
loop-names-preserved c =
    let inv = c.loop-names.invariant in
    let roots = c.args.roots.now in
    let i = c.loop-names.names-index in
    let names = c.names-item.result in
    let f = children c.args.slots.now in
    let adds : AddsAll f names c.loop-names.marks c.mark_names.new.marks =
    subst (λ (s : Slots). AddsAll (children s) names c.loop-names.marks c.mark_names.new.marks) inv.same c.mark_names.ensures.marked in
    let step : drop i roots ≡ names ∷ drop (i + 1) roots =
    drop_more roots i names c.loop-names-test.true ∙ ap (λ (ns : List ℕ). ns ∷ drop (i + 1) roots) (sym c.names-item.is) in
    record {
      same = c.mark_names.ensures.same ∙ inv.same;
      size = adds.rows ∙ inv.size;
      closed = adds.closed inv.closed;
      marked = λ new more. inv.marked new (subst (λ (ls : List (List ℕ)). AddsAll f (joined ls) c.loop-names.marks new) (sym step)
          (adds_both f names (joined (drop (i + 1) roots)) c.loop-names.marks c.mark_names.new.marks new adds more));
    }

pub returns-clause-marked : goal.returns-clause-marked
returns-clause-marked c =
    let roots = c.args.roots.now in
    let i = c.loop-names.names-index in
    let none : drop i roots ≡ [] = drop_all i roots (omega (arith, c.loop-names-test.false)) in
    c.loop-names.invariant.marked c.loop-names.marks
    (subst (λ (ls : List (List ℕ)). AddsAll (children c.args.slots.now) (joined ls) c.loop-names.marks c.loop-names.marks) (sym none)
    (adds_none (children c.args.slots.now) c.loop-names.marks))
