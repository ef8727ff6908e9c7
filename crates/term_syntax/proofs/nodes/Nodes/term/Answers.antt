use Rattle.std.proofs.Common.{◌≡◌, ◌<◌, ◌-◌, ℕ, List, length, take, drop, get_or, ap, sym, subst, ◌∙◌, arith, Some}
use Rattle.term_syntax.specs.declared.machine.Node.{Node}
use Rattle.term_syntax.specs.Ends.{Nodes, AreEnds, nodes_in, start_in}
use Rattle.term_syntax.proofs.Ends.{many, start_low, end_within, term_at}
use Rattle.term_syntax.proofs.nodes.Nodes.term.Goals as goal

-- there are as many ends as terms
there : (es : List ℕ) (ns : List Node) (now : Nodes) (n : ℕ) → nodes_in es ns ≡ now → n < length now.terms → n < length es
there es ns now n v h = let m = many es ns now v in omega (arith, m, h)

view : (es fs : List ℕ) (ns : List Node) (now : Nodes) → es ≡ fs → nodes_in fs ns ≡ now → nodes_in es ns ≡ now
view es fs ns now e v = ap (λ xs. nodes_in xs ns) e ∙ v

ends : (es fs : List ℕ) (size : ℕ) → es ≡ fs → AreEnds 0 fs size → AreEnds 0 es size
ends es fs size e a = subst (λ xs. AreEnds 0 xs size) (sym e) a

pub start_of-start-requires : goal.start_of-start-requires
start_of-start-requires c = there c.as_slice-ends.result.now c.self.inside.items.items c.args.self.now c.args.number (view _ _ _ _ c.as_slice-ends.ensures.value c.self.view_is) c.requires

pub end_of-end-requires : goal.end_of-end-requires
end_of-end-requires c = there c.as_slice-ends.result.now c.self.inside.items.items c.args.self.now c.args.number (view _ _ _ _ c.as_slice-ends.ensures.value c.self.view_is) c.requires

pub part-requires-clause-start : goal.part-requires-clause-start
part-requires-clause-start c =
    let es = c.as_slice-ends.result.now in
    let ns = c.self.inside.items.items in
    let h = there es ns c.args.self.now c.args.number (view _ _ _ _ c.as_slice-ends.ensures.value c.self.view_is) c.requires in
    let low = start_low 0 es (length ns) c.args.number (ends _ _ _ c.as_slice-ends.ensures.value c.self.invariant) h in
    omega (arith, low, c.start_of-start.ensures, c.end_of-end.ensures)

pub part-requires-clause-end : goal.part-requires-clause-end
part-requires-clause-end c =
    let es = c.as_slice-ends.result.now in
    let ns = c.self.inside.items.items in
    let h = there es ns c.args.self.now c.args.number (view _ _ _ _ c.as_slice-ends.ensures.value c.self.view_is) c.requires in
    let high = end_within 0 es (length ns) c.args.number (ends _ _ _ c.as_slice-ends.ensures.value c.self.invariant) h in
    let size = ap length c.as_slice.ensures.value in
    omega (arith, high, size, c.end_of-end.ensures)

pub returns : goal.returns
returns c =
    let es = c.as_slice-ends.result.now in
    let ns = c.self.inside.items.items in
    let n = c.args.number in
    let v = view _ _ ns _ c.as_slice-ends.ensures.value c.self.view_is in
    let h = there es ns c.args.self.now n v c.requires in
    let part =
    c.part.ensures
    ∙ ap (λ k. take (k - c.start_of-start.result) (drop c.start_of-start.result c.as_slice.result.now)) c.end_of-end.ensures
    ∙ ap (λ k. take (get_or es n 0 - k) (drop k c.as_slice.result.now)) c.start_of-start.ensures
    ∙ ap (λ (xs : List Node). take (get_or es n 0 - start_in 0 es n) (drop (start_in 0 es n) xs)) c.as_slice.ensures.value in
    term_at es ns c.args.self.now n v h ∙ sym (ap Some part)
