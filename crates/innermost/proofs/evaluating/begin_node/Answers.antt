use Rattle.std.proofs.Common.{◌<◌, ◌≤◌, List, length, get_or, sym, ◌∙◌, ap, subst, arith, rules}
use Rattle.std.proofs.lemmas.Result.{err_from_is_err_and}
use Rattle.term_model.specs.declared.Item.{Item}
use Rattle.term_model.proofs.Subtrees.{items_are_nodes}
use Rattle.innermost.proofs.Evaluations.{floor, node_point, may_build_at, place_at, begun_too_deep, stands_at, over_at, node_gives_up, begun_at, opened_at, has_head_here}
use Rattle.innermost.proofs.evaluating.begin_node.Goals as goal

pub item_at-item-requires : goal.item_at-item-requires
item_at-item-requires g c = omega (arith, c.requires.node, ap length c.items.ensures.items, items_are_nodes c.args.term.now)

pub returns-then-down-code : goal.returns-then-down-code
returns-then-down-code g c = record {
  state = λ job left e.
      begun_too_deep c.args.plan.now c.args.code.now job c.args.term.now c.args.at left (g.T.Terms.store c.args.terms.now) e c.requires.no_variables c.requires.plain c.requires.node (subst (λ d. c.args.code.now.depth ≤ d) c.requires.down c.if-down-code.true);
  opened = λ job left e. tt;
  unended = tt;
  reduction = search rules;
  none = tt;
  fault = tt;
  same = g.met.T.Terms.same_as_itself _;
}

pub unreachable-requires : goal.unreachable-requires
unreachable-requires g c =
    has_head_here c.args.term.now c.args.at c.item_at-item.result c.requires.no_variables c.requires.node (c.item_at-item.ensures ∙ ap (λ (is : List Item). get_or is c.args.at c.item_at-item.result) c.items.ensures.items) (sym c.head.ensures ∙ c.in_default.is)

pub build_at-requires : goal.build_at-requires
build_at-requires g c =
    let s = c.requires.state in
    record {
      inside = c.requires.inside;
      may = may_build_at c.args.plan.now c.args.code.now s.0 c.args.term.now c.args.at s.1 (g.T.Terms.store c.args.terms.now) s.2 c.item_at-item.result c.in-Some.head c.requires.plain c.requires.node (c.item_at-item.ensures ∙ ap (λ (is : List Item). get_or is c.args.at c.item_at-item.result) c.items.ensures.items) (sym c.head.ensures ∙ c.in-Some.is) c.arity.result c.arity.ensures;
      place = place_at c.args.plan.now c.args.code.now s.0 c.args.term.now c.args.at s.1 (g.T.Terms.store c.args.terms.now) s.2 c.item_at-item.result c.in-Some.head c.requires.plain c.requires.node (c.item_at-item.ensures ∙ ap (λ (is : List Item). get_or is c.args.at c.item_at-item.result) c.items.ensures.items) (sym c.head.ensures ∙ c.in-Some.is) c.arity.result c.arity.ensures (subst (λ d. d < c.args.code.now.depth) c.requires.down (omega arith));
    }

pub returns-in_err-build_at : goal.returns-in_err-build_at
returns-in_err-build_at g c =
    let p = err_from_is_err_and c.from_residual.result c.from_residual.ensures.1 in
    record {
      state = rw p.1 tt;
      opened = rw p.1 tt;
      unended = rw p.1 tt;
      reduction = rw p.1 (λ l. tt);
      none = rw p.1 c.in_err-build_at.ensures.none;
      fault = rw (p.1, p.2) (λ job left e.
          node_gives_up c.args.plan.now c.args.code.now job c.args.term.now c.args.at left (g.T.Terms.store c.args.terms.now) e c.item_at-item.result c.in-Some.head c.requires.plain c.requires.node (c.item_at-item.ensures ∙ ap (λ (is : List Item). get_or is c.args.at c.item_at-item.result) c.items.ensures.items) (sym c.head.ensures ∙ c.in-Some.is) (subst (λ d. d < c.args.code.now.depth) c.requires.down (omega arith)) (g.T.Terms.store c.build_at.new.terms) c.in_err-build_at.field-0.0
          (let job' = job in let e' = e in c.in_err-build_at.ensures.built job'.start e'.points
          (floor c.args.plan.now c.args.code.now job' c.args.term.now c.args.at left (g.T.Terms.store c.args.terms.now) e' c.item_at-item.result c.in-Some.head c.requires.plain c.requires.node (c.item_at-item.ensures ∙ ap (λ (is : List Item). get_or is c.args.at c.item_at-item.result) c.items.ensures.items) (sym c.head.ensures ∙ c.in-Some.is)) _
          (node_point c.args.plan.now c.args.code.now job' c.args.term.now c.args.at left (g.T.Terms.store c.args.terms.now) e' c.item_at-item.result c.in-Some.head c.requires.plain c.requires.node (c.item_at-item.ensures ∙ ap (λ (is : List Item). get_or is c.args.at c.item_at-item.result) c.items.ensures.items) (sym c.head.ensures ∙ c.in-Some.is))
          (stands_at c.args.plan.now c.args.code.now job' c.args.term.now c.args.at left (g.T.Terms.store c.args.terms.now) e' c.item_at-item.result c.in-Some.head c.requires.plain c.requires.node (c.item_at-item.ensures ∙ ap (λ (is : List Item). get_or is c.args.at c.item_at-item.result) c.items.ensures.items) (sym c.head.ensures ∙ c.in-Some.is) c.arity.result c.arity.ensures)
          (over_at c.args.plan.now c.args.code.now job' c.args.term.now c.args.at left (g.T.Terms.store c.args.terms.now) e' c.item_at-item.result c.in-Some.head c.requires.plain c.requires.node (c.item_at-item.ensures ∙ ap (λ (is : List Item). get_or is c.args.at c.item_at-item.result) c.items.ensures.items) (sym c.head.ensures ∙ c.in-Some.is) c.arity.result c.arity.ensures)));
      same = c.build_at.ensures.same;
    }

pub returns : goal.returns
returns g c = record {
  state = λ job left e.
      begun_at c.args.plan.now c.args.code.now job c.args.term.now c.args.at left (g.T.Terms.store c.args.terms.now) e c.item_at-item.result c.in-Some.head c.requires.plain c.requires.node (c.item_at-item.ensures ∙ ap (λ (is : List Item). get_or is c.args.at c.item_at-item.result) c.items.ensures.items) (sym c.head.ensures ∙ c.in-Some.is) c.args.down c.requires.down (omega arith) (g.T.Terms.store c.build_at.new.terms) c.first.result
      (let job' = job in let e' = e in c.in_ok-build_at.ensures.built job'.start e'.points
      (floor c.args.plan.now c.args.code.now job' c.args.term.now c.args.at left (g.T.Terms.store c.args.terms.now) e' c.item_at-item.result c.in-Some.head c.requires.plain c.requires.node (c.item_at-item.ensures ∙ ap (λ (is : List Item). get_or is c.args.at c.item_at-item.result) c.items.ensures.items) (sym c.head.ensures ∙ c.in-Some.is)) _
      (node_point c.args.plan.now c.args.code.now job' c.args.term.now c.args.at left (g.T.Terms.store c.args.terms.now) e' c.item_at-item.result c.in-Some.head c.requires.plain c.requires.node (c.item_at-item.ensures ∙ ap (λ (is : List Item). get_or is c.args.at c.item_at-item.result) c.items.ensures.items) (sym c.head.ensures ∙ c.in-Some.is))
      (stands_at c.args.plan.now c.args.code.now job' c.args.term.now c.args.at left (g.T.Terms.store c.args.terms.now) e' c.item_at-item.result c.in-Some.head c.requires.plain c.requires.node (c.item_at-item.ensures ∙ ap (λ (is : List Item). get_or is c.args.at c.item_at-item.result) c.items.ensures.items) (sym c.head.ensures ∙ c.in-Some.is) c.arity.result c.arity.ensures)
      (over_at c.args.plan.now c.args.code.now job' c.args.term.now c.args.at left (g.T.Terms.store c.args.terms.now) e' c.item_at-item.result c.in-Some.head c.requires.plain c.requires.node (c.item_at-item.ensures ∙ ap (λ (is : List Item). get_or is c.args.at c.item_at-item.result) c.items.ensures.items) (sym c.head.ensures ∙ c.in-Some.is) c.arity.result c.arity.ensures)) c.first.ensures.first c.first.ensures.none;
  opened = λ job left e.
      opened_at c.args.plan.now c.args.code.now job c.args.term.now c.args.at left (g.T.Terms.store c.args.terms.now) e c.item_at-item.result c.in-Some.head c.requires.plain c.requires.node (c.item_at-item.ensures ∙ ap (λ (is : List Item). get_or is c.args.at c.item_at-item.result) c.items.ensures.items) (sym c.head.ensures ∙ c.in-Some.is) c.args.down c.requires.down (omega arith) (g.T.Terms.store c.build_at.new.terms) c.first.result
      (let job' = job in let e' = e in c.in_ok-build_at.ensures.built job'.start e'.points
      (floor c.args.plan.now c.args.code.now job' c.args.term.now c.args.at left (g.T.Terms.store c.args.terms.now) e' c.item_at-item.result c.in-Some.head c.requires.plain c.requires.node (c.item_at-item.ensures ∙ ap (λ (is : List Item). get_or is c.args.at c.item_at-item.result) c.items.ensures.items) (sym c.head.ensures ∙ c.in-Some.is)) _
      (node_point c.args.plan.now c.args.code.now job' c.args.term.now c.args.at left (g.T.Terms.store c.args.terms.now) e' c.item_at-item.result c.in-Some.head c.requires.plain c.requires.node (c.item_at-item.ensures ∙ ap (λ (is : List Item). get_or is c.args.at c.item_at-item.result) c.items.ensures.items) (sym c.head.ensures ∙ c.in-Some.is))
      (stands_at c.args.plan.now c.args.code.now job' c.args.term.now c.args.at left (g.T.Terms.store c.args.terms.now) e' c.item_at-item.result c.in-Some.head c.requires.plain c.requires.node (c.item_at-item.ensures ∙ ap (λ (is : List Item). get_or is c.args.at c.item_at-item.result) c.items.ensures.items) (sym c.head.ensures ∙ c.in-Some.is) c.arity.result c.arity.ensures)
      (over_at c.args.plan.now c.args.code.now job' c.args.term.now c.args.at left (g.T.Terms.store c.args.terms.now) e' c.item_at-item.result c.in-Some.head c.requires.plain c.requires.node (c.item_at-item.ensures ∙ ap (λ (is : List Item). get_or is c.args.at c.item_at-item.result) c.items.ensures.items) (sym c.head.ensures ∙ c.in-Some.is) c.arity.result c.arity.ensures)) c.first.ensures.first c.first.ensures.none;
  unended = tt;
  reduction = λ _. tt;
  none = tt;
  fault = tt;
  same = c.build_at.ensures.same;
}
