use Rattle.std.proofs.Common.{◌≡◌, ◌≤◌, ℕ, true, ◌++◌, ◌∷◌, [], List, length, ap, sym, ◌∙◌, subst, arith}
use Rattle.std.proofs.Math.ListN.{set}
use Rattle.term_model.specs.declared.Row.{Row}
use Rattle.term_text.specs.Sizes.{saturated}
use Rattle.term_text.specs.Tally.{count_at, IsCounted, IsVisit, IsHalfway, Continues, IsNext, CountedBefore}
use Rattle.term_model.specs.Tree.{arguments, nodes}
use Rattle.terms_api.specs.Terms.{Store, tree_at}
use Rattle.term_text.specs.declared.counting.Visit.{Visit}
use Rattle.term_text.proofs.Rows.{held_there}
use Rattle.term_text.proofs.Paths.{all_last}
use Rattle.term_text.proofs.Going.{visited, visited_on, counted, counted_on, two_fit, one_fits, nodes_there}
use Rattle.term_text.proofs.counting.go_on.Goals as goal

pub push_reserved-requires : goal.push_reserved-requires
push_reserved-requires g c =
    let s = g.T.Terms.store c.args.terms.now in
    let t = c.args.tally.now in
    let n = subst (λ (counts : List ℕ). IsNext s counts c.args.visit.row c.in-Some.next) c.deref.ensures.value c.in-Some.ensures.next in
    let half = visited s t.counts.items t.rows.items t.path.items c.args.visit c.in-Some.next.next c.in-Some.next.row c.requires.halfway n.held n.uncounted n.tree n.before in
    let fits = two_fit s t.counts.items t.rows.items t.path.items _ _ c.requires.sound half in
    omega (arith, fits, c.requires.room.path)

pub push_reserved-requires-in-Some : goal.push_reserved-requires-in-Some
push_reserved-requires-in-Some g c =
    let s = g.T.Terms.store c.args.terms.now in
    let t = c.args.tally.now in
    let n = subst (λ (counts : List ℕ). IsNext s counts c.args.visit.row c.in-Some.next) c.deref.ensures.value c.in-Some.ensures.next in
    let half = visited s t.counts.items t.rows.items t.path.items c.args.visit c.in-Some.next.next c.in-Some.next.row c.requires.halfway n.held n.uncounted n.tree n.before in
    let fits = two_fit s t.counts.items t.rows.items t.path.items _ _ c.requires.sound half in
    omega (arith, fits, c.requires.room.path, c.push_reserved.ensures.len, c.push_reserved.ensures.capacity)

pub nodes_over-nodes-requires : goal.nodes_over-nodes-requires
nodes_over-nodes-requires g c =
    let s = g.T.Terms.store c.args.terms.now in
    let t = c.args.tally.now in
    let row = c.args.visit.row in
    let now = c.deref-in-None.result.now in
    let same = sym c.first_uncounted.ensures.unchanged in
    let e = sym c.deref-in-None.ensures.value in
    let tally = c.requires.halfway.tally in
    let is = all_last (IsVisit s t.counts.items) t.path.items c.args.visit c.requires.halfway.visits in
    record {
      inside = subst (λ (x : Store). x.inside ≡ true) same c.requires.inside;
      room = subst (λ (x : Store). x.rows ≤ length now) same (subst (λ (xs : List ℕ). s.rows ≤ length xs) e tally.room);
      held = held_there _ s row same is.held;
      exact = subst (λ (x : Store). (r : Row) → IsCounted now r → count_at now r ≡ saturated (nodes (tree_at x r))) same
          (subst (λ (xs : List ℕ). (r : Row) → IsCounted xs r → count_at xs r ≡ saturated (nodes (tree_at s r))) e tally.exact);
      all = subst (λ (x : Store). CountedBefore x now row (length (arguments (tree_at x row)))) same
          (subst (λ (xs : List ℕ). CountedBefore s xs row (length (arguments (tree_at s row)))) (c.deref.ensures.value ∙ e) c.in-None.ensures.all);
    }

pub first_uncounted-requires : goal.first_uncounted-requires
first_uncounted-requires g c =
    let s = g.T.Terms.store c.args.terms.now in
    let t = c.args.tally.now in
    let e = sym c.deref.ensures.value in
    let is = all_last (IsVisit s t.counts.items) t.path.items c.args.visit c.requires.halfway.visits in
    record {
      inside = c.requires.inside;
      room = subst (λ (xs : List ℕ). s.rows ≤ length xs) e c.requires.halfway.tally.room;
      held = is.held;
      before = subst (λ (xs : List ℕ). CountedBefore s xs c.args.visit.row c.args.visit.next) e is.before;
    }

pub push_reserved-requires-in-None : goal.push_reserved-requires-in-None
push_reserved-requires-in-None g c =
    let s = g.T.Terms.store c.args.terms.now in
    let t = c.args.tally.now in
    let fits = one_fits s t.counts.items t.rows.items t.path.items c.args.visit c.requires.sound c.requires.halfway in
    omega (arith, fits, c.requires.room.rows)

pub returns-in-Some : goal.returns-in-Some
returns-in-Some g c =
    let s = g.T.Terms.store c.args.terms.now in
    let t = c.args.tally.now in
    let n = subst (λ (counts : List ℕ). IsNext s counts c.args.visit.row c.in-Some.next) c.deref.ensures.value c.in-Some.ensures.next in
    let w : Visit = record { row = c.in-Some.next.row; next = 0 } in
    let half = visited s t.counts.items t.rows.items t.path.items c.args.visit c.in-Some.next.next c.in-Some.next.row c.requires.halfway n.held n.uncounted n.tree n.before in
    let e = c.push_reserved-in-Some.ensures.items ∙ ap (λ vs. vs ++ w ∷ []) c.push_reserved.ensures.items in
    record {
      halfway = subst (IsHalfway s t.counts.items t.rows.items) (sym e) half;
      continues = visited_on s t.counts.items t.rows.items t.path.items c.args.visit c.in-Some.next.next c.in-Some.next.row c.requires.sound n.tree _ e (subst (IsHalfway s t.counts.items t.rows.items) (sym e) half);
      room = record { rows = c.requires.room.rows; path = omega (arith, c.requires.room.path, c.push_reserved.ensures.capacity, c.push_reserved-in-Some.ensures.capacity) };
      unchanged = c.first_uncounted.ensures.unchanged;
      same = c.first_uncounted.ensures.same;
    }

pub returns-in-None-clause-halfway : goal.returns-in-None-clause-halfway
returns-in-None-clause-halfway g c =
    let s = g.T.Terms.store c.args.terms.now in
    let t = c.args.tally.now in
    let v = c.args.visit in
    let count = c.nodes_over-nodes.result in
    let nodes = nodes_there s _ v.row count c.first_uncounted.ensures.unchanged c.nodes_over-nodes.ensures.nodes in
    let all = subst (λ (counts : List ℕ). CountedBefore s counts v.row (length (arguments (tree_at s v.row)))) c.deref.ensures.value c.in-None.ensures.all in
    let half = counted s t.counts.items t.rows.items t.path.items v count c.requires.sound c.requires.halfway all nodes in
    subst (λ (rows : List Row). IsHalfway s (set t.counts.items v.row.0 count) rows t.path.items) (sym c.push_reserved-in-None.ensures.items) half

pub returns-in-None-clause-continues : goal.returns-in-None-clause-continues
returns-in-None-clause-continues g c =
    let s = g.T.Terms.store c.args.terms.now in
    let t = c.args.tally.now in
    let v = c.args.visit in
    let count = c.nodes_over-nodes.result in
    let nodes = nodes_there s _ v.row count c.first_uncounted.ensures.unchanged c.nodes_over-nodes.ensures.nodes in
    let on = counted_on s t.counts.items t.rows.items t.path.items v count c.requires.sound c.requires.halfway nodes in
    subst (λ (rows : List Row). Continues s t.counts.items (set t.counts.items v.row.0 count) t.rows.items rows (t.path.items ++ v ∷ []) t.path.items) (sym c.push_reserved-in-None.ensures.items) on

pub returns-in-None-clause-same : goal.returns-in-None-clause-same
returns-in-None-clause-same g c = g.met.T.Terms.same_in_turn _ _ _ c.first_uncounted.ensures.same c.nodes_over-nodes.ensures.same
