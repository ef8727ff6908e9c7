use Rattle.std.proofs.Common.{List, ◌++◌, length, get_or, sym, ◌∙◌, ap, arith}
use Rattle.std.proofs.lemmas.Result.{err_from_is_err_and}
use Rattle.std.proofs.lemmas.List.{get_or_default}
use Rattle.term_model.specs.declared.Item.{Item}
use Rattle.term_model.proofs.Subtrees.{items_are_nodes}
use Rattle.innermost.proofs.Parts.{keeps_pushed}
use Rattle.innermost.proofs.Sites.{site_stops, var_within, var_held, var_place, var_builds, floor, site_point, over_may, over_place, over_point, over_stands, over_gives_up, over_builds}
use Rattle.innermost.proofs.instantiating.build_node.Goals as goal

pub returns-then-room-down-clause-state : goal.returns-then-room-down-clause-state
returns-then-room-down-clause-state g c = λ site b. site_stops site (g.T.Terms.store c.args.terms.now) c.args.rows.now c.args.pattern.now c.args.room c.args.at b c.requires.down.0 c.args.down c.requires.down.1 c.requires.down.2 c.requires.node c.requires.down.3 (omega (arith, c.if-room-down.true))

pub returns-then-room-down-clause-same : goal.returns-then-room-down-clause-same
returns-then-room-down-clause-same g c = g.met.T.Terms.same_as_itself _

pub item_at-item-requires : goal.item_at-item-requires
item_at-item-requires g c = omega (arith, c.requires.node, ap length c.items.ensures.items, items_are_nodes c.args.pattern.now)

pub bounds-rows-variable : goal.bounds-rows-variable
bounds-rows-variable g c = let s = c.requires.state in var_within s.0 (g.T.Terms.store c.args.terms.now) c.args.rows.now c.args.pattern.now c.args.room c.args.at s.1 c.requires.down.0 c.args.down c.requires.down.1 c.requires.down.2 c.requires.node c.requires.down.3 c.item_at-item.result (c.item_at-item.ensures ∙ ap (λ (is : List Item). get_or is c.args.at c.item_at-item.result) c.items.ensures.items) (omega (arith, c.if-room-down.false)) c.in-Var.variable c.in-Var.is

pub put-requires : goal.put-requires
put-requires g c =
    let s = c.requires.state in
    let l = var_within s.0 (g.T.Terms.store c.args.terms.now) c.args.rows.now c.args.pattern.now c.args.room c.args.at s.1 c.requires.down.0 c.args.down c.requires.down.1 c.requires.down.2 c.requires.node c.requires.down.3 c.item_at-item.result (c.item_at-item.ensures ∙ ap (λ (is : List Item). get_or is c.args.at c.item_at-item.result) c.items.ensures.items) (omega (arith, c.if-room-down.false)) c.in-Var.variable c.in-Var.is in
    record {
      inside = c.requires.inside;
      held = var_held s.0 (g.T.Terms.store c.args.terms.now) c.args.rows.now c.args.pattern.now c.args.room c.args.at s.1 c.requires.down.0 c.args.down c.requires.down.1 c.requires.down.2 c.requires.node c.requires.down.3 c.item_at-item.result (c.item_at-item.ensures ∙ ap (λ (is : List Item). get_or is c.args.at c.item_at-item.result) c.items.ensures.items) (omega (arith, c.if-room-down.false)) c.in-Var.variable c.in-Var.is _ (get_or_default c.args.rows.now c.in-Var.variable _ _ l);
      place = let s = c.requires.state in var_place s.0 (g.T.Terms.store c.args.terms.now) c.args.rows.now c.args.pattern.now c.args.room c.args.at s.1 c.requires.down.0 c.args.down c.requires.down.1 c.requires.down.2 c.requires.node c.requires.down.3 c.item_at-item.result (c.item_at-item.ensures ∙ ap (λ (is : List Item). get_or is c.args.at c.item_at-item.result) c.items.ensures.items) (omega (arith, c.if-room-down.false)) c.in-Var.variable c.in-Var.is;
    }

pub returns-in-Var : goal.returns-in-Var
returns-in-Var g c = record {
  state = λ site b.
      let l = var_within site (g.T.Terms.store c.args.terms.now) c.args.rows.now c.args.pattern.now c.args.room c.args.at b c.requires.down.0 c.args.down c.requires.down.1 c.requires.down.2 c.requires.node c.requires.down.3 c.item_at-item.result (c.item_at-item.ensures ∙ ap (λ (is : List Item). get_or is c.args.at c.item_at-item.result) c.items.ensures.items) (omega (arith, c.if-room-down.false)) c.in-Var.variable c.in-Var.is in
      var_builds site (g.T.Terms.store c.args.terms.now) c.args.rows.now c.args.pattern.now c.args.room c.args.at b c.requires.down.0 c.args.down c.requires.down.1 c.requires.down.2 c.requires.node c.requires.down.3 c.item_at-item.result (c.item_at-item.ensures ∙ ap (λ (is : List Item). get_or is c.args.at c.item_at-item.result) c.items.ensures.items) (omega (arith, c.if-room-down.false)) c.in-Var.variable c.in-Var.is (g.T.Terms.store c.put.new.self) _ (get_or_default c.args.rows.now c.in-Var.variable _ _ l) c.put.ensures.pushed c.put.ensures.sound;
  fault = tt;
  keeps = λ root k. keeps_pushed (g.T.Terms.store c.args.terms.now) (g.T.Terms.store c.put.new.self) root _ c.put.ensures.pushed;
  same = c.put.ensures.same;
}

pub build_at-requires : goal.build_at-requires
build_at-requires g c =
    let s = c.requires.state in
    record {
      inside = c.requires.inside;
      may = over_may s.0 (g.T.Terms.store c.args.terms.now) c.args.rows.now c.args.pattern.now c.args.room c.args.at s.1 c.requires.down.0 c.args.down c.requires.down.1 c.requires.down.2 c.requires.node c.requires.down.3 c.item_at-item.result (c.item_at-item.ensures ∙ ap (λ (is : List Item). get_or is c.args.at c.item_at-item.result) c.items.ensures.items) (omega (arith, c.if-room-down.false)) c.in-Some.head (sym c.head.ensures ∙ c.in-Some.is) c.arity.result c.arity.ensures;
      place = over_place s.0 (g.T.Terms.store c.args.terms.now) c.args.rows.now c.args.pattern.now c.args.room c.args.at s.1 c.requires.down.0 c.args.down c.requires.down.1 c.requires.down.2 c.requires.node c.requires.down.3 c.item_at-item.result (c.item_at-item.ensures ∙ ap (λ (is : List Item). get_or is c.args.at c.item_at-item.result) c.items.ensures.items) (omega (arith, c.if-room-down.false)) c.in-Some.head (sym c.head.ensures ∙ c.in-Some.is) c.arity.result c.arity.ensures;
    }

pub returns-in_err-build_at : goal.returns-in_err-build_at
returns-in_err-build_at g c =
    let p = err_from_is_err_and c.from_residual.result c.from_residual.ensures.1 in
    rw (p.1, p.2) (record {
      state = tt;
      fault = λ site b. over_gives_up site (g.T.Terms.store c.args.terms.now) c.args.rows.now c.args.pattern.now c.args.room c.args.at b c.requires.down.0 c.args.down c.requires.down.1 c.requires.down.2 c.requires.node c.requires.down.3 c.item_at-item.result (c.item_at-item.ensures ∙ ap (λ (is : List Item). get_or is c.args.at c.item_at-item.result) c.items.ensures.items) (omega (arith, c.if-room-down.false)) c.in-Some.head (sym c.head.ensures ∙ c.in-Some.is) (g.T.Terms.store c.build_at.new.terms) c.in_err-build_at.field-0.0 (c.in_err-build_at.ensures.built (site).start (b).goes.points ((site).below ++ floor site (g.T.Terms.store c.args.terms.now) c.args.rows.now c.args.pattern.now c.args.room c.args.at b c.requires.down.0 c.args.down c.requires.down.1 c.requires.down.2 c.requires.node c.requires.down.3 c.item_at-item.result (c.item_at-item.ensures ∙ ap (λ (is : List Item). get_or is c.args.at c.item_at-item.result) c.items.ensures.items) (omega (arith, c.if-room-down.false)) c.in-Some.head (sym c.head.ensures ∙ c.in-Some.is)) _ (site_point site (g.T.Terms.store c.args.terms.now) c.args.rows.now c.args.pattern.now c.args.room c.args.at b c.requires.down.0 c.args.down c.requires.down.1 c.requires.down.2 c.requires.node c.requires.down.3 c.item_at-item.result (c.item_at-item.ensures ∙ ap (λ (is : List Item). get_or is c.args.at c.item_at-item.result) c.items.ensures.items) (omega (arith, c.if-room-down.false)) c.in-Some.head (sym c.head.ensures ∙ c.in-Some.is)) (over_stands site (g.T.Terms.store c.args.terms.now) c.args.rows.now c.args.pattern.now c.args.room c.args.at b c.requires.down.0 c.args.down c.requires.down.1 c.requires.down.2 c.requires.node c.requires.down.3 c.item_at-item.result (c.item_at-item.ensures ∙ ap (λ (is : List Item). get_or is c.args.at c.item_at-item.result) c.items.ensures.items) (omega (arith, c.if-room-down.false)) c.in-Some.head (sym c.head.ensures ∙ c.in-Some.is)) (over_point site (g.T.Terms.store c.args.terms.now) c.args.rows.now c.args.pattern.now c.args.room c.args.at b c.requires.down.0 c.args.down c.requires.down.1 c.requires.down.2 c.requires.node c.requires.down.3 c.item_at-item.result (c.item_at-item.ensures ∙ ap (λ (is : List Item). get_or is c.args.at c.item_at-item.result) c.items.ensures.items) (omega (arith, c.if-room-down.false)) c.in-Some.head (sym c.head.ensures ∙ c.in-Some.is) c.arity.result c.arity.ensures));
      keeps = c.build_at.ensures.keeps;
      same = c.build_at.ensures.same;
    })

pub returns : goal.returns
returns g c =
    record {
      state = λ site b. over_builds site (g.T.Terms.store c.args.terms.now) c.args.rows.now c.args.pattern.now c.args.room c.args.at b c.requires.down.0 c.args.down c.requires.down.1 c.requires.down.2 c.requires.node c.requires.down.3 c.item_at-item.result (c.item_at-item.ensures ∙ ap (λ (is : List Item). get_or is c.args.at c.item_at-item.result) c.items.ensures.items) (omega (arith, c.if-room-down.false)) c.in-Some.head (sym c.head.ensures ∙ c.in-Some.is) (g.T.Terms.store c.build_at.new.terms) (c.in_ok-build_at.ensures.built (site).start (b).goes.points ((site).below ++ floor site (g.T.Terms.store c.args.terms.now) c.args.rows.now c.args.pattern.now c.args.room c.args.at b c.requires.down.0 c.args.down c.requires.down.1 c.requires.down.2 c.requires.node c.requires.down.3 c.item_at-item.result (c.item_at-item.ensures ∙ ap (λ (is : List Item). get_or is c.args.at c.item_at-item.result) c.items.ensures.items) (omega (arith, c.if-room-down.false)) c.in-Some.head (sym c.head.ensures ∙ c.in-Some.is)) _ (site_point site (g.T.Terms.store c.args.terms.now) c.args.rows.now c.args.pattern.now c.args.room c.args.at b c.requires.down.0 c.args.down c.requires.down.1 c.requires.down.2 c.requires.node c.requires.down.3 c.item_at-item.result (c.item_at-item.ensures ∙ ap (λ (is : List Item). get_or is c.args.at c.item_at-item.result) c.items.ensures.items) (omega (arith, c.if-room-down.false)) c.in-Some.head (sym c.head.ensures ∙ c.in-Some.is)) (over_stands site (g.T.Terms.store c.args.terms.now) c.args.rows.now c.args.pattern.now c.args.room c.args.at b c.requires.down.0 c.args.down c.requires.down.1 c.requires.down.2 c.requires.node c.requires.down.3 c.item_at-item.result (c.item_at-item.ensures ∙ ap (λ (is : List Item). get_or is c.args.at c.item_at-item.result) c.items.ensures.items) (omega (arith, c.if-room-down.false)) c.in-Some.head (sym c.head.ensures ∙ c.in-Some.is)) (over_point site (g.T.Terms.store c.args.terms.now) c.args.rows.now c.args.pattern.now c.args.room c.args.at b c.requires.down.0 c.args.down c.requires.down.1 c.requires.down.2 c.requires.node c.requires.down.3 c.item_at-item.result (c.item_at-item.ensures ∙ ap (λ (is : List Item). get_or is c.args.at c.item_at-item.result) c.items.ensures.items) (omega (arith, c.if-room-down.false)) c.in-Some.head (sym c.head.ensures ∙ c.in-Some.is) c.arity.result c.arity.ensures)) c.build_at.ensures.keeps;
      fault = tt;
      keeps = c.build_at.ensures.keeps;
      same = c.build_at.ensures.same;
    }
