use Rattle.std.proofs.Common.{◌≡◌, ◌++◌, [], ◌∷◌, length, map, Some, None, true, false, refl, ap, sym, ◌∙◌, arith, subst}
use Rattle.std.specs.Prelude.{All, reverse}
use Rattle.std.proofs.lemmas.List.Elements.{All-push, All-pop}
use Rattle.term_model.specs.Tree.{arguments}
use Rattle.term_model.specs.declared.Head.TheVariants.{App}
use Rattle.term_model.proofs.Subtrees.{some_nodes}
use Rattle.terms_api.specs.Terms.{Store, IsHeld, IsSound, tree_at}
use Rattle.rewrite_model.specs.Matching.{bind}
use Rattle.rule_match.specs.Preorder.{left_at}
use Rattle.rule_match.specs.Stands.{stands}
use Rattle.rule_match.proofs.Compiled.{plain_at}
use Rattle.row_match.proofs.Left.{nodes_are_items, first_left, stack_left, variable_left, variable_apart, symbol_left, symbol_apart, arguments_left, item_left, none_left}
use Rattle.rule_match.proofs.Pushing.{stood, as_many}
use Rattle.row_match.proofs.Pushed.{held_late}
use Rattle.row_match.proofs.matching.run.Goals.{in-Var+else-not-bind, in-App+else-not-stands_at}
use Rattle.row_match.proofs.matching.run.Goals as goal

pub push_reserved-requires : goal.push_reserved-requires
push_reserved-requires g c =
    let n = some_nodes (left_at c.args.plan.now.rules c.args.rule) in
    let e = ap length c.requires.stack_empty in
    omega (arith, n, e, c.requires.stack_room)

pub loop-item-init : goal.loop-item-init
loop-item-init g c =
    let s = g.T.Terms.store c.args.terms.now in
    let r = c.args.row in
    let one = c.push_reserved.ensures.items ∙ ap (λ rs. rs ++ r ∷ []) c.requires.stack_empty in
    let plain = plain_at c.args.plan.now.widest c.args.plan.now.rules c.args.rule c.requires.rule c.program-item-items.ensures.plan.symbols in
    let e = ap length c.requires.rows_empty in
    record {
      store = refl;
      same = g.met.T.Terms.same_as_itself _;
      left = first_left s _ _ _ _ _ r plain c.program-item-items.ensures.program one c.requires.rows_empty;
      stack_held = subst (All (IsHeld s)) (sym one) (All-push (IsHeld s) [] r (λ k d h. absurd (omega arith)) c.requires.held);
      rows_held = subst (All (IsHeld s)) (sym c.requires.rows_empty) (λ k d h. absurd (omega arith));
      rows_size = omega (arith, e);
      stack_room = c.push_reserved.ensures.capacity;
      rows_room = refl;
    }

pub take_last-top-requires : goal.take_last-top-requires
take_last-top-requires g c =
    let l = stack_left _ _ _ _ _ _ _ _ c.loop-item-test.true c.loop-item.invariant.left in
    omega (arith, l)

pub bind-requires-clause-sound : goal.bind-requires-clause-sound
bind-requires-clause-sound g c = subst IsSound (sym c.loop-item.invariant.store) c.requires.sound

pub bind-requires-clause-held : goal.bind-requires-clause-held
bind-requires-clause-held g c =
    let s = g.T.Terms.store c.args.terms.now in
    let all = All-pop (IsHeld s) c.loop-item.stack.items c.take_last-top.new.self.items (Some c.take_last-top.result) c.take_last-top.ensures.items c.loop-item.invariant.stack_held in
    subst (λ (v : Store). IsHeld v c.take_last-top.result) (sym c.loop-item.invariant.store) all.1

pub bind-requires-clause-rows_held : goal.bind-requires-clause-rows_held
bind-requires-clause-rows_held g c =
    subst (λ (v : Store). All (IsHeld v) c.loop-item.rows.items) (sym c.loop-item.invariant.store) c.loop-item.invariant.rows_held

pub bind-requires-clause-room : goal.bind-requires-clause-room
bind-requires-clause-room g c =
    let i = c.loop-item.invariant in
    let n = ap length c.program-item-items.ensures.program ∙ nodes_are_items (left_at c.args.plan.now.rules c.args.rule) in
    omega (arith, n, i.rows_size, i.rows_room, c.requires.rows_room, c.loop-item-test.true)

pub returns-then-not-bind-clause-none : goal.returns-then-not-bind-clause-none
returns-then-not-bind-clause-none g c =
    let s = g.T.Terms.store c.args.terms.now in
    let i = c.loop-item.invariant in
    let b = subst (λ (v : Store). bind c.in-Var.variable (tree_at v c.take_last-top.result) (map (tree_at v) c.loop-item.rows.items) ≡ None) i.store c.if-not-bind.ensures.none in
    variable_apart s _ _ _ _ _ c.in-Var.variable _ _ _ _ c.take_last-top.result c.loop-item-test.true c.in-Var.is c.take_last-top.ensures.items b i.left

pub returns-then-not-bind-clause-held : goal.returns-then-not-bind-clause-held
returns-then-not-bind-clause-held g c = held_late (g.T.Terms.store c.args.terms.now) _ _ c.loop-item.invariant.store c.bind.ensures.held

pub returns-then-not-bind-clause-unchanged : goal.returns-then-not-bind-clause-unchanged
returns-then-not-bind-clause-unchanged g c = c.loop-item.invariant.store

pub returns-then-not-bind-clause-same : goal.returns-then-not-bind-clause-same
returns-then-not-bind-clause-same g c = c.loop-item.invariant.same

pub stands_at-requires-clause-inside : goal.stands_at-requires-clause-inside
stands_at-requires-clause-inside g c = ap (λ (v : Store). v.inside) c.loop-item.invariant.store ∙ c.requires.inside

pub stands_at-requires-clause-held : goal.stands_at-requires-clause-held
stands_at-requires-clause-held g c =
    let s = g.T.Terms.store c.args.terms.now in
    let all = All-pop (IsHeld s) c.loop-item.stack.items c.take_last-top.new.self.items (Some c.take_last-top.result) c.take_last-top.ensures.items c.loop-item.invariant.stack_held in
    subst (λ (v : Store). IsHeld v c.take_last-top.result) (sym c.loop-item.invariant.store) all.1

pub returns-then-not-stands_at-clause-none : goal.returns-then-not-stands_at-clause-none
returns-then-not-stands_at-clause-none g c =
    let s = g.T.Terms.store c.args.terms.now in
    let i = c.loop-item.invariant in
    let apart : stands (App c.in-App.symbol) c.in-App.count (tree_at s c.take_last-top.result) ≡ false =
    stood s (g.T.Terms.store c.loop-item.terms) (App c.in-App.symbol) c.in-App.count c.in-App.count c.take_last-top.result c.stands_at.result false i.store refl c.stands_at.ensures.stands c.if-not-stands_at.true in
    symbol_apart s _ _ _ _ _ c.in-App.symbol c.in-App.count _ _ _ _ c.take_last-top.result c.loop-item-test.true c.in-App.is c.take_last-top.ensures.items apart i.left

pub returns-then-not-stands_at-clause-held : goal.returns-then-not-stands_at-clause-held
returns-then-not-stands_at-clause-held g c = c.loop-item.invariant.rows_held

pub returns-then-not-stands_at-clause-unchanged : goal.returns-then-not-stands_at-clause-unchanged
returns-then-not-stands_at-clause-unchanged g c = c.stands_at.ensures.unchanged ∙ c.loop-item.invariant.store

pub returns-then-not-stands_at-clause-same : goal.returns-then-not-stands_at-clause-same
returns-then-not-stands_at-clause-same g c = g.met.T.Terms.same_in_turn _ _ _ c.loop-item.invariant.same c.stands_at.ensures.same

pub push_arguments-requires-clause-inside : goal.push_arguments-requires-clause-inside
push_arguments-requires-clause-inside g c = ap (λ (v : Store). v.inside) (c.stands_at.ensures.unchanged ∙ c.loop-item.invariant.store) ∙ c.requires.inside

pub push_arguments-requires-clause-count : goal.push_arguments-requires-clause-count
push_arguments-requires-clause-count g c =
    as_many (g.T.Terms.store c.loop-item.terms) _ (App c.in-App.symbol) c.in-App.count c.take_last-top.result c.stands_at.result c.stands_at.ensures.unchanged c.stands_at.ensures.stands c.if-not-stands_at.false

pub push_arguments-requires-clause-room : goal.push_arguments-requires-clause-room
push_arguments-requires-clause-room g c =
    let i = c.loop-item.invariant in
    let n = ap length c.program-item-items.ensures.program ∙ nodes_are_items (left_at c.args.plan.now.rules c.args.rule) in
    let l = arguments_left _ _ _ _ _ _ c.in-App.symbol c.in-App.count _ _ c.take_last-top.new.self.items _ c.take_last-top.result c.loop-item-test.true c.in-App.is c.take_last-top.ensures.items i.left in
    omega (arith, n, l, i.stack_room, c.take_last-top.ensures.capacity, c.requires.stack_room)

pub push_arguments-requires-clause-stack_held : goal.push_arguments-requires-clause-stack_held
push_arguments-requires-clause-stack_held g c =
    let s = g.T.Terms.store c.args.terms.now in
    let all = All-pop (IsHeld s) c.loop-item.stack.items c.take_last-top.new.self.items (Some c.take_last-top.result) c.take_last-top.ensures.items c.loop-item.invariant.stack_held in
    subst (λ (v : Store). All (IsHeld v) c.take_last-top.new.self.items) (sym (c.stands_at.ensures.unchanged ∙ c.loop-item.invariant.store)) all.0

pub returns-in_default : goal.returns-in_default
returns-in_default g c =
    absurd (item_left _ _ _ _ _ _ _ _ _ _ _ _ c.loop-item-test.true refl c.take_last-top.ensures.items (λ x. c.in_default.not-Var x) (λ f n. c.in_default.not-App f n) c.loop-item.invariant.left)

pub loop-item-preserved : goal.loop-item-preserved
loop-item-preserved g c =
    let s = g.T.Terms.store c.args.terms.now in
    let i = c.loop-item.invariant in
    let r = c.take_last-top.result in
    let all = All-pop (IsHeld s) c.loop-item.stack.items c.take_last-top.new.self.items (Some r) c.take_last-top.ensures.items i.stack_held in
    elim c.match-item.branch [
      | in-Var+else-not-bind w ↦ rw (w.terms-is, w.stack-is, w.rows-is) (record {
        store = i.store;
        same = i.same;
        left =
            (let b = subst (λ (v : Store). bind w.in-Var.variable (tree_at v r) (map (tree_at v) c.loop-item.rows.items) ≡ Some (map (tree_at v) w.bind.new.rows.items)) i.store w.if-not-bind.ensures.bound in
            variable_left s _ _ _ _ _ w.in-Var.variable _ _ _ _ w.bind.new.rows.items r c.loop-item-test.true w.in-Var.is c.take_last-top.ensures.items b i.left);
        stack_held = all.0;
        rows_held = held_late s _ _ i.store w.bind.ensures.held;
        rows_size = omega (arith, i.rows_size, w.bind.ensures.size);
        stack_room = c.take_last-top.ensures.capacity ∙ i.stack_room;
        rows_room = w.bind.ensures.room ∙ i.rows_room;
      })
      | in-App+else-not-stands_at w ↦ rw (w.terms-is, w.stack-is, w.rows-is) (
          let late : g.T.Terms.store w.stands_at.new.terms ≡ s = w.stands_at.ensures.unchanged ∙ i.store in
          let stood' : stands (App w.in-App.symbol) w.in-App.count (tree_at s r) ≡ true =
          stood s (g.T.Terms.store c.loop-item.terms) (App w.in-App.symbol) w.in-App.count w.in-App.count r w.stands_at.result true i.store refl w.stands_at.ensures.stands w.if-not-stands_at.false in
          let new = w.push_arguments.new.stack.items in
          let trees = subst (λ (v : Store). map (tree_at v) new ≡ map (tree_at v) c.take_last-top.new.self.items ++ reverse (arguments (tree_at v r))) late w.push_arguments.ensures.trees in
          record {
            store = w.push_arguments.ensures.unchanged ∙ late;
            same = g.met.T.Terms.same_in_turn _ _ _ (g.met.T.Terms.same_in_turn _ _ _ i.same w.stands_at.ensures.same) w.push_arguments.ensures.same;
            left = symbol_left s _ _ _ _ _ w.in-App.symbol w.in-App.count _ _ _ new _ r c.loop-item-test.true w.in-App.is c.take_last-top.ensures.items stood' trees i.left;
            stack_held = held_late s _ _ late w.push_arguments.ensures.held;
            rows_held = i.rows_held;
            rows_size = omega (arith, i.rows_size);
            stack_room = w.push_arguments.ensures.room ∙ c.take_last-top.ensures.capacity ∙ i.stack_room;
            rows_room = i.rows_room;
          })
    ]

pub returns-clause-bound : goal.returns-clause-bound
returns-clause-bound g c = none_left (g.T.Terms.store c.args.terms.now) _ _ _ _ _ _ _ c.loop-item-test.false c.loop-item.invariant.left

pub returns-clause-held : goal.returns-clause-held
returns-clause-held g c = c.loop-item.invariant.rows_held

pub returns-clause-unchanged : goal.returns-clause-unchanged
returns-clause-unchanged g c = c.loop-item.invariant.store

pub returns-clause-same : goal.returns-clause-same
returns-clause-same g c = c.loop-item.invariant.same
