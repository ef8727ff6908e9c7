use Rattle.std.proofs.Common.{◌≡◌, ◌+◌, sym, refl, arith, List, ◌∷◌, Some, Bool, true, false, not}
use Rattle.term_model.specs.Tree.{Tree, Leaf, Node, End, may_be_list}
use Rattle.term_model.specs.Postorder.{push_item}
use Rattle.term_model.specs.Shape.{Summarizes, IsPushed}
use Rattle.term_model.specs.declared.flattened.Shape.{Shape}
use Rattle.term_model.specs.declared.Head.TheVariants as head
use Rattle.term_model.specs.declared.Item.{Item}
use Rattle.term_model.proofs.Shapes.{symbol_pushed, symbol_refused, cell_pushed}
use Rattle.term_model.proofs.flattened.shape_after.Goals as goal

not_not : (b : Bool) → not b ≡ false → b ≡ true
not_not true h = refl
not_not false h = cc

-- an item that takes nothing
on_top : (t : Tree) (shape after : Shape) (item : Item) → ((s : List Tree) → push_item item s ≡ Some (t ∷ s)) → after.trees ≡ shape.trees + 1 → after.ends_in_list ≡ may_be_list t → (s : List Tree) → Summarizes shape s → IsPushed after (push_item item s)
on_top t shape after item e n l s h = (t ∷ s, e s, record { count = omega (arith, h.count); last = sym l })

pub returns-in-Var-clause-pushed : goal.returns-in-Var-clause-pushed
returns-in-Var-clause-pushed c = on_top (Leaf c.in-Var.field-0) _ _ c.args.item (λ s. rw c.in-Var.is refl) refl refl

pub returns-in-Int-clause-pushed : goal.returns-in-Int-clause-pushed
returns-in-Int-clause-pushed c = on_top (Node (head.Int c.in-Int.field-0) End) _ _ c.args.item (λ s. rw c.in-Int.is refl) refl refl

pub returns-in-Nil-clause-pushed : goal.returns-in-Nil-clause-pushed
returns-in-Nil-clause-pushed c = on_top (Node head.Nil End) _ _ c.args.item (λ s. rw c.in-Nil.is refl) refl refl

pub returns-then-shape-count-clause-refused : goal.returns-then-shape-count-clause-refused
returns-then-shape-count-clause-refused c = λ s h. rw c.in-App.is (symbol_refused c.in-App.field-0.0 c.in-App.count c.args.shape s (omega arith) h)

pub returns-else-shape-count-clause-pushed : goal.returns-else-shape-count-clause-pushed
returns-else-shape-count-clause-pushed c = λ s h. rw c.in-App.is (symbol_pushed c.in-App.field-0.0 c.in-App.count c.args.shape s (omega arith) h)

pub returns-else-not-shape-clause-pushed : goal.returns-else-not-shape-clause-pushed
returns-else-not-shape-clause-pushed c = λ s h. rw c.in-Cons.is (cell_pushed c.args.shape s (omega arith) (not_not _ c.if-not-shape.false) h)
