use Rattle.std.proofs.Common.{◌∙◌, ◌+◌, ◌≤◌, ◌++◌, List, take, length, ap, arith}
use Rattle.std.proofs.lemmas.List.{length-take-le}
use Rattle.term_model.specs.declared.Row.{Row}
use Rattle.terms_api.specs.Terms.{last}
use Rattle.row_stack.specs.Places.{Places}
use Rattle.row_stack.proofs.Stacks.{moved}
use Rattle.row_stack.proofs.stack.Stack.move_last.Goals as goal

pub returns-in_default-clause-items : goal.returns-in_default-clause-items
returns-in_default-clause-items c =
    let s = c.self.inside in
    let was = ap (λ (p : Places). p.items) c.self.view_is in
    let le : c.args.from + c.args.top ≤ s.used = omega (arith, c.requires, ap (λ (xs : List Row). length xs) was, length-take-le s.used s.rows.items c.self.invariant) in
    moved s.used c.args.from c.args.top s.rows.items c.copy_within.new.self.items le c.self.invariant c.copy_within.ensures.items
    ∙ ap (λ (xs : List Row). take c.args.from xs ++ last c.args.top xs) was
