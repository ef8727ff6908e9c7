use Rattle.std.proofs.Common.{◌≡◌, ◌∙◌, ◌-◌, ◌≤◌, List, take, drop, length, ap, sym, arith}
use Rattle.std.proofs.lemmas.List.{length-take-le}
use Rattle.term_model.specs.declared.Row.{Row}
use Rattle.terms_api.specs.Terms.{last}
use Rattle.row_stack.specs.Places.{Places}
use Rattle.row_stack.proofs.Stacks.{last_used}
use Rattle.row_stack.proofs.stack.Stack.last.Goals as goal

pub returns : goal.returns
returns c =
    let s = c.self.inside in
    let n = c.args.n in
    let was = ap (λ (p : Places). p.items) c.self.view_is in
    let le : n ≤ s.used = omega (arith, c.requires, ap (λ (xs : List Row). length xs) was, length-take-le s.used s.rows.items c.self.invariant) in
    ap (λ j. take j (drop (s.used - n) c.deref.result.now)) (let e : s.used - (s.used - n) ≡ n = omega arith in e)
    ∙ ap (λ (xs : List Row). take n (drop (s.used - n) xs)) c.deref.ensures.value
    ∙ sym (last_used s.used n s.rows.items le c.self.invariant)
    ∙ ap (last n) was
