use Rattle.std.proofs.Common.{◌≡◌, ◌∙◌, ◌++◌, ◌∷◌, [], ℕ, List, Option, length, sym, ap, arith, refl}
use Rattle.std.specs.Prelude.{option_and_then}
use Rattle.term_file.specs.Contents.{arguments_at}
use Rattle.term_file.specs.InOrder.{came_after}
use Rattle.term_file.specs.Walking.{left_in}
use Rattle.term_file.proofs.Walks.{visit_comes, visit_works}
use Rattle.term_file.proofs.walk.step.Goals as goal

pub returns-then-frame-arguments : goal.returns-then-frame-arguments
returns-then-frame-arguments c =
    let done : c.args.frame.done ≡ length (arguments_at c.args.table.now c.args.frame.number) = omega (arith, c.if-frame-arguments.true, ap (λ (ks : List ℕ). length ks) c.arguments-arguments.ensures.arguments) in
    record {
      comes = visit_comes c.args.table.now c.arguments-arguments.ensures.lesser (c.args.frames.now.items ++ c.args.frame ∷ []) c.args.frames.now.items c.args.frame refl done c.args.visited
          ∙ ap (λ (o : Option ℕ). option_and_then (λ v. came_after v (left_in c.args.table.now c.args.frames.now.items)) o) (sym c.visited_with.ensures);
      fit = c.requires.fit;
      less = visit_works c.args.table.now c.arguments-arguments.ensures.lesser (c.args.frames.now.items ++ c.args.frame ∷ []) c.args.frames.now.items c.args.frame refl done;
      memory = tt;
    }
