use Rattle.std.proofs.Common.{ℕ, List, Option, sym, ap, subst}
use Rattle.log_text.specs.Lines.{lines_of}
use Rattle.shared_desk.specs.Logged.{AreTold}
use Rattle.shared_desk.proofs.logged.LoggedPass.over.Goals as goal

pub invariant_of-result : goal.invariant_of-result
invariant_of-result g c = subst (λ (o : Option (List ℕ)). AreTold o (g.S.SharedPass.view c.args.pass).entries) (sym c.new.ensures) (ap lines_of (sym c.requires))
