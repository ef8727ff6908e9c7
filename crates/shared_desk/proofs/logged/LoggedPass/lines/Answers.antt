use Rattle.std.proofs.Common.{◌≡◌, ℕ, List, subst}
use Rattle.std.specs.Prelude.{IfSome}
use Rattle.log_text.specs.Lines.{lines_of}
use Rattle.shared_desk.specs.Code.{LoggedView}
use Rattle.shared_desk.proofs.Logging.{told_lines}
use Rattle.shared_desk.proofs.logged.LoggedPass.lines.Goals as goal

pub returns : goal.returns
returns g c =
    let e = c.self.view_is in
    let d = c.lines.ensures.lines in
    let bytes = c.lines.result.now in
    record {
      lines = subst (λ (l : LoggedView). IfSome l.log (λ (lines : List ℕ). bytes ≡ lines)) e d;
      told = subst (λ (l : LoggedView). IfSome l.log (λ (lines : List ℕ). bytes ≡ lines_of l.pass.entries)) e
          (told_lines c.self.inside.log bytes (g.S.SharedPass.view c.self.inside.pass).entries d c.self.invariant);
    }
