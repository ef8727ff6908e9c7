use Rattle.std.proofs.Common.{◌≡◌, ◌∙◌, ap, subst}
use Rattle.std.specs.Prelude.{IfSome}
use Rattle.log_text.specs.Lines.{lines_of}
use Rattle.shared_desk.specs.Code.{LoggedView}
use Rattle.shared_desk.proofs.Logging.{told_taken}
use Rattle.shared_desk.proofs.logged.LoggedPass.into_parts.Goals as goal

pub returns : goal.returns
returns g c =
    let e = c.self.view_is in
    let d = c.into_lines.ensures in
    record {
      pass = ap (λ (l : LoggedView). l.pass) e;
      lines = d ∙ ap (λ (l : LoggedView). l.log) e;
      told = subst (λ (l : LoggedView). IfSome c.into_lines.result (λ lines. lines.items ≡ lines_of l.pass.entries)) e
          (told_taken c.into_lines.result c.self.inside.log (g.S.SharedPass.view c.self.inside.pass).entries d c.self.invariant);
    }
