use Rattle.std.proofs.Common.{◌≡◌, ◌∙◌, ◌++◌, ◌∷◌, [], List, ap}
use Rattle.term_model.specs.declared.Row.{Row}
use Rattle.history_core.specs.declared.entry.Entry.TheVariants.{Roots}
use Rattle.node_rows.specs.Rows.{names}
use Rattle.shared_desk.specs.Code.{LoggedView}
use Rattle.shared_desk.specs.Pass.{PassView, left}
use Rattle.shared_desk.proofs.Logging.{told_entry}
use Rattle.shared_desk.proofs.logged.LoggedPassSharedPass.leave_exclusive.Goals as goal

pub leave_exclusive-requires : goal.leave_exclusive-requires
leave_exclusive-requires g c =
    let e = c.self.view_is in
    record {
      alone = ap (λ (l : LoggedView). l.pass.alone) e ∙ c.requires.alone;
      roots = ap (λ (l : LoggedView). l.pass.roots) e ∙ c.requires.roots;
    }

pub invariant_of-self : goal.invariant_of-self
invariant_of-self g c =
    let v = g.S.SharedPass.view c.self.inside.pass in
    let w = g.S.SharedPass.view c.leave_exclusive.new.self in
    let rows = c.args.rows.now in
    let roots : v.roots ≡ rows = ap (λ (l : LoggedView). l.pass.roots) c.self.view_is ∙ c.requires.roots in
    let is : w.entries ≡ v.entries ++ Roots v.greatest (names rows) ∷ [] = ap (λ (x : PassView). x.entries) c.leave_exclusive.ensures ∙ ap (λ (xs : List Row). v.entries ++ Roots v.greatest (names xs) ∷ []) roots in
    told_entry c.self.inside.log c.note_leave.new.log v.entries w.entries (Roots v.greatest (names rows)) c.last.result c.self.invariant is c.last.ensures (c.note_leave.ensures v.greatest)

pub returns : goal.returns
returns g c = c.leave_exclusive.ensures ∙ ap (λ (l : LoggedView). left l.pass) c.self.view_is
