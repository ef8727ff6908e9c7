use Rattle.std.proofs.Common.{◌≡◌, ◌∙◌, ℕ, sym, ap, subst}
use Rattle.shared_desk.specs.Code.{LoggedView}
use Rattle.shared_desk.specs.Pass.{PassView, Swept, IsWorn, NotesCollect}
use Rattle.shared_desk.specs.Logged.{AreTold}
use Rattle.shared_desk.proofs.logged.LoggedPassSharedPass.collect.Goals as goal

pub collect-requires : goal.collect-requires
collect-requires g c =
    let e = c.self.view_is in
    record {
      alone = ap (λ (l : LoggedView). l.pass.alone) e ∙ c.requires.alone;
      roots = subst (λ (l : LoggedView). l.pass.roots ≡ l.pass.noted) (sym e) c.requires.roots;
    }

pub invariant_of-self : goal.invariant_of-self
invariant_of-self g c =
    let v = g.S.SharedPass.view c.self.inside.pass in
    let w = g.S.SharedPass.view c.collect.new.self in
    let swept = c.in-Ok.ensures.swept in
    let rows : w.rows ≡ v.rows = ap (λ (x : PassView). x.rows) swept.rest in
    c.note_sweep.ensures v.entries (subst (λ (n : ℕ). NotesCollect n v.entries w.entries) (sym rows) swept.notes) c.self.invariant

pub returns-in-Ok : goal.returns-in-Ok
returns-in-Ok g c = record {
  swept = subst (λ (l : LoggedView). Swept l.pass (g.S.SharedPass.view c.collect.new.self)) c.self.view_is c.in-Ok.ensures.swept;
  unchanged = tt;
  worn = tt;
  sound = c.collect.ensures.sound;
}

pub invariant_of-self-in-Err : goal.invariant_of-self-in-Err
invariant_of-self-in-Err g c = subst (λ (x : PassView). AreTold c.self.inside.log x.entries) (sym c.in-Err.ensures.unchanged) c.self.invariant

pub returns-in-Err : goal.returns-in-Err
returns-in-Err g c = record {
  swept = tt;
  unchanged = c.in-Err.ensures.unchanged ∙ ap (λ (l : LoggedView). l.pass) c.self.view_is;
  worn = subst (λ (l : LoggedView). IsWorn l.pass) c.self.view_is c.in-Err.ensures.worn;
  sound = c.collect.ensures.sound;
}
