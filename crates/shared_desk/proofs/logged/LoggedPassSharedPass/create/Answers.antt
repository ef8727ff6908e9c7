use Rattle.std.proofs.Common.{◌∙◌, sym, ap, subst}
use Rattle.shared_desk.specs.Code.{LoggedView}
use Rattle.shared_desk.specs.Pass.{PassView, MayCreate, Got}
use Rattle.shared_desk.specs.Logged.{AreTold}
use Rattle.shared_desk.proofs.Logging.{told_creation}
use Rattle.shared_desk.proofs.logged.LoggedPassSharedPass.create.Goals as goal

pub create-requires : goal.create-requires
create-requires g c =
    let e = c.self.view_is in
    record {
      shared = ap (λ (l : LoggedView). l.pass.shared) e ∙ c.requires.shared;
      may = subst (λ (l : LoggedView). MayCreate l.pass c.args.head c.args.rows.now) (sym e) c.requires.may;
    }

pub invariant_of-self : goal.invariant_of-self
invariant_of-self g c =
    let v = g.S.SharedPass.view c.self.inside.pass in
    let w = g.S.SharedPass.view c.create.new.self in
    told_creation c.self.inside.log c.note_creation.new.log v.entries w.entries c.args.head c.args.rows.now c.in-Ok.row c.last.result c.self.invariant c.in-Ok.ensures.got.notes c.last.ensures c.note_creation.ensures.made c.note_creation.ensures.found

pub returns-in-Ok : goal.returns-in-Ok
returns-in-Ok g c = record {
  got = subst (λ (l : LoggedView). Got l.pass (g.S.SharedPass.view c.create.new.self) c.args.head c.args.rows.now c.in-Ok.row) c.self.view_is c.in-Ok.ensures.got;
  full = tt;
  sound = c.create.ensures.sound;
}

pub invariant_of-self-in-Err : goal.invariant_of-self-in-Err
invariant_of-self-in-Err g c = subst (λ (x : PassView). AreTold c.self.inside.log x.entries) (sym c.in-Err.ensures.full) c.self.invariant

pub returns-in-Err : goal.returns-in-Err
returns-in-Err g c = record {
  got = tt;
  full = c.in-Err.ensures.full ∙ ap (λ (l : LoggedView). l.pass) c.self.view_is;
  sound = c.create.ensures.sound;
}
