use Rattle.std.proofs.Common.{◌∙◌, sym, ap, subst}
use Rattle.shared_desk.specs.Code.{LoggedView}
use Rattle.shared_desk.specs.Pass.{PassView, MayCreate, Got, IsFilled}
use Rattle.shared_desk.specs.Logged.{AreTold}
use Rattle.shared_desk.proofs.Logging.{told_creation}
use Rattle.shared_desk.proofs.logged.LoggedPassSharedPass.create_exclusive.Goals as goal

pub create_exclusive-requires : goal.create_exclusive-requires
create_exclusive-requires g c =
    let e = c.self.view_is in
    record {
      alone = ap (λ (l : LoggedView). l.pass.alone) e ∙ c.requires.alone;
      fresh = ap (λ (l : LoggedView). l.pass.fresh) e ∙ c.requires.fresh;
      may = subst (λ (l : LoggedView). MayCreate l.pass c.args.head c.args.rows.now) (sym e) c.requires.may;
    }

pub invariant_of-self : goal.invariant_of-self
invariant_of-self g c =
    let v = g.S.SharedPass.view c.self.inside.pass in
    let w = g.S.SharedPass.view c.create_exclusive.new.self in
    told_creation c.self.inside.log c.note_creation.new.log v.entries w.entries c.args.head c.args.rows.now c.in-Ok.row c.last.result c.self.invariant c.in-Ok.ensures.got.notes c.last.ensures c.note_creation.ensures.made c.note_creation.ensures.found

pub returns-in-Ok : goal.returns-in-Ok
returns-in-Ok g c = record {
  got = subst (λ (l : LoggedView). Got l.pass (g.S.SharedPass.view c.create_exclusive.new.self) c.args.head c.args.rows.now c.in-Ok.row) c.self.view_is c.in-Ok.ensures.got;
  unchanged = tt;
  full = tt;
  sound = c.create_exclusive.ensures.sound;
}

pub invariant_of-self-in-Err : goal.invariant_of-self-in-Err
invariant_of-self-in-Err g c = subst (λ (x : PassView). AreTold c.self.inside.log x.entries) (sym c.in-Err.ensures.unchanged) c.self.invariant

pub returns-in-Err : goal.returns-in-Err
returns-in-Err g c = record {
  got = tt;
  unchanged = c.in-Err.ensures.unchanged ∙ ap (λ (l : LoggedView). l.pass) c.self.view_is;
  full = subst (λ (l : LoggedView). IsFilled l.pass c.args.head c.args.rows.now) c.self.view_is c.in-Err.ensures.full;
  sound = c.create_exclusive.ensures.sound;
}
