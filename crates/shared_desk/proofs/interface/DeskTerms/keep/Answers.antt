use Rattle.std.proofs.Common.{◌∙◌, ◌+◌, ◌≤◌, List, length, sym, ap, subst}
use Rattle.term_model.specs.declared.Row.{Row}
use Rattle.terms_api.specs.Terms.{kept}
use Rattle.shared_desk.specs.Pass.{shown}
use Rattle.shared_desk.specs.Code.{Contents}
use Rattle.shared_desk.specs.Desk.{store_of, IsIn, IsSame, same_itself}
use Rattle.shared_desk.proofs.Desks.{desk_of, sound_seen, sound_shown, same_told}
use Rattle.shared_desk.proofs.Pushing.{kept_in}
use Rattle.shared_desk.proofs.interface.DeskTerms.keep.Goals as goal

pub keep_ends-requires : goal.keep_ends-requires
keep_ends-requires g c = subst (λ (x : Contents). c.args.from + c.args.top ≤ length x.stack) (sym c.self.view_is) c.requires.places

pub invariant_of-self : goal.invariant_of-self
invariant_of-self g c =
    let v = g.S.SharedPass.view c.self.inside.pass in
    let p = c.self.inside.places in
    let xs = p.items in
    let is = c.self.view_is in
    let inside : IsIn v p = record { right = c.self.invariant; shared = ap (λ (x : Contents). x.pass.shared) is ∙ c.requires.inside } in
    let fits : c.args.from + c.args.top ≤ length xs = subst (λ (x : Contents). c.args.from + c.args.top ≤ length x.stack) (sym is) c.requires.places in
    let q = c.keep_ends.new.self in
    (kept_in v p q c.args.from c.args.top inside fits c.keep_ends.ensures.items c.keep_ends.ensures.room).right

pub returns : goal.returns
returns g c =
    let v = g.S.SharedPass.view c.self.inside.pass in
    let p = c.self.inside.places in
    let xs = p.items in
    let k = length c.self.inside.refused.items in
    let s = c.self.inside.spent in
    let l = g.S.SharedPass.log c.self.inside.pass in
    let is = c.self.view_is in
    let inside : IsIn v p = record { right = c.self.invariant; shared = ap (λ (x : Contents). x.pass.shared) is ∙ c.requires.inside } in
    let fits : c.args.from + c.args.top ≤ length xs = subst (λ (x : Contents). c.args.from + c.args.top ≤ length x.stack) (sym is) c.requires.places in
    let q = c.keep_ends.new.self in
    let one = kept_in v p q c.args.from c.args.top inside fits c.keep_ends.ensures.items c.keep_ends.ensures.room in
    record {
      kept = ap (λ (zs : List Row). shown v zs k s) c.keep_ends.ensures.items ∙ ap (λ (x : Contents). kept (store_of x) c.args.from c.args.top) is;
      was_sound = sound_seen v xs k s l c.args.self.now is c.self.invariant.sound;
      sound = sound_shown v q.items k s one.right.sound;
      same = subst (λ (x : Contents). IsSame x (desk_of v q.items k s l)) is (same_told v v xs q.items k k s l l (same_itself (desk_of v xs k s l)).pass);
    }
