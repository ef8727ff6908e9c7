use Rattle.std.proofs.Common.{◌≡◌, ◌∙◌, ◌++◌, ◌∷◌, [], ◌<◌, List, length, refl, sym, ap, subst, arith, true≢false}
use Rattle.std.proofs.lemmas.Bool.Decides.{nat_tests}
use Rattle.term_model.specs.declared.Row.{Row}
use Rattle.terms_api.specs.Terms.{IsHeld, pushed}
use Rattle.terms_api.proofs.Callers.{but_last-none}
use Rattle.shared_desk.specs.Pass.{shown, store}
use Rattle.shared_desk.specs.Code.{Contents}
use Rattle.shared_desk.specs.Desk.{store_of, IsIn, IsSame, same_itself}
use Rattle.shared_desk.proofs.Desks.{desk_of, sound_seen, sound_shown, same_told}
use Rattle.shared_desk.proofs.Pushing.{pushed_one}
use Rattle.shared_desk.proofs.interface.DeskTerms.push.Goals as goal

pub returns-then-len-depth : goal.returns-then-len-depth
returns-then-len-depth g c =
    let v = g.S.SharedPass.view c.self.inside.pass in
    let xs = c.self.inside.places.items in
    let is = c.self.view_is in
    let a = c.len.ensures.length in
    let b = c.depth.ensures in
    let t = c.if-len-depth.true in
    let full : length xs ≡ v.depth = grind (arith, nat_tests) in
    let sound = sound_seen v xs _ _ _ c.args.self.now is c.self.invariant.sound in
    record {
      ok = tt;
      deep = ((λ h. subst (λ (x : Contents). length x.stack ≡ x.pass.depth) is full), λ h. refl);
      err = refl;
      was_sound = sound;
      sound = sound;
      same = same_itself c.args.self.now;
    }

pub put-requires : goal.put-requires
put-requires g c =
    let v = g.S.SharedPass.view c.self.inside.pass in
    let xs = c.self.inside.places.items in
    let a = c.len.ensures.length in
    let b = c.depth.ensures in
    let f = c.if-len-depth.false in
    let deep = c.self.invariant.sound.depth in
    let below : length xs < v.depth = grind (arith, nat_tests) in
    let room = c.self.invariant.room in
    record { some = omega arith; room = omega (arith, below, room) }

pub invariant_of-self : goal.invariant_of-self
invariant_of-self g c =
    let v = g.S.SharedPass.view c.self.inside.pass in
    let p = c.self.inside.places in
    let xs = p.items in
    let is = c.self.view_is in
    let inside : IsIn v p = record { right = c.self.invariant; shared = ap (λ (x : Contents). x.pass.shared) is ∙ c.requires.inside } in
    let held : IsHeld (store v xs) c.args.row = subst (λ (x : Contents). IsHeld (store_of x) c.args.row) (sym is) c.requires.held in
    let q = c.put.new.self in
    let items : q.items ≡ xs ++ c.args.row ∷ [] = c.put.ensures.items ∙ ap (λ (zs : List Row). zs ++ c.args.row ∷ []) (but_last-none xs) in
    let a = c.len.ensures.length in
    let b = c.depth.ensures in
    let f = c.if-len-depth.false in
    let deep = c.self.invariant.sound.depth in
    let below : length xs < v.depth = grind (arith, nat_tests) in
    (pushed_one v p q c.args.row inside held below items c.put.ensures.room).right

pub returns : goal.returns
returns g c =
    let v = g.S.SharedPass.view c.self.inside.pass in
    let p = c.self.inside.places in
    let xs = p.items in
    let k = length c.self.inside.refused.items in
    let s = c.self.inside.spent in
    let l = g.S.SharedPass.log c.self.inside.pass in
    let is = c.self.view_is in
    let inside : IsIn v p = record { right = c.self.invariant; shared = ap (λ (x : Contents). x.pass.shared) is ∙ c.requires.inside } in
    let held : IsHeld (store v xs) c.args.row = subst (λ (x : Contents). IsHeld (store_of x) c.args.row) (sym is) c.requires.held in
    let q = c.put.new.self in
    let items : q.items ≡ xs ++ c.args.row ∷ [] = c.put.ensures.items ∙ ap (λ (zs : List Row). zs ++ c.args.row ∷ []) (but_last-none xs) in
    let a = c.len.ensures.length in
    let b = c.depth.ensures in
    let f = c.if-len-depth.false in
    let deep = c.self.invariant.sound.depth in
    let below : length xs < v.depth = grind (arith, nat_tests) in
    let one = pushed_one v p q c.args.row inside held below items c.put.ensures.room in
    record {
      ok = ap (λ (zs : List Row). shown v zs k s) items ∙ ap (λ (x : Contents). pushed (store_of x) c.args.row) is;
      deep = (
        (λ h. absurd (true≢false (sym h))),
        λ h. absurd (let e : length xs ≡ v.depth = subst (λ (x : Contents). length x.stack ≡ x.pass.depth) (sym is) h in omega (arith, e, below)),
      );
      err = tt;
      was_sound = sound_seen v xs k s l c.args.self.now is c.self.invariant.sound;
      sound = sound_shown v q.items k s one.right.sound;
      same = subst (λ (x : Contents). IsSame x (desk_of v q.items k s l)) is (same_told v v xs q.items k k s l l (same_itself (desk_of v xs k s l)).pass);
    }
