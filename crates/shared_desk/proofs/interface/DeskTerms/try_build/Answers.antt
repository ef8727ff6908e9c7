use Rattle.std.proofs.Common.{◌≡◌, ◌∙◌, ◌++◌, ◌∷◌, [], length, ap, sym, subst, arith, true≢false}
use Rattle.row_stack.specs.Places.{Places}
use Rattle.terms_api.specs.Terms.{Built, trees, but_last, asked}
use Rattle.shared_desk.specs.Pass as pass
use Rattle.shared_desk.specs.Pass.{PassView, shown, store}
use Rattle.shared_desk.specs.Code.{Contents}
use Rattle.shared_desk.specs.Desk.{store_of, IsSame, same_itself}
use Rattle.shared_desk.proofs.Following.{trees_placed}
use Rattle.shared_desk.proofs.Desks.{desk_of, sound_seen, sound_shown, built_shown, same_told}
use Rattle.shared_desk.proofs.interface.DeskTerms.try_build.Goals as goal
use Rattle.shared_desk.proofs.interface.DeskTerms.try_build.Goals.{in-Ok, in-Err}

pub returns-then-len-depth-clause-was_sound : goal.returns-then-len-depth-clause-was_sound
returns-then-len-depth-clause-was_sound g c = sound_seen (g.S.SharedPass.view c.self.inside.pass) c.self.inside.places.items _ _ _ c.args.self.now c.self.view_is c.self.invariant.sound

pub returns-then-len-depth-clause-sound : goal.returns-then-len-depth-clause-sound
returns-then-len-depth-clause-sound g c = sound_seen (g.S.SharedPass.view c.self.inside.pass) c.self.inside.places.items _ _ _ c.args.self.now c.self.view_is c.self.invariant.sound

pub returns : goal.returns
returns g c =
    let v = g.S.SharedPass.view c.self.inside.pass in
    let w = g.S.SharedPass.view c.try_create.new.pass in
    let before = g.S.SharedPass.log c.self.inside.pass in
    let after = g.S.SharedPass.log c.try_create.new.pass in
    let xs = c.self.inside.places.items in
    let ys = c.try_create.new.places.items in
    let h = c.args.head in
    let n = c.args.n in
    let k = length c.self.inside.refused.items in
    let s = c.self.inside.spent in
    let is = c.self.view_is in
    let b = c.match-try_create.branch in
    let sh : w.shared ≡ v.shared = c.try_create.ensures.inside.shared ∙ sym (ap (λ (x : Contents). x.pass.shared) is ∙ c.requires.inside) in
    record {
      ok = λ yes. elim b [
        | in-Ok x ↦ subst (λ (d : Contents). Built (store_of d) (shown w ys k s) h n) is (built_shown 0 v w xs ys k k s s h n (omega arith) x.in-Ok.ensures.placed sh)
        | in-Err x ↦ absurd (true≢false (sym yes ∙ x.result-is))
      ];
      trees = λ yes. elim b [
        | in-Ok x ↦ subst (λ (d : Contents). trees (store w ys) ≡ but_last n (trees (store_of d)) ++ asked (store_of d) h n ∷ []) is
            (trees_placed 0 v w xs ys n (asked (store v xs) h n) c.self.invariant.sound x.in-Ok.ensures.placed)
        | in-Err x ↦ absurd (true≢false (sym yes ∙ x.result-is))
      ];
      unchanged = λ none. elim b [
        | in-Ok x ↦ absurd (true≢false (sym x.result-is ∙ none))
        | in-Err x ↦ ap (λ (y : PassView). shown y ys k s) x.in-Err.ensures.unchanged ∙ ap (λ (p : Places). shown v p.items k s) x.in-Err.ensures.stack ∙ ap store_of is
      ];
      was_sound = sound_seen v xs k s before c.args.self.now is c.self.invariant.sound;
      refusals = ap (λ (d : Contents). d.refusals) is;
      sound = sound_shown w ys k s c.try_create.ensures.inside.right.sound;
      same = subst (λ (d : Contents). IsSame d (desk_of w ys k s after)) is (same_told v w xs ys k k s before after (elim b [
        | in-Ok x ↦ x.in-Ok.ensures.placed.same
        | in-Err x ↦ subst (pass.IsSame v) (sym x.in-Err.ensures.unchanged) (same_itself (desk_of v xs k s before)).pass
      ]));
    }
