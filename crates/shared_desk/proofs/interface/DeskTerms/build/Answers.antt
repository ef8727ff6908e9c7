use Rattle.std.proofs.Common.{◌≡◌, ◌∙◌, ◌++◌, ◌∷◌, [], length, ap, sym, subst, arith, rules}
use Rattle.std.proofs.lemmas.Grind.{common_steps}
use Rattle.std.specs.Prelude.{OnOk, OnErr, IsErrOf}
use Rattle.terms_api.specs.declared.terms.BuildFault.TheVariants.{StoreFull}
use Rattle.terms_api.specs.Terms.{Built, NotBuilt, IsCrowded, CountsRefusal, trees, but_last, asked}
use Rattle.shared_desk.specs.Pass.{shown, store}
use Rattle.shared_desk.specs.Code.{Contents}
use Rattle.shared_desk.specs.Desk.{store_of, IsSame}
use Rattle.shared_desk.proofs.Desks.{desk_of, sound_seen, sound_shown}
use Rattle.shared_desk.proofs.Answering.{counts_after, told_after, trees_ok, trees_err, shown_ok, shown_err, shown_crowded, same_after}
use Rattle.shared_desk.proofs.interface.DeskTerms.build.Goals as goal

pub returns-then-len-depth-clause-was_sound : goal.returns-then-len-depth-clause-was_sound
returns-then-len-depth-clause-was_sound g c = sound_seen (g.S.SharedPass.view c.self.inside.pass) c.self.inside.places.items _ _ _ c.args.self.now c.self.view_is c.self.invariant.sound

pub returns-then-len-depth-clause-sound : goal.returns-then-len-depth-clause-sound
returns-then-len-depth-clause-sound g c = sound_seen (g.S.SharedPass.view c.self.inside.pass) c.self.inside.places.items _ _ _ c.args.self.now c.self.view_is c.self.invariant.sound

pub returns : goal.returns
returns g c =
    let v = g.S.SharedPass.view c.self.inside.pass in
    let w = g.S.SharedPass.view c.build_row-built.new.pass in
    let before = g.S.SharedPass.log c.self.inside.pass in
    let after = g.S.SharedPass.log c.build_row-built.new.pass in
    let zs = c.self.inside.places.items in
    let xs = zs in
    let ys = c.build_row-built.new.places.items in
    let h = c.args.head in
    let n = c.args.n in
    let r = c.build_row-built.result in
    let o = c.build_row-built.ensures.outcome in
    let k = length c.self.inside.refused.items in
    let m = length c.count_refusal.new.refused.items in
    let s = c.self.inside.spent in
    let t = c.count_refusal.new.spent in
    let is = c.self.view_is in
    let sh : w.shared ≡ v.shared = c.build_row-built.ensures.inside.shared ∙ sym (ap (λ (x : Contents). x.pass.shared) is ∙ c.requires.inside) in
    record {
      ok = subst (λ (x : Contents). OnOk r (Built (store_of x) (shown w ys m t) h n)) is (shown_ok v w xs ys h n k m s t r sh o);
      trees = subst (λ (x : Contents). OnOk r (trees (store w ys) ≡ but_last n (trees (store_of x)) ++ asked (store_of x) h n ∷ [])) is (trees_ok v w xs ys h n r c.self.invariant.sound o);
      err = subst (λ (x : Contents). OnErr r (NotBuilt (store_of x) (shown w ys m t) h n)) is (shown_err v w xs ys h n k m s t r sh o);
      err_trees = subst (λ (x : Contents). OnErr r (trees (store w ys) ≡ trees (store_of x))) is (trees_err v w xs ys h n r c.self.invariant.sound o);
      deep = first_of (search rules, grind (arith, common_steps));
      store_full_only_where_crowded = subst (λ (x : Contents). IsErrOf r StoreFull → IsCrowded (store_of x) (shown w ys m t) h n) is (shown_crowded v w xs ys h n k m s t r o);
      worn_only_where_spent = told_after s t r c.count_refusal.ensures.spent;
      was_sound = sound_seen v zs k s before c.args.self.now is c.self.invariant.sound;
      refusals = subst (λ (x : Contents). CountsRefusal r (store_of x) (shown w ys m t)) is (counts_after v w zs ys k m s t r c.count_refusal.ensures.refused);
      sound = sound_shown w ys m t c.build_row-built.ensures.inside.right.sound;
      same = subst (λ (x : Contents). IsSame x (desk_of w ys m t after)) is (same_after v w xs ys h n k m s t zs r before after c.count_refusal.ensures.spent o);
    }
