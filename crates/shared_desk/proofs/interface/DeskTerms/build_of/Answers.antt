use Rattle.std.proofs.Common.{◌≡◌, ◌∙◌, ◌++◌, ◌∷◌, [], ◌+◌, ◌≤◌, List, length, ap, sym, subst, arith, rules}
use Rattle.std.proofs.lemmas.Grind.{common_steps}
use Rattle.std.specs.Prelude.{OnOk, OnErr, IsErrOf, All}
use Rattle.term_model.specs.Tree.{Tree}
use Rattle.terms_api.specs.declared.terms.BuildFault.TheVariants.{StoreFull}
use Rattle.terms_api.specs.Terms.{IsHeld, Built, NotBuilt, IsCrowded, CountsRefusal, trees, asked, pushed_all}
use Rattle.shared_desk.specs.Pass.{shown, store}
use Rattle.shared_desk.specs.Code.{Contents}
use Rattle.shared_desk.specs.Desk.{store_of, IsSame}
use Rattle.shared_desk.proofs.Desks.{desk_of, sound_seen, sound_shown}
use Rattle.shared_desk.proofs.Answering.{counts_after, told_after, trees_ok, trees_err, shown_ok, shown_err, shown_crowded, same_after}
use Rattle.shared_desk.proofs.Pushing.{pushed_sound, trees_under}
use Rattle.shared_desk.proofs.interface.DeskTerms.build_of.Goals as goal

pub returns-then-len-depth-clause-was_sound : goal.returns-then-len-depth-clause-was_sound
returns-then-len-depth-clause-was_sound g c = sound_seen (g.S.SharedPass.view c.self.inside.pass) c.self.inside.places.items _ _ _ c.args.self.now c.self.view_is c.self.invariant.sound

pub returns-then-len-depth-clause-sound : goal.returns-then-len-depth-clause-sound
returns-then-len-depth-clause-sound g c = sound_seen (g.S.SharedPass.view c.self.inside.pass) c.self.inside.places.items _ _ _ c.args.self.now c.self.view_is c.self.invariant.sound

pub returns : goal.returns
returns g c =
    let v = g.S.SharedPass.view c.self.inside.pass in
    let w = g.S.SharedPass.view c.build_over-built.new.pass in
    let before = g.S.SharedPass.log c.self.inside.pass in
    let after = g.S.SharedPass.log c.build_over-built.new.pass in
    let zs = c.self.inside.places.items in
    let xs = zs ++ c.args.rows.now in
    let ys = c.build_over-built.new.places.items in
    let h = c.args.head in
    let n = length c.args.rows.now in
    let r = c.build_over-built.result in
    let o = c.build_over-built.ensures.outcome in
    let k = length c.self.inside.refused.items in
    let m = length c.count_refusal.new.refused.items in
    let s = c.self.inside.spent in
    let t = c.count_refusal.new.spent in
    let is = c.self.view_is in
    let sh : w.shared ≡ v.shared = c.build_over-built.ensures.inside.shared ∙ sym (ap (λ (x : Contents). x.pass.shared) is ∙ c.requires.inside) in
    let held = subst (λ (x : Contents). All (IsHeld (store_of x)) c.args.rows.now) (sym is) c.requires.held in
    let fits = subst (λ (x : Contents). length x.stack + length c.args.rows.now ≤ x.pass.depth) (sym is) c.requires.places in
    let so = pushed_sound v zs c.args.rows.now c.self.invariant.sound held fits in
    let under = trees_under v zs c.args.rows.now in
    record {
      ok = subst (λ (x : Contents). OnOk r (Built (pushed_all (store_of x) c.args.rows.now) (shown w ys m t) h n)) is (shown_ok v w xs ys h n k m s t r sh o);
      trees = subst (λ (x : Contents). OnOk r (trees (store w ys) ≡ trees (store_of x) ++ asked (pushed_all (store_of x) c.args.rows.now) h n ∷ [])) is
          (subst (λ (ts : List Tree). OnOk r (trees (store w ys) ≡ ts ++ asked (store v xs) h n ∷ [])) under (trees_ok v w xs ys h n r so o));
      err = subst (λ (x : Contents). OnErr r (NotBuilt (pushed_all (store_of x) c.args.rows.now) (shown w ys m t) h n)) is (shown_err v w xs ys h n k m s t r sh o);
      err_trees = subst (λ (x : Contents). OnErr r (trees (store w ys) ≡ trees (pushed_all (store_of x) c.args.rows.now))) is (trees_err v w xs ys h n r so o);
      deep = first_of (search rules, grind (arith, common_steps));
      store_full_only_where_crowded = subst (λ (x : Contents). IsErrOf r StoreFull → IsCrowded (pushed_all (store_of x) c.args.rows.now) (shown w ys m t) h n) is (shown_crowded v w xs ys h n k m s t r o);
      worn_only_where_spent = told_after s t r c.count_refusal.ensures.spent;
      was_sound = sound_seen v zs k s before c.args.self.now is c.self.invariant.sound;
      refusals = subst (λ (x : Contents). CountsRefusal r (store_of x) (shown w ys m t)) is (counts_after v w zs ys k m s t r c.count_refusal.ensures.refused);
      sound = sound_shown w ys m t c.build_over-built.ensures.inside.right.sound;
      same = subst (λ (x : Contents). IsSame x (desk_of w ys m t after)) is (same_after v w xs ys h n k m s t zs r before after c.count_refusal.ensures.spent o);
    }
