use Rattle.std.proofs.Common.{◌≡◌, ◌-◌, length, ◌∙◌, ap, subst}
use Rattle.terms_api.specs.Terms.{Store, IsSound, kept, pushed}
use Rattle.innermost.proofs.remembering.replace_top.Goals as goal

pub returns : goal.returns
returns g c =
    let now = g.T.Terms.store c.args.terms.now in
    let is : g.T.Terms.store c.keep.new.self ≡ kept now (length now.stack - 1) 0 = c.keep.ensures.kept ∙ ap (λ k. kept now (k - 1) 0) c.depth-places.ensures.depth in
    record {
      replaced = c.put.ensures.pushed ∙ ap (λ (s : Store). pushed s c.args.row) is;
      middle = subst IsSound is c.keep.ensures.sound;
      sound = c.put.ensures.sound;
      same = g.met.T.Terms.same_in_turn _ _ _ c.keep.ensures.same c.put.ensures.same;
    }
