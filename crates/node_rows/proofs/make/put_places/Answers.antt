use Rattle.std.proofs.Common.{◌≡◌, ℕ, suc, ◌+◌, set, sym, subst, arith}
use Rattle.store_model.specs.declared.view.Place.TheVariants.{FreePlace}
use Rattle.store_model.specs.Shown.{index_of}
use Rattle.node_rows.specs.Opening.{UpTo}
use Rattle.node_rows.proofs.Opens.{up_to_next}
use Rattle.node_rows.proofs.make.put_places.Goals as goal

pub loop-i-preserved : goal.loop-i-preserved
loop-i-preserved c =
    let z = c.args.sizes.now in
    let i = c.loop-i.i in
    let e = c.free_place_word.ensures in
    let next : suc c.loop-i.i ≡ c.loop-i.i + 1 = omega arith in
    record {
      up = subst (λ (q : ℕ). UpTo z (set c.loop-i.words q i) (i + 1)) (sym e.word)
          (subst (λ (n : ℕ). UpTo z (set c.loop-i.words (index_of z (FreePlace i)) i) n) next (up_to_next z c.loop-i.words i c.loop-i.invariant.up e.there));
    }
