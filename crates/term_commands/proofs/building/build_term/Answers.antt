use Rattle.std.proofs.Common.{◌+◌, ◌++◌, ◌∷◌, [], length, drop, refl, sym, ap, subst, ◌∙◌, arith}
use Rattle.std.proofs.lemmas.Result.{err_from_is_err_and}
use Rattle.std.proofs.lemmas.List.{length-map}
use Rattle.term_model.specs.declared.Item.TheVariants.{Var}
use Rattle.term_model.proofs.Subtrees.{items_are_nodes}
use Rattle.terms_api.specs.Terms.{trees, tree_at}
use Rattle.plain_store.specs.Contents.{store_of}
use Rattle.term_commands.specs.Building.{Make}
use Rattle.term_commands.proofs.Making.{begins, next, after_length}
use Rattle.term_commands.proofs.Filling.{fewer_made}
use Rattle.term_commands.proofs.building.build_term.Goals as goal

pub loop-item-init : goal.loop-item-init
loop-item-init c =
    let size = ap length c.items-items.ensures.items ∙ items_are_nodes c.args.term.now in
    let room = c.requires.room in
    record {
      inside = c.requires.inside;
      sound = c.requires.sound;
      made = begins c.args.term.now c.items-items.result.now (trees (store_of c.args.store.now)) c.items-items.ensures.items c.items-items.ensures.well_formed c.requires.ground;
      room = omega (arith, size, room);
      same = (refl, refl, refl);
    }

pub loop-item-preserved : goal.loop-item-preserved
loop-item-preserved c =
    let items = c.items-items.result.now in
    let old = store_of c.loop-item.store in
    let new = store_of c.build_item.new.store in
    let last = trees (store_of c.args.store.now) ++ c.args.term.now ∷ [] in
    let m = next items c.loop-item.item-index (Var 0) (trees old) last c.loop-item-test.true c.loop-item.invariant.made in
    let built = c.in_ok-build_item.ensures.built m.0 in
    let longer = after_length m.0 in
    let count = ap length built in
    let before = length-map old.stack (tree_at old) in
    let now = length-map new.stack (tree_at new) in
    let room = c.loop-item.invariant.room in
    let was = c.loop-item.invariant.same in
    let is = c.build_item.ensures.same in
    record {
      inside = c.build_item.ensures.inside;
      sound = c.build_item.ensures.sound;
      made = subst (λ ts. Make (drop (c.loop-item.item-index + 1) items) ts last) (sym built) m.1;
      room = omega (arith, longer, count, before, now, room, is);
      same = (is.0 ∙ was.0, is.1 ∙ was.1, is.2 ∙ was.2);
    }

pub returns-in_err-build_item-clause-full : goal.returns-in_err-build_item-clause-full
returns-in_err-build_item-clause-full c =
    let items = c.items-items.result.now in
    let p = err_from_is_err_and c.from_residual.result c.from_residual.ensures.1 in
    let last = trees (store_of c.args.store.now) ++ c.args.term.now ∷ [] in
    let m = next items c.loop-item.item-index (Var 0) (trees (store_of c.loop-item.store)) last c.loop-item-test.true c.loop-item.invariant.made in
    let full = c.in_err-build_item.ensures.full m.0 in
    let fewer = fewer_made (drop (c.loop-item.item-index + 1) items) _ last m.1 in
    let rows = c.loop-item.invariant.same.0 in
    rw p.1 (omega (arith, full, fewer, rows))
