use Rattle.std.proofs.Common.{◌≡◌, ℕ, suc, ◌+◌, ap, ◌∙◌, arith}
use Rattle.store_model.specs.declared.view.Call.TheVariants.{Linking}
use Rattle.store_model.specs.Machine.{filled}
use Rattle.term_create.specs.Stage.{content, at_call, storing}
use Rattle.term_create.proofs.Whole.{same_joined}
use Rattle.term_create.proofs.Views.{on_call}
use Rattle.term_create.proofs.making.fill_row.Goals as goal

pub loop-k-preserved : goal.loop-k-preserved
loop-k-preserved g c =
    let a = content c.args.asked.now in
    let d = c.args.drawn in
    let v = c.args.seat.now.seat.me.0 in
    let i = c.loop-k.invariant in
    let k = c.loop-k.k in
    let f = c.fill_one in
    let more : suc k ≡ k + 1 = omega arith in
    record {
      at = f.ensures.at;
      same = same_joined i.same f.ensures.same;
      view = on_call v c.loop-k.seat.seat.me.0 f.new.seat.seat.me.0 (storing a d.from d.index d.row k) (filled a d.from d.index d.row k) i.view f.ensures.view
          ∙ ap (λ (m : ℕ). at_call v (storing a d.from d.index d.row m)) more;
      cost = omega (arith, i.cost, f.ensures.tick);
    }

pub returns : goal.returns
returns g c =
    let a = content c.args.asked.now in
    let d = c.args.drawn in
    let v = c.args.seat.now.seat.me.0 in
    let i = c.loop-k.invariant in
    let n = c.number_row in
    let fits = c.args.asked.now.fits in
    let count = c.word_count-count.ensures in
    let within = c.loop-k.auto.k-end in
    record {
      at = n.ensures.at;
      same = same_joined i.same n.ensures.same;
      view = on_call v c.loop-k.seat.seat.me.0 n.new.seat.seat.me.0 (storing a d.from d.index d.row c.loop-k.k) (Linking a d.from d.index d.row) i.view n.ensures.view;
      cost = omega (arith, i.cost, n.ensures.tick);
    }
