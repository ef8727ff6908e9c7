use Rattle.std.proofs.Common.{◌∙◌, sym, arith}
use Rattle.term_create.specs.Stage.{content}
use Rattle.term_create.proofs.Views.{other_row}
use Rattle.term_create.proofs.walking.compare_word.Goals as goal

pub returns-then-is_some : goal.returns-then-is_some
returns-then-is_some g c =
    let d = c.args.walk in
    let e = c.compare_one.ensures in
    record {
      at = e.at;
      same = e.same;
      view = other_row c.args.seat.now.seat.me.0 c.compare_one.new.seat.seat.me.0 (content c.args.asked.now) d.drawn d.from d.old c.args.at c.args.k c.compare_one.result
          (sym c.is_some.ensures ∙ c.if-is_some.true) c.requires.below e.other;
      cost = omega (arith, e.tick);
    }
