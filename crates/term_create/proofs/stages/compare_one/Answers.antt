use Rattle.std.proofs.Common.{◌≡◌, ◌∙◌, get_or, sym}
use Rattle.store_model.specs.Calls.{words_of}
use Rattle.term_create.specs.Stage.{content}
use Rattle.term_create.proofs.Staged.{at_stage}
use Rattle.term_create.proofs.Views.{same_word, other_word}
use Rattle.term_create.proofs.stages.compare_one.Goals as goal

pub returns-then-found-wanted : goal.returns-then-found-wanted
returns-then-found-wanted g c =
    let a = c.args.asked.now in
    let d = c.args.walk in
    let s = c.go_load-found.new.seat in
    let e = c.go_load-found.ensures in
    record {
      at = at_stage a s.seat e.of e.known;
      same = record { same = e.same.0; number = e.same.1; seats = e.same.2 };
      equal = same_word c.args.seat.now.seat.me.0 s.seat.me.0 (content a) d.drawn d.from d.old c.args.at c.args.k c.go_load-found.result
          c.requires.stage e.view (c.if-found-wanted.true ∙ c.requires.wanted);
      other = tt;
      tick = c.tick.ensures;
    }

pub returns : goal.returns
returns g c =
    let a = c.args.asked.now in
    let d = c.args.walk in
    let s = c.go_load-found.new.seat in
    let e = c.go_load-found.ensures in
    let differs = λ (e : c.go_load-found.result ≡ get_or (words_of (content a)) c.args.k 0). c.if-found-wanted.false (e ∙ sym c.requires.wanted) in
    record {
      at = at_stage a s.seat e.of e.known;
      same = record { same = e.same.0; number = e.same.1; seats = e.same.2 };
      equal = tt;
      other = (
        differs,
        other_word c.args.seat.now.seat.me.0 s.seat.me.0 (content a) d.drawn d.from d.old c.args.at c.args.k c.go_load-found.result
            c.requires.stage e.view differs,
      );
      tick = c.tick.ensures;
    }
