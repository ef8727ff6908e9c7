use Rattle.std.proofs.Common.{arith}
use Rattle.term_building.specs.Ready.{state_in}
use Rattle.term_building.specs.State.{name_at}
use Rattle.term_building.proofs.Passing.{byte_at, passed_open, passed_settled, settled_stage}
use Rattle.term_building.proofs.builder.Builder.on_word.Goals as goal

pub returns-in_ok-open_behind-in-Opens : goal.returns-in_ok-open_behind-in-Opens
returns-in_ok-open_behind-in-Opens g c =
    let opens = c.what_follows.ensures.opens c.in-Opens.is in
    let inside = (byte_at c.args.text.now c.args.end 40 opens).0 in
    record {
      begun = record {
        from = omega arith;
        within = omega (arith, inside);
        passed = passed_open c.args.text.now c.args.place c.args.end (state_in c.args.self.now (g.T.Terms.store c.args.store.now)) _ opens c.in_ok-open_behind-in-Opens.ensures.built;
      };
      ready = c.in_ok-open_behind-in-Opens.ensures.ready;
      same = c.in_ok-open_behind-in-Opens.ensures.same;
    }

pub returns-in_ok-settle_plain-in-Ends : goal.returns-in_ok-settle_plain-in-Ends
returns-in_ok-settle_plain-in-Ends g c =
    let old = state_in c.args.self.now (g.T.Terms.store c.args.store.now) in
    let within = c.requires.end in
    record {
      begun = let built = c.in_ok-settle_plain-in-Ends.ensures.built in (
        record {
          from = omega arith;
          within = within;
          passed = passed_settled c.args.text.now c.args.place c.args.end old _ built;
        },
        settled_stage c.args.text.now (name_at c.args.place c.args.end) c.args.end old _ built,
      );
      ready = c.in_ok-settle_plain-in-Ends.ensures.ready;
      same = c.in_ok-settle_plain-in-Ends.ensures.same;
    }
