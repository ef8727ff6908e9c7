use Rattle.term_building.specs.Ready.{state_in}
use Rattle.term_building.proofs.Passing.{passes_blank, passes_whole, cut_place}
use Rattle.term_building.proofs.builder.Builder.pass_any.Goals as goal

pub returns-in_ok-leave_out-in-Blank-clause-passes : goal.returns-in_ok-leave_out-in-Blank-clause-passes
returns-in_ok-leave_out-in-Blank-clause-passes g c =
    let store = g.T.Terms.store c.args.store.now in
    let cut = c.in_ok-piece_at in
    passes_blank c.args.text.now c.args.at cut.field-0 c.requires.at cut.ensures.piece (state_in c.args.self.now store) _ c.in-Blank.is (c.in_ok-leave_out-in-Blank.ensures.left_out store)

pub returns-in_ok-take-in-Whole : goal.returns-in_ok-take-in-Whole
returns-in_ok-take-in-Whole g c =
    let cut = c.in_ok-piece_at in
    record {
      passes = passes_whole c.args.text.now c.args.at cut.field-0 c.requires.at cut.ensures.piece c.in-Whole.token c.in-Whole.end c.in-Whole.is cut.ensures.begins cut.ensures.after cut.ensures.fits
          (state_in c.args.self.now (g.T.Terms.store c.args.store.now)) _ c.in_ok-take-in-Whole.ensures.built;
      ready = c.in_ok-take-in-Whole.ensures.ready;
      same = c.in_ok-take-in-Whole.ensures.same;
    }

pub take-requires-clause-place : goal.take-requires-clause-place
take-requires-clause-place g c =
    let cut = c.in_ok-piece_at in
    cut_place c.args.text.now c.args.at cut.field-0 c.requires.at cut.ensures.piece c.in-Whole.token c.in-Whole.end c.in-Whole.is cut.ensures.begins cut.ensures.after cut.ensures.fits
