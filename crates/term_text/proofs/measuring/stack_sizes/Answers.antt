use Rattle.std.proofs.Common.{◌≡◌, ◌≤◌, List, [], Some, length, refl, sym, ◌∙◌, subst, arith}
use Rattle.std.specs.Prelude.{slice_get}
use Rattle.term_model.specs.Tree.{Tree, nodes}
use Rattle.terms_api.specs.Terms.{Store, tree_at, trees}
use Rattle.terms_api.proofs.Callers.{held-stack}
use Rattle.term_text.specs.Sizes.{saturated}
use Rattle.term_text.specs.Tally.{IsTally, IsWithin, AreWithin}
use Rattle.term_text.proofs.Rows.{sound_there}
use Rattle.term_text.proofs.Counts.{any_default, counted_below}
use Rattle.term_text.proofs.Totals.{none_tallied, none_within, place_counted, place_within, place_added, stack_sized}
use Rattle.term_text.proofs.measuring.stack_sizes.Goals as goal

pub loop-place-init : goal.loop-place-init
loop-place-init g c =
    let s = g.T.Terms.store c.args.terms.now in
    let t = c.fill_counts.new.tally in
    record {
      store = refl;
      same = g.met.T.Terms.same_as_itself _;
      tally = none_tallied s t (omega (arith, c.requires.room, c.marks.view_is, c.fill_counts.ensures.size)) c.fill_counts.ensures.clear;
      room = c.fill_counts.ensures.clear.room;
      idle = c.fill_counts.ensures.clear.path;
      size = omega (arith, c.marks.view_is, c.fill_counts.ensures.size);
      rows = omega (arith, c.marks.view_is);
      counted = λ i u lt e. absurd (omega (arith, lt));
      within = none_within s t.counts.items (trees s) c.fill_counts.ensures.clear.none;
      nodes = refl;
    }

pub count_from-requires-clause-held : goal.count_from-requires-clause-held
count_from-requires-clause-held g c =
    let now = g.T.Terms.store c.at-row.new.self in
    let row = c.at-row.result in
    let at = subst (λ (x : Store). slice_get x.stack c.loop-place.place ≡ Some row) (sym c.at-row.ensures.unchanged) c.at-row.ensures.row in
    held-stack now c.loop-place.place row c.at-row.ensures.sound at

pub loop-place-preserved : goal.loop-place-preserved
loop-place-preserved g c =
    let s = g.T.Terms.store c.args.terms.now in
    let i = c.loop-place.invariant in
    let place = c.loop-place.place in
    let row = c.at-row.result in
    let e = c.at-row.ensures.unchanged ∙ i.store in
    let old = c.loop-place.marks-inside.tally.counts.items in
    let counts = c.count_from.new.tally.counts.items in
    let rows = c.count_from.new.tally.rows.items in
    let sound = sound_there s _ e c.at-row.ensures.sound in
    let at = subst (λ (x : Store). slice_get x.stack place ≡ Some row) i.store c.at-row.ensures.row in
    let tally = subst (λ (x : Store). IsTally x counts rows) e c.count_from.ensures.tally in
    let within = subst (λ (x : Store). (ts : List Tree) → IsWithin ts (tree_at x row) → AreWithin x ts old [] → AreWithin x ts counts []) e c.count_from.ensures.within in
    let counted = c.count_from.ensures.counted in
    let count : c.index.result.now ≡ saturated (nodes (tree_at s row)) =
    c.index.ensures ∙ any_default counts row.0 c.index.result.now 0 (counted_below counts row counted) ∙ tally.exact row counted in
    record {
      store = c.count_from.ensures.unchanged ∙ e;
      same = g.met.T.Terms.same_in_turn _ _ _ (g.met.T.Terms.same_in_turn _ _ _ i.same c.at-row.ensures.same) c.count_from.ensures.same;
      tally = tally;
      room = c.count_from.ensures.room;
      idle = c.count_from.ensures.idle;
      size = c.count_from.ensures.size ∙ i.size;
      rows = i.rows;
      counted = place_counted s old counts place row sound at c.count_from.ensures.kept counted i.counted;
      within = within (trees s) (place_within s place row at) i.within;
      nodes = place_added s place row c.loop-place.nodes c.index.result.now _ at i.nodes count c.saturating_add-nodes.ensures;
    }

pub returns-clause-distinct : goal.returns-clause-distinct
returns-clause-distinct g c =
    let s = g.T.Terms.store c.args.terms.now in
    let i = c.loop-place.invariant in
    let t = c.loop-place.marks-inside.tally in
    let enough : length s.stack ≤ c.loop-place.place = omega (arith, c.depth-place-end.ensures.depth) in
    c.clear-distinct.ensures.count
    ∙ stack_sized s t.counts.items t.rows.items c.loop-place.place i.tally i.counted enough i.within
