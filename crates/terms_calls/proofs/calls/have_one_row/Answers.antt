use Rattle.std.proofs.Common.{◌≡◌, ◌+◌, length, arith, ap, ◌∙◌, eq-eqb}
use Rattle.std.specs.Prelude.{Some, slice_get}
use Rattle.terms_api.specs.Terms.{trees}
use Rattle.terms_calls.proofs.Growing.{one_row, taken_off, two_deeper}
use Rattle.terms_calls.proofs.calls.have_one_row.Goals as goal

pub overflow_add-before : goal.overflow_add-before
overflow_add-before g c =
    let deeper = two_deeper _ _ _ _ c.in_ok-build_pair.ensures.ok c.in_ok-build_pair-2.ensures.ok in
    let depth = c.in_ok-build_pair-2.ensures.sound.depth in
    let room = c.in_ok-build_pair-2.ensures.sound.room in
    omega (arith, deeper, depth, room, c.depth-before.ensures.depth)

pub returns-clause-one : goal.returns-clause-one
returns-clause-one g c =
    let s = g.T.Terms.store in
    let n = c.depth-before.ensures.depth in
    let row : slice_get (s c.build_pair-2.new.terms).stack (length (s c.args.terms.now).stack) ≡ Some c.at-first.result = rw (← n) c.at-first.ensures.row in
    let next : slice_get (s c.build_pair-2.new.terms).stack (length (s c.args.terms.now).stack + 1) ≡ Some c.at-second.result =
    rw (← n, ← c.at-first.ensures.unchanged) c.at-second.ensures.row in
    let same = one_row _ _ _ _ c.at-first.result c.at-second.result c.in_ok-build_pair.ensures.ok c.in_ok-build_pair-2.ensures.ok c.in_ok-build_pair-2.ensures.sound row next in
    c.eq.ensures ∙ eq-eqb _ _ (ap (λ r. r.0) same)

pub returns-clause-trees : goal.returns-clause-trees
returns-clause-trees g c =
    let s = g.T.Terms.store in
    let off = taken_off _ _ _ _ c.in_ok-build_pair.ensures.ok c.in_ok-build_pair-2.ensures.ok in
    let same : s c.at-second.new.self ≡ s c.build_pair-2.new.terms = c.at-second.ensures.unchanged ∙ c.at-first.ensures.unchanged in
    ap trees c.keep.ensures.kept ∙ rw (same, c.depth-before.ensures.depth) off

pub returns-clause-same : goal.returns-clause-same
returns-clause-same g c =
    let turn = g.met.T.Terms.same_in_turn in
    turn _ _ _ (turn _ _ _ (turn _ _ _ c.in_ok-build_pair.ensures.same c.in_ok-build_pair-2.ensures.same) (turn _ _ _ c.at-first.ensures.same c.at-second.ensures.same)) c.keep.ensures.same
