use Rattle.std.proofs.Common.{◌∙◌, arith}
use Rattle.terms_api.proofs.Callers.{has-held}
use Rattle.term_text.specs.Tally.{IsCounted}
use Rattle.term_text.proofs.Rows.{child_there, held_there}
use Rattle.term_text.proofs.Counts.{before_more}
use Rattle.term_text.proofs.counting.first_uncounted.Goals as goal

pub loop-j-preserved : goal.loop-j-preserved
loop-j-preserved g c =
    let s = g.T.Terms.store c.args.terms.now in
    let i = c.loop-j.invariant in
    let q = c.child-row.result in
    let child = c.child-row.ensures in
    let counted : IsCounted c.args.counts.now q = omega (arith, c.if-counts-row-eq0.false) in
    record {
      store = child.unchanged ∙ i.store;
      same = g.met.T.Terms.same_in_turn _ _ _ i.same child.same;
      before = before_more s c.args.counts.now c.args.visit.row q c.loop-j.j i.before (child_there s _ c.args.visit.row q c.loop-j.j i.store child.tree) (has-held s q (held_there s _ q i.store child.held)) counted;
    }
