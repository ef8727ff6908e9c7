use Rattle.std.proofs.Common.{◌∷◌, [], ◌∙◌, refl, arith}
use Rattle.terms_api.specs.Terms.{tree_at}
use Rattle.term_text.proofs.Totals.{none_tallied, none_within, within_itself, sized}
use Rattle.term_text.proofs.measuring.sizes.Goals as goal

pub count_from-requires-clause-tally : goal.count_from-requires-clause-tally
count_from-requires-clause-tally g c =
    none_tallied (g.T.Terms.store c.args.terms.now) c.fill_counts.new.tally (omega (arith, c.requires.room, c.marks.view_is, c.fill_counts.ensures.size)) c.fill_counts.ensures.clear

pub returns-clause-distinct : goal.returns-clause-distinct
returns-clause-distinct g c =
    let s = g.T.Terms.store c.args.terms.now in
    let t = tree_at s c.args.row in
    let now = c.count_from.new.tally in
    let within = c.count_from.ensures.within (t ∷ []) (within_itself (t ∷ []) t (0, omega arith, refl)) (none_within s c.fill_counts.new.tally.counts.items (t ∷ []) c.fill_counts.ensures.clear.none) in
    c.clear-distinct.ensures.count
    ∙ sized s now.counts.items now.rows.items c.args.row c.count_from.ensures.tally c.requires.held c.count_from.ensures.counted within
