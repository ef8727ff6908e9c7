use Rattle.std.proofs.Common.{sym, subst}
use Rattle.std.proofs.lemmas.Option.{slice_get_within}
use Rattle.terms_api.specs.Terms.{Store, tree_at}
use Rattle.tree_text.specs.Text.{HasNames}
use Rattle.term_text.proofs.Trying.{named_place}
use Rattle.text_trials.proofs.inputs.write_place.Goals as goal

pub write_rec-requires-clause-named : goal.write_rec-requires-clause-named
write_rec-requires-clause-named g c =
    let names = c.args.symbols.now in
    let s = g.T.Terms.store c.args.terms.now in
    let row = c.at-row.result in
    let at = c.at-row.ensures.row in
    let named = named_place names s c.args.place row c.requires at (slice_get_within s.stack c.args.place row at) in
    subst (λ (x : Store). HasNames names (tree_at x row)) (sym c.at-row.ensures.unchanged) named
