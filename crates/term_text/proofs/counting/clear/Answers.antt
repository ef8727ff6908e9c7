use Rattle.std.proofs.Common.{ℕ, ◌<◌, List, length, sym, subst}
use Rattle.std.specs.Prelude.{Contains}
use Rattle.term_model.specs.declared.Row.{Row}
use Rattle.term_text.proofs.Counts.{counted_below}
use Rattle.term_text.proofs.counting.clear.Goals as goal

pub forget-requires-clause-only : goal.forget-requires-clause-only
forget-requires-clause-only c = λ r k.
    let t = c.args.tally.now in
    let counted = c.requires.only r (subst (λ (rows : List Row). Contains rows r) c.deref.ensures.value k) in
    subst (λ (counts : List ℕ). r.0 < length counts) (sym c.deref_mut.ensures.value) (counted_below t.counts.items r counted)
