use Rattle.std.proofs.Common.{sym, subst}
use Rattle.terms_api.specs.Terms.{MayBuild}
use Rattle.plain_store.specs.Contents.{Contents, store_of}
use Rattle.term_commands.proofs.Exact.{counted_built}
use Rattle.term_commands.proofs.counted.CountedTerms.build.Goals as goal

pub invariant_of-self-2 : goal.invariant_of-self-2
invariant_of-self-2 c = λ alone.
    let s = c.self.inside.store in
    let may = subst (λ (x : Contents). MayBuild (store_of x) c.args.head c.args.n) (sym c.self.view_is) c.requires.may in
    let told = c.in_ok-build.ensures in
    counted_built (store_of s) c.args.head c.args.n (store_of c.build.new.self) c.self.inside.nodes c.saturating_add-self-inside.result may told.ok told.trees c.saturating_add-self-inside.ensures (c.self.invariant alone)
