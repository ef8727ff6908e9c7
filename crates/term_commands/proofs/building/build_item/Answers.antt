use Rattle.std.proofs.Common.{sym, ◌∙◌, arith}
use Rattle.plain_store.specs.Contents.{store_of}
use Rattle.term_commands.proofs.Taking.{may_build, built_is}
use Rattle.term_commands.proofs.Filling.{ok_then, err_then, fewer_after}
use Rattle.term_commands.proofs.building.build_item.Goals as goal

pub build-requires-clause-may : goal.build-requires-clause-may
build-requires-clause-may c =
    let arity = c.arity.ensures in
    let width = c.requires.width in
    may_build (store_of c.args.store.now) c.args.item c.requires.takes c.in-Some.head c.arity.result (sym c.in-Some.is ∙ c.head.ensures) arity (omega (arith, arity, width))

pub returns-clause-built : goal.returns-clause-built
returns-clause-built c =
    ok_then c.build.result (λ e k. e ∙ built_is (store_of c.args.store.now) c.args.item k c.in-Some.head c.arity.result (sym c.in-Some.is ∙ c.head.ensures) c.arity.ensures) c.build.ensures.built

pub returns-clause-full : goal.returns-clause-full
returns-clause-full c =
    err_then c.build.result (λ full k.
    (let more = fewer_after (store_of c.args.store.now) c.args.item k c.in-Some.head c.arity.result (sym c.in-Some.is ∙ c.head.ensures) c.arity.ensures in
    omega (arith, full, more))) c.build.ensures.full
