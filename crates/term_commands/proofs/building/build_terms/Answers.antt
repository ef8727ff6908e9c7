use Rattle.std.proofs.Common.{◌≡◌, ◌+◌, ◌++◌, ◌∷◌, [], length, take, sym, ap, ◌∙◌, arith}
use Rattle.std.proofs.lemmas.Result.{err_from_is_err_and}
use Rattle.std.proofs.lemmas.List.{length-map, length-take-le, take_more}
use Rattle.term_model.specs.Tree.{nodes}
use Rattle.terms_api.specs.Terms.{tree_at}
use Rattle.plain_store.specs.Contents.{store_of}
use Rattle.term_commands.specs.Different.{different}
use Rattle.term_commands.proofs.Within.{front_different}
use Rattle.term_commands.proofs.building.build_terms.Goals as goal

pub loop-term-preserved : goal.loop-term-preserved
loop-term-preserved c =
    let terms = c.args.terms.now in
    let i = c.loop-term.term-index in
    let term = c.term-item.result in
    let below = c.loop-term-test.true in
    let more : take i terms ++ term ∷ [] ≡ take (i + 1) terms = sym (take_more terms i term below ∙ ap (λ t. take i terms ++ t ∷ []) (sym c.term-item.is)) in
    let built = c.in_ok-build_term.ensures.built ∙ ap (λ ts. ts ++ term ∷ []) c.loop-term.invariant.built ∙ more in
    let was = c.loop-term.invariant.same in
    let is = c.build_term.ensures.same in
    record {
      inside = c.build_term.ensures.inside;
      sound = c.build_term.ensures.sound;
      built = built;
      same = (is.0 ∙ was.0, is.1 ∙ was.1, is.2 ∙ was.2);
    }

pub build_term-requires-clause-room : goal.build_term-requires-clause-room
build_term-requires-clause-room c =
    let terms = c.args.terms.now in
    let i = c.loop-term.term-index in
    let term = c.term-item.result in
    let old = store_of c.loop-term.store in
    let below = c.loop-term-test.true in
    let counted = ap length c.loop-term.invariant.built in
    let before = length-map old.stack (tree_at old) in
    let front = length-take-le i terms (omega (arith, below)) in
    let fits = c.requires.room i term below in
    let same = ap nodes c.term-item.is in
    let was = c.loop-term.invariant.same in
    omega (arith, counted, before, front, fits, same, below, was.0, was.1, was.2)

pub returns-in_err-build_term-clause-full : goal.returns-in_err-build_term-clause-full
returns-in_err-build_term-clause-full c =
    let terms = c.args.terms.now in
    let i = c.loop-term.term-index in
    let term = c.term-item.result in
    let p = err_from_is_err_and c.from_residual.result c.from_residual.ensures.1 in
    let below = c.loop-term-test.true in
    let more : take i terms ++ term ∷ [] ≡ take (i + 1) terms = sym (take_more terms i term below ∙ ap (λ t. take i terms ++ t ∷ []) (sym c.term-item.is)) in
    let full = c.in_err-build_term.ensures.full in
    let same = ap different (ap (λ ts. ts ++ term ∷ []) c.loop-term.invariant.built ∙ more) in
    let fewer = front_different (i + 1) terms in
    let rows = c.loop-term.invariant.same.0 in
    rw p.1 (omega (arith, full, same, fewer, rows))
