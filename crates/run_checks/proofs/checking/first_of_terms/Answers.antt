use Rattle.std.proofs.Common.{List, ap, refl, sym, subst, length, ◌<◌, ◌∙◌, Bor, ℕ, arith}
use Rattle.std.proofs.lemmas.List.{get_or_read}
use Rattle.symbol_pool.specs.Pool.{Named}
use Rattle.term_model.specs.Tree.{Tree, Leaf}
use Rattle.rule_match.specs.Planned.{Planned}
use Rattle.rec_check.specs.Spelled.{Specified}
use Rattle.run_checks.specs.Held.{Held}
use Rattle.log_check.specs.Words.{lines}
use Rattle.run_checks.specs.Instances.{MayBePut}
use Rattle.run_checks.specs.Rules.{ArePut}
use Rattle.run_checks.proofs.Bound.{so_pushed}
use Rattle.run_checks.proofs.Underived.{skips, none_left, goes_on, stops_here, no_lines_left}
use Rattle.run_checks.proofs.checking.first_of_terms.Goals as goal

abbrev of_terms : Held → Planned → List Tree → Specified
of_terms h p ts = record { symbols = h.symbols; rules = p.rules; terms = ts }

pub loop-number-preserved-then-is_no_value : goal.loop-number-preserved-then-is_no_value
loop-number-preserved-then-is_no_value c = record {
  symbols = c.loop-number.invariant.symbols;
  same = skips (of_terms c.args.table.now c.args.plan.now c.args.terms.now) c.args.output.now.lines.items c.loop-number.number (lines c.loop-number.rest.now) _ c.loop-number.invariant.same c.deref-line-items.result.now c.deref-line-items.ensures.value _ c.loop-number-test.true (sym c.is_no_value.ensures ∙ c.if-is_no_value.true);
}

pub returns-in_default : goal.returns-in_default
returns-in_default c =
    none_left (of_terms c.args.table.now c.args.plan.now c.args.terms.now) c.args.output.now.lines.items c.loop-number.number (lines c.loop-number.rest.now) _ c.loop-number.invariant.same c.deref-line-items.result.now c.deref-line-items.ensures.value _ c.loop-number-test.true (sym c.is_no_value.ensures ∙ c.if-is_no_value.false) c.in_default.ensures.lines

pub derives-requires-clause-rules : goal.derives-requires-clause-rules
derives-requires-clause-rules c =
    subst (λ (names : List Named). ArePut names c.args.plan.now.rules) (sym c.loop-number.invariant.symbols) c.requires.rules

pub derives-requires-clause-term : goal.derives-requires-clause-term
derives-requires-clause-term c =
    let n = ap (λ (ls : List (Bor (List ℕ))). length ls) c.deref-line-items.ensures.value in
    let within : c.loop-number.number < length c.args.terms.now = omega (arith, n, c.requires.lines, c.loop-number-test.true) in
    subst (λ (names : List Named). MayBePut names 0 c.index-terms-number.result) (sym c.loop-number.invariant.symbols)
    (subst (λ (t : Tree). MayBePut c.args.table.now.symbols 0 t) (sym c.index-terms-number.is) (c.requires.terms c.loop-number.number c.index-terms-number.result within))

pub returns-then-not-branch : goal.returns-then-not-branch
returns-then-not-branch c =
    let n = ap (λ (ls : List (Bor (List ℕ))). length ls) c.deref-line-items.ensures.value in
    let within : c.loop-number.number < length c.args.terms.now = omega (arith, n, c.requires.lines, c.loop-number-test.true) in
    stops_here (of_terms c.args.table.now c.args.plan.now c.args.terms.now) c.args.output.now.lines.items c.loop-number.number (lines c.loop-number.rest.now) _ c.loop-number.invariant.same c.deref-line-items.result.now c.deref-line-items.ensures.value _ c.loop-number-test.true (sym c.is_no_value.ensures ∙ c.if-is_no_value.false)
    c.loop-number.table.symbols c.args.plan.now.rules c.in-Some.trace.now (lines c.in-Some.after.now) c.index-terms-number.result c.in_ok-derives.field-0
    c.loop-number.invariant.symbols refl (get_or_read c.args.terms.now c.loop-number.number c.index-terms-number.result within c.index-terms-number.is (Leaf 0))
    c.in-Some.ensures.lines c.in_ok-derives.ensures.derives c.if-not-branch.true

pub loop-number-preserved : goal.loop-number-preserved
loop-number-preserved c =
    let n = ap (λ (ls : List (Bor (List ℕ))). length ls) c.deref-line-items.ensures.value in
    let within : c.loop-number.number < length c.args.terms.now = omega (arith, n, c.requires.lines, c.loop-number-test.true) in
    record {
      symbols = so_pushed c.in_ok-derives.field-0 _ c.if-not-branch.false c.in_ok-derives.ensures.symbols ∙ c.loop-number.invariant.symbols;
      same =
          goes_on (of_terms c.args.table.now c.args.plan.now c.args.terms.now) c.args.output.now.lines.items c.loop-number.number (lines c.loop-number.rest.now) _ c.loop-number.invariant.same c.deref-line-items.result.now c.deref-line-items.ensures.value _ c.loop-number-test.true (sym c.is_no_value.ensures ∙ c.if-is_no_value.false)
          c.loop-number.table.symbols c.args.plan.now.rules c.in-Some.trace.now (lines c.in-Some.after.now) c.index-terms-number.result c.in_ok-derives.field-0
          c.loop-number.invariant.symbols refl (get_or_read c.args.terms.now c.loop-number.number c.index-terms-number.result within c.index-terms-number.is (Leaf 0))
          c.in-Some.ensures.lines c.in_ok-derives.ensures.derives c.if-not-branch.false;
    }

pub returns : goal.returns
returns c = no_lines_left (of_terms c.args.table.now c.args.plan.now c.args.terms.now) c.args.output.now.lines.items c.loop-number.number (lines c.loop-number.rest.now) _ c.loop-number.invariant.same c.deref-line-items.result.now c.deref-line-items.ensures.value c.loop-number-test.false
