use Rattle.std.proofs.Common.{◌<◌, length, sym, ◌∙◌, ap, subst, arith}
use Rattle.std.specs.Prelude.{All}
use Rattle.std.specs.List.{list_all}
use Rattle.rule_automaton.specs.Running.{made, have_one_row}
use Rattle.rule_automaton.proofs.Steps.{compared, first_within, rule_within, full_there, pairs_full, rows_agree, answers, goes_past}
use Rattle.rule_automaton.proofs.Trying.{read_shape}
use Rattle.rule_automaton.specs.declared.shapes.Pair.{Pair}
use Rattle.rule_automaton.proofs.finding.compare.Goals as goal

pub have_one_row-requires : goal.have_one_row-requires
have_one_row-requires c =
    let a = made c.args.automaton.now in
    let rows = c.args.rows.now in
    let s = c.requires.run.0 in
    let m = c.requires.run.1 in
    let run = c.requires.run.2 in
    let q = c.index-rule.result.now in
    let it = compared a s rows m c.args.at run c.args.from c.args.other c.requires.state q c.index-rule.ensures in
    let l = rule_within a s rows m c.args.at run q it.rest it.tested in
    let full = pairs_full a s rows m run.begun rows q l (full_there a s rows m c.args.at run q it.rest it.tested) in
    let read = read_shape a.shapes q c.index.result.now (let n = run.begun.automaton.shapes.count in omega (arith, l, n)) c.index.ensures in
    subst (All (λ (p : Pair). (p.first < length rows) × (p.second < length rows))) (read.pairs ∙ sym c.deref.ensures.value) (λ k d i. ((full k d i).0.within, (full k d i).1.within))

pub returns-then-have_one_row : goal.returns-then-have_one_row
returns-then-have_one_row c = record {
  next = λ s m sound run.
      let a = made c.args.automaton.now in
      let rows = c.args.rows.now in
      let q = c.index-rule.result.now in
      let it = compared a s rows m c.args.at run c.args.from c.args.other c.requires.state q c.index-rule.ensures in
      let l = rule_within a s rows m c.args.at run q it.rest it.tested in
      let full = pairs_full a s rows m run.begun rows q l (full_there a s rows m c.args.at run q it.rest it.tested) in
      let read = read_shape a.shapes q c.index.result.now (let n = run.begun.automaton.shapes.count in omega (arith, l, n)) c.index.ensures in
      let agree = sym (rows_agree s run.begun.reading.at rows _ sound full) ∙ ap (list_all (λ (p : Pair). have_one_row rows p)) (read.pairs ∙ sym c.deref.ensures.value) ∙ sym c.have_one_row.ensures ∙ c.if-have_one_row.true in
      answers a s rows m c.args.at run q it.rest it.tested agree;
}

pub returns : goal.returns
returns c = record {
  next = λ s m sound run.
      let a = made c.args.automaton.now in
      let rows = c.args.rows.now in
      let q = c.index-rule.result.now in
      let it = compared a s rows m c.args.at run c.args.from c.args.other c.requires.state q c.index-rule.ensures in
      let l = rule_within a s rows m c.args.at run q it.rest it.tested in
      let full = pairs_full a s rows m run.begun rows q l (full_there a s rows m c.args.at run q it.rest it.tested) in
      let read = read_shape a.shapes q c.index.result.now (let n = run.begun.automaton.shapes.count in omega (arith, l, n)) c.index.ensures in
      let differ = sym (rows_agree s run.begun.reading.at rows _ sound full) ∙ ap (list_all (λ (p : Pair). have_one_row rows p)) (read.pairs ∙ sym c.deref.ensures.value) ∙ sym c.have_one_row.ensures ∙ c.if-have_one_row.false in
      (it.goes.later, goes_past a s rows m c.args.at run q it.rest it.tested differ c.args.other it.goes);
}

pub index-rule-requires : goal.index-rule-requires
index-rule-requires c =
    let l = first_within (made c.args.automaton.now) c.requires.run.0 c.args.rows.now c.requires.run.1 c.args.at c.requires.run.2 c.args.from c.args.other c.requires.state in
    omega (arith, l, c.args.automaton.now.rules.ok.0)

pub index-requires : goal.index-requires
index-requires c =
    let a = made c.args.automaton.now in
    let rows = c.args.rows.now in
    let s = c.requires.run.0 in
    let m = c.requires.run.1 in
    let run = c.requires.run.2 in
    let q = c.index-rule.result.now in
    let it = compared a s rows m c.args.at run c.args.from c.args.other c.requires.state q c.index-rule.ensures in
    let l = rule_within a s rows m c.args.at run q it.rest it.tested in
    let n = run.begun.automaton.shapes.count in
    omega (arith, l, n, c.args.automaton.now.shapes.ok.0)
