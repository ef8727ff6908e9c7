use Rattle.std.proofs.Common.{◌∙◌, Some}
use Rattle.std.proofs.lemmas.List.Elements.{All-pop}
use Rattle.term_text.specs.Works.{IsReady}
use Rattle.term_text.proofs.Writing.{text_kept, steps_fall, ready_kept, advances_there, extends_more}
use Rattle.term_text.proofs.printing.write_tree.Goals as goal

pub works-smaller : goal.works-smaller
works-smaller g c =
    let s = g.T.Terms.store c.args.terms.now in
    let names = c.args.symbols.now in
    let step = advances_there names s _ c.in-Some.work _ _ _ _ c.works.invariant.store c.in_ok-write_work.ensures.advances in
    steps_fall names s c.in-Some.work _ _ _ _ _ c.in-Some.ensures.items step

pub works-preserved : goal.works-preserved
works-preserved g c =
    let s = g.T.Terms.store c.args.terms.now in
    let names = c.args.symbols.now in
    let i = c.works.invariant in
    let w = c.in-Some.work in
    let pop = c.in-Some.ensures.items in
    let step = advances_there names s _ w _ _ _ _ i.store c.in_ok-write_work.ensures.advances in
    let all = All-pop (IsReady names s) c.works.works.items c.pop.new.self.items (Some w) pop i.ready in
    record {
      store = c.write_work.ensures.unchanged ∙ i.store;
      same = g.met.T.Terms.same_in_turn _ _ _ i.same c.write_work.ensures.same;
      text = text_kept names s w _ _ _ _ _ _ pop step i.text;
      grows = extends_more _ _ _ i.grows c.write_work.ensures.grows;
      ready = ready_kept names s w _ _ _ _ step all.0;
    }

pub returns-in_err-write_work-clause-same : goal.returns-in_err-write_work-clause-same
returns-in_err-write_work-clause-same g c = g.met.T.Terms.same_in_turn _ _ _ c.works.invariant.same c.write_work.ensures.same

pub returns-in_err-write_work-clause-grows : goal.returns-in_err-write_work-clause-grows
returns-in_err-write_work-clause-grows g c = extends_more _ _ _ c.works.invariant.grows c.write_work.ensures.grows
