use Rattle.std.proofs.Common.{◌≡◌, ◌++◌, ◌∷◌, [], ◌∙◌, true, Some, OnOk, ap, sym, subst}
use Rattle.term_model.specs.Tree.{root}
use Rattle.term_model.specs.declared.Head.TheVariants.{App, Cons}
use Rattle.terms_api.specs.Terms.{Store, tree_at}
use Rattle.term_text.specs.declared.works.Work.TheVariants.{Term}
use Rattle.term_text.specs.Works.{IsReady, Advances}
use Rattle.term_text.proofs.Writing.{integer_written, empty_written}
use Rattle.term_text.proofs.works.write_term.Goals as goal

pub returns-in_ok-extend_from_slice-in-Int : goal.returns-in_ok-extend_from_slice-in-Int
returns-in_ok-extend_from_slice-in-Int g c = record {
  advances = integer_written c.args.symbols.now (g.T.Terms.store c.args.terms.now) c.args.row c.in-Int.value _ _ _ c.in-Int.ensures.head
      (c.in_ok-extend_from_slice-in-Int.ensures.items
      ∙ ap (λ ys. c.args.out.now.items ++ ys) (c.as_bytes.ensures.value ∙ c.format.ensures.text));
  grows = (c.as_bytes.result.now, c.in_ok-extend_from_slice-in-Int.ensures.items);
  unchanged = c.head.ensures.unchanged;
  same = c.head.ensures.same;
}

pub returns-in_ok-extend_from_slice-in-Nil : goal.returns-in_ok-extend_from_slice-in-Nil
returns-in_ok-extend_from_slice-in-Nil g c = record {
  advances = empty_written c.args.symbols.now (g.T.Terms.store c.args.terms.now) c.args.row _ _ _ c.in-Nil.ensures.head
      c.in_ok-extend_from_slice-in-Nil.ensures.items;
  grows = (91 ∷ 93 ∷ [], c.in_ok-extend_from_slice-in-Nil.ensures.items);
  unchanged = c.head.ensures.unchanged;
  same = c.head.ensures.same;
}

pub write_symbol-requires : goal.write_symbol-requires
write_symbol-requires g c =
    let same = sym c.head.ensures.unchanged in
    record {
      inside = subst (λ (x : Store). x.inside ≡ true) same c.requires.inside;
      ready = subst (λ (x : Store). IsReady c.args.symbols.now x (Term c.args.row)) same c.requires.ready;
      symbol = subst (λ (x : Store). root (tree_at x c.args.row) ≡ Some (App c.in-App.symbol)) same c.in-App.ensures.head;
    }

pub push_cell-requires : goal.push_cell-requires
push_cell-requires g c =
    let same = sym c.head.ensures.unchanged in
    let ready = subst (λ (x : Store). IsReady c.args.symbols.now x (Term c.args.row)) same c.requires.ready in
    record {
      inside = subst (λ (x : Store). x.inside ≡ true) same c.requires.inside;
      held = ready.held;
      named = ready.named;
      root = subst (λ (x : Store). root (tree_at x c.args.row) ≡ Some Cons) same c.in-Cons.ensures.head;
    }

pub returns-in-App : goal.returns-in-App
returns-in-App g c =
    let there = c.head.ensures.unchanged in
    let e = c.write_symbol.ensures in
    record {
      advances = subst (λ (x : Store). OnOk c.write_symbol.result (Advances c.args.symbols.now x (Term c.args.row) c.args.works.now.items c.write_symbol.new.works.items c.args.out.now.items c.write_symbol.new.out.items)) there e.advances;
      grows = e.grows;
      unchanged = e.unchanged ∙ there;
      same = g.met.T.Terms.same_in_turn _ _ _ c.head.ensures.same e.same;
    }
