use Rattle.std.proofs.Common.{sym, ◌∙◌, refl, arith}
use Rattle.terms_api.proofs.Callers.{held-has}
use Rattle.innermost.proofs.remembering.take_known.Goals as goal

pub replace_top-requires-clause-held : goal.replace_top-requires-clause-held
replace_top-requires-clause-held g c =
    let r = c.requires.right.2 c.args.row c.in-Some.known (sym c.find.ensures.found ∙ c.in-Some.is) in
    held-has (g.T.Terms.store c.args.terms.now) c.in-Some.known.value r.value r.held

pub returns-in_default : goal.returns-in_default
returns-in_default g c = record {
  taken = λ e rules built right. cc;
  store = λ e. refl;
  left = λ e. refl;
  map = c.find.ensures.same;
  same = g.met.T.Terms.same_as_itself _;
}

pub returns-then-known-left : goal.returns-then-known-left
returns-then-known-left g c = record {
  taken = λ e rules built right. cc;
  store = λ e. refl;
  left = λ e. refl;
  map = c.find.ensures.same;
  same = g.met.T.Terms.same_as_itself _;
}

pub returns : goal.returns
returns g c = record {
  taken = λ e rules built right. record {
    known = c.in-Some.known;
    right = right c.args.row c.in-Some.known (sym c.find.ensures.found ∙ c.in-Some.is);
    fuel = omega arith;
    room = omega arith;
    middle = c.replace_top.ensures.middle;
    replaced = c.replace_top.ensures.replaced;
    sound = c.replace_top.ensures.sound;
  };
  store = λ e. cc;
  left = λ e. cc;
  map = c.find.ensures.same;
  same = c.replace_top.ensures.same;
}
