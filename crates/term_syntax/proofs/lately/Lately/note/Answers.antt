use Rattle.std.proofs.Common.{◌≡◌, ◌⊎◌, inr, length, sym, subst, arith}
use Rattle.std.proofs.lemmas.List.Elements.{All-set}
use Rattle.symbol_pool.specs.Pool.{Holds, named}
use Rattle.term_syntax.specs.declared.lately.Noted.{Noted}
use Rattle.term_syntax.specs.Known.{IsNoted, AreKnown}
use Rattle.term_syntax.proofs.lately.Lately.note.Goals as goal

pub returns : goal.returns
returns c = λ pool known below held is_pool.
    let name = c.args.name.now in
    let count = c.args.count in
    let n : Noted = record { number = c.number_of-number.result; sizes = c.sizes_of-sizes.result; symbol = c.args.symbol.0 } in
    let is : IsNoted pool n = record {
      size = length name;
      count = count;
      sizes_are = c.sizes_of-sizes.ensures;
      fits = omega (arith, c.if-name-gt-LONGEST.false);
      there = below;
      held = λ short. subst (λ bs. Holds pool c.args.symbol (named bs count)) (sym (c.number_of-number.ensures short)) held;
      is_pool = is_pool;
    } in
    All-set (λ (m : Noted). (m.sizes ≡ 4294967295) ⊎ IsNoted pool m) c.self.inside.noted c.place.result n (inr is) (subst (λ ps. AreKnown ps pool) (sym c.self.view_is) known)
