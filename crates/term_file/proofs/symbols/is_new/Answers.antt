use Rattle.std.proofs.Common.{◌∙◌}
use Rattle.symbol_pool.specs.Pool.{named}
use Rattle.term_file.proofs.TableLaws.{new_symbol, none_is}
use Rattle.term_file.proofs.symbols.is_new.Goals as goal

pub returns : goal.returns
returns c =
    none_is c.find.result c.is_none.result c.is_none.ensures
    ∙ new_symbol c.args.symbols.now (named c.args.name.now c.args.arity) c.find.result c.find.ensures.found c.find.ensures.absent
