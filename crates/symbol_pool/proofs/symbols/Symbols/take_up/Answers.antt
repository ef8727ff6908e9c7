use Rattle.std.proofs.Common.{◌∙◌, ◌++◌, ◌∷◌, [], Ok, Err, ap, refl, sym, subst, rules}
use Rattle.symbol_pool.specs.declared.fault.PoolFault.TheVariants.{Full}
use Rattle.symbol_pool.proofs.Places.{on_err}
use Rattle.symbol_pool.proofs.Pools.{pool_of_kept, shown_length, full_now, not_full_held, not_full_room}
use Rattle.symbol_pool.proofs.Grown.{same_symbols, with_name, stands_there, Interned, interned}
use Rattle.symbol_pool.specs.Pool.{named, Lacks}
use Rattle.symbol_pool.specs.Kept.{symbols_of, AreKept}
use Rattle.symbol_pool.proofs.symbols.Symbols.take_up.Goals as goal

pub returns-in_err-name-clause-unchanged : goal.returns-in_err-name-clause-unchanged
returns-in_err-name-clause-unchanged c = on_err _ (same_symbols _ _ _ c.self.invariant c.name_index.ensures.stays ∙ c.self.view_is)

pub returns-in_err-name-clause-pool : goal.returns-in_err-name-clause-pool
returns-in_err-name-clause-pool c = pool_of_kept _ _ (with_name _ _ _ c.self.invariant c.name_index.ensures.stays c.name_index.ensures.differ)

pub returns-in_err-symbol-clause-unchanged : goal.returns-in_err-symbol-clause-unchanged
returns-in_err-symbol-clause-unchanged c =
    on_err _ (ap (symbols_of c.name_index.new.names.keys) c.in_err-symbol.ensures.err ∙ same_symbols _ _ _ c.self.invariant c.name_index.ensures.stays ∙ c.self.view_is)

pub returns-in_err-symbol-clause-pool : goal.returns-in_err-symbol-clause-pool
returns-in_err-symbol-clause-pool c =
    pool_of_kept _ _ (subst (AreKept c.name_index.new.names.keys) (sym c.in_err-symbol.ensures.err) (with_name _ _ _ c.self.invariant c.name_index.ensures.stays c.name_index.ensures.differ))

grown : (c : goal.In_ok-symbol) → Interned c.self.inside.names.keys c.name_index.new.names.keys c.self.inside.pairs.keys c.insert_full.new.self.keys (named c.args.name.now c.args.arity)
grown c =
    interned
    c.self.inside.names.keys
    c.name_index.new.names.keys
    c.self.inside.pairs.keys
    c.insert_full.new.self.keys
    c.in_ok-name.name
    c.args.name.now
    c.args.arity
    c.self.invariant
    c.name_index.ensures.stays
    c.name_index.ensures.differ
    c.in_ok-name.ensures.named
    (subst (λ pool. Lacks pool (named c.args.name.now c.args.arity)) (sym c.self.view_is) c.in_default.ensures.absent)
    c.in_ok-symbol.ensures.keys
    c.insert_full.ensures.unique
    (λ e. c.if-len-eq-MOST_SYMBOLS.false (c.len.ensures.len ∙ e))

pub invariant_of-self-2 : goal.invariant_of-self-2
invariant_of-self-2 c = (grown c).kept

pub returns-clause-held : goal.returns-clause-held
returns-clause-held c =
    let k = c.in_ok-symbol.ensures.stored in
    stands_there c.name_index.new.names.keys c.in_ok-name.name c.args.name.now c.args.arity c.in_ok-name.ensures.named c.insert_full.new.self.keys c.in_ok-symbol.symbol k.0 k.1 k.2

pub returns-clause-added : goal.returns-clause-added
returns-clause-added c = λ _. (grown c).shows ∙ ap (λ pool. pool ++ named c.args.name.now c.args.arity ∷ []) c.self.view_is

pub returns-clause-pool : goal.returns-clause-pool
returns-clause-pool c = pool_of_kept _ _ (grown c).kept

pub returns-in-Some-clause-full : goal.returns-in-Some-clause-full
returns-in-Some-clause-full c = not_full_held (Ok c.in-Some.symbol) c.args.self.now (named c.args.name.now c.args.arity) c.in-Some.symbol (λ e. cc) c.in-Some.ensures.found

pub returns-in-Some-clause-found : goal.returns-in-Some-clause-found
returns-in-Some-clause-found c = λ has. refl

pub returns-then-len-eq-MOST_SYMBOLS-clause-full : goal.returns-then-len-eq-MOST_SYMBOLS-clause-full
returns-then-len-eq-MOST_SYMBOLS-clause-full c =
    full_now (Err Full) c.args.self.now (named c.args.name.now c.args.arity) refl c.in_default.ensures.absent
    (shown_length c.self.inside.names.keys c.self.inside.pairs.keys c.args.self.now c.self.view_is ∙ sym c.len.ensures.len ∙ c.if-len-eq-MOST_SYMBOLS.true)

pub returns-in_err-name-clause-full : goal.returns-in_err-name-clause-full
returns-in_err-name-clause-full c =
    not_full_room c.from_residual.result c.args.self.now (named c.args.name.now c.args.arity) (search rules)
    (λ e. c.if-len-eq-MOST_SYMBOLS.false (c.len.ensures.len ∙ sym (shown_length c.self.inside.names.keys c.self.inside.pairs.keys c.args.self.now c.self.view_is) ∙ e))

pub returns-in_err-symbol-clause-full : goal.returns-in_err-symbol-clause-full
returns-in_err-symbol-clause-full c =
    not_full_room c.from_residual-in_err-symbol.result c.args.self.now (named c.args.name.now c.args.arity) (search rules)
    (λ e. c.if-len-eq-MOST_SYMBOLS.false (c.len.ensures.len ∙ sym (shown_length c.self.inside.names.keys c.self.inside.pairs.keys c.args.self.now c.self.view_is) ∙ e))

pub returns-clause-full : goal.returns-clause-full
returns-clause-full c =
    not_full_room (Ok (record { 0 = c.in_ok-symbol.symbol })) c.args.self.now (named c.args.name.now c.args.arity) (λ e. cc)
    (λ e. c.if-len-eq-MOST_SYMBOLS.false (c.len.ensures.len ∙ sym (shown_length c.self.inside.names.keys c.self.inside.pairs.keys c.args.self.now c.self.view_is) ∙ e))

pub returns-clause-found : goal.returns-clause-found
returns-clause-found c = λ has. absurd (c.in_default.ensures.absent has.0 has.1)
