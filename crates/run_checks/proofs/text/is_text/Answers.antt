use Rattle.std.proofs.Common.{subst, [], ◌∷◌, ◌++◌, arith}
use Rattle.std.proofs.lemmas.Bool.{false≢true}
use Rattle.term_text.specs.Text.{text}
use Rattle.run_checks.specs.Held.{term_at}
use Rattle.run_checks.specs.Pieces.{ArePieces}
use Rattle.run_checks.proofs.Texts.{ahead_at_first, ahead_goes_on, ahead_never, ahead_finally}
use Rattle.run_checks.proofs.text.is_text.Goals as goal

pub pieces-init : goal.pieces-init
pieces-init c = ahead_at_first c.args.table.now c.args.number c.args.line.now c.in_ok-pieces.pieces.items c.requires c.in_ok-pieces.ensures.items

pub take-requires : goal.take-requires
take-requires c = subst (ArePieces c.args.table.now) c.in-Some.ensures.items c.pieces.invariant.are

pub pieces-preserved : goal.pieces-preserved
pieces-preserved c =
    (ahead_goes_on c.args.table.now c.args.line.now (text c.args.table.now.symbols (term_at c.args.table.now c.args.number)) c.pieces.rest.now c.pieces.pieces.items (c.pop.new.self.items ++ c.in-Some.piece ∷ []) c.take.new.pieces.items c.in_ok-after.field-0 c.in-Some-2.after c.in-Some.ensures.items c.in_ok-after.ensures c.in-Some-2.is c.pieces.invariant).0

pub pieces-smaller : goal.pieces-smaller
pieces-smaller c =
    (ahead_goes_on c.args.table.now c.args.line.now (text c.args.table.now.symbols (term_at c.args.table.now c.args.number)) c.pieces.rest.now c.pieces.pieces.items (c.pop.new.self.items ++ c.in-Some.piece ∷ []) c.take.new.pieces.items c.in_ok-after.field-0 c.in-Some-2.after c.in-Some.ensures.items c.in_ok-after.ensures c.in-Some-2.is c.pieces.invariant).1

pub returns-in-None : goal.returns-in-None
returns-in-None c =
    ((λ e. absurd (false≢true e)), (λ s. absurd (ahead_never c.args.table.now c.args.line.now (text c.args.table.now.symbols (term_at c.args.table.now c.args.number)) c.pieces.rest.now c.pieces.pieces.items (c.pop.new.self.items ++ c.in-Some.piece ∷ []) c.take.new.pieces.items c.in_ok-after.field-0 c.in-Some.ensures.items c.in_ok-after.ensures c.in-None.is c.pieces.invariant s)))

pub returns : goal.returns
returns c =
    ahead_finally c.args.table.now c.args.line.now (text c.args.table.now.symbols (term_at c.args.table.now c.args.number)) c.pieces.rest.now c.pieces.pieces.items c.is_empty.result (let none = c.in_default.ensures.cases.0 in omega (arith, none)) c.is_empty.ensures c.pieces.invariant
