use Rattle.std.proofs.Common.{ℕ, List, subst, sym, arith}
use Rattle.std.proofs.lemmas.Result.{err_from_is_err_and}
use Rattle.term_file.specs.declared.fault.ShareFault.TheVariants.{StoreFull}
use Rattle.term_file.specs.Outcome.{head_of}
use Rattle.term_file.specs.Growing.{contents_so_far}
use Rattle.term_file.specs.Sharing.{Takes, IsCutInto}
use Rattle.term_file.proofs.Shares.{enough, takes, takes_too_many, same_fault}
use Rattle.term_file.proofs.growing.Growing.take.Goals as goal

pub take_last-requires : goal.take_last-requires
take_last-requires c = omega (arith, c.arity.ensures, enough c.args.names.now c.args.item (contents_so_far c.args.self.now) c.requires.writable c.requires.next)

pub returns-in_err-number-clause-full_only_where : goal.returns-in_err-number-clause-full_only_where
returns-in_err-number-clause-full_only_where c =
    let p = err_from_is_err_and c.from_residual-in_err-number.result c.from_residual-in_err-number.ensures.1 in
    let cut = subst (λ (n : ℕ). IsCutInto c.args.self.now.stack.items c.take_last.new.stack.items c.in_ok-arguments.arguments.items n) c.arity.ensures c.in_ok-arguments.ensures in
    rw (p.1, p.2) (λ e.
    takes_too_many c.args.names.now c.args.item (contents_so_far c.args.self.now) c.requires.writable (head_of c.in_ok-kind.kind) c.kind_of.new.self c.in_ok-kind.ensures.numbered c.take_last.new.stack.items c.in_ok-arguments.arguments.items cut
    c.args.rows c.requires.pool (c.in_err-number.ensures.full_only_where (same_fault c.in_err-number.field-0.0 StoreFull e)) (c.in_err-number.ensures.full_for_new (same_fault c.in_err-number.field-0.0 StoreFull e)))

pub returns : goal.returns
returns c =
    let cut = subst (λ (n : ℕ). IsCutInto c.args.self.now.stack.items c.take_last.new.stack.items c.in_ok-arguments.arguments.items n) c.arity.ensures c.in_ok-arguments.ensures in
    record {
      taken = subst (λ (st : List ℕ). Takes c.args.names.now c.args.item (contents_so_far c.args.self.now) (record { symbols = c.kind_of.new.self; records = c.number_of.new.table; roots = st })) (sym c.in_ok-push.ensures.items)
          (takes c.args.names.now c.args.item (contents_so_far c.args.self.now) c.requires.writable (head_of c.in_ok-kind.kind) c.kind_of.new.self c.in_ok-kind.ensures.numbered c.take_last.new.stack.items c.in_ok-arguments.arguments.items cut
          c.number_of.new.table c.in_ok-number.number c.in_ok-number.ensures.placed);
      few = c.in_ok-number.ensures.few;
      full_only_where = λ e. absurd (cc);
    }
