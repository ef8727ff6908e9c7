use Rattle.std.proofs.Common.{List, length, map, All, inl, refl, ap, arith, sym, subst, ◌∙◌}
use Rattle.std.specs.Option.{IsSome}
use Rattle.std.proofs.lemmas.Result.{err_from_is_err_and}
use Rattle.term_model.specs.Postorder.{tree_of}
use Rattle.term_model.specs.Tree.{IsGround}
use Rattle.term_syntax.proofs.Ground.{all_are_ground}
use Rattle.term_syntax.specs.declared.machine.Node.{Node}
use Rattle.term_model.specs.declared.Item.{Item}
use Rattle.read_faults.specs.Fault.{IsDue}
use Rattle.symbol_pool.proofs.Taking.{grows_itself}
use Rattle.term_syntax.specs.Parts.{taken_up, symbols_of_parts}
use Rattle.term_syntax.specs.Shown.{parts_in}
use Rattle.term_syntax.specs.TakenUp.{TookFront}
use Rattle.term_syntax.specs.Items.{item_in, items_at, trees_at, IsThere, AreWithin}
use Rattle.term_syntax.proofs.Readings.{held, can_be_written, within, can_spell, reading, part_refusal, front_taken, syntax_refusal, only_one, no_refusal}
use Rattle.term_syntax.proofs.terms.read_terms.Goals as goal

pub syntax-requires : goal.syntax-requires
syntax-requires c = omega (arith, c.if-bytes-gt-MOST_BYTES.false)

pub flats-requires : goal.flats-requires
flats-requires c =
    let text = c.args.bytes.now in
    let P : List Item → List (List Node) → Type 0 = λ is ns. All (λ n. IsSome (tree_of (items_at is n))) ns in
    let new = c.items_of.new.symbols in
    let read = c.in_ok-parts.ensures.read in
    let parts = parts_in text c.in_ok-parts.parts in
    let ns = c.in_ok-parts.nodes.terms in
    let items = c.in_ok-items.ensures.items ∙ ap (λ ps. map (item_in new) (parts_in text ps)) c.as_slice.ensures in
    let same = sym c.as_slice-2.ensures.value in
    record {
      spelled = subst (λ is. P is ns) same (can_spell read.tokens parts ns read.spelled new c.in_ok-items.items.items items);
      within = subst (λ is. All (AreWithin (length is)) ns) same (within read.tokens parts ns read.spelled new c.in_ok-items.items.items items);
    }

pub returns-in_err-parts : goal.returns-in_err-parts
returns-in_err-parts c =
    let p = err_from_is_err_and c.from_residual.result c.from_residual.ensures.1 in
    let old = c.args.symbols.now in
    let e = c.in_err-parts.field-0.0 in
    let refusal = syntax_refusal c.args.bytes.now old e c.in_err-parts.ensures.refused in
    record {
      too_long = λ long. absurd (omega (arith, long, c.if-bytes-gt-MOST_BYTES.false));
      read = rw p.1 tt;
      ground = rw p.1 tt;
      held = rw p.1 tt;
      writable = rw p.1 tt;
      only = rw p.1 tt;
      accepted = λ new trees r. rw (p.1, p.2) (no_refusal c.args.bytes.now old new trees e refusal r);
      refused = rw (p.1, p.2) refusal;
      grows = grows_itself old;
      front_where_not_read = rw p.1 (inl refl);
    }

pub returns-in_err-items : goal.returns-in_err-items
returns-in_err-items c =
    let p = err_from_is_err_and c.from_residual-in_err-items.result c.from_residual-in_err-items.ensures.1 in
    let text = c.args.bytes.now in
    let old = c.args.symbols.now in
    let now = c.items_of.new.symbols in
    let e = c.in_err-items.field-0.0 in
    let read = c.in_ok-parts.ensures.read in
    let parts = parts_in text c.in_ok-parts.parts in
    let ns = c.in_ok-parts.nodes.terms in
    let due : IsDue (taken_up old parts) e = subst (λ ps. IsDue (taken_up old (parts_in text ps)) e) c.as_slice.ensures c.in_err-items.ensures.refused in
    let refusal = part_refusal read.tokens parts ns read.spelled text read.cut old e due in
    let front : TookFront (symbols_of_parts parts) old now = subst (λ ps. TookFront (symbols_of_parts (parts_in text ps)) old now) c.as_slice.ensures c.items_of.ensures.front in
    record {
      too_long = λ long. absurd (omega (arith, long, c.if-bytes-gt-MOST_BYTES.false));
      read = rw p.1 tt;
      ground = rw p.1 tt;
      held = rw p.1 tt;
      writable = rw p.1 tt;
      only = rw p.1 tt;
      accepted = λ new trees r. rw (p.1, p.2) (no_refusal text old new trees e refusal r);
      refused = rw (p.1, p.2) refusal;
      grows = c.items_of.ensures.grows;
      front_where_not_read = rw p.1 (front_taken read.tokens parts ns read.spelled text read.cut old now front);
    }

pub returns-in_err-flats : goal.returns-in_err-flats
returns-in_err-flats c =
    let p = err_from_is_err_and c.from_residual-in_err-flats.result c.from_residual-in_err-flats.ensures.1 in
    let text = c.args.bytes.now in
    let old = c.args.symbols.now in
    let now = c.items_of.new.symbols in
    let read = c.in_ok-parts.ensures.read in
    let parts = parts_in text c.in_ok-parts.parts in
    let ns = c.in_ok-parts.nodes.terms in
    let front : TookFront (symbols_of_parts parts) old now = subst (λ ps. TookFront (symbols_of_parts (parts_in text ps)) old now) c.as_slice.ensures c.items_of.ensures.front in
    record {
      too_long = λ long. absurd (omega (arith, long, c.if-bytes-gt-MOST_BYTES.false));
      read = rw p.1 tt;
      ground = rw p.1 tt;
      held = rw p.1 tt;
      writable = rw p.1 tt;
      only = rw p.1 tt;
      accepted = λ new trees r. rw p.1 p.2;
      refused = rw (p.1, p.2) tt;
      grows = c.items_of.ensures.grows;
      front_where_not_read = rw p.1 (front_taken read.tokens parts ns read.spelled text read.cut old now front);
    }

pub returns : goal.returns
returns c =
    let text = c.args.bytes.now in
    let old = c.args.symbols.now in
    let new = c.items_of.new.symbols in
    let read = c.in_ok-parts.ensures.read in
    let parts = parts_in text c.in_ok-parts.parts in
    let ns = c.in_ok-parts.nodes.terms in
    let made = c.in_ok-items.items.items in
    let flats = c.in_ok-flats.flats in
    let taken = ap (λ ps. taken_up old (parts_in text ps)) (sym c.as_slice.ensures) ∙ c.in_ok-items.ensures.taken in
    let items = c.in_ok-items.ensures.items ∙ ap (λ ps. map (item_in new) (parts_in text ps)) c.as_slice.ensures in
    let spelled = c.in_ok-flats.ensures ∙ ap (λ is. trees_at is ns) c.as_slice-2.ensures.value in
    let there = subst (λ ps. All (IsThere new) (parts_in text ps)) c.as_slice.ensures c.in_ok-items.ensures.there in
    let r = reading read.tokens parts ns read.spelled text read.cut old new made flats taken items spelled in
    record {
      too_long = λ long. absurd (omega (arith, long, c.if-bytes-gt-MOST_BYTES.false));
      read = r;
      ground = subst (All IsGround) (sym r.trees_are) (all_are_ground new r.terms);
      held = held read.tokens parts ns read.spelled text read.cut new made flats items spelled there;
      writable = can_be_written read.tokens parts ns read.spelled text read.cut old new made flats taken items spelled there;
      only = λ pool others q. only_one text old new pool flats others r q;
      accepted = λ pool others q. tt;
      refused = tt;
      grows = c.items_of.ensures.grows;
      front_where_not_read = tt;
    }
