use Rattle.std.proofs.Common.{◌∙◌, ◌++◌, ◌∷◌, [], ℕ, List, ap}
use Rattle.term_model.specs.declared.Item.{Item}
use Rattle.term_file.specs.Outcome.{view}
use Rattle.term_file.proofs.Facts.{facts_at}
use Rattle.term_file.proofs.Expanded.{last_written, fewer_left, arguments_left}
use Rattle.term_file.proofs.expanding.write_last.Goals as goal

pub root_item-requires : goal.root_item-requires
root_item-requires c = (facts_at c.args.symbols.now c.args.table.now c.requires.right c.args.number (view c.at-entry.result.now) c.at-entry.ensures).head_right

pub returns : goal.returns
returns c = record {
  left = last_written c.args.symbols.now c.args.table.now c.requires.right c.args.number (view c.at-entry.result.now) c.at-entry.ensures
      c.args.numbers.now.items c.extend_from_slice.new.self.items c.args.items.now.items c.push.new.self.items
      (c.in_ok-extend_from_slice.ensures.items ∙ ap (λ (ks : List ℕ). c.args.numbers.now.items ++ ks) c.deref.ensures.value)
      (c.in_ok-push.ensures.items ∙ ap (λ (i : Item). c.args.items.now.items ++ i ∷ []) c.root_item.ensures);
  below = arguments_left c.args.symbols.now c.args.table.now c.requires.right c.args.number (view c.at-entry.result.now) c.at-entry.ensures
      c.args.numbers.now.items c.extend_from_slice.new.self.items
      (c.in_ok-extend_from_slice.ensures.items ∙ ap (λ (ks : List ℕ). c.args.numbers.now.items ++ ks) c.deref.ensures.value) c.requires.below;
  less = fewer_left c.args.symbols.now c.args.table.now c.requires.right c.args.number (view c.at-entry.result.now) c.at-entry.ensures
      c.args.numbers.now.items c.extend_from_slice.new.self.items
      (c.in_ok-extend_from_slice.ensures.items ∙ ap (λ (ks : List ℕ). c.args.numbers.now.items ++ ks) c.deref.ensures.value);
}
