use Rattle.std.proofs.Common.{ℕ, List, length, sym, subst}
use Rattle.term_model.specs.declared.Head.{Head}
use Rattle.store_model.specs.declared.view.Place.{Place}
use Rattle.store_model.specs.declared.view.Place.TheVariants.{RowWord}
use Rattle.store_model.specs.Shown.{shown}
use Rattle.store_model.specs.MarkedChains.{HasWords, HasContent}
use Rattle.store_core.proofs.HasContents.{has_content, content, none_by_words}
use Rattle.store_core.proofs.Outcomes.{at_none}
use Rattle.store_core.proofs.machine.row_contents.content_over.Goals as goal

pub returns-in_default : goal.returns-in_default
returns-in_default c =
    let z = c.args.table.now.sizes in
    let w : Place → ℕ = shown z c.args.table.now.words.items in
    let xs = c.args.arguments.now in
    none_by_words z w c.args.row xs c.requires (λ f h. at_none c.head_of.result _ _ c.in_default.is c.head_of.ensures f
    (subst (λ (n : ℕ). HasWords n (length xs) c.load-value.result f) (sym c.load-symbol.ensures) (subst (λ (n : ℕ). HasWords (w (RowWord c.args.row 0)) (length xs) n f) (sym c.load-value.ensures) h)))

pub returns : goal.returns
returns c =
    let z = c.args.table.now.sizes in
    let w : Place → ℕ = shown z c.args.table.now.words.items in
    let xs = c.args.arguments.now in
    let f : Head = c.in-Some.head in
    subst (λ (ys : List ℕ). HasContent w c.args.row (content f ys)) (sym c.in_ok-listed.ensures)
    (has_content z w c.args.row f xs c.requires
    (subst (λ (n : ℕ). HasWords n (length xs) (w (RowWord c.args.row 2)) f) c.load-symbol.ensures (subst (λ (n : ℕ). HasWords c.load-symbol.result (length xs) n f) c.load-value.ensures c.in-Some.ensures)))
