use Rattle.std.proofs.Common.{ℕ, length, set, sym, ap, ◌∙◌, subst}
use Rattle.std.proofs.lemmas.List.{length-replicate}
use Rattle.store_model.specs.Shown.{total}
use Rattle.node_rows.specs.Opening.{UpTo}
use Rattle.node_rows.proofs.Opens.{up_to_none}
use Rattle.node_rows.proofs.make.put_single.Goals as goal

pub returns : goal.returns
returns c =
    let z = c.args.sizes.now in
    let ws = c.args.words.now in
    let zeros = c.requires.zeros in
    let base = c.base_word.ensures.word in
    let count = c.free_count_word.ensures.word in
    let in_use = c.in_use_word.ensures.word in
    subst (λ (q : ℕ × ℕ × ℕ). UpTo z (set (set (set ws q.0 z.first) q.1 z.rows) q.2 z.start) 0) (λ k. (sym base k, sym count k, sym in_use k))
    (up_to_none z ws zeros (ap length zeros ∙ length-replicate (total z) 0))
