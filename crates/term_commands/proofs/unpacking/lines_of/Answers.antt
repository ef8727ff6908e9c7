use Rattle.std.proofs.Common.{◌≡◌, ◌+◌, ◌<◌, ◌++◌, ◌&&◌, [], get_or, length, drop, sym, ap, ap₂, subst, ◌∙◌, arith}
use Rattle.std.specs.Prelude.{unwrap_or}
use Rattle.std.proofs.lemmas.Option.{slice_get-get_or}
use Rattle.term_model.specs.Tree.{Leaf}
use Rattle.term_file.specs.Contents.{tree_at}
use Rattle.term_commands.specs.Unpacking.{lines, all_written}
use Rattle.term_commands.specs.WritingLines.{WritesLine}
use Rattle.term_commands.proofs.Lines.{text_goes_on, whole_goes_on, within_more}
use Rattle.term_commands.proofs.unpacking.lines_of.Goals as goal

pub loop-root-preserved : goal.loop-root-preserved
loop-root-preserved c =
    let names = c.args.shared.now.symbols in
    let trees = c.args.shared.now.trees in
    let root = c.loop-root.root in
    let written = c.loop-root.written in
    let old = c.loop-root.text.items in
    let new = c.write_line.new.text.items in
    let test = c.loop-root-test.true in
    let size = c.len-root-end.ensures in
    let below : root < length trees = omega (arith, test, size) in
    let t = get_or trees root (Leaf 0) in
    let at : tree_at trees root ≡ t = ap (λ o. unwrap_or o (Leaf 0)) (slice_get-get_or trees root (Leaf 0) below) in
    let line : WritesLine names t written old new c.in_ok-nodes.nodes = subst (λ u. WritesLine names u written old new c.in_ok-nodes.nodes) at c.in_ok-nodes.ensures in
    let within = within_more names t [] written old new c.in_ok-nodes.nodes c.loop-root.invariant.written line in
    let nodes : written + unwrap_or c.in_ok-nodes.nodes 0 ≡ written + c.unwrap_or-written.result = ap (λ n. written + n) (sym c.unwrap_or-written.ensures) in
    let text = text_goes_on names trees (Leaf 0) root written old new (lines 0 names trees) c.in_ok-nodes.nodes below c.loop-root.invariant.text line in
    let whole = whole_goes_on names trees (Leaf 0) root written old new c.loop-root.whole (all_written 0 trees) c.in_ok-nodes.nodes below c.loop-root.invariant.whole line in
    record {
      written = omega (arith, within, nodes);
      text = subst (λ m. new ++ lines m names (drop (root + 1) trees) ≡ lines 0 names trees) nodes text;
      whole = ap₂ (λ b m. (c.loop-root.whole && b) && all_written m (drop (root + 1) trees)) c.is_some-whole.ensures (sym nodes) ∙ whole;
    }
