use Rattle.std.proofs.Common.{◌≡◌, ◌++◌, drop}
use Rattle.tree_text.specs.Canonical.{canonical_lines}
use Rattle.term_commands.proofs.listing.write_lines.Given as goal

-- with the lines that are left it is all
abbrev pub invariant-loop-term : goal.invariant-loop-term
invariant-loop-term l =
    l.out.items ++ canonical_lines l.symbols (drop l.term-index l.terms) ≡ l.fn.out.items ++ canonical_lines l.symbols l.terms
