use Rattle.term_makers.proofs.maker.protect.Goals as goal

pub returns-then-is_ok-clause-uses : goal.returns-then-is_ok-clause-uses
returns-then-is_ok-clause-uses c = c.keep_roots.ensures.keeps.uses c.args.row.0 (c.push_root.ensures.keeps.uses c.args.row.0 c.requires.uses)
