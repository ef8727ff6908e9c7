use Rattle.store_core.proofs.machine.copies.copy.Goals as goal

pub returns : goal.returns
returns c = rw (c.in_ok-copy_call.ensures, c.in_ok-roots.ensures.roots, c.in_ok-roots.ensures.got, c.in_ok-roots.ensures.knows, c.in_ok-entries.ensures.entries, c.in_ok-entries.ensures.path, c.in_ok-entries.ensures.refused)
