use Rattle.term_create.proofs.creating.create_inside.Given as goal

abbrev pub ghosts-create_uncounted : goal.ghosts-create_uncounted
ghosts-create_uncounted a = record { name = a.blank.name; parts = a.blank.parts }
