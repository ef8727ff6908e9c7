-- Open groups, the innermost first.
use Rattle.std.specs.Prelude.{List, [], ◌∷◌}
use Rattle.term_building.specs.declared.groups.Group.{Group}

-- all but the innermost
abbrev pub under : List Group → List Group
under [] = []
under (g ∷ gs) = gs
