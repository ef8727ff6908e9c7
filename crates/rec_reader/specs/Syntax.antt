-- Values of the syntax.
use Rattle.std.specs.Prelude.{[], None}
use Rattle.rec_reader.specs.declared.token.Name.{Name}
use Rattle.rec_reader.specs.declared.syntax_tree.Rule.{Rule}
use Rattle.rec_reader.specs.declared.syntax_tree.Specification.{Specification}

-- a rule that nothing was read of
abbrev pub blank_rule : Rule
blank_rule = record { left = []; right = []; condition_at = None; conditions = [] }

-- a specification of which the name was read
abbrev pub blank_specification : Name → Specification
blank_specification name =
    record { name = name; includes = []; sorts = []; declarations = []; variables = []; rules = []; terms = [] }
