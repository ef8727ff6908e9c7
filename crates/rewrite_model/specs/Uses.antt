-- How many replacements an evaluation makes in its room. By rules without conditions.
use Rattle.std.specs.Prelude.{ℕ, ◌+◌, List, [], ◌∷◌, length, if◌then◌else◌, nat_lt}
use Rattle.term_model.specs.Tree.{Tree}
use Rattle.rewrite_model.specs.Rule.{Rule}
use Rattle.rewrite_model.specs.Matching.{match_of, if_matched}
use Rattle.rewrite_model.specs.Evaluation.{Point, evaluation}

-- The first rule that matches a tree replaces it where there is room for the trees that it binds
-- and one more. Where there isn't, no rule does.
abbrev pub replaces_in_room : List Rule → Tree → ℕ → ℕ
replaces_in_room [] t room = 0
replaces_in_room (r ∷ rs) t room = if_matched (match_of r.left t) (replaces_in_room rs t room)
    (λ bound. if nat_lt room (1 + length bound) then 0 else 1)

-- one at each point whose tree is replaced in the room of the point
abbrev pub replaced_at : List Rule → List Point → ℕ
replaced_at rules [] = 0
replaced_at rules (p ∷ ps) = replaces_in_room rules p.tree p.room + replaced_at rules ps

-- Of a term that doesn't run out of fuel.
abbrev pub replaced_in_room : List Rule → Tree → ℕ → ℕ → ℕ
replaced_in_room rules term fuel room = replaced_at rules (evaluation rules term fuel room).notes
