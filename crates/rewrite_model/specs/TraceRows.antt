-- Worked rows: the events of derivations, and what events lead to.
use Rattle.std.specs.Prelude.{◌≡◌, List, [], ◌∷◌, Some, None}
use Rattle.rewrite_model.specs.Rule.{Rule}
use Rattle.rewrite_model.specs.Run.{Done, TooDeep}
use Rattle.rewrite_model.specs.Trace.{trace}
use Rattle.rewrite_model.specs.Uses.{replaced_in_room}
use Rattle.rewrite_model.specs.Replay.{replayed}
use Rattle.rewrite_model.specs.declared.event.Event.TheVariants.{Down, Up, Rule as Use}
use Rattle.rewrite_model.specs.Samples.{a, b, c, z, s, f, g, pair, x, y, rule, value}
use Rattle.rewrite_model.specs.Rows.{sums, one_and_one}

-- 1 + 1 is 2: rule 1 makes s(plus(s(z), z)) of it, and rule 0 is used on the argument.
abbrev pub OneAndOneIsTraced : Type 0
OneAndOneIsTraced = trace sums one_and_one 9 ≡ Use 1 ∷ Down 1 ∷ Use 0 ∷ []

-- The cursor goes up no further than to the last position that both have in common, and not at the
-- end. By f(X) -> c: in pair(pair(f(a), f(b)), f(a)) f(a) at 1 1, f(b) at 1 2, and f(a) at 2.
abbrev pub FewestMoves : Type 0
FewestMoves = trace (rule (f x) c 1 ∷ []) (pair (pair (f a) (f b)) (f a)) 3
    ≡ Down 1 ∷ Down 1 ∷ Use 0 ∷ Up ∷ Down 2 ∷ Use 0 ∷ Up ∷ Up ∷ Down 2 ∷ Use 0 ∷ []

-- Arguments go before the tree over them, and at a position the first rule that matches is used: by
-- f(X) -> c, g(X) -> b, g(X) -> a the tree g(f(a)) becomes g(c), and that becomes b by rule 1.
abbrev pub ArgumentsFirst : Type 0
ArgumentsFirst = trace (rule (f x) c 1 ∷ rule (g x) b 1 ∷ rule (g x) a 1 ∷ []) (g (f a)) 9
    ≡ Down 1 ∷ Use 0 ∷ Up ∷ Use 1 ∷ []

-- Rule 0 doesn't match plus(s(z), s(z)), so that no term is reached by it.
abbrev pub OnlyWhereItMatches : Type 0
OnlyWhereItMatches = (replayed sums (Use 1 ∷ Down 1 ∷ Use 0 ∷ []) [] one_and_one ≡ Some (s (s z)))
    × (replayed sums (Use 0 ∷ Use 1 ∷ Down 1 ∷ Use 0 ∷ []) [] one_and_one ≡ None)

-- No move leads off the term: there is nothing above the root, and f(a) has one argument.
abbrev pub StaysOnTheTerm : Type 0
StaysOnTheTerm = (replayed [] (Down 1 ∷ Up ∷ []) [] (f a) ≡ Some (f a))
    × (replayed [] (Up ∷ []) [] (f a) ≡ None)
    × (replayed [] (Down 2 ∷ []) [] (f a) ≡ None) × (replayed [] (Down 0 ∷ []) [] (f a) ≡ None)

-- A rule without room for the trees that it binds, and one more, replaces nothing. By f(X) ->
-- s(g(X)), g(pair(X, Y)) -> a, in room 4, f(pair(a, b)) is replaced, and g(pair(a, b)), in room 2,
-- isn't: the rule of two variables needs room 3. In room 5 both are.
abbrev without_room : List Rule
without_room = rule (f x) (s (g x)) 1 ∷ rule (g (pair x y)) a 2 ∷ []

abbrev pub NoRoomForTheRule : Type 0
NoRoomForTheRule = (value without_room (f (pair a b)) 9 4 ≡ TooDeep)
    × (replaced_in_room without_room (f (pair a b)) 9 4 ≡ 1)
    × (value without_room (f (pair a b)) 9 5 ≡ Done (s a) 7)
    × (replaced_in_room without_room (f (pair a b)) 9 5 ≡ 2)

-- A rule with that room replaces its tree, though its right side may find none. By f(X) -> g(X),
-- f(b) in room 2 is replaced by g(b), whose argument finds none; in room 1 b finds none, and
-- nothing is replaced.
abbrev pub NoRoomOnTheRight : Type 0
NoRoomOnTheRight = (value (rule (f x) (g x) 1 ∷ []) (f b) 9 2 ≡ TooDeep)
    × (replaced_in_room (rule (f x) (g x) 1 ∷ []) (f b) 9 2 ≡ 1)
    × (value (rule (f x) (g x) 1 ∷ []) (f b) 9 1 ≡ TooDeep)
    × (replaced_in_room (rule (f x) (g x) 1 ∷ []) (f b) 9 1 ≡ 0)
