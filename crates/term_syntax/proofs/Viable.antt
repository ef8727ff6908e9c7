-- Each place of an input may be led to an end.
use Rattle.std.proofs.Common.{◌+◌, ℕ, List, [], ◌∷◌, refl, Bool, true, false, Some}
use Rattle.term_syntax.specs.Token.{Number, At}
use Rattle.term_syntax.specs.declared.token.Mark.TheVariants.{Open, Close, CloseList}
use Rattle.term_syntax.specs.State.{Part, Machine}
use Rattle.term_syntax.specs.declared.machine.Node.{Node}
use Rattle.term_syntax.specs.declared.machine.Group.{Group}
use Rattle.term_syntax.specs.declared.machine.Place.{Place}
use Rattle.term_syntax.specs.declared.machine.Place.TheVariants.{Settled, Bracketed, Expected, Headed}
use Rattle.term_syntax.proofs.Outcome.{outcome}
use Rattle.term_syntax.proofs.Complete.{state, group, whole, closes, list_closes, expected_starts, bracket_starts, Starts}
use Rattle.term_syntax.proofs.Ahead.{Ends_somehow, then_token}

-- after a whole term in a group, if a whole term under the other groups leads to an end
in_group_ends : (called : Bool) (k n : ℕ) (gs : List Group) (P : List Part) (N : List Node) (T : List (List Node)) → ((Q : List Part) (M : List Node) → Ends_somehow (whole gs Q M T)) → Ends_somehow (state Settled (group called k n ∷ gs) P N T)
in_group_ends true k n gs P N T rest = then_token _ _ (At Close 0) (closes gs k n 0 P N T) (rest _ _)
in_group_ends false k n gs P N T rest = then_token _ _ (At CloseList 0) (list_closes gs k n 0 P N T) (rest _ _)

whole_ends : (gs : List Group) (P : List Part) (N : List Node) (T : List (List Node)) → Ends_somehow (whole gs P N T)
unfolding outcome
whole_ends [] P N T = ([], _, refl)
whole_ends (g ∷ gs) P N T = in_group_ends g.called g.part (g.count + 1) gs P N T (λ Q M. whole_ends gs Q M T)

settled_ends : (gs : List Group) (P : List Part) (N : List Node) (T : List (List Node)) → Ends_somehow (state Settled gs P N T)
unfolding outcome
settled_ends [] P N T = ([], _, refl)
settled_ends (g ∷ gs) P N T = in_group_ends g.called g.part g.count gs P N T (λ Q M. whole_ends gs Q M T)

starts_end : (m : Machine) (gs : List Group) (P : List Part) (N : List Node) (T : List (List Node)) → Starts m gs P N T → Ends_somehow m
starts_end m gs P N T h = then_token _ _ (Number (Some 0) 0) (h.digits (Some 0) 0) (whole_ends gs _ _ T)

place_ends : (place : Place) (gs : List Group) (P : List Part) (N : List Node) (T : List (List Node)) → Ends_somehow (state place gs P N T)
place_ends Settled gs P N T = settled_ends gs P N T
place_ends Bracketed gs P N T = starts_end _ gs P N T (bracket_starts gs P N T)
place_ends Expected gs P N T = starts_end _ gs P N T (expected_starts gs P N T)
place_ends (Headed k) gs P N T =
    then_token _ _ (At Open 0) refl (starts_end _ (group true k 0 ∷ gs) P N T (expected_starts (group true k 0 ∷ gs) P N T))

-- wherever the machine stands
pub viable : (m : Machine) → Ends_somehow m
viable m = place_ends m.place m.groups m.parts m.nodes m.terms
