-- What must still come at each place of an input, in the grammar's words.
use Rattle.std.proofs.Common.{◌≡◌, ◌+◌, ℕ, List, [], ◌∷◌, ◌++◌, Bool, true, false, Option, Some, None}
use Rattle.std.specs.Prelude.{option_and_then}
use Rattle.term_syntax.specs.Token.{Token, Word, Number, At}
use Rattle.term_syntax.specs.declared.token.Mark.{Mark}
use Rattle.term_syntax.specs.declared.token.Mark.TheVariants.{Open, Close, OpenList, CloseList, Comma}
use Rattle.term_syntax.specs.declared.machine.Group.{Group}
use Rattle.term_syntax.specs.declared.machine.Place.{Place}
use Rattle.term_syntax.specs.declared.machine.Place.TheVariants.{Settled, Bracketed, Expected, Headed}
use Rattle.term_syntax.specs.State.{Machine}
use Rattle.term_syntax.specs.Written.{Written, Writtens}
use Rattle.term_syntax.specs.TermGrammar.{IsTerm, constant, call, number, empty, list, AreTerms, only, more, IsInput, none, next}
use Rattle.term_syntax.specs.Steps.{step, step_at, start, on_term, after_term_under, in_group, in_brackets, after_name, close_call, close_list, end_under, ended, settled_at, accepted}
use Rattle.term_syntax.proofs.Outcome.{Read, outcome, go_on}

-- these tokens are an input
pub data Input (ts : List Token) : Type 0 where
  input : {ws : List Written} → IsInput ts ws → Input ts

-- a term, and then this
data Term_then (R : List Token → Type 0) : List Token → Type 0 where
  term_then : {ts us : List Token} {w : Written} → IsTerm ts w us → R us → Term_then R ts

-- the mark that closes a group
data Closes : Bool → Mark → Type 0 where
  call_closes : Closes true Close
  list_closes : Closes false CloseList

-- what follows a term in a group: its end, or a comma and more terms up to its end; and then this
data In_group (called : Bool) (R : List Token → Type 0) : List Token → Type 0 where
  ends : {m : Mark} {q : ℕ} {ts : List Token} → Closes called m → R ts → In_group called R (At m q ∷ ts)
  goes_on : {m : Mark} {p q : ℕ} {ts us : List Token} {ws : Writtens} → AreTerms ts ws (At m q ∷ us) → Closes called m → R us → In_group called R (At Comma p ∷ ts)

-- what follows a whole term under these groups
abbrev After : List Group → List Token → Type 0
After [] = Input
After (g ∷ gs) = In_group g.called (After gs)

data In_brackets (R : List Token → Type 0) : List Token → Type 0 where
  ends_empty : {q : ℕ} {ts : List Token} → R (At CloseList q ∷ ts) → In_brackets R (At CloseList q ∷ ts)
  begins : {ts : List Token} → Term_then R ts → In_brackets R ts

data After_name (R : List Token → Type 0) : List Token → Type 0 where
  alone : {ts : List Token} → R ts → After_name R ts
  called : {p q : ℕ} {ts us : List Token} {ws : Writtens} → AreTerms ts ws (At Close q ∷ us) → R us → After_name R (At Open p ∷ ts)

abbrev ahead_at : Place → List Group → List Token → Type 0
ahead_at Settled gs = After gs
ahead_at Bracketed gs = In_brackets (After gs)
ahead_at Expected gs = Term_then (After gs)
ahead_at (Headed k) gs = After_name (After gs)

abbrev Ahead : Machine → List Token → Type 0
Ahead m = ahead_at m.place m.groups

-- what must come after the step leads to what must come before it
abbrev Backs : Option Machine → Token → (List Token → Type 0) → Type 0
Backs None t G = Unit {0}
Backs (Some n) t G = (ts : List Token) → Ahead n ts → G (t ∷ ts)

whole_back : (gs : List Group) (m : Machine) (ts : List Token) → Ahead (end_under gs m) ts → After gs ts
whole_back [] m ts k = k
whole_back (g ∷ gs) m ts k = k

word_back : (R : List Token → Type 0) (n : List ℕ) (p : ℕ) {ts : List Token} → After_name R ts → Term_then R (Word n p ∷ ts)
word_back R n p (alone k) = term_then constant k
word_back R n p (called args k) = term_then (call args) k

bracket_back : (R : List Token → Type 0) (p : ℕ) {ts : List Token} → In_brackets (In_group false R) ts → Term_then R (At OpenList p ∷ ts)
bracket_back R p (ends_empty (ends list_closes k)) = term_then empty k
bracket_back R p (begins (term_then x (ends list_closes k))) = term_then (list (only x)) k
bracket_back R p (begins (term_then x (goes_on rest list_closes k))) = term_then (list (more x rest)) k

term_backs : (m : Machine) (t : Token) → Backs (on_term m t) t (Term_then (After m.groups))
term_backs m (Word n p) = λ ts k. word_back (After m.groups) n p k
term_backs m (Number v p) = λ ts k. term_then number (whole_back m.groups _ ts k)
term_backs m (At OpenList p) = λ ts k. bracket_back (After m.groups) p k
term_backs m (At Open p) = tt
term_backs m (At Close p) = tt
term_backs m (At CloseList p) = tt
term_backs m (At Comma p) = tt

comma_back : (b : Bool) (R : List Token → Type 0) (p : ℕ) {ts : List Token} → Term_then (In_group b R) ts → In_group b R (At Comma p ∷ ts)
comma_back b R p (term_then x (ends c k)) = goes_on (only x) c k
comma_back b R p (term_then x (goes_on rest c k)) = goes_on (more x rest) c k

call_backs : (b : Bool) (g : Group) (gs : List Group) (m : Machine) (p : ℕ) → Backs (close_call b g (record m { groups = gs })) (At Close p) (In_group b (After gs))
call_backs true g gs m p = λ ts k. ends call_closes (whole_back gs _ ts k)
call_backs false g gs m p = tt

list_backs : (b : Bool) (g : Group) (gs : List Group) (m : Machine) (p : ℕ) → Backs (close_list b g (record m { groups = gs })) (At CloseList p) (In_group b (After gs))
list_backs true g gs m p = tt
list_backs false g gs m p = λ ts k. ends list_closes (whole_back gs _ ts k)

group_backs : (g : Group) (gs : List Group) (m : Machine) (t : Token) → Backs (in_group g (record m { groups = gs }) t) t (In_group g.called (After gs))
group_backs g gs m (At Comma p) = λ ts k. comma_back g.called (After gs) p k
group_backs g gs m (At Close p) = call_backs g.called g gs m p
group_backs g gs m (At CloseList p) = list_backs g.called g gs m p
group_backs g gs m (At Open p) = tt
group_backs g gs m (At OpenList p) = tt
group_backs g gs m (Word n p) = tt
group_backs g gs m (Number v p) = tt

input_of : {ts : List Token} → Term_then Input ts → Input ts
input_of (term_then x (input r)) = input (next x r)

weaken : (o : Option Machine) (t : Token) (F G : List Token → Type 0) → ((ts : List Token) → F (t ∷ ts) → G (t ∷ ts)) → Backs o t F → Backs o t G
weaken None t F G f b = tt
weaken (Some n) t F G f b = λ ts k. f ts (b ts k)

after_backs : (gs : List Group) (m : Machine) (t : Token) → Backs (after_term_under gs m t) t (After gs)
after_backs [] m t = weaken (on_term (record m { groups = [] }) t) t (Term_then Input) Input (λ ts k. input_of k) (term_backs (record m { groups = [] }) t)
after_backs (g ∷ gs) m t = group_backs g gs m t

brackets_backs : (m : Machine) (t : Token) → Backs (in_brackets m t) t (In_brackets (After m.groups))
brackets_backs m (At CloseList p) = weaken (after_term_under m.groups m (At CloseList p)) (At CloseList p) (After m.groups) (In_brackets (After m.groups)) (λ ts k. ends_empty k) (after_backs m.groups m (At CloseList p))
brackets_backs m t = weaken (on_term m t) t (Term_then (After m.groups)) (In_brackets (After m.groups)) (λ ts k. begins k) (term_backs m t)

under_backs : (gs : List Group) (m : Machine) (t : Token) → Backs (after_term_under (end_under gs m).groups (end_under gs m) t) t (After gs)
under_backs [] m t = after_backs [] (end_under [] m) t
under_backs (g ∷ gs) m t = after_backs (record g { count = g.count + 1 } ∷ gs) (end_under (g ∷ gs) m) t

name_backs : (k : ℕ) (m : Machine) (t : Token) → Backs (after_name k m t) t (After_name (After m.groups))
name_backs k m (At Open p) = λ ts h. open_back (After m.groups) p h
  where
    open_back : (R : List Token → Type 0) (p : ℕ) {ts : List Token} → Term_then (In_group true R) ts → After_name R (At Open p ∷ ts)
    open_back R p (term_then x (ends call_closes h)) = called (only x) h
    open_back R p (term_then x (goes_on rest call_closes h)) = called (more x rest) h
name_backs k m t =
    weaken (after_term_under (ended k 0 m).groups (ended k 0 m) t) t (After m.groups) (After_name (After m.groups)) (λ ts h. alone h)
    (under_backs m.groups (record m { nodes = m.nodes ++ record { part = k; cells = 0 } ∷ [] }) t)

step_backs : (place : Place) (m : Machine) (t : Token) → Backs (step_at place m t) t (ahead_at place m.groups)
step_backs Settled m t = after_backs m.groups m t
step_backs Bracketed m t = brackets_backs m t
step_backs Expected m t = term_backs m t
step_backs (Headed k) m t = name_backs k m t

end_ahead : (place : Place) (gs : List Group) (m : Machine) (s : Read) → accepted (settled_at place (record m { place = place; groups = gs })) ≡ Some s → ahead_at place gs []
end_ahead Settled [] m s e = input none
end_ahead Settled (g ∷ gs) m s e = absurd cc
end_ahead Bracketed gs m s e = absurd cc
end_ahead Expected gs m s e = absurd cc
end_ahead (Headed k) [] m s e = alone (input none)
end_ahead (Headed k) (g ∷ gs) m s e = absurd cc

through : (o : Option Machine) (t : Token) (ts : List Token) (s : Read) (G : List Token → Type 0) → Backs o t G → ((n : Machine) → outcome n ts ≡ Some s → Ahead n ts) → option_and_then (λ n. outcome n ts) o ≡ Some s → G (t ∷ ts)
through None t ts s G b f e = absurd cc
through (Some n) t ts s G b f e = b ts (f n e)

ahead : (ts : List Token) (s : Read) (m : Machine) → outcome m ts ≡ Some s → Ahead m ts
unfolding outcome
ahead [] s m e = end_ahead m.place m.groups m s e
ahead (t ∷ ts) s m e = through (step m t) t ts s (Ahead m) (step_backs m.place m t) (λ n. ahead ts s n) e

-- what is read to its end is an input
pub sound : (ts : List Token) (s : Read) → outcome start ts ≡ Some s → Input ts
sound ts s e = ahead ts s start e

-- some tokens lead from here to an end
abbrev pub Ends_somehow : Machine → Type 0
Ends_somehow m = (ts : List Token) × (s : Read) × (outcome m ts ≡ Some s)

pub then_token : (m n : Machine) (t : Token) → step m t ≡ Some n → Ends_somehow n → Ends_somehow m
then_token m n t e (ts, s, k) = (t ∷ ts, s, go_on m t ts n e k)
