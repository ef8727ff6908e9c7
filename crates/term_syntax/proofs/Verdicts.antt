-- What reading says of the tokens.
use Rattle.std.proofs.Common.{◌≡◌, ◌∙◌, ℕ, List, [], ◌∷◌, ◌++◌, refl, ap, sym, append_assoc, append-nil, inr, Some, None}
use Rattle.std.specs.Prelude.{option_and_then}
use Rattle.term_syntax.specs.Token.{Token}
use Rattle.term_syntax.specs.State.{Machine}
use Rattle.term_syntax.specs.TermGrammar.{BeginsInput}
use Rattle.term_syntax.specs.Parts.{parts_of_input}
use Rattle.term_syntax.specs.Nodes.{nodes_of_input}
use Rattle.term_syntax.specs.Refusal.{IsFirstUnexpected, IsUnended, AreRefused}
use Rattle.term_syntax.specs.Steps.{run, start, step, settled_at, accepted, StopsAt, IsRead}
use Rattle.term_syntax.proofs.Outcome.{Read, outcome, outcome_more}
use Rattle.term_syntax.proofs.Complete.{complete}
use Rattle.term_syntax.proofs.Ahead.{Input, input, sound, Ends_somehow}
use Rattle.term_syntax.proofs.Viable.{viable}

-- from where the machine stands
resumed : (before after : List Token) (m : Machine) → run start before ≡ Some m → outcome start (before ++ after) ≡ outcome m after
resumed before after m r = outcome_more before after start ∙ ap (λ o. option_and_then (λ n. outcome n after) o) r

pub begins : (before : List Token) (m : Machine) → run start before ≡ Some m → BeginsInput before
begins before m r = go (viable m)
  where
    with_more : (ts : List Token) → Input (before ++ ts) → BeginsInput before
    with_more ts (input {ws = ws} h) = (ts, ws, h)

    go : Ends_somehow m → BeginsInput before
    go (ts, s, k) = with_more ts (sound (before ++ ts) s (resumed before ts m r ∙ k))

stuck : (m : Machine) (t : Token) (ts : List Token) → step m t ≡ None → outcome m (t ∷ ts) ≡ None
unfolding outcome
stuck m t ts e = ap (λ o. option_and_then (λ n. outcome n ts) o) e

pub unexpected : (before : List Token) (t : Token) (m : Machine) → run start before ≡ Some m → step m t ≡ None → BeginsInput (before ++ t ∷ []) → ⊥
unexpected before t m r e (more, s, h) =
    let read = sym (ap (outcome start) (append_assoc before (t ∷ []) more)) ∙ complete h in
    let none = resumed before (t ∷ more) m r ∙ stuck m t more e in
    absurd cc

pub first_unexpected : (tokens : List Token) (offset : ℕ) → StopsAt tokens offset → IsFirstUnexpected tokens offset
first_unexpected tokens offset s = record {
  before = s.before;
  token = s.token;
  after = s.after;
  is = s.is;
  begins = begins s.before s.machine s.reached;
  unexpected = unexpected s.before s.token s.machine s.reached s.stops;
  place = s.place;
}

at_last : (tokens : List Token) (m : Machine) → run start tokens ≡ Some m → outcome start tokens ≡ accepted (settled_at m.place m)
unfolding outcome
at_last tokens m r = sym (ap (outcome start) (append-nil tokens)) ∙ resumed tokens [] m r

-- what is read is what an input spells
pub spelled : (tokens : List Token) (m : Machine) (s : Read) → run start tokens ≡ Some m → accepted (settled_at m.place m) ≡ Some s → IsRead tokens s
spelled tokens m s r a = go (sound tokens s (at_last tokens m r ∙ a))
  where
    go : Input tokens → IsRead tokens s
    go (input {ws = ws} h) = (ws, h, let e : Some s ≡ Some (parts_of_input ws, nodes_of_input 0 ws) = sym (at_last tokens m r ∙ a) ∙ complete h in cc)

pub unended : (tokens : List Token) (m : Machine) → run start tokens ≡ Some m → accepted (settled_at m.place m) ≡ None → IsUnended tokens
unended tokens m r a = record {
  begins = begins tokens m r;
  unended = λ specs h. let read = complete h in let none = at_last tokens m r ∙ a in absurd cc;
}

-- the tokens end where no input does
pub end_refusal : (size : ℕ) (ts : List Token) (m : Machine) → run start ts ≡ Some m → accepted (settled_at m.place m) ≡ None → AreRefused size ts 3 size
end_refusal size ts m r a = inr (refl, refl, unended ts m r a)
