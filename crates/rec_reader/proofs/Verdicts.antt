-- What reading says of the tokens.
use Rattle.std.proofs.Common.{◌≡◌, ◌∙◌, ℕ, List, [], ◌∷◌, ◌++◌, refl, ap, sym, subst, append_assoc, append-nil, length, inl, inr, Some, None}
use Rattle.std.specs.Prelude.{option_and_then}
use Rattle.rec_reader.specs.declared.token.Token.{Token}
use Rattle.rec_reader.specs.declared.syntax_tree.Specification.{Specification}
use Rattle.rec_reader.specs.declared.machine.Machine.{Machine}
use Rattle.rec_reader.specs.Scanned.{Scanned}
use Rattle.read_faults.specs.declared.fail.ReadFail.{ReadFail}
use Rattle.read_faults.specs.declared.fail.ReadFail.TheVariants.{Refused, Memory}
use Rattle.rec_reader.specs.Grammar.{IsInput, BeginsSentence}
use Rattle.rec_reader.specs.Refusal.{IsFirstUnexpected, IsUnended, IsRefusal}
use Rattle.rec_reader.specs.Steps.{run, start, step, accepted, StopsAt, IsStopped}
use Rattle.rec_reader.proofs.Outcome.{outcome, outcome_more}
use Rattle.rec_reader.proofs.Complete.{complete}
use Rattle.rec_reader.proofs.Sound.{sound}
use Rattle.rec_reader.proofs.Viable.{viable}

-- from where the machine stands
resumed : (before after : List Token) (m : Machine) → run start before ≡ Some m → outcome start (before ++ after) ≡ outcome m after
resumed before after m r = outcome_more before after start ∙ ap (λ o. option_and_then (λ n. outcome n after) o) r

pub begins : (before : List Token) (m : Machine) → run start before ≡ Some m → BeginsSentence before
begins before m r = go (viable m)
  where
    go : (ts : List Token) × (s : List Specification) × (outcome m ts ≡ Some s) → BeginsSentence before
    go (ts, s, k) = (ts, s, sound (before ++ ts) s (resumed before ts m r ∙ k))

stuck : (m : Machine) (t : Token) (ts : List Token) → step m t ≡ None → outcome m (t ∷ ts) ≡ None
unfolding outcome
stuck m t ts e = ap (λ o. option_and_then (λ n. outcome n ts) o) e

pub unexpected : (before : List Token) (t : Token) (m : Machine) → run start before ≡ Some m → step m t ≡ None → BeginsSentence (before ++ t ∷ []) → ⊥
unexpected before t m r e (more, s, h) =
    let read = sym (ap (outcome start) (append_assoc before (t ∷ []) more)) ∙ complete h in
    let none = resumed before (t ∷ more) m r ∙ stuck m t more e in
    absurd cc

pub first_unexpected : (tokens : List Token) (offset : ℕ) → StopsAt tokens offset → IsFirstUnexpected tokens offset
first_unexpected tokens offset s = record {
  before = s.before;
  token = s.token;
  after = s.after;
  is = s.is;
  begins = begins s.before s.machine s.reached;
  unexpected = unexpected s.before s.token s.machine s.reached s.stops;
  place = s.place;
}

at_last : (tokens : List Token) (m : Machine) → run start tokens ≡ Some m → outcome start tokens ≡ accepted m
unfolding outcome
at_last tokens m r = sym (ap (outcome start) (append-nil tokens)) ∙ resumed tokens [] m r

pub sentence : (tokens : List Token) (m : Machine) (specs : List Specification) → run start tokens ≡ Some m → accepted m ≡ Some specs → IsInput tokens specs
sentence tokens m specs r a = sound tokens specs (at_last tokens m r ∙ a)

-- no other specifications are spelled
pub only_these : (tokens : List Token) (specs others : List Specification) → IsInput tokens specs → IsInput tokens others → others ≡ specs
only_these tokens specs others h k = let a = complete h in let b = complete k in cc

pub unended : (tokens : List Token) (m : Machine) → run start tokens ≡ Some m → accepted m ≡ None → IsUnended tokens
unended tokens m r a = record {
  begins = begins tokens m r;
  unended = λ specs h. let read = complete h in let none = at_last tokens m r ∙ a in absurd cc;
}

-- what stops is refused at its place
pub refusal : (input : Scanned) (ts : List Token) (e : ReadFail) → ts ≡ input.tokens → IsStopped ts e → IsRefusal input e
refusal input ts (Refused kind offset) same stopped = inl (stopped.0, first_unexpected input.tokens offset (subst (λ us. StopsAt us offset) same stopped.1))
refusal input ts Memory same stopped = tt

-- no sentence stops
pub no_stop : (ts us : List Token) (e : ReadFail) (specs : List Specification) → ts ≡ us → IsStopped ts e → IsInput us specs → e ≡ Memory
no_stop ts us (Refused kind offset) specs same stopped h =
    let s = stopped.1 in
    let whole : us ≡ (s.before ++ s.token ∷ []) ++ s.after = sym same ∙ s.is ∙ sym (append_assoc s.before (s.token ∷ []) s.after) in
    absurd (unexpected s.before s.token s.machine s.reached s.stops (s.after, specs, subst (λ vs. IsInput vs specs) whole h))
no_stop ts us Memory specs same stopped h = refl

-- the tokens end where no sentence does
pub end_refusal : (input : Scanned) (ts : List Token) (m : Machine) (at : ℕ) → ts ≡ input.tokens → run start ts ≡ Some m → accepted m ≡ None → at ≡ length input.bytes → IsRefusal input (Refused 3 at)
end_refusal input ts m at same r a e = inr (refl, e, unended input.tokens m (sym (ap (run start) same) ∙ r) a)
