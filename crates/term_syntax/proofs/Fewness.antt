-- A group has fewer terms than tokens were read, and each token has a byte.
use Rattle.std.proofs.Common.{◌≡◌, ◌<◌, ◌≤◌, ℕ, zero, suc, ◌+◌, ◌-◌, List, [], ◌∷◌, length, arith, subst, refl, Bool, true, false, Option, Some, None, Result, Ok, Err}
use Rattle.std.specs.Prelude.{All}
use Rattle.std.proofs.lemmas.List.Elements.{All-nil, All-cons, All-head, All-tail}
use Rattle.faults.specs.declared.refusal.Refusal.{Refusal}
use Rattle.term_syntax.specs.Token.{Token, Word, Number, At, Piece, Blank, Whole}
use Rattle.term_syntax.specs.declared.token.Mark.TheVariants.{Open, Close, OpenList, CloseList, Comma}
use Rattle.term_syntax.specs.declared.machine.Group.{Group}
use Rattle.term_syntax.specs.declared.machine.Place.{Place}
use Rattle.term_syntax.specs.declared.machine.Place.TheVariants.{Settled, Bracketed, Expected, Headed}
use Rattle.term_syntax.specs.State.{Machine}
use Rattle.term_syntax.specs.Tokens.{piece_at, after_token, read_piece, tokens_from, tokens_of}
use Rattle.term_syntax.specs.Steps.{step, step_at, on_term, in_group, close_call, close_list, after_term, after_term_under, in_brackets, after_name, ended, end_under, end}
use Rattle.term_syntax.specs.Few.{AreCountsFew}

-- the counts of open groups are below this
abbrev pub Below : ℕ → List Group → Type 0
Below k groups = All (λ g. g.count < k) groups

abbrev Kept : ℕ → Option Machine → Type 0
Kept k None = Unit {0}
Kept k (Some m) = Below k m.groups

more : (k : ℕ) (gs : List Group) → Below k gs → Below (suc k) gs
more k [] h = All-nil _
more k (g ∷ gs) h =
    let first : g.count < k = All-head (λ g. g.count < k) g gs h in
    All-cons (λ g. g.count < suc k) g gs (omega (arith, first)) (more k gs (All-tail (λ g. g.count < k) g gs h))

module _ (k : ℕ) where
  -- a whole term adds one to one group
  under_keeps : (gs : List Group) (m : Machine) → Below k gs → Below (suc k) (end_under gs m).groups
  under_keeps [] m h = All-nil _
  under_keeps (g ∷ gs) m h =
      let first : g.count < k = All-head (λ g. g.count < k) g gs h in
      All-cons (λ g. g.count < suc k) (record g { count = g.count + 1 }) gs (omega (arith, first)) (more k gs (All-tail (λ g. g.count < k) g gs h))

  on_term_keeps : (m : Machine) (t : Token) → Below k m.groups → Kept (suc k) (on_term m t)
  on_term_keeps m (Word n p) h = more k m.groups h
  on_term_keeps m (Number v p) h = under_keeps m.groups _ h
  on_term_keeps m (At OpenList p) h = All-cons (λ g. g.count < suc k) (record { called = false; part = length m.parts; count = 0 }) m.groups (omega arith) (more k m.groups h)
  on_term_keeps m (At x p) h = tt

  call_keeps : (called : Bool) (g : Group) (m : Machine) → Below k m.groups → Kept (suc k) (close_call called g m)
  call_keeps true g m h = under_keeps m.groups _ h
  call_keeps false g m h = tt

  list_keeps : (called : Bool) (g : Group) (m : Machine) → Below k m.groups → Kept (suc k) (close_list called g m)
  list_keeps true g m h = tt
  list_keeps false g m h = under_keeps m.groups _ h

  group_keeps : (g : Group) (m : Machine) (t : Token) → g.count < suc k → Below k m.groups → Kept (suc k) (in_group g m t)
  group_keeps g m (Word n p) c h = tt
  group_keeps g m (Number v p) c h = tt
  group_keeps g m (At Comma p) c h = All-cons (λ g. g.count < suc k) g m.groups c (more k m.groups h)
  group_keeps g m (At Close p) c h = call_keeps g.called g m h
  group_keeps g m (At CloseList p) c h = list_keeps g.called g m h
  group_keeps g m (At x p) c h = tt

  term_keeps : (gs : List Group) (m : Machine) (t : Token) → Below k gs → Kept (suc k) (after_term_under gs m t)
  term_keeps [] m t h = on_term_keeps (record m { groups = [] }) t (All-nil _)
  term_keeps (g ∷ gs) m t h =
      let first : g.count < k = All-head (λ g. g.count < k) g gs h in
      group_keeps g (record m { groups = gs }) t (omega (arith, first)) (All-tail (λ g. g.count < k) g gs h)

  -- a term ends, and then a token comes after it
  ended_keeps : (gs : List Group) (m : Machine) (t : Token) → Below k gs → Kept (suc k) (after_term (end_under gs m) t)
  ended_keeps [] m t h = on_term_keeps (record (end_under [] m) { groups = [] }) t (All-nil _)
  ended_keeps (g ∷ gs) m t h =
      let first : g.count < k = All-head (λ g. g.count < k) g gs h in
      group_keeps (record g { count = g.count + 1 }) (record (end_under (g ∷ gs) m) { groups = gs }) t (omega (arith, first)) (All-tail (λ g. g.count < k) g gs h)

  brackets_keep : (m : Machine) (t : Token) → Below k m.groups → Kept (suc k) (in_brackets m t)
  brackets_keep m (Word n p) h = on_term_keeps m (Word n p) h
  brackets_keep m (Number v p) h = on_term_keeps m (Number v p) h
  brackets_keep m (At CloseList p) h = term_keeps m.groups m (At CloseList p) h
  brackets_keep m (At x p) h = on_term_keeps m (At x p) h

  name_keeps : (part : ℕ) (m : Machine) (t : Token) → Below k m.groups → Kept (suc k) (after_name part m t)
  name_keeps part m (Word n p) h = ended_keeps m.groups _ (Word n p) h
  name_keeps part m (Number v p) h = ended_keeps m.groups _ (Number v p) h
  name_keeps part m (At Open p) h = All-cons (λ g. g.count < suc k) (record { called = true; part = part; count = 0 }) m.groups (omega arith) (more k m.groups h)
  name_keeps part m (At x p) h = ended_keeps m.groups _ (At x p) h

  place_keeps : (place : Place) (m : Machine) (t : Token) → Below k m.groups → Kept (suc k) (step_at place m t)
  place_keeps Settled m t h = term_keeps m.groups m t h
  place_keeps Bracketed m t h = brackets_keep m t h
  place_keeps Expected m t h = on_term_keeps m t h
  place_keeps (Headed part) m t h = name_keeps part m t h

-- after one more token the counts are at most one more
pub counted_on : (k : ℕ) (m n : Machine) (t : Token) → step m t ≡ Some n → Below k m.groups → Below (suc k) n.groups
counted_on k m n t e h = subst (Kept (suc k)) e (place_keeps k m.place m t h)

-- counts below a number that is well below 2^32 are few
pub few_of : (k left : ℕ) (gs : List Group) → k + left < 4294967297 → Below k gs → AreCountsFew left gs
few_of k left [] l h = All-nil _
few_of k left (g ∷ gs) l h =
    let first : g.count < k = All-head (λ g. g.count < k) g gs h in
    All-cons (λ g. g.count + left < 4294967296) g gs (omega (arith, first, l)) (few_of k left gs l (All-tail (λ g. g.count < k) g gs h))

pub fewer : (gs : List Group) → AreCountsFew 2 gs → AreCountsFew 1 gs
fewer [] h = All-nil _
fewer (g ∷ gs) h =
    let first : g.count + 2 < 4294967296 = All-head (λ g. g.count + 2 < 4294967296) g gs h in
    All-cons (λ g. g.count + 1 < 4294967296) g gs (omega (arith, first)) (fewer gs (All-tail (λ g. g.count + 2 < 4294967296) g gs h))

few_under : (gs : List Group) (m : Machine) → AreCountsFew 2 gs → AreCountsFew 1 (end_under gs m).groups
few_under [] m h = All-nil _
few_under (g ∷ gs) m h =
    let first : g.count + 2 < 4294967296 = All-head (λ g. g.count + 2 < 4294967296) g gs h in
    All-cons (λ g. g.count + 1 < 4294967296) (record g { count = g.count + 1 }) gs (omega (arith, first)) (fewer gs (All-tail (λ g. g.count + 2 < 4294967296) g gs h))

-- a term that ends leaves the counts few
pub few_ended : (part cells : ℕ) (m n : Machine) → end part cells m ≡ Some n → AreCountsFew 2 m.groups → AreCountsFew 1 n.groups
few_ended part cells m n e h =
    let same : ended part cells m ≡ n = cc in
    subst (λ k. AreCountsFew 1 k.groups) same (few_under m.groups _ h)

few_after : (n : ℕ) (t : Token) (r : Result (List Token) Refusal) (ts : List Token) → ((us : List Token) → r ≡ Ok us → length us ≤ n) → after_token t r ≡ Ok ts → length ts ≤ suc n
few_after n t (Ok us) ts f e =
    let g = f us refl in
    let same : t ∷ us ≡ ts = cc in
    subst (λ xs. length xs ≤ suc n) same (omega (arith, g))
few_after n t (Err x) ts f e = absurd cc

few_behind : (n at : ℕ) (p : Result Piece Refusal) (rest : ℕ → Result (List Token) Refusal) (ts : List Token) → ((next : ℕ) (us : List Token) → rest next ≡ Ok us → length us ≤ n) → read_piece at p rest ≡ Ok ts → length ts ≤ suc n
few_behind n at (Ok Blank) rest ts f e = let g = f (at + 1) ts e in omega (arith, g)
few_behind n at (Ok (Whole t next)) rest ts f e = few_after n t (rest next) ts (f next) e
few_behind n at (Err x) rest ts f e = absurd cc

few_from : (bytes : List ℕ) (at within : ℕ) (ts : List Token) → tokens_from at within bytes ≡ Ok ts → length ts ≤ length bytes
few_from [] at within ts e = let same : [] ≡ ts = cc in subst (λ us. length us ≤ 0) same (omega arith)
few_from (b ∷ bs) at (suc within) ts e = let f = few_from bs (at + 1) within ts e in omega (arith, f)
few_from (b ∷ bs) at zero ts e = few_behind (length bs) at (piece_at at (b ∷ bs)) (λ next. tokens_from (at + 1) (next - (at + 1)) bs) ts (λ next us k. few_from bs (at + 1) (next - (at + 1)) us k) e

pub few_tokens : (bytes : List ℕ) (ts : List Token) → tokens_of bytes ≡ Ok ts → length ts ≤ length bytes
few_tokens bytes ts e = few_from bytes 0 0 ts e
