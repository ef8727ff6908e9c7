-- What was read so far and the tokens that follow make an input.
use Rattle.std.proofs.Common.{◌≡◌, ◌∙◌, ◌⊎◌, inl, inr, ℕ, List, [], ◌∷◌, ◌++◌, refl, ap, sym, subst, append_assoc, append-nil, Option, Some, None}
use Rattle.std.specs.Prelude.{option_and_then}
use Rattle.term_syntax.specs.Token.{Token, Word, Number, At}
use Rattle.term_syntax.specs.declared.token.Mark.{Mark}
use Rattle.term_syntax.specs.declared.token.Mark.TheVariants as mark
use Rattle.term_syntax.specs.Written.{Written, Call, Digits, Listed, Writtens, End, More}
use Rattle.term_syntax.specs.TermGrammar.{IsTerm, constant, call, number, empty, list, AreTerms, only, more, IsInput, none, next}
use Rattle.term_building.specs.Progress.{Stage, Settled, Bracketed, Expected, Headed, Opening, Called, Bracket, Open, Progress, joined, term_of, whole, opened, on_term, closed, close_call, close_list, after_term_under, after_term, in_brackets, after_name, step_at, step, start, run, read_at, all_read}

-- what closes a group
abbrev closer : Opening → Mark
closer (Called p n) = mark.Close
closer (Bracket p) = mark.CloseList

-- the tokens after a term in a group: it closes, or further terms come behind a comma
data Tail (o : Opening) : List Token → Writtens → List Token → Type 0 where
  ends : {r : ℕ} {behind : List Token} → Tail o (At (closer o) r ∷ behind) End behind
  goes : {p r : ℕ} {ts behind : List Token} {ws : Writtens} → AreTerms ts ws (At (closer o) r ∷ behind) → Tail o (At mark.Comma p ∷ ts) ws behind

-- after a whole term: the tokens that follow close all groups and spell further terms, which makes
-- these terms of all, where these terms come next in the innermost group
abbrev After : List Open → List Written → List Written → List Token → List Written → Type 0
After [] finished new rest ws = (vs : List Written) × IsInput rest vs × (ws ≡ finished ++ (new ++ vs))
After (g ∷ gs) finished new rest ws =
    (us : Writtens) × (behind : List Token) × Tail g.opening rest us behind
    × After gs finished (term_of g.opening (joined g.terms (joined new us)) ∷ []) behind ws

-- a term comes next
abbrev Begins : List Open → List Written → List Token → List Written → Type 0
Begins gs finished rest ws = (w : Written) × (us : List Token) × IsTerm rest w us × After gs finished (w ∷ []) us ws

-- brackets close at once
abbrev Empty : List Open → List Written → List Token → List Written → Type 0
Empty [] finished rest ws = ⊥
Empty (g ∷ gs) finished rest ws =
    (r : ℕ) × (behind : List Token) × (rest ≡ At mark.CloseList r ∷ behind)
    × After gs finished (term_of g.opening (joined g.terms End) ∷ []) behind ws

-- arguments come, in parentheses
abbrev Takes : ℕ → List ℕ → List Open → List Written → List Token → List Written → Type 0
Takes p n gs finished rest ws =
    (q r : ℕ) × (ts behind : List Token) × (us : Writtens) × (rest ≡ At mark.Open q ∷ ts) × AreTerms ts us (At mark.Close r ∷ behind)
    × After gs finished (Call p n us ∷ []) behind ws

abbrev ResumedAt : Stage → List Open → List Written → List Token → List Written → Type 0
ResumedAt Settled gs finished rest ws = After gs finished [] rest ws
ResumedAt Bracketed gs finished rest ws = Empty gs finished rest ws ⊎ Begins gs finished rest ws
ResumedAt Expected gs finished rest ws = Begins gs finished rest ws
ResumedAt (Headed p n) gs finished rest ws = Takes p n gs finished rest ws ⊎ After gs finished (Call p n End ∷ []) rest ws

-- the tokens that follow make an input of these terms
abbrev Resumed : Progress → List Token → List Written → Type 0
Resumed m rest ws = ResumedAt m.stage m.groups m.finished rest ws

joined_push : (ws : List Written) (w : Written) (us : Writtens) → joined (ws ++ w ∷ []) us ≡ joined ws (More w us)
joined_push [] w us = refl
joined_push (v ∷ ws) w us = ap (More v) (joined_push ws w us)

-- a term that is whole was one that came next
was_whole : (gs : List Open) (finished : List Written) (w : Written) (rest : List Token) (ws : List Written) → Resumed (whole gs finished w) rest ws → After gs finished (w ∷ []) rest ws
was_whole [] finished w rest ws (vs, h, e) = (vs, h, e ∙ append_assoc finished (w ∷ []) vs)
was_whole (g ∷ gs) finished w rest ws (us, behind, tail, h) =
    (us, behind, tail, subst (λ vs. After gs finished (term_of g.opening vs ∷ []) behind ws) (joined_push g.terms w us) h)

-- terms up to what closes their group
terms_from : (o : Opening) {ts us behind : List Token} {w : Written} {ws : Writtens} → IsTerm ts w us → Tail o us ws behind → (r : ℕ) × AreTerms ts (More w ws) (At (closer o) r ∷ behind)
terms_from o t (ends {r = r}) = (r, only t)
terms_from o t (goes {r = r} ts) = (r, more t ts)

-- a term begins with this token
term_begins : (m k : Progress) (t : Token) (rest : List Token) (ws : List Written) → on_term m t ≡ Some k → Resumed k rest ws → Begins m.groups m.finished (t ∷ rest) ws
term_begins m k (Word n p) rest ws e h = by (subst (λ j. Resumed j rest ws) (sym same) h)
  where
    same : record { stage = Headed p n; groups = m.groups; finished = m.finished } ≡ k
    same = cc

    by : ResumedAt (Headed p n) m.groups m.finished rest ws → Begins m.groups m.finished (Word n p ∷ rest) ws
    by (inl (q, r, ts, behind, us, is, args, after)) =
        (Call p n us, behind, subst (λ xs. IsTerm (Word n p ∷ xs) (Call p n us) behind) (sym is) (call args), after)
    by (inr after) = (Call p n End, rest, constant, after)
term_begins m k (Number v p) rest ws e h =
    let same : whole m.groups m.finished (Digits p v) ≡ k = cc in
    (Digits p v, rest, number, was_whole m.groups m.finished (Digits p v) rest ws (subst (λ j. Resumed j rest ws) (sym same) h))
term_begins m k (At mark.OpenList p) rest ws e h = by (subst (λ j. Resumed j rest ws) (sym same) h)
  where
    same : opened (Bracket p) Bracketed m ≡ k
    same = cc

    by : Resumed (opened (Bracket p) Bracketed m) rest ws → Begins m.groups m.finished (At mark.OpenList p ∷ rest) ws
    by (inl (r, behind, is, after)) =
        (Listed p End, behind, subst (λ xs. IsTerm (At mark.OpenList p ∷ xs) (Listed p End) behind) (sym is) empty, after)
    by (inr (w, us, term, (vs, behind, tail, after))) =
        let ts = terms_from (Bracket p) term tail in
        (Listed p (More w vs), behind, list ts.1, after)
term_begins m k (At mark.Open p) rest ws e h = absurd cc
term_begins m k (At mark.Close p) rest ws e h = absurd cc
term_begins m k (At mark.CloseList p) rest ws e h = absurd cc
term_begins m k (At mark.Comma p) rest ws e h = absurd cc

-- a group closes
group_closes : (o : Opening) (terms : List Written) (gs : List Open) (finished : List Written) (k : Progress) (r : ℕ) (rest : List Token) (ws : List Written) → closed o terms gs finished ≡ k → Resumed k rest ws → After (record { opening = o; terms = terms } ∷ gs) finished [] (At (closer o) r ∷ rest) ws
group_closes o terms gs finished k r rest ws same h =
    (End, rest, ends, was_whole gs finished (term_of o (joined terms End)) rest ws (subst (λ j. Resumed j rest ws) (sym same) h))

call_closes : (o : Opening) (terms : List Written) (gs : List Open) (finished : List Written) (k : Progress) (q : ℕ) (rest : List Token) (ws : List Written) → close_call o terms gs finished ≡ Some k → Resumed k rest ws → After (record { opening = o; terms = terms } ∷ gs) finished [] (At mark.Close q ∷ rest) ws
call_closes (Called p n) terms gs finished k q rest ws e h =
    let same : closed (Called p n) terms gs finished ≡ k = cc in
    group_closes (Called p n) terms gs finished k q rest ws same h
call_closes (Bracket p) terms gs finished k q rest ws e h = absurd cc

brackets_close : (o : Opening) (terms : List Written) (gs : List Open) (finished : List Written) (k : Progress) (q : ℕ) (rest : List Token) (ws : List Written) → close_list o terms gs finished ≡ Some k → Resumed k rest ws → After (record { opening = o; terms = terms } ∷ gs) finished [] (At mark.CloseList q ∷ rest) ws
brackets_close (Called p n) terms gs finished k q rest ws e h = absurd cc
brackets_close (Bracket p) terms gs finished k q rest ws e h =
    let same : closed (Bracket p) terms gs finished ≡ k = cc in
    group_closes (Bracket p) terms gs finished k q rest ws same h

-- what may come after a term
term_goes_on : (gs : List Open) (finished : List Written) (k : Progress) (t : Token) (rest : List Token) (ws : List Written) → after_term_under gs finished t ≡ Some k → Resumed k rest ws → After gs finished [] (t ∷ rest) ws
term_goes_on [] finished k t rest ws e h =
    let b = term_begins (record { stage = Settled; groups = []; finished = finished }) k t rest ws e h in
    let after = b.3 in
    (b.0 ∷ after.0, next b.2 after.1, after.2)
term_goes_on (g ∷ gs) finished k (At mark.Comma p) rest ws e h =
    let same : record { stage = Expected; groups = g ∷ gs; finished = finished } ≡ k = cc in
    let b : Begins (g ∷ gs) finished rest ws = subst (λ j. Resumed j rest ws) (sym same) h in
    let after = b.3 in
    let ts = terms_from g.opening b.2 after.2 in
    (More b.0 after.0, after.1, goes ts.1, after.3)
term_goes_on (g ∷ gs) finished k (At mark.Close q) rest ws e h = call_closes g.opening g.terms gs finished k q rest ws e h
term_goes_on (g ∷ gs) finished k (At mark.CloseList q) rest ws e h = brackets_close g.opening g.terms gs finished k q rest ws e h
term_goes_on (g ∷ gs) finished k (At mark.Open q) rest ws e h = absurd cc
term_goes_on (g ∷ gs) finished k (At mark.OpenList q) rest ws e h = absurd cc
term_goes_on (g ∷ gs) finished k (Word n q) rest ws e h = absurd cc
term_goes_on (g ∷ gs) finished k (Number v q) rest ws e h = absurd cc

-- a term that was whole may be followed
after_whole : (gs : List Open) (finished : List Written) (w : Written) (rest : List Token) (ws : List Written) → After (whole gs finished w).groups (whole gs finished w).finished [] rest ws → After gs finished (w ∷ []) rest ws
after_whole [] finished w rest ws h = was_whole [] finished w rest ws h
after_whole (g ∷ gs) finished w rest ws h = was_whole (g ∷ gs) finished w rest ws h

-- brackets that were just open
list_closes : (o : Opening) (terms : List Written) (gs : List Open) (finished : List Written) (k : Progress) (r : ℕ) (rest : List Token) (ws : List Written) → close_list o terms gs finished ≡ Some k → Resumed k rest ws → Empty (record { opening = o; terms = terms } ∷ gs) finished (At mark.CloseList r ∷ rest) ws
list_closes (Called p n) terms gs finished k r rest ws e h = absurd cc
list_closes (Bracket p) terms gs finished k r rest ws e h =
    let same : closed (Bracket p) terms gs finished ≡ k = cc in
    (r, rest, refl, was_whole gs finished (term_of (Bracket p) (joined terms End)) rest ws (subst (λ j. Resumed j rest ws) (sym same) h))

closes_at_once : (gs : List Open) (finished : List Written) (k : Progress) (r : ℕ) (rest : List Token) (ws : List Written) → after_term_under gs finished (At mark.CloseList r) ≡ Some k → Resumed k rest ws → Empty gs finished (At mark.CloseList r ∷ rest) ws
closes_at_once [] finished k r rest ws e h = absurd cc
closes_at_once (g ∷ gs) finished k r rest ws e h = list_closes g.opening g.terms gs finished k r rest ws e h

brackets_go_on : (m k : Progress) (t : Token) (rest : List Token) (ws : List Written) → in_brackets m t ≡ Some k → Resumed k rest ws → ResumedAt Bracketed m.groups m.finished (t ∷ rest) ws
brackets_go_on m k (At mark.CloseList p) rest ws e h = inl (closes_at_once m.groups m.finished k p rest ws e h)
brackets_go_on m k (Word n p) rest ws e h = inr (term_begins m k (Word n p) rest ws e h)
brackets_go_on m k (Number v p) rest ws e h = inr (term_begins m k (Number v p) rest ws e h)
brackets_go_on m k (At mark.Open p) rest ws e h = inr (term_begins m k (At mark.Open p) rest ws e h)
brackets_go_on m k (At mark.Close p) rest ws e h = inr (term_begins m k (At mark.Close p) rest ws e h)
brackets_go_on m k (At mark.OpenList p) rest ws e h = inr (term_begins m k (At mark.OpenList p) rest ws e h)
brackets_go_on m k (At mark.Comma p) rest ws e h = inr (term_begins m k (At mark.Comma p) rest ws e h)

-- a name
name_opens : (p : ℕ) (n : List ℕ) (m k : Progress) (q : ℕ) (rest : List Token) (ws : List Written) → opened (Called p n) Expected m ≡ k → Resumed k rest ws → Takes p n m.groups m.finished (At mark.Open q ∷ rest) ws
name_opens p n m k q rest ws same h = by (subst (λ j. Resumed j rest ws) (sym same) h)
  where
    by : Resumed (opened (Called p n) Expected m) rest ws → Takes p n m.groups m.finished (At mark.Open q ∷ rest) ws
    by (w, us, term, (vs, behind, tail, after)) =
        let ts = terms_from (Called p n) term tail in
        (q, ts.0, rest, behind, More w vs, refl, ts.1, after)

name_ends : (p : ℕ) (n : List ℕ) (m k : Progress) (t : Token) (rest : List Token) (ws : List Written) → after_term (whole m.groups m.finished (Call p n End)) t ≡ Some k → Resumed k rest ws → ResumedAt (Headed p n) m.groups m.finished (t ∷ rest) ws
name_ends p n m k t rest ws e h =
    let w = whole m.groups m.finished (Call p n End) in
    inr (after_whole m.groups m.finished (Call p n End) (t ∷ rest) ws (term_goes_on w.groups w.finished k t rest ws e h))

name_goes_on : (p : ℕ) (n : List ℕ) (m k : Progress) (t : Token) (rest : List Token) (ws : List Written) → after_name p n m t ≡ Some k → Resumed k rest ws → ResumedAt (Headed p n) m.groups m.finished (t ∷ rest) ws
name_goes_on p n m k (At mark.Open q) rest ws e h = let same : opened (Called p n) Expected m ≡ k = cc in inl (name_opens p n m k q rest ws same h)
name_goes_on p n m k (Word o q) rest ws e h = name_ends p n m k (Word o q) rest ws e h
name_goes_on p n m k (Number v q) rest ws e h = name_ends p n m k (Number v q) rest ws e h
name_goes_on p n m k (At mark.Close q) rest ws e h = name_ends p n m k (At mark.Close q) rest ws e h
name_goes_on p n m k (At mark.OpenList q) rest ws e h = name_ends p n m k (At mark.OpenList q) rest ws e h
name_goes_on p n m k (At mark.CloseList q) rest ws e h = name_ends p n m k (At mark.CloseList q) rest ws e h
name_goes_on p n m k (At mark.Comma q) rest ws e h = name_ends p n m k (At mark.Comma q) rest ws e h

step_goes_on : (s : Stage) (m k : Progress) (t : Token) (rest : List Token) (ws : List Written) → step_at s m t ≡ Some k → Resumed k rest ws → ResumedAt s m.groups m.finished (t ∷ rest) ws
step_goes_on Settled m k t rest ws e h = term_goes_on m.groups m.finished k t rest ws e h
step_goes_on Bracketed m k t rest ws e h = brackets_go_on m k t rest ws e h
step_goes_on Expected m k t rest ws e h = term_begins m k t rest ws e h
step_goes_on (Headed p n) m k t rest ws e h = name_goes_on p n m k t rest ws e h

-- the input may end here
ends_here : (s : Stage) (gs : List Open) (finished ws : List Written) → read_at s gs finished ≡ Some ws → ResumedAt s gs finished [] ws
ends_here Settled [] finished ws e =
    let same : finished ≡ ws = cc in
    ([], none, sym same ∙ sym (append-nil finished))
ends_here Settled (g ∷ gs) finished ws e = absurd cc
ends_here Bracketed gs finished ws e = absurd cc
ends_here Expected gs finished ws e = absurd cc
ends_here (Headed p n) [] finished ws e =
    let same : finished ++ Call p n End ∷ [] ≡ ws = cc in
    inr ([], none, sym same)
ends_here (Headed p n) (g ∷ gs) finished ws e = absurd cc

run_goes_on : (m k : Progress) (ts : List Token) (ws : List Written) → run m ts ≡ Some k → all_read k ≡ Some ws → Resumed m ts ws
run_goes_on m k [] ws e h =
    let same : m ≡ k = cc in
    ends_here m.stage m.groups m.finished ws (ap all_read same ∙ h)
run_goes_on m k (t ∷ ts) ws e h = by (step m t) refl e (λ n r. run_goes_on n k ts ws r h)
  where
    by : (o : Option Progress) → step m t ≡ o → option_and_then (λ n. run n ts) o ≡ Some k → ((n : Progress) → run n ts ≡ Some k → Resumed n ts ws) → Resumed m (t ∷ ts) ws
    by None f e later = absurd (let bad : None ≡ Some k = e in cc)
    by (Some n) f e later = step_goes_on m.stage m n t ts ws f (later n e)

-- tokens that are all taken are an input of the terms that were read
pub read_is_input : (k : Progress) (ts : List Token) (ws : List Written) → run start ts ≡ Some k → all_read k ≡ Some ws → IsInput ts ws
read_is_input k ts ws e h =
    let r = run_goes_on start k ts ws e h in
    subst (IsInput ts) (sym r.2) r.1
