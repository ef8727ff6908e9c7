-- The grammar of term text, a definition for each production. A production relates tokens, what
-- they spell, and the tokens that follow.
use Rattle.std.specs.Prelude.{ℕ, List, [], ◌∷◌, ◌++◌, Option}
use Rattle.term_syntax.specs.Token.{Token, Word, Number, At}
use Rattle.term_syntax.specs.declared.token.Mark.TheVariants.{Open, Close, OpenList, CloseList, Comma}
use Rattle.term_syntax.specs.Written.{Written, Call, Digits, Listed, Writtens, End, More}

-- term = name [ ( term { , term } ) ]  or  number  or  '[' [ term { , term } ] ']'
mutual
  pub data IsTerm : List Token → Written → List Token → Type 0 where
    constant : {n : List ℕ} {p : ℕ} {rest : List Token} →
        IsTerm (Word n p ∷ rest) (Call p n End) rest
    call : {n : List ℕ} {p q r : ℕ} {ts rest : List Token} {ws : Writtens} →
        AreTerms ts ws (At Close r ∷ rest) → IsTerm (Word n p ∷ At Open q ∷ ts) (Call p n ws) rest
    number : {v : Option ℕ} {p : ℕ} {rest : List Token} →
        IsTerm (Number v p ∷ rest) (Digits p v) rest
    empty : {p q : ℕ} {rest : List Token} →
        IsTerm (At OpenList p ∷ At CloseList q ∷ rest) (Listed p End) rest
    list : {p q : ℕ} {ts rest : List Token} {ws : Writtens} →
        AreTerms ts ws (At CloseList q ∷ rest) → IsTerm (At OpenList p ∷ ts) (Listed p ws) rest

  -- term { , term }
  pub data AreTerms : List Token → Writtens → List Token → Type 0 where
    only : {ts rest : List Token} {w : Written} → IsTerm ts w rest → AreTerms ts (More w End) rest
    more : {p : ℕ} {ts us rest : List Token} {w : Written} {ws : Writtens} →
        IsTerm ts w (At Comma p ∷ us) → AreTerms us ws rest → AreTerms ts (More w ws) rest

-- input = { term }
pub data IsInput : List Token → List Written → Type 0 where
  none : IsInput [] []
  next : {ts us : List Token} {w : Written} {ws : List Written} →
      IsTerm ts w us → IsInput us ws → IsInput ts (w ∷ ws)

-- an input goes on from these tokens
abbrev pub BeginsInput : List Token → Type 0
BeginsInput ts = (more : List Token) × (ws : List Written) × IsInput (ts ++ more) ws

-- no input is these tokens
abbrev pub IsNoInput : List Token → Type 0
IsNoInput ts = (ws : List Written) → IsInput ts ws → ⊥
