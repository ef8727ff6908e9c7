-- What the tokens of bytes are, in a reader's words. The bytes fall into parts that join to them. Each part is the
-- text of a token, which goes on as far as it can, or it stands between tokens.
use Rattle.std.specs.Prelude.{◌≡◌, ◌≢◌, ℕ, ◌+◌, ◌<◌, List, [], ◌∷◌, ◌++◌, length, drop, true, false, codes, All, Option, Some, None, Ok, Err, ◌⊎◌}
use Rattle.std.specs.Option.{option_to_list}
use Rattle.rec_reader.specs.declared.token.Token.{Token}
use Rattle.rec_reader.specs.declared.token.Token.TheVariants.{Named, At}
use Rattle.rec_reader.specs.declared.token.Sign.{Sign}
use Rattle.rec_reader.specs.declared.token.Sign.TheVariants.{RecSpec, Sorts, Cons, Opns, Vars, Rules, Eval, EndSpec, If, AndIf, Joins, Parts, Arrow, Colon, Comma, Open, Close, Equal, Unequal}
use Rattle.rec_reader.specs.Tokens.{is_space, is_name_byte, begins, tokens_of}

-- the text of a sign
abbrev pub text_of : Sign → List ℕ
text_of RecSpec = codes "REC-SPEC"
text_of Sorts = codes "SORTS"
text_of Cons = codes "CONS"
text_of Opns = codes "OPNS"
text_of Vars = codes "VARS"
text_of Rules = codes "RULES"
text_of Eval = codes "EVAL"
text_of EndSpec = codes "END-SPEC"
text_of If = codes "if"
text_of AndIf = codes "and-if"
text_of Joins = codes "-><-"
text_of Parts = codes "->/<-"
text_of Arrow = codes "->"
text_of Colon = codes ":"
text_of Comma = codes ","
text_of Open = codes "("
text_of Close = codes ")"
text_of Equal = codes "="
text_of Unequal = codes "<>"

-- Each byte of a text is a name byte where it stands, and none comes next.
pub record IsLongestRun (text rest : List ℕ) : Type 0 where
  pub some : 0 < length text
  pub each : (k : ℕ) → k < length text → is_name_byte (drop k (text ++ rest)) ≡ true
  pub longest : is_name_byte rest ≡ false

-- The bytes after a sign don't make it longer: a reserved word is a whole run, and an arrow is no front of a longer one.
abbrev pub EndsBefore : (rest : List ℕ) → Sign → Type 0
EndsBefore rest RecSpec = IsLongestRun (codes "REC-SPEC") rest
EndsBefore rest Sorts = IsLongestRun (codes "SORTS") rest
EndsBefore rest Cons = IsLongestRun (codes "CONS") rest
EndsBefore rest Opns = IsLongestRun (codes "OPNS") rest
EndsBefore rest Vars = IsLongestRun (codes "VARS") rest
EndsBefore rest Rules = IsLongestRun (codes "RULES") rest
EndsBefore rest Eval = IsLongestRun (codes "EVAL") rest
EndsBefore rest EndSpec = IsLongestRun (codes "END-SPEC") rest
EndsBefore rest If = IsLongestRun (codes "if") rest
EndsBefore rest AndIf = IsLongestRun (codes "and-if") rest
EndsBefore rest Arrow = (begins rest (codes "<-") ≡ false) × (begins rest (codes "/<-") ≡ false)
EndsBefore rest _ = Unit {0}

-- A token at a place has this text: a name is a longest run that is no sign's text, and a sign has its own text.
abbrev pub IsTextOf : (at : ℕ) (text rest : List ℕ) → Token → Type 0
IsTextOf at text rest (Named n) =
    (n.start ≡ at) × (n.end ≡ at + length text) × IsLongestRun text rest × ((sign : Sign) → text ≢ text_of sign)
IsTextOf at text rest (At sign p) = (p ≡ at) × (text ≡ text_of sign) × EndsBefore rest sign

-- one byte of white space
pub record IsSpace (text : List ℕ) : Type 0 where
  pub byte : ℕ
  pub is : text ≡ byte ∷ []
  pub space : is_space byte ≡ true

-- a comment, from '%' up to the next LF or to the end
pub record IsComment (text rest : List ℕ) : Type 0 where
  pub words : List ℕ
  pub is : text ≡ 37 ∷ words
  pub within : All (λ b. b ≢ 10) words
  pub ends : (rest ≡ []) ⊎ ((after : List ℕ) × (rest ≡ 10 ∷ after))

-- a part of the bytes: its text, and its token where it has one
pub record Part : Type 0 where
  pub text : List ℕ
  pub token : Option Token

abbrev pub IsPart : (at : ℕ) (text rest : List ℕ) → Option Token → Type 0
IsPart at text rest None = IsSpace text ⊎ IsComment text rest
IsPart at text rest (Some t) = IsTextOf at text rest t

abbrev pub joined : List Part → List ℕ
joined [] = []
joined (p ∷ ps) = p.text ++ joined ps

abbrev pub tokens_in : List Part → List Token
tokens_in [] = []
tokens_in (p ∷ ps) = option_to_list p.token ++ tokens_in ps

-- each part is one at its place, with those after it behind it
abbrev pub AreParts : (at : ℕ) → List Part → Type 0
AreParts at [] = Unit {0}
AreParts at (p ∷ ps) = IsPart at p.text (joined ps) p.token × AreParts (at + length p.text) ps

-- The bytes from a place on are cut into these tokens.
pub record IsCut (at : ℕ) (bytes : List ℕ) (tokens : List Token) : Type 0 where
  pub parts : List Part
  pub join : joined parts ≡ bytes
  pub spelled : tokens_in parts ≡ tokens
  pub each : AreParts at parts

-- The tokens of bytes are those of parts that join to the bytes.
abbrev pub TokensAreCut : Type 0
TokensAreCut = (bytes : List ℕ) (tokens : List Token) → tokens_of bytes ≡ Ok tokens → IsCut 0 bytes tokens

-- No other tokens have such parts.
abbrev pub OthersAreNoCut : Type 0
OthersAreNoCut = (bytes : List ℕ) (tokens : List Token) → IsCut 0 bytes tokens → tokens_of bytes ≡ Ok tokens

-- Each part is one at its place, with those after it behind it, and behind them the rest.
abbrev pub ArePartsBefore : (rest : List ℕ) (at : ℕ) → List Part → Type 0
ArePartsBefore rest at [] = Unit {0}
ArePartsBefore rest at (p ∷ ps) =
    IsPart at p.text (joined ps ++ rest) p.token × ArePartsBefore rest (at + length p.text) ps

-- No token, white space or comment begins at the front of bytes that stand at this place.
abbrev pub NothingBegins : (at : ℕ) → List ℕ → Type 0
NothingBegins at bytes = (text after : List ℕ) (token : Option Token) → bytes ≡ text ++ after → IsPart at text after token → ⊥

-- The bytes before this place are cut into parts, and at the byte that stands there none begins.
pub record IsFirstBad (bytes : List ℕ) (offset : ℕ) : Type 0 where
  pub parts : List Part
  pub rest : List ℕ
  pub join : bytes ≡ joined parts ++ rest
  pub place : length (joined parts) ≡ offset
  pub each : ArePartsBefore rest 0 parts
  pub some : 0 < length rest
  pub bad : NothingBegins offset rest

-- Bytes are refused at the first byte at which nothing begins.
abbrev pub RefusedAtFirstBad : Type 0
RefusedAtFirstBad = (bytes : List ℕ) (offset : ℕ) → tokens_of bytes ≡ Err offset → IsFirstBad bytes offset

-- They are refused nowhere else, and always where there is such a byte.
abbrev pub OthersAreNotRefused : Type 0
OthersAreNotRefused = (bytes : List ℕ) (offset : ℕ) → IsFirstBad bytes offset → tokens_of bytes ≡ Err offset

abbrev pub name_at : (start end : ℕ) → Token
name_at start end = Named (record { start = start; end = end })

-- Worked by hand: names and arrows side by side, a word that is a name's front, a comment, and a byte of no token.
pub record TokensWorked : Type 0 where
  pub arrow : tokens_of (codes "a->b") ≡ Ok (name_at 0 1 ∷ At Arrow 1 ∷ name_at 3 4 ∷ [])
  pub dash : tokens_of (codes "a-->b") ≡ Ok (name_at 0 2 ∷ At Arrow 2 ∷ name_at 4 5 ∷ [])
  pub joins : tokens_of (codes "X-><-Y") ≡ Ok (name_at 0 1 ∷ At Joins 1 ∷ name_at 5 6 ∷ [])
  pub parts : tokens_of (codes "X->/<-Y") ≡ Ok (name_at 0 1 ∷ At Parts 1 ∷ name_at 6 7 ∷ [])
  pub word : tokens_of (codes "if iffy") ≡ Ok (At If 0 ∷ name_at 3 7 ∷ [])
  pub comment : tokens_of (codes "a%b c") ≡ Ok (name_at 0 1 ∷ [])
  pub bad : tokens_of (codes "a<b") ≡ Err 1
