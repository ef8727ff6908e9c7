-- What writing does at each item of a term, from its last to its first. The text is written from
-- its end.
use Rattle.std.specs.Prelude.{ℕ, zero, suc, ◌+◌, ◌-◌, ◌<◌, List, [], ◌∷◌, ◌++◌, length, codes, decimal, nat_lt, if◌then◌else◌, Option, Some, None}
use Rattle.term_model.specs.declared.Symbol.{Symbol}
use Rattle.term_model.specs.declared.Item.{Item}
use Rattle.term_model.specs.declared.Item.TheVariants.{Var, App, Int, Nil, Cons}
use Rattle.symbol_pool.specs.Pool.{Named}
use Rattle.tree_text.specs.declared.writer.Frame.{Frame}
use Rattle.tree_text.specs.declared.writer.Writer.{Writer}

-- what stands before the first term of a group
abbrev pub opening : (Symbol → List ℕ) → Option Symbol → List ℕ
opening spell (Some f) = spell f ++ codes "("
opening spell None = codes "["

-- a term was written under these groups: a comma comes before it, or the opening of a group of
-- which it is the first, which makes another term
abbrev pub arrive : (Symbol → List ℕ) → List Frame → Writer → Writer
arrive spell [] w = record w { frames = [] }
arrive spell (f ∷ fs) w =
    if nat_lt 1 f.left
    then record w { text = 44 ∷ w.text; frames = record f { left = f.left - 1 } ∷ fs }
    else arrive spell fs (record w { text = opening spell f.symbol ++ w.text })

abbrev pub arrived : (Symbol → List ℕ) → List ℕ → Writer → Writer
arrived spell text w = arrive spell w.frames (record w { text = text ++ w.text })

-- a group of so many terms closes
abbrev pub close_group : Option Symbol → ℕ → ℕ → Writer → Writer
close_group symbol left mark w = record w {
  text = mark ∷ w.text;
  frames = record { symbol = symbol; left = left } ∷ w.frames;
  cells = 0;
}

abbrev pub call_written : (Symbol → List ℕ) → Symbol → ℕ → Writer → Writer
call_written spell f zero w = arrived spell (spell f) w
call_written spell f (suc n) w = close_group (Some f) (suc n) 41 w

-- an item where a term stands
abbrev pub term_written : (Symbol → List ℕ) → Item → Writer → Writer
term_written spell (Var x) w = arrived spell [] w
term_written spell (App f n) w = call_written spell f n w
term_written spell (Int v) w = arrived spell (decimal v) w
term_written spell Nil w = arrived spell (codes "[]") w
term_written spell Cons w = record w { cells = 1 }

-- an item where the rest of a list stands, of which so many cells came
abbrev pub rest_written : Item → Writer → Writer
rest_written Cons w = record w { cells = w.cells + 1 }
rest_written _ w = close_group None w.cells 93 w

abbrev pub written_at : ℕ → (Symbol → List ℕ) → Item → Writer → Writer
written_at zero spell item w = term_written spell item w
written_at (suc n) spell item w = rest_written item w

abbrev pub written : (Symbol → List ℕ) → Item → Writer → Writer
written spell item w = written_at w.cells spell item w

-- the items one after another
abbrev pub all_written : (Symbol → List ℕ) → List Item → Writer → Writer
all_written spell [] w = w
all_written spell (i ∷ is) w = all_written spell is (written spell i w)

-- the symbol of a group, and of an item, is held
abbrev pub IsHeld : List Named → Option Symbol → Type 0
IsHeld names (Some f) = f.0 < length names
IsHeld names None = Unit {0}

abbrev pub AreHeld : List Named → List Frame → Type 0
AreHeld names [] = Unit {0}
AreHeld names (f ∷ fs) = IsHeld names f.symbol × AreHeld names fs

abbrev pub IsItemHeld : List Named → Item → Type 0
IsItemHeld names (App f n) = f.0 < length names
IsItemHeld names _ = Unit {0}
