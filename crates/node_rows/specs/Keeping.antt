-- What a pass knows of its protected rows and of what they lead to, it knows in its next epoch too.
use Rattle.std.specs.Prelude.{ℕ, List}
use Rattle.term_model.specs.Tree.{Tree}
use Rattle.term_model.specs.declared.Head.{Head}
use Rattle.store_model.specs.declared.view.View.{View}
use Rattle.store_model.specs.Machine.{Each, In, protected_in}
use Rattle.store_model.specs.Leading.{LeadsTo}
use Rattle.node_rows.specs.Knowing.{KnowsRow, KnowsTree}

-- r is a protected row, or an argument of such a row, at any depth, as far as the pass knows the
-- words
abbrev pub IsLedTo : View → ℕ → Type 0
IsLedTo v r = LeadsTo v.knows (protected_in v) r

-- With the view w in place of v a pass may use each row that it was led to, knows its tree where it
-- did, and is led to it still.
pub record KeepsLed (v w : View) : Type 0 where
  pub uses : (r : ℕ) → IsLedTo v r → In r w.got
  pub trees : (r : ℕ) (t : Tree) → IsLedTo v r → KnowsTree v.knows r t → KnowsTree w.knows r t
  pub leads : (r : ℕ) → IsLedTo v r → IsLedTo w r

-- a pass is led to the arguments of a row that it knows as a whole
abbrev pub LedToArguments : Type 0
LedToArguments = (v : View) (r : ℕ) (f : Head) (rs : List ℕ) → IsLedTo v r → KnowsRow v.knows r f rs
    → Each (IsLedTo v) rs
