-- What a creation has walked stands in its chain, and lacks its tree.
use Rattle.std.specs.Prelude.{◌≡◌, ◌≢◌, ℕ, ◌≤◌, List, ◌++◌}
use Rattle.term_model.specs.Tree.{Tree}
use Rattle.store_model.specs.Words.{Place, InUse, RowWords, row_at}
use Rattle.store_model.specs.Calls.{Content, bucket, Call, Idle, Comparing, Passing, Finding, Ended, Counting, Drawing, Placing, Filling, Numbering, Linking, Publishing, Loading, Storing, View}
use Rattle.store_model.specs.Machine.{Sizes, Each}
use Rattle.store_model.specs.Meaning.{Meaning, Linked, grown}

-- A walk from the head `from` has come to the word `at`: it has walked these rows, which lack the
-- tree of c, and has the rest before it. Together they are a suffix of the present chain.
pub record HasWalked (row : ℕ → RowWords) (chain : List ℕ) (tree : ℕ → Tree) (c : Content)
    (from at : ℕ) : Type 0 where
  pub newer : List ℕ
  pub walked : List ℕ
  pub rest : List ℕ
  pub suffix : chain ≡ newer ++ (walked ++ rest)
  pub from_head : Linked row from (walked ++ rest)
  pub come_to : Linked row at rest
  pub lack : Each (λ r. tree r ≢ grown tree c) walked

-- the whole chain from the head `from` lacks the tree of c, and is a suffix of the present chain
pub record HasEnded (row : ℕ → RowWords) (chain : List ℕ) (tree : ℕ → Tree) (c : Content)
    (from : ℕ) : Type 0 where
  pub newer : List ℕ
  pub walked : List ℕ
  pub suffix : chain ≡ newer ++ walked
  pub from_head : Linked row from walked
  pub lack : Each (λ r. tree r ≢ grown tree c) walked

abbrev pub IsCurrent : (ℕ → RowWords) → (Content → List ℕ) → (ℕ → Tree) → Call → Type 0
IsCurrent row chain tree (Comparing c d from old at k) = HasWalked row (chain c) tree c from at
IsCurrent row chain tree (Passing c d from old at dif) = HasWalked row (chain c) tree c from at
IsCurrent row chain tree (Ended c from) = HasEnded row (chain c) tree c from
IsCurrent row chain tree (Counting c from n) = HasEnded row (chain c) tree c from
IsCurrent row chain tree (Drawing c from n) = HasEnded row (chain c) tree c from
IsCurrent row chain tree (Placing c from i) = HasEnded row (chain c) tree c from
IsCurrent row chain tree (Filling c from i r k) = HasEnded row (chain c) tree c from
IsCurrent row chain tree (Numbering c from i r) = HasEnded row (chain c) tree c from
IsCurrent row chain tree (Linking c from i r) = HasEnded row (chain c) tree c from
IsCurrent row chain tree (Publishing c from i r) = HasEnded row (chain c) tree c from
IsCurrent row chain tree x = Unit {0}

-- the walks of a call have passed at most as many rows as there are
abbrev pub IsShort : ℕ → ℕ → Call → Type 0
IsShort rows n Idle = Unit {0}
IsShort rows n (Finding c d r) = Unit {0}
IsShort rows n (Loading ls) = Unit {0}
IsShort rows n (Storing ls ss) = Unit {0}
IsShort rows n x = n ≤ rows

pub record WalksCurrent (z : Sizes) (w : Place → ℕ) (m : Meaning) (view : ℕ → View) : Type 0 where
  pub walks : (i : ℕ)
      → IsCurrent (row_at w) (λ c. m.chain (bucket c (w InUse))) m.tree (view i).call
  pub short : (i : ℕ) → IsShort z.rows (view i).passed (view i).call
