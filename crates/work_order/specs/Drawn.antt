-- Which terms each worker drew, by their numbers.
use Rattle.std.specs.Prelude.{◌≡◌, ℕ, ◌<◌, ◌≤◌, List, [], ◌∷◌, All, length}
use Rattle.std.specs.List.{flat_map}
use Rattle.term_model.specs.Tree.{Tree}
use Rattle.worker_crew.specs.Dealt.{times}
use Rattle.work_order.specs.Works.{term_at}

-- the terms with these numbers, in their order
abbrev pub numbered : List Tree → List ℕ → List Tree
numbered terms [] = []
numbered terms (i ∷ is) = term_at terms i ∷ numbered terms is

-- a list that rises
abbrev pub Rises : List ℕ → Type 0
Rises [] = Unit {0}
Rises (i ∷ is) = All (λ j. i < j) is × Rises is

-- What each worker drew: numbers of terms, upwards, none of them twice.
pub record AreApart (count workers : ℕ) (hands : List (List ℕ)) : Type 0 where
  pub one_each : length hands ≡ workers
  pub below : All (λ hand. All (λ i. i < count) hand) hands
  pub upwards : All Rises hands
  pub once : (i : ℕ) → times i (flat_map (λ hand. hand) hands) ≤ 1
