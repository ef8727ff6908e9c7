-- How a creation ends, and what its pass tells then.
use Rattle.std.specs.Prelude.{◌⊎◌, ℕ, List, [], Result, MatchResult}
use Rattle.term_model.specs.declared.Head.{Head}
use Rattle.term_model.specs.declared.Row.{Row}
use Rattle.store_model.specs.Machine.{with_path}
use Rattle.node_rows.specs.declared.view.NodeView.{NodeView}
use Rattle.node_rows.specs.Steps.{with_store, over}
use Rattle.term_create.specs.Stage.{Makes, Finds, IsRefused}

-- with a row, which was made or found with some number, or with a refusal
abbrev pub Ends : {E : Type 0} → NodeView → NodeView → Head → List ℕ → Result Row E → Type 0
Ends v w f rs r = MatchResult r
    (λ row. (n : ℕ) × (Makes v w f rs row.0 n ⊎ Finds v w f rs row.0 n))
    (λ _. IsRefused (with_store v (with_path v.store 0 [])) w (over f rs))
