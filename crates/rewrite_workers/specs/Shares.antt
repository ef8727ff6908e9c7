-- What all workers leave.
use Rattle.std.specs.Prelude.{List, [], ◌∷◌}
use Rattle.term_model.specs.Tree.{Tree}
use Rattle.terms_api.specs.Terms.{Store}
use Rattle.symbol_pool.specs.Pool.{Named}
use Rattle.rule_match.specs.Planned.{Planned}
use Rattle.settings.specs.declared.parts.Settings.{Settings}
use Rattle.atomic_table.specs.Seated.{TableId}
use Rattle.worker_crew.specs.declared.share.Share.{Share}
use Rattle.rewrite_workers.specs.Desks.{IsReady}
use Rattle.rewrite_workers.specs.Worked.{Drew, Worked}

-- what a worker leaves of its desk and of its share
pub record Works (s : Settings) (plan : Planned) (symbols : List Named) (terms : List Tree)
    (table : TableId) (old new : Store) (begun share : Share) : Type 0 where
  pub seat : Drew table begun share
  pub worked : Worked s symbols plan.rules terms old new share share.end
  pub ready : IsReady s plan new

-- of each desk and its share, before and after
abbrev pub EachShare : {D E : Type 0} → (D → D → E → E → Type 0) → List D → List D → List E
    → List E → Type 0
EachShare P [] [] [] [] = Unit {0}
EachShare P (d ∷ ds) (e ∷ es) (x ∷ xs) (y ∷ ys) = P d e x y × EachShare P ds es xs ys
EachShare P _ _ _ _ = ⊥
