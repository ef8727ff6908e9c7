-- When the rows are too few for workers on one store.
use Rattle.std.specs.Prelude.{◌*◌, ◌<◌, List}
use Rattle.term_model.specs.Tree.{Tree, distinct}
use Rattle.rewrite_model.specs.Rule.{Rule}
use Rattle.rewrite_model.specs.Built.{need_of_all}
use Rattle.settings.specs.declared.parts.Settings.{Settings}
use Rattle.work_order.specs.Works.{built_of, IsInnermost}

-- all workers at once may need more rows than there are; of outermost rewriting no need is told
abbrev pub NeedsMore : Settings → List Rule → List Tree → Type 0
NeedsMore s rules terms =
    IsInnermost s → s.rows < s.workers * need_of_all rules terms s.fuel s.depth

-- and the terms build more different trees than there are rows
pub record LacksRows (s : Settings) (rules : List Rule) (terms : List Tree) : Type 0 where
  pub built : s.rows < distinct (built_of s rules terms)
  pub need : NeedsMore s rules terms
