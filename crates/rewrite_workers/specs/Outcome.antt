-- What comes of all terms, and what it leaves of each desk: all clauses of each as one record.
use Rattle.std.specs.Prelude.{◌≡◌, ◌<◌, List, Vec, Result, All, IfOk, IfErr, OnOk, length, map}
use Rattle.std.specs.Global.{Global}
use Rattle.term_model.specs.Tree.{Tree}
use Rattle.terms_api.specs.Terms.{Store}
use Rattle.symbol_pool.specs.Pool.{Named}
use Rattle.rule_match.specs.Planned.{Planned}
use Rattle.settings.specs.declared.parts.Settings.{Settings}
use Rattle.worker_crew.specs.declared.fault.AllFault.{AllFault}
use Rattle.worker_crew.specs.declared.fault.AllFault.TheVariants as all
use Rattle.worker_crew.specs.declared.lines.Lines.{Lines}
use Rattle.worker_crew.specs.declared.lines.Traced.{Traced}
use Rattle.work_order.specs.Works.{need_of}
use Rattle.work_order.specs.Lined.{said, worker_of, line_of, trace_of, drawn_by, told, told_of, maker_of}
use Rattle.rewrite_workers.specs.Desks.{IsReady, EachDesk, KeepsDesk}
use Rattle.rewrite_workers.specs.Ends.{Stopped, BuiltAll}

-- what every answer leaves of each desk
pub record Leaves {D : Type 0} (store : D → Store) (same : D → D → Type 0) (s : Settings)
    (plan : Planned) (terms : List Tree) (olds news : List D) : Type 0 where
  pub ready : All (λ d. IsReady s plan (store d)) news
  pub kept : EachDesk
      (λ _ old new. KeepsDesk s (need_of s plan.rules terms) (store old) (store new)) olds news
  pub same_desks : EachDesk (λ _ old new. same old new) olds news

-- The lines with their events are those of the terms, in their order, and each desk built what the
-- terms build that its worker drew; or which desk refused what, and what each had built. Memory may
-- lack at the end too.
pub record Traces {D : Type 0} (store : D → Store) (same : D → D → Type 0) (s : Settings)
    (plan : Planned) (symbols : List Named) (terms : List Tree) (olds news : List D)
    (result : Result (Vec Traced Global) AllFault) : Type 0 where
  pub lines : IfOk result (λ l. map told l.items ≡ map (told_of s symbols plan.rules) terms)
  pub workers : IfOk result (λ l. All (λ w. w < length olds) (map maker_of l.items))
  pub built : IfOk result
      (λ l. EachDesk
      (λ k old new. BuiltAll s plan.rules (drawn_by k (map maker_of l.items) terms) (store old)
      (store new)) olds news)
  pub no_refusals : OnOk result
      (EachDesk (λ _ old new. (store new).refusals ≡ (store old).refusals) olds news)
  pub stopped : IfErr result (Stopped store s plan.rules terms olds news)
  pub at_end : Stopped store s plan.rules terms olds news all.Memory
  pub leaves : Leaves store same s plan terms olds news

-- the same of lines and events beside each other, as `rewrite_all` says it
pub record Rewrites {D : Type 0} (store : D → Store) (same : D → D → Type 0) (s : Settings)
    (plan : Planned) (symbols : List Named) (terms : List Tree) (olds news : List D)
    (result : Result Lines AllFault) : Type 0 where
  pub lines : IfOk result (λ l. map said l.list.items ≡ map (line_of s symbols plan.rules) terms)
  pub traces : IfOk result
      (λ l. map (λ t. t.items) l.traces.items ≡ map (trace_of s plan.rules) terms)
  pub workers : IfOk result (λ l. All (λ w. w < length olds) (map worker_of l.list.items))
  pub built : IfOk result
      (λ l. EachDesk
      (λ k old new. BuiltAll s plan.rules (drawn_by k (map worker_of l.list.items) terms)
      (store old) (store new)) olds news)
  pub no_refusals : OnOk result
      (EachDesk (λ _ old new. (store new).refusals ≡ (store old).refusals) olds news)
  pub stopped : IfErr result (Stopped store s plan.rules terms olds news)
  pub leaves : Leaves store same s plan terms olds news
