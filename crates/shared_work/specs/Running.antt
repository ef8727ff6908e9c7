-- What workers begin with at the passes of one store, and what they leave.
use Rattle.std.specs.Prelude.{◌≡◌, ◌<◌, ℕ, true, List, Result, Err, All, IfOk, IfErr, map}
use Rattle.term_model.specs.Tree.{Tree}
use Rattle.history_core.specs.declared.entry.Entry.{Entry}
use Rattle.rewrite_model.specs.Rule.{Rule}
use Rattle.settings.specs.declared.parts.Settings.{Settings}
use Rattle.settings.specs.Words.{AreInRange}
use Rattle.busy_forbidden.specs.Dealt.{EachPlace}
use Rattle.worker_crew.specs.declared.fault.AllFault.{AllFault}
use Rattle.worker_crew.specs.declared.fault.AllFault.TheVariants.{Memory}
use Rattle.worker_crew.specs.declared.lines.Lines.{Lines}
use Rattle.rewrite_workers.specs.Desks.{EachDesk, KeepsDesk}
use Rattle.rewrite_workers.specs.Ends.{BuiltAll, Stopped}
use Rattle.work_order.specs.declared.work.Work.{Work}
use Rattle.work_order.specs.Lined.{said, line_of, trace_of, worker_of, drawn_by}
use Rattle.work_order.specs.Works.{MayWork, need_of}
use Rattle.node_rows.specs.declared.store.Store.{Store}
use Rattle.node_rows.specs.declared.store.Pass.{Pass}
use Rattle.node_rows.specs.Told.{view_of}
use Rattle.log_text.specs.Lines.{log_of}
use Rattle.shared_desk.specs.Code.{Contents}
use Rattle.shared_desk.specs.Desk.{store_of, IsSame}
use Rattle.shared_desk.specs.Telling.{MayHaveDesk}
use Rattle.work_desks.specs.NewDesks.{sizes_for, IsNewPass, IsNewDesk, AreBack}

-- Workers may begin on the terms at these passes of a new store.
pub record MayBegin (work : Work) (store : Store) (given : List Pass) : Type 0 where
  pub in_range : AreInRange work.settings
  pub may : MayWork work.plan.now work.symbols.now work.terms.now
  pub sizes : store.sizes ≡ sizes_for work.settings work.plan.now
  pub passes : All (MayHaveDesk store) given
  pub new : EachPlace (IsNewPass store) store.sizes.seats given

-- The lines are those of the terms, in their order, each by one of the workers; beside them are the
-- events that lead to their values, where these are told.
pub record AreLines (work : Work) (l : Lines) : Type 0 where
  pub lines : map said l.list.items
      ≡ map (line_of work.settings work.symbols.now work.plan.now.rules) work.terms.now
  pub traces : map (λ t. t.items) l.traces.items
      ≡ map (trace_of work.settings work.plan.now.rules) work.terms.now
  pub workers : All (λ w. w < work.settings.workers) (map worker_of l.list.items)

-- there was no memory
abbrev pub WantsMemory : Result Lines AllFault → Type 0
WantsMemory lines = lines ≡ Err Memory

-- a log that was asked, of these lists
abbrev pub IsAskedLog : Settings → List (List Entry) → List ℕ → Type 0
IsAskedLog s lists text = (s.log ≡ true) × (text ≡ log_of s.rows lists)

-- the entries of passes, in their order
abbrev pub entries_of : List Pass → List (List Entry)
entries_of passes = map (λ p. (view_of p).store.entries) passes

-- The desks were new; what each has built is as `rewrite_all` says; and these passes are those that
-- they gave back.
pub record HasRun (s : Settings) (rules : List Rule) (terms : List Tree) (store : Store)
    (lines : Result Lines AllFault) (passes : List Pass) : Type 0 where
  pub olds : List Contents
  pub news : List Contents
  pub new : EachPlace (IsNewDesk store) store.sizes.seats olds
  pub back : AreBack news passes
  pub same : EachDesk (λ k old new. IsSame old new) olds news
  pub kept : EachDesk
      (λ k old new. KeepsDesk s (need_of s rules terms) (store_of old) (store_of new)) olds news
  pub built : IfOk lines
      (λ l. EachDesk
      (λ k old new. BuiltAll s rules (drawn_by k (map worker_of l.list.items) terms)
      (store_of old) (store_of new)) olds news)
  pub stopped : IfErr lines (Stopped store_of s rules terms olds news)
