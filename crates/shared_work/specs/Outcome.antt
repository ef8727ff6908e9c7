-- What a run leaves, and what is told of it: all clauses of each as one record.
use Rattle.std.specs.Prelude.{◌≡◌, ◌<◌, ℕ, List, Option, Result, All, IfOk, IfErr, IfSome, map}
use Rattle.std.specs.List.{AllByRecursion}
use Rattle.history_core.specs.declared.entry.Entry.{Entry}
use Rattle.history_core.specs.Chronicle.{chronicle, IsLegal}
use Rattle.log_text.specs.Keys.{HaveKeys}
use Rattle.node_rows.specs.declared.store.Store.{Store}
use Rattle.node_rows.specs.declared.store.Pass.{Pass}
use Rattle.worker_crew.specs.declared.fault.AllFault.{AllFault}
use Rattle.worker_crew.specs.declared.lines.Lines.{Lines}
use Rattle.work_order.specs.Lined.{said, worker_of, line_of, trace_of}
use Rattle.work_order.specs.declared.work.Work.{Work}
use Rattle.shared_work.specs.Filling.{TellsFull}
use Rattle.shared_work.specs.Fronts.{NamesFronts, NamesOnlyBuilt, TellsEach}
use Rattle.shared_work.specs.Numbers.{TellsFew}
use Rattle.shared_work.specs.Running.{AreLines, HasRun, IsAskedLog, entries_of}
use Rattle.shared_work.specs.Sharing.{NamesWhatItBuilt, CollectsFew, KeepsOrders, EachRises}
use Rattle.shared_work.specs.Wearing.{TellsWorn}

-- Where all is well the lines are those of the work. The desks of a new store have run, and gave
-- back these passes; where there is a log it was asked, and is that of their entries.
pub record Ran (work : Work) (store : Store) (made : Result Lines AllFault) (passes : List Pass)
    (text : Option (List ℕ)) : Type 0 where
  pub lines : IfOk made (AreLines work)
  pub run : HasRun work.settings work.plan.now.rules work.terms.now store made passes
  pub log : IfSome text (IsAskedLog work.settings (entries_of passes))

-- What `rewrite_shared` says of the lines, the chronicle and its log.
pub record Tells (work : Work) (made : Result Lines AllFault) (lists : List (List Entry))
    (text : Option (List ℕ)) : Type 0 where
  pub lines : IfOk made
      (λ l. map said l.list.items
      ≡ map (line_of work.settings work.symbols.now work.plan.now.rules) work.terms.now)
  pub traces : IfOk made
      (λ l. map (λ t. t.items) l.traces.items
      ≡ map (trace_of work.settings work.plan.now.rules) work.terms.now)
  pub workers : IfOk made (λ l. All (λ w. w < work.settings.workers) (map worker_of l.list.items))
  pub legal : IsLegal work.settings.rows (chronicle lists)
  pub order : KeepsOrders work.settings lists
  pub rises : EachRises lists
  pub built : IfOk made
      (λ l. NamesWhatItBuilt work.settings work.plan.now.rules work.terms.now
      (map worker_of l.list.items) lists)
  pub collects : CollectsFew work.settings lists
  pub full : IfErr made (TellsFull work.settings work.plan.now.rules work.terms.now lists)
  pub few : IfErr made (TellsFew work.settings work.plan.now.rules work.terms.now)
  pub worn : IfErr made (TellsWorn work.settings work.plan.now.rules work.terms.now)
  pub each : TellsEach work.settings made lists
  pub front : IfErr made
      (λ fault. NamesFronts work.settings work.plan.now.rules work.terms.now lists)
  pub only : NamesOnlyBuilt work.settings work.plan.now.rules work.terms.now lists
  pub log : IfSome text (IsAskedLog work.settings lists)
  pub keys : IfSome text (λ _. AllByRecursion HaveKeys lists)
