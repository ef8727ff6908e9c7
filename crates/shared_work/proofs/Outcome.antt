-- What is told of a run whose store was closed, and of one that had no memory to begin.
use Rattle.std.proofs.Common.{◌≡◌, ◌∙◌, ◌<◌, ℕ, List, [], length, map, ap, subst}
use Rattle.std.specs.Prelude.{All, None, Some, Option, Result, Ok, Err, IfOk, IfSome}
use Rattle.history_core.specs.declared.entry.Entry.{Entry}
use Rattle.history_core.specs.Chronicle.{chronicle, IsLegal}
use Rattle.store_model.specs.declared.view.Sizes.{Sizes}
use Rattle.store_model.specs.Bases.{StaysBelow, collect_numbers}
use Rattle.store_model.specs.Invariant.{span}
use Rattle.node_rows.specs.declared.store.Store.{Store}
use Rattle.node_rows.specs.declared.store.Pass.{Pass}
use Rattle.node_rows.specs.Joining.{HasBase}
use Rattle.node_rows.specs.Told.{HasEntries, HasRisingKeys, KeepsOrder, TellsCrowd, TellsTrees, view_of}
use Rattle.worker_crew.specs.declared.fault.AllFault.{AllFault}
use Rattle.worker_crew.specs.declared.lines.Lines.{Lines}
use Rattle.work_order.specs.Lined.{said, worker_of, line_of, trace_of}
use Rattle.work_order.specs.declared.work.Work.{Work}
use Rattle.work_desks.specs.Keys.{HasKeys}
use Rattle.work_desks.proofs.Making.{has_rows}
use Rattle.shared_work.specs.Fronts.{NamesFronts}
use Rattle.shared_work.specs.Running.{MayBegin, AreLines, WantsMemory, IsAskedLog, entries_of}
use Rattle.shared_work.specs.Outcome.{Ran, Tells}
use Rattle.shared_work.proofs.Closing.{names_what_it_built, collects_few, keeps_orders, each_rises, none_collect, none_order, none_rises, none_ok, none_legal}
use Rattle.shared_work.proofs.Fewer.{tells_few, none_few}
use Rattle.shared_work.proofs.Filling.{tells_full, none_full}
use Rattle.shared_work.proofs.Fronts.{tells_each, nothing_told, tells_fronts, front_within, only_built, none_fronts, at_err}
use Rattle.shared_work.proofs.Keyed.{log_keys, still_told}
use Rattle.shared_work.proofs.Lacking.{tells_need}
use Rattle.shared_work.proofs.Logging.{lists_are, log_told}
use Rattle.shared_work.proofs.Wearing.{tells_worn, none_worn}

-- what `rewrite_all` tells of the lines
pub are_lines : (work : Work) (made : Result Lines AllFault) (n : ℕ) → n ≡ work.settings.workers
    → IfOk made (λ l. map said l.list.items ≡ map (line_of work.settings work.symbols.now work.plan.now.rules) work.terms.now)
    → IfOk made (λ l. map (λ t. t.items) l.traces.items ≡ map (trace_of work.settings work.plan.now.rules) work.terms.now)
    → IfOk made (λ l. All (λ w. w < n) (map worker_of l.list.items)) → IfOk made (AreLines work)
are_lines work (Ok l) n same lines traces workers = record { lines = lines; traces = traces; workers = subst (λ k. All (λ w. w < k) (map worker_of l.list.items)) same workers }
are_lines work (Err fault) n same lines traces workers = tt

-- what the closed store tells of the passes that it took
pub record Closed (store : Store) (ps : List Pass) (lists : List (List Entry)) : Type 0 where
  pub count : length lists ≡ store.sizes.seats
  pub legal : IsLegal store.sizes.rows (chronicle lists)
  pub own : All (HasEntries lists) ps
  pub order : All (KeepsOrder lists) ps
  pub rises : All (HasRisingKeys lists) ps
  pub told : All (TellsTrees lists) ps
  pub crowds : All (TellsCrowd lists) ps
  pub numbers : StaysBelow store.sizes.first (span store.sizes) 1 (collect_numbers (chronicle lists))
  pub bases : All (λ p. HasBase store.sizes lists (view_of p).store.base) ps

all_lines : (work : Work) (made : Result Lines AllFault) → IfOk made (AreLines work)
    → IfOk made (λ l. map said l.list.items ≡ map (line_of work.settings work.symbols.now work.plan.now.rules) work.terms.now)
all_lines work (Ok l) are = are.lines
all_lines work (Err fault) are = tt

all_traces : (work : Work) (made : Result Lines AllFault) → IfOk made (AreLines work) → IfOk made (λ l. map (λ t. t.items) l.traces.items ≡ map (trace_of work.settings work.plan.now.rules) work.terms.now)
all_traces work (Ok l) are = are.traces
all_traces work (Err fault) are = tt

all_workers : (work : Work) (made : Result Lines AllFault) → IfOk made (AreLines work) → IfOk made (λ l. All (λ w. w < work.settings.workers) (map worker_of l.list.items))
all_workers work (Ok l) are = are.workers
all_workers work (Err fault) are = tt

pub closed : (work : Work) (store : Store) (given : List Pass) (made : Result Lines AllFault) (ps : List Pass) (before text : Option (List ℕ)) (lists : List (List Entry))
    → MayBegin work store given → Ran work store made ps before → Closed store ps lists
    → IfSome text (λ t. before ≡ Some t) → IfSome text (λ _. All (λ p. HasKeys (view_of p).store.entries) ps) → Tells work made lists text
closed work store given made ps before text lists begin ran c same keys =
    let s = work.settings in
    let rules = work.plan.now.rules in
    let terms = work.terms.now in
    let seats = ap (λ (z : Sizes). z.seats) begin.sizes in
    let rows = ap (λ (z : Sizes). z.rows) begin.sizes in
    let first = ap (λ (z : Sizes). z.first) begin.sizes in
    let is = lists_are s rules terms store made ps ran.run lists c.count c.own in
    let rises = each_rises s rules terms store made ps ran.run lists c.count c.rises in
    let built = names_what_it_built s rules terms store made ps ran.run lists seats c.told in
    let front = tells_fronts s rules terms store made ps ran.run lists seats c.told in
    let only = only_built s rules terms made lists built front in
    let full = tells_full s rules terms store made ps ran.run lists store.sizes.rows (has_rows s begin.in_range) seats rows c.count c.legal c.told c.crowds in
    let need = tells_need s rules terms store made ps ran.run lists seats rows c.count store.sizes.rows c.legal c.order c.told c.crowds in
    record {
      lines = all_lines work made ran.lines;
      traces = all_traces work made ran.lines;
      workers = all_workers work made ran.lines;
      legal = subst (λ n. IsLegal n (chronicle lists)) rows c.legal;
      order = keeps_orders s rules terms store made ps ran.run lists seats c.own c.order;
      rises = rises;
      built = built;
      collects = collects_few s rules terms store made ps ran.run lists seats c.told c.own;
      full = full;
      few = tells_few s rules terms made lists only full need;
      worn = tells_worn s rules terms store made ps ran.run lists seats rows first c.count c.told c.own c.numbers c.bases;
      each = tells_each s made lists (c.count ∙ seats);
      front = front;
      only = only;
      log = log_told s text (entries_of ps) lists is (still_told (IsAskedLog s (entries_of ps)) before text same ran.log);
      keys = log_keys text ps lists is rises keys;
    }

none_some : {A : Type 0} (P : A → Type 0) (o : Option A) → o ≡ None → IfSome o P
none_some P None e = tt
none_some P (Some a) e = cc

pub nothing : (work : Work) (made : Result Lines AllFault) (lists : List (List Entry)) (text : Option (List ℕ)) → WantsMemory made → lists ≡ [] → text ≡ None → Tells work made lists text
nothing work made lists text wants none lost =
    let s = work.settings in
    let rules = work.plan.now.rules in
    let terms = work.terms.now in
    let fronts = none_fronts s rules terms lists none in
    record {
      lines = none_ok _ made _ wants;
      traces = none_ok _ made _ wants;
      workers = none_ok _ made _ wants;
      legal = none_legal s.rows lists none;
      order = none_order s lists none;
      rises = none_rises lists none;
      built = none_ok _ made _ wants;
      collects = none_collect s lists none;
      full = none_full s rules terms lists made wants;
      few = none_few s rules terms made wants;
      worn = none_worn s rules terms made wants;
      each = nothing_told s made lists wants none;
      front = at_err (NamesFronts s rules terms lists) made fronts;
      only = front_within s rules terms lists fronts;
      log = none_some _ text lost;
      keys = none_some _ text lost;
    }
