-- The worker that stopped for want of rows, where that is the fault.
use Rattle.std.proofs.Common.{◌≡◌, ◌⊎◌, inl, inr, ℕ, ◌<◌, List, length, sym, ap, subst, ◌∙◌, arith}
use Rattle.std.specs.Prelude.{All, Some, slice_get, Result, Err}
use Rattle.std.proofs.lemmas.Option.{slice_get-get_or, same_Some}
use Rattle.term_model.specs.Tree.{Tree}
use Rattle.rewrite_model.specs.Rule.{Rule}
use Rattle.settings.specs.declared.parts.Settings.{Settings}
use Rattle.innermost.specs.declared.normal.RunFault.TheVariants as fault
use Rattle.node_rows.specs.declared.store.Store.{Store}
use Rattle.node_rows.specs.declared.store.Pass.{Pass}
use Rattle.line_ends.specs.declared.stop.LineStop.{LineStop}
use Rattle.line_ends.specs.declared.stop.LineStop.TheVariants as stop
use Rattle.worker_crew.specs.declared.fault.AllFault.TheVariants.{StoreFull, Memory}
use Rattle.rewrite_workers.specs.Ends.{Ended, RefusedLast}
use Rattle.work_order.specs.Drawn.{numbered}
use Rattle.worker_crew.specs.Gathered.{IsWorst}
use Rattle.shared_desk.specs.Desk.{store_of}
use Rattle.shared_work.specs.Running.{HasRun}
use Rattle.shared_work.proofs.Closing.{Worker, worker, all_got}

module _ (s : Settings) (rules : List Rule) (terms : List Tree) (store : Store) (ps : List Pass) (run : HasRun s rules terms store (Err StoreFull) ps) where
  -- its number, its desk before and after, the terms that it drew, and its refusal at the last of
  -- them
  pub record Refused : Type 0 where
    pub number : ℕ
    pub below : number < store.sizes.seats
    pub one : Worker s rules terms store (Err StoreFull) ps run number
    pub drawn : List ℕ
    pub drawn_is : slice_get run.stopped.hands number ≡ Some drawn
    pub of : All (λ i. i < length terms) drawn
    pub last : RefusedLast s rules (numbered terms drawn) (store_of one.old) (store_of one.new) fault.StoreFull

  pub refused : Refused
  refused = by run.stopped.worst
    where
      by : IsWorst run.stopped.ends (Some StoreFull) ⊎ (StoreFull ≡ Memory) → Refused
      by (inr e) = absurd cc
      by (inl worst) =
          let c = worst.0 in
          let k = c.0 in
          let at : slice_get run.stopped.ends k ≡ Some (Err stop.StoreFull) = slice_get-get_or run.stopped.ends k (Err stop.StoreFull) c.1 ∙ ap Some c.2 in
          let one = run.stopped.one_end in
          let two = run.new.count in
          let l = c.1 in
          let lt : k < store.sizes.seats = omega (arith, one, two, l) in
          let w = worker s rules terms store (Err StoreFull) ps run k lt in
          let d = run.stopped.desks.1 k w.old w.new w.at_old w.at_new in
          let same : d.1 ≡ Err stop.StoreFull = same_Some d.1 (Err stop.StoreFull) (sym d.3 ∙ at) in
          record {
            number = k;
            below = lt;
            one = w;
            drawn = d.0;
            drawn_is = d.2;
            of = all_got (λ hand. All (λ i. i < length terms) hand) run.stopped.hands k d.0 run.stopped.apart.below d.2;
            last = subst (λ (r : Result (Unit {0}) LineStop). Ended s rules (numbered terms d.0) (store_of w.old) (store_of w.new) r) same d.4;
          }
