-- What comes of all terms, as one record, by what the crew left.
use Rattle.std.proofs.Common.{◌≡◌, ℕ, ◌<◌, List, length, map, refl, sym, subst, inl, inr, All}
use Rattle.std.specs.Prelude.{Some, Result, Ok, Err, IfOk, IfErr, Vec}
use Rattle.std.specs.Global.{Global}
use Rattle.term_model.specs.Tree.{Tree}
use Rattle.terms_api.specs.Terms.{Store}
use Rattle.symbol_pool.specs.Pool.{Named}
use Rattle.rule_match.specs.Planned.{Planned}
use Rattle.settings.specs.declared.parts.Settings.{Settings}
use Rattle.worker_crew.specs.declared.fault.AllFault.{AllFault}
use Rattle.worker_crew.specs.declared.fault.AllFault.TheVariants as all
use Rattle.worker_crew.specs.declared.lines.Lines.{Lines}
use Rattle.worker_crew.specs.declared.lines.Traced.{Traced}
use Rattle.worker_crew.specs.declared.share.Share.{Share}
use Rattle.worker_crew.specs.Gathered.{end_of_share, IsCollected, IsWorst}
use Rattle.work_order.specs.Works.{need_of}
use Rattle.work_order.specs.Lined.{drawn_by}
use Rattle.rewrite_workers.specs.Desks.{IsReady, EachDesk}
use Rattle.rewrite_workers.specs.Ends.{BuiltAll}
use Rattle.rewrite_workers.specs.Outcome.{Leaves, Traces, Rewrites}
use Rattle.rewrite_workers.proofs.Eachwise.{each_unchanged}
use Rattle.rewrite_workers.proofs.Finishing.{Finished, ready, kept, same_desks, stopped, all_told, workers_below, built, unrefused}
use Rattle.rewrite_workers.proofs.Beside.{makers_beside, lines_beside, traces_beside}
use Rattle.rewrite_workers.proofs.Unbegun.{unbegun, unkept}

module _ {D : Type 0} (store : D → Store) (same : D → D → Type 0) (s : Settings) (plan : Planned) (symbols : List Named) (terms : List Tree) (olds news : List D) where
  leaves : (shares : List Share) → Finished store same s plan symbols terms olds news shares → Leaves store same s plan terms olds news
  leaves shares f = record {
    ready = ready store same s plan symbols terms olds news shares f;
    kept = kept store same s plan symbols terms olds news shares f;
    same_desks = same_desks store same s plan symbols terms olds news shares f;
  }

  -- what was collected of a crew's work
  pub traced : (shares : List Share) (blank : List Traced) (result : Result (Vec Traced Global) AllFault) → 0 < length olds → length blank ≡ length terms
      → Finished store same s plan symbols terms olds news shares
      → IfOk result (λ l. IsCollected shares blank l.items)
      → IfErr result (λ fault. IsWorst (map end_of_share shares) (Some fault))
      → Traces store same s plan symbols terms olds news result
  traced shares blank (Ok l) some long f k worst = record {
    lines = all_told store same s plan symbols terms olds news shares f blank l.items some k.well long k.long k.placed;
    workers = workers_below store same s plan symbols terms olds news shares f blank l.items some k.well long k.long k.placed;
    built = built store same s plan symbols terms olds news shares f blank l.items some k.well long k.long k.placed;
    no_refusals = unrefused store same s plan symbols terms olds news shares f blank l.items some k.well long k.long k.placed;
    stopped = tt;
    at_end = stopped store same s plan symbols terms olds news shares f all.Memory (inr refl);
    leaves = leaves shares f;
  }
  traced shares blank (Err fault) some long f k worst = record {
    lines = tt;
    workers = tt;
    built = tt;
    no_refusals = tt;
    stopped = stopped store same s plan symbols terms olds news shares f fault (inl worst);
    at_end = stopped store same s plan symbols terms olds news shares f all.Memory (inr refl);
    leaves = leaves shares f;
  }

  -- lines and events beside each other
  pub beside : (t : Vec Traced Global) (l : Lines) → l.list.items ≡ map (λ (x : Traced). x.line) t.items → l.traces.items ≡ map (λ (x : Traced). x.events) t.items
      → Traces store same s plan symbols terms olds news (Ok t) → Rewrites store same s plan symbols terms olds news (Ok l)
  beside t l list events a =
      let makers = sym (makers_beside t.items l.list.items list) in
      record {
        lines = lines_beside s symbols plan.rules terms t.items a.lines l.list.items list;
        traces = traces_beside s symbols plan.rules terms t.items a.lines l.traces.items events;
        workers = subst (λ (ws : List ℕ). All (λ w. w < length olds) ws) makers a.workers;
        built = subst (λ (ws : List ℕ). EachDesk (λ k old new. BuiltAll s plan.rules (drawn_by k ws terms) (store old) (store new)) olds news) makers a.built;
        no_refusals = a.no_refusals;
        stopped = tt;
        leaves = a.leaves;
      }

  -- memory lacked for that
  pub at_end : (result : Result (Vec Traced Global) AllFault) → Traces store same s plan symbols terms olds news result → Rewrites store same s plan symbols terms olds news (Err all.Memory)
  at_end result a = record { lines = tt; traces = tt; workers = tt; built = tt; no_refusals = tt; stopped = a.at_end; leaves = a.leaves }

  pub at_fault : (fault : AllFault) → Traces store same s plan symbols terms olds news (Err fault) → Rewrites store same s plan symbols terms olds news (Err fault)
  at_fault fault a = record { lines = tt; traces = tt; workers = tt; built = tt; no_refusals = tt; stopped = a.stopped; leaves = a.leaves }

-- there was no memory to begin
pub nothing : {D : Type 0} (store : D → Store) (same : D → D → Type 0) (s : Settings) (plan : Planned) (symbols : List Named) (terms : List Tree) (olds : List D)
    → ((d : D) → same d d) → All (λ d. IsReady s plan (store d)) olds → Rewrites store same s plan symbols terms olds olds (Err all.Memory)
nothing store same s plan symbols terms olds itself ready = record {
  lines = tt;
  traces = tt;
  workers = tt;
  built = tt;
  no_refusals = tt;
  stopped = unbegun store s plan.rules terms olds;
  leaves = record {
    ready = ready;
    kept = unkept store s (need_of s plan.rules terms) olds;
    same_desks = each_unchanged (λ k old new. same old new) olds (λ k d at. itself d);
  };
}
