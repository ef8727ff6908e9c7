-- There was no memory to begin: no desk changed.
use Rattle.std.proofs.Common.{◌≡◌, ℕ, ◌<◌, List, [], length, map, refl, ap, ◌∙◌, inr, arith, All}
use Rattle.std.specs.Prelude.{Result, Ok, slice_get, option_map, Some}
use Rattle.std.proofs.lemmas.List.{length-map}
use Rattle.std.proofs.lemmas.List.Elements.{All-nil, All-map}
use Rattle.std.proofs.lemmas.Option.{slice_get-map}
use Rattle.term_model.specs.Tree.{Tree}
use Rattle.terms_api.specs.Terms.{Store}
use Rattle.rewrite_model.specs.Rule.{Rule}
use Rattle.settings.specs.declared.parts.Settings.{Settings}
use Rattle.line_ends.specs.declared.stop.LineStop.{LineStop}
use Rattle.worker_crew.specs.declared.fault.AllFault.TheVariants.{Memory}
use Rattle.worker_crew.specs.Dealt.{times}
use Rattle.rewrite_workers.specs.Desks.{EachDesk, KeepsDesk}
use Rattle.rewrite_workers.specs.Ends.{Ended, Stopped}
use Rattle.work_order.specs.Drawn.{Rises, numbered}
use Rattle.worker_crew.proofs.Dealing.{sum_none}
use Rattle.rewrite_workers.proofs.Dividing.{times_flat}
use Rattle.rewrite_workers.proofs.Eachwise.{each_unchanged}
use Rattle.rewrite_workers.proofs.Ending.{nothing_more}

module _ {D : Type 0} (store : D → Store) where
  abbrev nothing : D → List ℕ
  nothing d = []

  abbrev well : D → Result (Unit {0}) LineStop
  well d = Ok tt

  pub unbegun : (s : Settings) (rules : List Rule) (terms : List Tree) (ds : List D) → Stopped store s rules terms ds ds Memory
  unbegun s rules terms ds = record {
    hands = map nothing ds;
    ends = map well ds;
    apart = record {
      one_each = length-map ds nothing;
      below = All-map (λ (h : List ℕ). All (λ i. i < length terms) h) nothing ds (λ k d h. All-nil (λ i. i < length terms));
      upwards = All-map Rises nothing ds (λ k d h. tt);
      once = λ i. let a = times_flat nothing i ds in let b = sum_none (λ (d : D). times i (nothing d)) ds (λ k d e. refl) in omega arith;
    };
    one_end = length-map ds well;
    desks = each_unchanged (λ k old new. (h : List ℕ) × (end : Result (Unit {0}) LineStop) × (slice_get (map nothing ds) k ≡ Some h) × (slice_get (map well ds) k ≡ Some end)
        × Ended s rules (numbered terms h) (store old) (store new) end) ds
        (λ k d at. (
          [],
          Ok tt,
          slice_get-map nothing ds k ∙ ap (option_map nothing) at,
          slice_get-map well ds k ∙ ap (option_map well) at,
          (nothing_more s rules (store d), refl),
        ));
    worst = inr refl;
  }

  pub unkept : (s : Settings) (needed : ℕ) (ds : List D) → EachDesk (λ k old new. KeepsDesk s needed (store old) (store new)) ds ds
  unkept s needed ds = each_unchanged (λ k old new. KeepsDesk s needed (store old) (store new)) ds (λ k d at. record {
    rows = refl;
    widest = refl;
    room = refl;
    least_sweeps = omega arith;
    most_sweeps = omega arith;
    least_load = omega arith;
    most_load = λ is. omega arith;
    refusals = omega arith;
  })
