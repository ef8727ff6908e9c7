-- What the line of one term leaves of a desk, from before it was entered to after it was left.
use Rattle.std.proofs.Common.{◌≡◌, ℕ, ◌+◌, ◌<◌, ◌≤◌, Bool, false, true, List, [], ◌∷◌, ◌++◌, length, map, max, refl, sym, ap, subst, ◌∙◌, arith}
use Rattle.std.specs.Prelude.{Result, Ok, Err, All, Contains}
use Rattle.std.proofs.lemmas.List.{append-nil}
use Rattle.std.specs.List.{flat_map}
use Rattle.term_model.specs.Tree.{Tree, subtrees, distinct}
use Rattle.terms_api.specs.Terms.{Store, trees, tree_at, Entered, Left}
use Rattle.rewrite_model.specs.Evaluation.{Point}
use Rattle.rewrite_model.specs.Built.{need}
use Rattle.rewrite_model.specs.Outermost.{outermost_built}
use Rattle.rule_match.specs.Planned.{Planned}
use Rattle.settings.specs.declared.parts.Settings.{Settings}
use Rattle.innermost.specs.Normalized.{KeepsNumbers, StoppedAt, IsFullWithout, IsPartOf}
use Rattle.innermost.specs.BuiltTrees.{StoppedBefore}
use Rattle.innermost.specs.Remembered.{StoppedAmong}
use Rattle.innermost.specs.declared.normal.RunFault.{RunFault}
use Rattle.innermost.specs.declared.normal.RunFault.TheVariants as fault
use Rattle.term_lines.specs.Strategies.{IsBuiltBy, points_of, RefusedBy}
use Rattle.term_lines.specs.Written.{BuildsForLine, BuildsWhole, BuildsFront, CountsRefusals, SweepsForLine}
use Rattle.term_lines.proofs.Lists.{none_built, one_built}
use Rattle.term_lines.specs.declared.strategy.Strategy.{Strategy}
use Rattle.term_lines.specs.declared.strategy.Strategy.TheVariants.{Innermost, Outermost}
use Rattle.term_lines.specs.declared.ending.Ending.{Ending}
use Rattle.line_ends.specs.declared.stop.LineStop.{LineStop}
use Rattle.line_ends.specs.declared.stop.LineStop.TheVariants as stop
use Rattle.rewrite_workers.specs.Desks.{IsReady}
use Rattle.rewrite_workers.specs.Ends.{BuiltAll, BuiltFront, RefusedLast, Ended}
use Rattle.rewrite_workers.specs.Working.{WorksOn, more_sweeps}
use Rattle.work_order.specs.Works.{strategy_of, tells_events, remembers_results, AreBuilt, IsInnermost}

module _ (s : Settings) (plan : Planned) (term : Tree) (a b c d : Store) (ready : IsReady s plan a) (entered : Entered a b) (numbers : KeepsNumbers b c) (empty : c.stack ≡ []) (left : Left c d) where
  abbrev strategy : Strategy
  strategy = strategy_of s.command

  abbrev remembered : Bool
  remembered = remembers_results s plan.rules

  built_before : b.built ≡ a.built
  built_before = ap (λ (x : Store). x.built) entered.rest

  built_same : d.built ≡ c.built
  built_same = ap (λ (x : Store). x.built) left.rest

  built_one : (trees : List Tree) → IsBuiltBy strategy remembered plan.rules term s.fuel s.depth b.built trees → AreBuilt s plan.rules (term ∷ []) a.built trees
  built_one trees h = one_built plan.rules s.fuel s.depth strategy remembered term a.built trees
      (subst (λ (xs : List Tree). IsBuiltBy strategy remembered plan.rules term s.fuel s.depth xs trees) built_before h)

  built_on : (trees : List Tree) → c.built ≡ b.built ++ trees → d.built ≡ a.built ++ trees
  built_on trees h = built_same ∙ (h ∙ ap (λ (xs : List Tree). xs ++ trees) built_before)

  all_built : BuildsWhole strategy remembered plan.rules term s.fuel s.depth b c → BuiltAll s plan.rules (term ∷ []) a d
  all_built h = record { trees = h.trees; are = built_one h.trees h.are; built = built_on h.trees h.built }

  front_built : BuildsFront strategy (tells_events s plan.rules) remembered plan.rules term s.fuel s.depth b c → BuiltFront s plan.rules (term ∷ []) a d
  front_built h = record {
    front = h.front;
    rest = h.rest;
    split = built_one (h.front ++ h.rest) h.split;
    built = built_on h.front h.built;
    whole = λ e. all_built (h.whole e);
  }

  refusals_before : b.refusals ≡ a.refusals
  refusals_before = ap (λ (x : Store). x.refusals) entered.rest

  refusals_same : d.refusals ≡ c.refusals
  refusals_same = ap (λ (x : Store). x.refusals) left.rest

  same_refusals : c.refusals ≡ b.refusals → d.refusals ≡ a.refusals
  same_refusals h = refusals_same ∙ (h ∙ refusals_before)

  abbrev points : List Point
  points = points_of plan.rules term s.fuel s.depth

  abbrev trees_out : List Tree
  trees_out = outermost_built plan.rules term s.fuel s.depth

  stopped_at : (p : Point) → StoppedAt points b c p → StoppedAt points b d p
  stopped_at p st = record { front = st.front; back = st.back; split = st.split; built = built_same ∙ st.built }

  stopped_before : (t : Tree) → StoppedBefore trees_out b c t → StoppedBefore trees_out b d t
  stopped_before t st = record { front = st.front; back = st.back; split = st.split; built = built_same ∙ st.built }

  stopped_cached : (p : Point) → StoppedAmong plan.rules points b c p → StoppedAmong plan.rules points b d p
  stopped_cached p st = record { front = st.front; back = st.back; split = st.split; some = record { trees = st.some.trees; built = built_same ∙ st.some.built; cached = st.some.cached } }

  full_without : (t : Tree) → IsFullWithout c t → IsFullWithout d t
  full_without t w = record {
    full = ap (λ (x : Store). distinct x.crowd) left.rest ∙ (w.full ∙ sym (ap (λ (x : Store). x.rows) left.rest));
    absent = λ h. w.absent (subst (λ (x : Store). Contains x.crowd t) left.rest h);
  }

  refused : (by : Strategy) (kept : Bool) (f : RunFault) → RefusedBy by kept plan.rules term s.fuel s.depth b c f → RefusedBy by kept plan.rules term s.fuel s.depth b d f
  refused Innermost true fault.StoreFull w = (
    w.0,
    stopped_cached w.0 w.1,
    full_without w.0.tree w.2,
    λ e. subst (λ (ts : List Tree). All (IsPartOf w.0.hand) ts) (sym (ap (λ (x : Store). x.hand) left.rest)) (w.3 e),
  )
  refused Innermost true fault.Worn w = (w.0, stopped_cached w.0 w.1, ap (λ (x : Store). x.spent) left.rest ∙ w.2)
  refused Innermost false fault.StoreFull w = (
    w.0,
    stopped_at w.0 w.1,
    full_without w.0.tree w.2,
    λ e. subst (λ (ts : List Tree). All (IsPartOf w.0.hand) ts) (sym (ap (λ (x : Store). x.hand) left.rest)) (w.3 e),
  )
  refused Innermost false fault.Worn w = (w.0, stopped_at w.0 w.1, ap (λ (x : Store). x.spent) left.rest ∙ w.2)
  refused Outermost kept fault.StoreFull w = (w.0, stopped_before w.0 w.1, full_without w.0 w.2)
  refused Outermost kept fault.Worn w = (w.0, stopped_before w.0 w.1, ap (λ (x : Store). x.spent) left.rest ∙ w.2)

  refused_last : (f : RunFault) → RefusedBy strategy remembered plan.rules term s.fuel s.depth b c f → b.refusals < c.refusals → RefusedLast s plan.rules (term ∷ []) a d f
  refused_last f w h = record {
    before = [];
    term = term;
    drawn_is = refl;
    begun = b;
    built = record { trees = []; are = none_built plan.rules s.fuel s.depth strategy remembered a.built; built = built_before ∙ sym (append-nil a.built) };
    empty = ap (λ (x : Store). x.stack) entered.rest ∙ ready.empty;
    refused = refused strategy remembered f w;
    refusals = let p = refusals_before in let q = refusals_same in omega arith;
  }

  pub line_ended : (r : Result Ending LineStop) → BuildsForLine strategy (tells_events s plan.rules) remembered plan.rules term s.fuel s.depth b c r → CountsRefusals b c r → Ended s plan.rules (term ∷ []) a d r
  line_ended (Ok ending) built counts = (all_built built, same_refusals counts)
  line_ended (Err stop.StoreFull) built counts = refused_last fault.StoreFull built counts
  line_ended (Err stop.Worn) built counts = refused_last fault.Worn built counts
  line_ended (Err stop.Memory) built counts = (front_built built, same_refusals counts)

  -- nothing is protected where the stack is empty
  load_same : d.load ≤ c.load
  load_same =
      let none : trees c ≡ [] = ap (map (tree_at c)) empty in
      let nothing : distinct (flat_map subtrees (trees c)) ≡ 0 = ap (λ (ts : List Tree). distinct (flat_map subtrees ts)) none in
      let most = left.load.most in omega arith

  works : {A : Type 0} (r : Result A LineStop) → d.sweeps + length a.built ≤ a.sweeps + length d.built + more_sweeps r → (IsInnermost s → c.load ≤ max b.load (need plan.rules term s.fuel s.depth)) →
      WorksOn s (need plan.rules term s.fuel s.depth) a d r
  works r sweeps load = record {
    rows = ap (λ (x : Store). x.rows) left.rest ∙ (numbers.rows ∙ ap (λ (x : Store). x.rows) entered.rest);
    widest = ap (λ (x : Store). x.widest) left.rest ∙ (numbers.widest ∙ ap (λ (x : Store). x.widest) entered.rest);
    room = ap (λ (x : Store). x.room) left.rest ∙ (numbers.room ∙ ap (λ (x : Store). x.room) entered.rest);
    least_sweeps = let p = ap (λ (x : Store). x.sweeps) left.rest in let q = ap (λ (x : Store). x.sweeps) entered.rest in let n = numbers.sweeps in omega arith;
    most_sweeps = sweeps;
    least_load = let p = left.load.least in let q = ap (λ (x : Store). x.load) entered.rest in let n = numbers.load in omega arith;
    most_load = λ is. let h = load is in let p = load_same in let q = ap (λ (x : Store). x.load) entered.rest in omega arith;
  }

  more : (n : ℕ) → c.sweeps + length b.built ≤ b.sweeps + length c.built + n → d.sweeps + length a.built ≤ a.sweeps + length d.built + n
  more n h =
      let p = ap (λ (x : Store). x.sweeps) left.rest in let q = ap (λ (x : Store). x.sweeps) entered.rest in
      let u = ap (λ (xs : List Tree). length xs) built_before in let v = ap (λ (xs : List Tree). length xs) built_same in omega arith

  pub line_works : (r : Result Ending LineStop) → SweepsForLine b c r → (IsInnermost s → c.load ≤ max b.load (need plan.rules term s.fuel s.depth)) →
      WorksOn s (need plan.rules term s.fuel s.depth) a d r
  line_works (Ok ending) sweeps load = works (Ok ending) (more 0 sweeps) load
  line_works (Err stop.StoreFull) sweeps load = works (Err stop.StoreFull) (more 1 sweeps) load
  line_works (Err stop.Worn) sweeps load = works (Err stop.Worn) (more 1 sweeps) load
  line_works (Err stop.Memory) sweeps load = works (Err stop.Memory) (more 0 sweeps) load

  pub line_ready : IsReady s plan d
  line_ready = record {
    outside = ap (λ (x : Store). x.inside) left.rest;
    empty = ap (λ (x : Store). x.stack) left.rest ∙ empty;
    rows = let p = ap (λ (x : Store). x.rows) left.rest in let q = numbers.rows in let r = ap (λ (x : Store). x.rows) entered.rest in let h = ready.rows in omega arith;
    room = let p = ap (λ (x : Store). x.room) left.rest in let q = numbers.room in let r = ap (λ (x : Store). x.room) entered.rest in let h = ready.room in omega arith;
    width = let p = ap (λ (x : Store). x.widest) left.rest in let q = numbers.widest in let r = ap (λ (x : Store). x.widest) entered.rest in let h = ready.width in omega arith;
  }
