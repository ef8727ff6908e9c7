-- The evaluation of a term with a memory goes on, node after node.
use Rattle.std.proofs.Common.{◌≡◌, ℕ, ◌+◌, ◌<◌, ◌≤◌, List, [], ◌∷◌, ◌++◌, length, take, drop, map, max, refl, sym, ◌∙◌, ap, arith, subst, append_assoc, append-nil, Option, true, inl}
use Rattle.std.proofs.lemmas.List.{map-append, take-map}
use Rattle.std.proofs.Math.Seq.{take-append_seam}
use Rattle.term_model.specs.Tree.{Tree, nodes}
use Rattle.terms_api.specs.Terms.{Store, tree_at, trees}
use Rattle.rewrite_model.specs.Run.{OutOfFuel, TooDeep, ends, noting}
use Rattle.rewrite_model.specs.Evaluation.{Point, Evaluated, evaluation}
use Rattle.rewrite_model.specs.Built.{trees_at, trees_in_hand, greatest}
use Rattle.rewrite_cache.specs.Cached.{IsCached}
use Rattle.rewrite_cache.proofs.Joined.{all_built, joined}
use Rattle.rule_match.specs.Planned.{Planned}
use Rattle.rule_code.specs.declared.compile.Code.{Code}
use Rattle.innermost.specs.declared.normal.Normal.{Normal}
use Rattle.innermost.specs.declared.normal.Normal.TheVariants as normal
use Rattle.innermost.specs.declared.normal.RunFault.{RunFault}
use Rattle.innermost.specs.declared.normal.RunFault.TheVariants.{StoreFull, Worn}
use Rattle.rule_code.specs.Code.{code}
use Rattle.innermost.specs.Follow.{onto}
use Rattle.innermost.specs.State.{at_steps, whole, comes_to, reduces_to, point_of}
use Rattle.innermost.specs.Whole.{leads_to}
use Rattle.innermost.specs.Normalized.{KeepsNumbers}
use Rattle.innermost.specs.Standing.{with_notes, Ages, Stands, Why, IsRefused, GaveUp}
use Rattle.innermost.specs.Tasks.{Job, IsReady, HasEnded}
use Rattle.innermost.specs.Evaluating.{evaluation_of, IsEvaluating, IsEvaluated}
use Rattle.innermost.specs.Opened.{alone, IsOpened}
use Rattle.innermost.specs.Remembered.{Map}
use Rattle.innermost.specs.Caching.{Stood, WasStopped, WasRight, IsCaching, IsOnNode, EndsCaching, GivesUpCaching, CachesNext, CachingEnds}
use Rattle.innermost.proofs.Points.{length-trees, ages_in_turn}
use Rattle.innermost.proofs.Tellings.{told_afresh}
use Rattle.innermost.proofs.Memories.{was_later, was_longer}

-- the most in hand at some points and at others
greatest_both : (ms ns : List ℕ) → greatest (ms ++ ns) ≡ max (greatest ms) (greatest ns)
greatest_both [] ns = omega arith
greatest_both (m ∷ ms) ns = let h = greatest_both ms ns in omega (arith, h)

pub most_of_both : (ps qs : List Point) → greatest (map trees_in_hand (ps ++ qs)) ≡ max (greatest (map trees_in_hand ps)) (greatest (map trees_in_hand qs))
most_of_both ps qs = ap greatest (map-append trees_in_hand ps qs) ∙ greatest_both (map trees_in_hand ps) (map trees_in_hand qs)

pub trees_of_both : (ps qs : List Point) → trees_at (ps ++ qs) ≡ trees_at ps ++ trees_at qs
trees_of_both ps qs = map-append (λ (p : Point). p.tree) ps qs

pub noted_twice : {A : Type 0} (ps qs : List Point) (r : Evaluated A) → with_notes ps (with_notes qs r) ≡ with_notes (ps ++ qs) r
noted_twice {A} ps qs r = ap (λ (ns : List Point). let x : Evaluated A = record { notes = ns; end = r.end } in x) (sym (append_assoc ps qs r.notes))

-- the store as it is, with the stack of the start
abbrev pub rebased : Store → Store → Store
rebased start now = record now { stack = start.stack }

module _ (start now : Store) (points : List Point) (since values : List Tree) (s : Stood start now points since values) where
  pub rebased_trees : trees (rebased start now) ≡ trees start
  rebased_trees =
      let k = length start.stack in
      ap (map (tree_at now)) (sym s.lower) ∙ sym (take-map (tree_at now) k now.stack) ∙ ap (take k) s.upper
      ∙ ap (λ n. take n (trees start ++ values)) (sym (length-trees start)) ∙ take-append_seam (trees start) values

  numbers_on : (new : Store) → KeepsNumbers (rebased start now) new → KeepsNumbers start new
  numbers_on new k =
      let w : now.sweeps ≤ new.sweeps = k.sweeps in
      let l : now.load ≤ new.load = k.load in
      record {
        inside = k.inside;
        rows = k.rows ∙ s.numbers.rows;
        widest = k.widest ∙ s.numbers.widest;
        room = k.room ∙ s.numbers.room;
        sweeps = omega (arith, w, s.numbers.sweeps);
        load = omega (arith, l, s.numbers.load);
      }

  load_on : (new : Store) (ps : List Point) → (start.stack ≡ [] → new.load ≤ max now.load (greatest (map trees_in_hand ps))) → start.stack ≡ [] → new.load ≤ max start.load (greatest (map trees_in_hand (points ++ ps)))
  load_on new ps l z = let a = l z in let b = s.load z in let c = most_of_both points ps in omega (arith, a, b, c)

  -- what was done since then comes after what was done before
  pub stood_on : (new : Store) (ps : List Point) (vs : List Tree) → Stands (rebased start now) new ps vs → Stood start new (points ++ ps) (since ++ trees_at ps) vs
  stood_on new ps vs t =
      let w : new.sweeps + length now.built ≤ now.sweeps + length new.built = t.sweeps in
      record {
        lower = t.lower;
        upper = t.upper ∙ ap (λ ts. ts ++ vs) rebased_trees;
        sound = t.sound;
        numbers = numbers_on new t.numbers;
        ages = ages_in_turn start (rebased start now) new s.ages t.ages;
        built = t.built ∙ ap (λ bs. bs ++ trees_at ps) s.built ∙ append_assoc start.built since (trees_at ps);
        refusals = t.refusals ∙ s.refusals;
        sweeps = omega (arith, w, s.sweeps);
        load = load_on new ps t.load;
      }

  why_on : (new : Store) (p : Point) (fault : RunFault) → Why (rebased start now) new p fault → Why start new p fault
  why_on new p StoreFull w = w
  why_on new p Worn w = w

  pub stopped_on : (new : Store) (ps : List Point) (p : Point) (fault : RunFault) → IsRefused (rebased start now) new ps p fault → WasStopped start new (points ++ ps) (since ++ trees_at ps) p fault
  stopped_on new ps p fault t =
      let w : new.sweeps + length now.built ≤ now.sweeps + length new.built + 1 = t.sweeps in
      let r : now.refusals < new.refusals = t.refusals in
      record {
        above = t.above;
        lower = t.lower;
        upper = t.upper ∙ ap (λ ts. ts ++ t.above) rebased_trees;
        sound = t.sound;
        numbers = numbers_on new t.numbers;
        ages = ages_in_turn start (rebased start now) new s.ages t.ages;
        built = t.built ∙ ap (λ bs. bs ++ trees_at ps) s.built ∙ append_assoc start.built since (trees_at ps);
        refusals = omega (arith, r, s.refusals);
        sweeps = omega (arith, w, s.sweeps);
        load = λ z. subst (λ (qs : List Point). new.load ≤ max start.load (greatest (map trees_in_hand qs))) (sym (append_assoc points ps (p ∷ []))) (load_on new (ps ++ p ∷ []) t.load z);
        why = why_on new p fault t.why;
      }

-- more points that were passed over
pub stood_longer : (start now : Store) (points more : List Point) (since above : List Tree) → Stood start now points since above → Stood start now (points ++ more) since above
stood_longer start now points more since above s =
    record {
      lower = s.lower;
      upper = s.upper;
      sound = s.sound;
      numbers = s.numbers;
      ages = s.ages;
      built = s.built;
      refusals = s.refusals;
      sweeps = s.sweeps;
      load = λ z. (let a = s.load z in let b = most_of_both points more in omega (arith, a, b));
    }

module _ (plan : Planned) (codes : Code) (start : Store) (term : Tree) (fuel : ℕ) (map' : Map) (epoch : Option ℕ) where
  abbrev rest_of : ℕ → List Tree → ℕ → Evaluated (List Tree)
  rest_of at values left = comes_to plan.rules (at_steps (whole term codes.depth) (drop at (code term 0)) ∷ []) values left

  module _ (at left : ℕ) (now : Store) (c : IsCaching plan codes start term fuel map' epoch at left now) where
    -- the rest of the evaluation, from the store as it is
    abbrev pub afresh : Job
    afresh = record { start = rebased start now; whole = rest_of at c.values left; bottom = []; floor = []; origin = alone (leads_to [] (drop at (code term 0)) c.values) left }

    ready_afresh : IsReady plan codes (rebased start now)
    ready_afresh =
        record {
          planned = c.ready.planned;
          coded = c.ready.coded;
          ops = c.ready.ops;
          free = omega (arith, c.ready.free, c.stood.numbers.room);
          wide = omega (arith, c.ready.wide, c.stood.numbers.widest);
          depth = c.ready.depth;
          short = c.ready.short;
        }

    pub begins_afresh : IsEvaluating plan codes afresh term at left now
    begins_afresh =
        record {
          ready = ready_afresh;
          points = [];
          values = c.values;
          stands = record {
            lower = c.stood.lower;
            upper = c.stood.upper ∙ ap (λ ts. ts ++ c.values) (sym (rebased_trees start now c.points c.since c.values c.stood));
            sound = c.stood.sound;
            numbers = record { inside = c.stood.numbers.inside; rows = refl; widest = refl; room = refl; sweeps = omega arith; load = omega arith };
            ages = inl (refl, λ r t k. k);
            built = sym (append-nil now.built);
            refusals = refl;
            sweeps = omega arith;
            load = λ z. omega arith;
          };
          run = refl;
          fits = c.fits;
          told = λ u. told_afresh plan.rules (drop at (code term 0)) c.values left (c.told u).0 (c.told u).1;
          counted = λ u. record { built = omega arith; replaced = omega arith };
        }

    -- what was remembered is right of what was built by now, too
    still : (more : List Tree) (new : Store) → Ages now new → WasRight plan.rules (start.built ++ (c.since ++ more)) map' epoch new
    still more new ages =
        subst (λ ts. WasRight plan.rules ts map' epoch new) (append_assoc start.built c.since more)
        (was_longer plan.rules (start.built ++ c.since) more map' epoch new (was_later plan.rules (start.built ++ c.since) map' epoch now new c.memory ages))

    run_on : (ps : List Point) (r : Evaluated (List Tree)) → afresh.whole ≡ with_notes ps r → onto [] (evaluation plan.rules term fuel codes.depth) ≡ with_notes (c.points ++ ps) r
    run_on ps r e = c.run ∙ ap (with_notes c.points) e ∙ noted_twice c.points ps r

    cached_on : (ps : List Point) → IsCached plan.rules start.built (c.points ++ ps) (c.since ++ trees_at ps)
    cached_on ps = joined (trees_at ps) ps c.cached (all_built plan.rules (start.built ++ c.since) ps)

    abbrev stood' : (new : Store) (ps : List Point) (vs : List Tree) → Stands (rebased start now) new ps vs → Stood start new (c.points ++ ps) (c.since ++ trees_at ps) vs
    stood' = stood_on start now c.points c.since c.values c.stood

    pub goes_on : (later left' : ℕ) (new : Store) → IsEvaluating plan codes afresh term later left' new → IsCaching plan codes start term fuel map' epoch later left' new
    goes_on later left' new e =
        record {
          ready = c.ready;
          points = c.points ++ e.points;
          since = c.since ++ trees_at e.points;
          values = e.values;
          stood = stood' new e.points e.values e.stands;
          cached = cached_on e.points;
          memory = still (trees_at e.points) new e.stands.ages;
          run = run_on e.points (rest_of later e.values left') e.run;
          fits = e.fits;
          told = λ u. ((e.told u).values, (e.told u).arguments);
        }

    pub ends_so : (new : Store) (r : Evaluated (List Tree)) → HasEnded plan codes afresh new r → EndsCaching plan codes start term fuel map' epoch new r
    ends_so new r e =
        record {
          points = c.points ++ e.points;
          since = c.since ++ trees_at e.points;
          above = e.above;
          stood = stood' new e.points e.above e.stands;
          cached = cached_on e.points;
          memory = still (trees_at e.points) new e.stands.ages;
          run = run_on e.points r e.run;
        }

    pub gives_up_so : (new : Store) (fault : RunFault) → GaveUp afresh.whole (rebased start now) new fault → GivesUpCaching plan codes start term fuel map' epoch new fault
    gives_up_so new fault g =
        record {
          points = c.points ++ g.points;
          since = c.since ++ trees_at g.points;
          point = g.point;
          rest = g.rest;
          stopped = stopped_on start now c.points c.since c.values c.stood new g.points g.point fault g.refused;
          cached = cached_on g.points;
          memory = still (trees_at g.points) new g.refused.ages;
          run = run_on g.points (noting g.point g.rest) g.run;
        }

    -- a node that wasn't looked up
    pub node_caches : (new : Store) (end : Normal) → IsEvaluated plan codes afresh term at new end → CachesNext plan codes start term fuel map' epoch at new end
    node_caches new (normal.Value left') e = goes_on (at + 1) left' new e
    node_caches new normal.OutOfFuel e = ends_so new (ends OutOfFuel) e
    node_caches new normal.TooDeep e = ends_so new (ends TooDeep) e

    -- a node that is tried
    pub node_opened : (new : Store) (next : Option ℕ) (room : ℕ) (ps : List Point) → IsOpened plan codes afresh term at left ps new next room → IsOnNode plan codes start term fuel map' epoch at left new next room
    node_opened new next room ps o =
        let p = point_of [] o.below o.tree room in
        let both : (c.points ++ ps) ++ p ∷ [] ≡ c.points ++ (ps ++ p ∷ []) = append_assoc c.points ps (p ∷ []) in
        let all : (c.since ++ trees_at ps) ++ o.tree ∷ [] ≡ c.since ++ trees_at (ps ++ p ∷ []) =
        append_assoc c.since (trees_at ps) (o.tree ∷ []) ∙ ap (λ ts. c.since ++ ts) (sym (trees_of_both ps (p ∷ []))) in
        record {
          ready = c.ready;
          points = c.points ++ ps;
          since = c.since ++ trees_at ps;
          below = o.below;
          tree = o.tree;
          stood = subst (λ (qs : List Point). Stood start new qs ((c.since ++ trees_at ps) ++ o.tree ∷ []) (o.below ++ o.tree ∷ [])) (sym both)
              (subst (λ (ts : List Tree). Stood start new (c.points ++ (ps ++ p ∷ [])) ts (o.below ++ o.tree ∷ [])) (sym all) (stood' new (ps ++ p ∷ []) (o.below ++ o.tree ∷ []) o.stands));
          cached = cached_on ps;
          memory = still (trees_at ps) new o.stands.ages;
          run = run_on ps (noting p (reduces_to plan.rules (at_steps (whole term codes.depth) (drop (at + 1) (code term 0)) ∷ []) plan.rules o.below o.tree left room)) o.run;
          tried = o.tried;
        }

  -- the evaluation begins
  pub caching_begins : (at left : ℕ) (now : Store) → IsEvaluating plan codes (evaluation_of plan.rules term fuel codes.depth start) term at left now → WasRight plan.rules start.built map' epoch now → IsCaching plan codes start term fuel map' epoch at left now
  caching_begins at left now e was =
      record {
        ready = e.ready;
        points = e.points;
        since = trees_at e.points;
        values = e.values;
        stood = record {
          lower = e.stands.lower;
          upper = e.stands.upper;
          sound = e.stands.sound;
          numbers = e.stands.numbers;
          ages = e.stands.ages;
          built = e.stands.built;
          refusals = e.stands.refusals;
          sweeps = e.stands.sweeps;
          load = e.stands.load;
        };
        cached = all_built plan.rules start.built e.points;
        memory = was_longer plan.rules start.built (trees_at e.points) map' epoch now was;
        run = e.run;
        fits = e.fits;
        told = λ u. ((e.told u).values, (e.told u).arguments);
      }

  -- and ends
  pub caching_end : (at : ℕ) (now : Store) (end : Normal) → CachesNext plan codes start term fuel map' epoch at now end → ((left : ℕ) → end ≡ normal.Value left → ⊥) → CachingEnds plan codes start term fuel map' epoch now end
  caching_end at now (normal.Value left) v other = absurd (other left refl)
  caching_end at now normal.OutOfFuel v other = v
  caching_end at now normal.TooDeep v other = v

  pub caching_inside : (at : ℕ) (now : Store) (end : Normal) → CachesNext plan codes start term fuel map' epoch at now end → now.inside ≡ true
  caching_inside at now (normal.Value left) v = v.stood.numbers.inside
  caching_inside at now normal.OutOfFuel v = v.stood.numbers.inside
  caching_inside at now normal.TooDeep v = v.stood.numbers.inside

  pub caching_all : (at left : ℕ) (now : Store) → nodes term ≤ at → at ≤ nodes term → IsCaching plan codes start term fuel map' epoch at left now → IsCaching plan codes start term fuel map' epoch (nodes term) left now
  caching_all at left now low high v =
      let all : at ≡ nodes term = omega arith in
      subst (λ i. IsCaching plan codes start term fuel map' epoch i left now) all v
