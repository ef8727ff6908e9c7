-- A node whose value is taken from the memory, or is found and remembered.
use Rattle.std.proofs.Common.{◌≡◌, ℕ, ◌+◌, ◌-◌, ◌<◌, ◌≤◌, List, [], ◌∷◌, ◌++◌, length, drop, map, max, reverse, refl, sym, ◌∙◌, ap, arith, subst, append_assoc, append-nil, Option, Some, false, inl}
use Rattle.std.specs.Prelude.{Contains, slice_get}
use Rattle.std.proofs.lemmas.List.{length-append, length_push}
use Rattle.std.proofs.lemmas.List.Elements.{All-push}
use Rattle.term_model.specs.Tree.{Tree}
use Rattle.term_model.specs.declared.Row.{Row}
use Rattle.terms_api.specs.Terms.{Store, trees, kept}
use Rattle.terms_api.proofs.Callers.{tree_at-has}
use Rattle.rewrite_model.specs.Step.{IsNormalForm}
use Rattle.rewrite_model.specs.Run.{Ended, Done, OutOfFuel, TooDeep, done, ends, noting, after, ◌>>=◌}
use Rattle.rewrite_model.specs.Evaluation.{Point, Evaluated, reduction, evaluation}
use Rattle.rewrite_model.specs.Built.{trees_at, trees_in_hand, greatest}
use Rattle.rewrite_model.proofs.Fuel.{begins_with_itself}
use Rattle.rewrite_cache.specs.Cached.{IsCached, IsReducedAt, IsKnown, Nothing, LeftOut}
use Rattle.rewrite_cache.proofs.Joined.{all_built, joined}
use Rattle.rule_match.specs.Planned.{Planned}
use Rattle.rule_code.specs.declared.compile.Code.{Code}
use Rattle.innermost.specs.declared.normal.Normal.{Normal}
use Rattle.innermost.specs.declared.normal.Normal.TheVariants as normal
use Rattle.innermost.specs.declared.normal.RunFault.{RunFault}
use Rattle.innermost.specs.declared.normal.RunFault.TheVariants.{StoreFull, Worn}
use Rattle.rule_code.specs.Code.{code}
use Rattle.innermost.specs.Follow.{onto}
use Rattle.innermost.specs.Reducing.{by_rules}
use Rattle.innermost.specs.State.{at_steps, whole, comes_to, reduces_to, point_of}
use Rattle.innermost.specs.Fits.{Fits}
use Rattle.innermost.specs.Normalized.{KeepsNumbers}
use Rattle.innermost.specs.Standing.{with_notes, Ages, Stands, Why, IsRefused, GaveUp}
use Rattle.innermost.specs.Tasks.{Job, IsReducing, HasValue, HasEnded, IsEnd}
use Rattle.innermost.specs.Remembered.{Map, AreRight}
use Rattle.innermost.specs.Caching.{Stood, WasStopped, WasRight, IsTaken, IsCaching, IsOnNode, EndsCaching, GivesUpCaching, CachesNext, itself}
use Rattle.innermost.proofs.Points.{height, ages_in_turn}
use Rattle.innermost.proofs.Moving.{stands_kept, stands_pushed}
use Rattle.innermost.proofs.Runs.{then_done, noting_then}
use Rattle.innermost.proofs.Memories.{was_later, was_longer, right_now, top_tree, some_places}
use Rattle.innermost.proofs.Cachings.{most_of_both, noted_twice, rebased_trees, stood_longer}

-- notes in front of a run that goes on
noted_then : {A B : Type 0} (ps : List Point) (r : Evaluated A) (go : A → ℕ → Evaluated B) → (with_notes ps r >>= go) ≡ with_notes ps (r >>= go)
noted_then {A} {B} ps r go = by_end r.notes r.end
  where
    by_end : (ns : List Point) (e : Ended A) → after (ps ++ ns) e go ≡ with_notes ps (after ns e go)
    by_end ns (Done a left) = ap (λ (ms : List Point). let x : Evaluated B = record { notes = ms; end = (go a left).end } in x) (append_assoc ps ns (go a left).notes)
    by_end ns OutOfFuel = refl
    by_end ns TooDeep = refl

-- a reduction that ends in a value, on a stack
onto_known : (below : List Tree) (x : Evaluated Tree) (v : Tree) (left : ℕ) → x.end ≡ Done v left → onto below x ≡ with_notes x.notes (let r : Evaluated (List Tree) = done (below ++ v ∷ []) left in r)
onto_known below x v left e = ap (λ (d : Ended Tree). after x.notes d (λ t n. let r : Evaluated (List Tree) = done (below ++ t ∷ []) n in r)) e

-- the first of some points
first_hand : (p : Point) (ys ps zs : List Point) → p ∷ ys ≡ ps ++ zs → (ps ≡ [] → ⊥) → trees_in_hand p ≤ greatest (map trees_in_hand ps)
first_hand p ys [] zs e some = absurd (some refl)
first_hand p ys (q ∷ ps) zs e some = let same : p ≡ q = cc in let k = ap trees_in_hand same in omega (arith, k)

module _ (plan : Planned) (codes : Code) (start : Store) (term : Tree) (fuel : ℕ) (map' : Map) (epoch : Option ℕ) (at left : ℕ) (now : Store) (next : Option ℕ) (room : ℕ) (n : IsOnNode plan codes start term fuel map' epoch at left now next room) where
  abbrev p : Point
  p = point_of [] n.below n.tree room

  abbrev x : Evaluated Tree
  x = by_rules (reduction plan.rules) plan.rules n.below n.tree left room

  abbrev go : List Tree → ℕ → Evaluated (List Tree)
  go s l = comes_to plan.rules (at_steps (whole term codes.depth) (drop (at + 1) (code term 0)) ∷ []) s l

  abbrev base : List Tree
  base = start.built ++ n.since

  abbrev pub job : Job
  job = itself plan.rules start base now n.below n.tree left room

  same_run : reduces_to plan.rules [] plan.rules n.below n.tree left room ≡ onto n.below x
  same_run = then_done (onto n.below x)

  -- what the reduction by itself comes to, the rest goes on from
  run_on : (ps : List Point) (r : Evaluated (List Tree)) → job.whole ≡ with_notes ps r → onto [] (evaluation plan.rules term fuel codes.depth) ≡ with_notes (n.points ++ ps) (r >>= go)
  run_on ps r e =
      let alone : with_notes (p ∷ []) (onto n.below x) ≡ with_notes ps r = ap (with_notes (p ∷ [])) (sym same_run) ∙ e in
      let on : with_notes (p ∷ []) (onto n.below x >>= go) ≡ with_notes ps (r >>= go) =
      sym (noted_then (p ∷ []) (onto n.below x) go) ∙ ap (λ y. y >>= go) alone ∙ noted_then ps r go in
      n.run ∙ ap (with_notes n.points) on ∙ noted_twice n.points ps (r >>= go)

  pub upper_here : trees now ≡ (trees start ++ n.below) ++ n.tree ∷ []
  upper_here = n.stood.upper ∙ sym (append_assoc (trees start) n.below (n.tree ∷ []))

  pub job_trees : trees job.start ≡ trees start
  job_trees = rebased_trees start now (n.points ++ p ∷ []) (n.since ++ n.tree ∷ []) (n.below ++ n.tree ∷ []) n.stood

  built_here : now.built ≡ base ++ n.tree ∷ []
  built_here = n.stood.built ∙ sym (append_assoc start.built n.since (n.tree ∷ []))

  one_more : length now.built ≡ length base + 1
  one_more = ap length built_here ∙ length_push base n.tree

  -- by itself it may be reduced in any room
  abbrev pub job_in : ℕ → Job
  job_in wide = itself plan.rules start base now n.below n.tree left wide

  stands_in : (wide : ℕ) → Stands job.start now (point_of [] n.below n.tree wide ∷ []) (n.below ++ n.tree ∷ [])
  stands_in wide =
      record {
        lower = n.stood.lower;
        upper = n.stood.upper ∙ ap (λ ts. ts ++ (n.below ++ n.tree ∷ [])) (sym job_trees);
        sound = n.stood.sound;
        numbers = record { inside = n.stood.numbers.inside; rows = refl; widest = refl; room = refl; sweeps = omega (arith, n.stood.numbers.sweeps); load = omega arith };
        ages = inl (refl, λ r t k. k);
        built = built_here;
        refusals = refl;
        sweeps = omega (arith, one_more);
        load = λ z. omega arith;
      }

  stands_here : Stands job.start now (p ∷ []) (n.below ++ n.tree ∷ [])
  stands_here = stands_in room

  pub reduces_in : (wide : ℕ) → wide ≤ room → IsReducing plan codes (job_in wide) [] left now next wide
  reduces_in wide le =
      record {
        ready = record {
          planned = n.ready.planned;
          coded = n.ready.coded;
          ops = n.ready.ops;
          free = omega (arith, n.ready.free, n.stood.numbers.room);
          wide = omega (arith, n.ready.wide, n.stood.numbers.widest);
          depth = n.ready.depth;
          short = n.ready.short;
        };
        points = point_of [] n.below n.tree wide ∷ [];
        open' = [];
        below = n.below;
        tree = n.tree;
        stands = stands_in wide;
        run = ap (with_notes (point_of [] n.below n.tree wide ∷ [])) (n.tried.passed wide);
        waiting = refl;
        candidate = n.tried.candidate;
        places = omega (arith, n.tried.places, le);
        count = omega (arith, n.tried.count, le);
        told = n.tried.trying;
        counted = λ u. record { front = []; point = point_of [] n.below n.tree wide; split = refl; tree = refl; has_room = refl; used = record { built = omega arith; replaced = omega arith } };
      }

  pub reduces_itself : IsReducing plan codes job [] left now next room
  reduces_itself = reduces_in room (omega arith)

  pub node_places : 0 < length now.stack
  node_places = some_places now (trees start ++ n.below) n.tree upper_here

  -- what was built before the node
  abbrev pub node_built : List Tree
  node_built = start.built ++ n.since

  pub node_memory : WasRight plan.rules base map' epoch now
  node_memory = n.memory

  -- the same node, with a memory that is right now
  node_refreshed : (map2 : Map) (epoch2 : Option ℕ) → AreRight plan.rules base now map2 → epoch2 ≡ now.epoch → IsOnNode plan codes start term fuel map2 epoch2 at left now next room
  node_refreshed map2 epoch2 right is =
      record {
        ready = n.ready;
        points = n.points;
        since = n.since;
        below = n.below;
        tree = n.tree;
        stood = n.stood;
        cached = n.cached;
        memory = right_now plan.rules base map2 epoch2 now right is;
        run = n.run;
        tried = n.tried;
      }

  pub node_looked : (map2 : Map) (epoch2 : Option ℕ) (left2 : ℕ) (now2 : Store) → AreRight plan.rules base now map2 → epoch2 ≡ now.epoch → left2 ≡ left → now2 ≡ now → IsOnNode plan codes start term fuel map2 epoch2 at left2 now2 next room
  node_looked map2 epoch2 left2 now2 right is l e =
      subst (λ (i : ℕ). IsOnNode plan codes start term fuel map2 epoch2 at i now2 next room) (sym l)
      (subst (λ (s : Store). IsOnNode plan codes start term fuel map2 epoch2 at left s next room) (sym e) (node_refreshed map2 epoch2 right is))

  numbers_on : (new : Store) → KeepsNumbers job.start new → KeepsNumbers start new
  numbers_on new k =
      let w : max start.sweeps (now.sweeps - 1) ≤ new.sweeps = k.sweeps in
      let l : now.load ≤ new.load = k.load in
      record {
        inside = k.inside;
        rows = k.rows ∙ n.stood.numbers.rows;
        widest = k.widest ∙ n.stood.numbers.widest;
        room = k.room ∙ n.stood.numbers.room;
        sweeps = omega (arith, w);
        load = omega (arith, l, n.stood.numbers.load);
      }

  load_on : (new : Store) (ps : List Point) → trees_in_hand p ≤ greatest (map trees_in_hand ps) → (start.stack ≡ [] → new.load ≤ max now.load (greatest (map trees_in_hand ps))) → start.stack ≡ [] → new.load ≤ max start.load (greatest (map trees_in_hand (n.points ++ ps)))
  load_on new ps h l z =
      let a = l z in
      let b = n.stood.load z in
      let c = most_of_both n.points (p ∷ []) in
      let d = most_of_both n.points ps in
      let one : greatest (map trees_in_hand (p ∷ [])) ≡ max (trees_in_hand p) 0 = refl in
      omega (arith, a, b, c, d, h, one)

  stood_on : (new : Store) (ps : List Point) (above : List Tree) → trees_in_hand p ≤ greatest (map trees_in_hand ps) → Stands job.start new ps above → Stood start new (n.points ++ ps) (n.since ++ trees_at ps) above
  stood_on new ps above h t =
      let w : new.sweeps + length base ≤ max start.sweeps (now.sweeps - 1) + length new.built = t.sweeps in
      let m = length-append start.built n.since in
      record {
        lower = t.lower;
        upper = t.upper ∙ ap (λ ts. ts ++ above) job_trees;
        sound = t.sound;
        numbers = numbers_on new t.numbers;
        ages = ages_in_turn start now new n.stood.ages t.ages;
        built = t.built ∙ append_assoc start.built n.since (trees_at ps);
        refusals = t.refusals ∙ n.stood.refusals;
        sweeps = omega (arith, w, n.stood.sweeps, one_more, m);
        load = load_on new ps h t.load;
      }

  why_on : (new : Store) (q : Point) (fault : RunFault) → Why job.start new q fault → Why start new q fault
  why_on new q StoreFull w = w
  why_on new q Worn w = w

  stopped_on : (new : Store) (ps : List Point) (q : Point) (fault : RunFault) → trees_in_hand p ≤ greatest (map trees_in_hand (ps ++ q ∷ [])) → IsRefused job.start new ps q fault → WasStopped start new (n.points ++ ps) (n.since ++ trees_at ps) q fault
  stopped_on new ps q fault h t =
      let w : new.sweeps + length base ≤ max start.sweeps (now.sweeps - 1) + length new.built + 1 = t.sweeps in
      let r : now.refusals < new.refusals = t.refusals in
      let m = length-append start.built n.since in
      record {
        above = t.above;
        lower = t.lower;
        upper = t.upper ∙ ap (λ ts. ts ++ t.above) job_trees;
        sound = t.sound;
        numbers = numbers_on new t.numbers;
        ages = ages_in_turn start now new n.stood.ages t.ages;
        built = t.built ∙ append_assoc start.built n.since (trees_at ps);
        refusals = omega (arith, r, n.stood.refusals);
        sweeps = omega (arith, w, n.stood.sweeps, one_more, m);
        load = λ z. subst (λ (qs : List Point). new.load ≤ max start.load (greatest (map trees_in_hand qs))) (sym (append_assoc n.points ps (q ∷ []))) (load_on new (ps ++ q ∷ []) h t.load z);
        why = why_on new q fault t.why;
      }

  still : (more : List Tree) (new : Store) → Ages now new → WasRight plan.rules (start.built ++ (n.since ++ more)) map' epoch new
  still more new ages =
      subst (λ ts. WasRight plan.rules ts map' epoch new) (append_assoc start.built n.since more)
      (was_longer plan.rules base more map' epoch new (was_later plan.rules base map' epoch now new n.memory ages))

  cached_on : (ps : List Point) → IsCached plan.rules start.built (n.points ++ ps) (n.since ++ trees_at ps)
  cached_on ps = joined (trees_at ps) ps n.cached (all_built plan.rules base ps)

  -- a run by itself begins at the point of the tree
  pub first_is : (ps : List Point) (r : Evaluated (List Tree)) → job.whole ≡ with_notes ps r → p ∷ (reduces_to plan.rules [] plan.rules n.below n.tree left room).notes ≡ ps ++ r.notes
  first_is ps r e = ap (λ (y : Evaluated (List Tree)). y.notes) e

  never_none : (ps : List Point) (r : Evaluated (List Tree)) → r.notes ≡ [] → job.whole ≡ with_notes ps r → trees_in_hand p ≤ greatest (map trees_in_hand ps)
  never_none ps r none e =
      first_hand p (reduces_to plan.rules [] plan.rules n.below n.tree left room).notes ps r.notes (first_is ps r e)
      (λ k. let f = first_is ps r e in let g : ps ++ r.notes ≡ [] = ap (λ (qs : List Point). qs ++ r.notes) k ∙ none in absurd (cc))

  fits_on : (v : Tree) → Fits 0 0 plan.widest false (length (n.below ++ v ∷ [])) (drop (at + 1) (code term 0))
  fits_on v =
      let k = length_push n.below v in
      subst (λ i. Fits 0 0 plan.widest false i (drop (at + 1) (code term 0))) (sym k) n.tried.fits

  -- all that was built when a value was found by reducing
  abbrev pub found_built : (new : Store) (l : ℕ) → HasValue plan codes job new l → List Tree
  found_built new l v = start.built ++ (n.since ++ trees_at v.points)

  -- the value was found by reducing
  pub value_found : (map2 : Map) (epoch2 : Option ℕ) (new : Store) (l : ℕ) (v : HasValue plan codes job new l) → WasRight plan.rules (start.built ++ (n.since ++ trees_at v.points)) map2 epoch2 new → IsCaching plan codes start term fuel map2 epoch2 (at + 1) l new
  value_found map2 epoch2 new l v memory =
      let r : Evaluated (List Tree) = done (n.below ++ v.tree ∷ []) l in
      record {
        ready = n.ready;
        points = n.points ++ v.points;
        since = n.since ++ trees_at v.points;
        values = n.below ++ v.tree ∷ [];
        stood = stood_on new v.points (n.below ++ v.tree ∷ []) (never_none v.points r refl v.run) v.stands;
        cached = cached_on v.points;
        memory = memory;
        run = run_on v.points r v.run;
        fits = fits_on v.tree;
        told = λ u. (All-push (IsNormalForm plan.rules) n.below v.tree (n.tried.told u).0 (v.told u).normal, (n.tried.told u).1);
      }

  -- the memory as it was, when a value was found
  pub value_unkept : (new : Store) (l : ℕ) (v : HasValue plan codes job new l) → WasRight plan.rules (start.built ++ (n.since ++ trees_at v.points)) map' epoch new
  value_unkept new l v = still (trees_at v.points) new v.stands.ages

  -- fuel or room ended, or a build was refused
  pub ended_so : (new : Store) (e : Evaluated (List Tree)) → e.notes ≡ [] → (e >>= go) ≡ e → HasEnded plan codes job new e → EndsCaching plan codes start term fuel map' epoch new e
  ended_so new e none same v =
      record {
        points = n.points ++ v.points;
        since = n.since ++ trees_at v.points;
        above = v.above;
        stood = stood_on new v.points v.above (never_none v.points e none v.run) v.stands;
        cached = cached_on v.points;
        memory = still (trees_at v.points) new v.stands.ages;
        run = run_on v.points e v.run ∙ ap (with_notes (n.points ++ v.points)) same;
      }

  pub gave_up_so : (new : Store) (fault : RunFault) → GaveUp job.whole job.start new fault → GivesUpCaching plan codes start term fuel map' epoch new fault
  gave_up_so new fault g =
      let ys = (reduces_to plan.rules [] plan.rules n.below n.tree left room).notes in
      let f = first_is g.points (noting g.point g.rest) g.run ∙ sym (append_assoc g.points (g.point ∷ []) g.rest.notes) in
      record {
        points = n.points ++ g.points;
        since = n.since ++ trees_at g.points;
        point = g.point;
        rest = g.rest >>= go;
        stopped = stopped_on new g.points g.point fault (first_hand p ys (g.points ++ g.point ∷ []) g.rest.notes f (λ k. let m = ap length k in let o = length_push g.points g.point in absurd (omega (arith, m, o)))) g.refused;
        cached = cached_on g.points;
        memory = still (trees_at g.points) new g.refused.ages;
        run = run_on g.points (noting g.point g.rest) g.run ∙ ap (with_notes (n.points ++ g.points)) (noting_then g.point g.rest go);
      }

  -- a value has a place on the stack
  pub value_places : (new : Store) (l : ℕ) → HasValue plan codes job new l → 0 < length new.stack
  value_places new l v =
      some_places new (trees start ++ n.below) v.tree (v.stands.upper ∙ ap (λ ts. ts ++ (n.below ++ v.tree ∷ [])) job_trees ∙ sym (append_assoc (trees start) n.below (v.tree ∷ [])))

  -- an end without a value
  pub other_end : (new : Store) (end : Normal) → IsEnd plan codes job new end → ((l : ℕ) → end ≡ normal.Value l → ⊥) → CachesNext plan codes start term fuel map' epoch at new end
  other_end new (normal.Value l) v other = absurd (other l refl)
  other_end new normal.OutOfFuel v other = ended_so new (ends OutOfFuel) refl refl v
  other_end new normal.TooDeep v other = ended_so new (ends TooDeep) refl refl v

  -- the value was taken from the memory
  module _ (new : Store) (row : Row) (l : ℕ) (map2 : Map) (epoch2 : Option ℕ) (t : IsTaken plan.rules base now new row room left l) (at_top : slice_get now.stack (length now.stack - 1) ≡ Some row) (right : AreRight plan.rules base now map2) (is : epoch2 ≡ now.epoch) where
    abbrev v : Tree
    v = t.right.value

    same_tree : t.right.tree ≡ n.tree
    same_tree =
        let a = t.right.row in
        let b = top_tree now (trees start ++ n.below) n.tree row n.stood.sound upper_here at_top in
        let c : Some t.right.tree ≡ Some n.tree = sym a ∙ b in
        cc

    ended : (reduction plan.rules [] (reverse n.below) n.tree left room).end ≡ Done v l
    ended =
        let k : IsKnown plan.rules n.tree v t.known.fuel t.known.depth = subst (λ (u : Tree). IsKnown plan.rules u v t.known.fuel t.known.depth) same_tree t.right.known in
        let f : t.known.fuel + l ≡ left = t.fuel in
        let w : t.known.depth + (room - t.known.depth) ≡ room = omega (arith, t.room) in
        subst (λ i. (reduction plan.rules [] (reverse n.below) n.tree i room).end ≡ Done v l) f
        (subst (λ i. (reduction plan.rules [] (reverse n.below) n.tree (t.known.fuel + l) i).end ≡ Done v l) w (k [] (reverse n.below) l (room - t.known.depth)))

    begun : reduction plan.rules [] (reverse n.below) n.tree left room ≡ noting p x
    begun = begins_with_itself plan.rules [] (reverse n.below) n.tree left room

    x_ends : x.end ≡ Done v l
    x_ends = ap (λ (y : Evaluated Tree). y.end) (sym begun) ∙ ended

    reduced : IsReducedAt plan.rules p x.notes
    reduced =
        record {
          given = [];
          kept = reverse n.below;
          fuel = left;
          value = v;
          left = l;
          run = begun ∙ ap (λ (d : Ended Tree). let y : Evaluated Tree = record { notes = p ∷ x.notes; end = d } in y) x_ends;
        }

    before : Contains base n.tree
    before = subst (Contains base) same_tree t.right.stood

    cached : IsCached plan.rules start.built (n.points ++ (p ∷ x.notes)) (n.since ++ n.tree ∷ [])
    cached =
        joined (n.tree ∷ []) (p ∷ x.notes) n.cached
        (subst (λ (ps : List Point). IsCached plan.rules base (p ∷ ps) (n.tree ∷ [])) (append-nil x.notes) (LeftOut {p = p} {inside = x.notes} {points = []} before reduced Nothing))

    whole_is : job.whole ≡ with_notes (p ∷ x.notes) (let r : Evaluated (List Tree) = done (n.below ++ v ∷ []) l in r)
    whole_is = ap (with_notes (p ∷ [])) (same_run ∙ onto_known n.below x v l x_ends)

    stands_new : Stands job.start new (p ∷ []) (n.below ++ v ∷ [])
    stands_new =
        let i = length now.stack - 1 in
        let middle : Store = kept now i 0 in
        let h = height job.start now (n.below ++ n.tree ∷ []) stands_here.upper in
        let k = length_push n.below n.tree in
        let from : i ≡ length start.stack + length n.below = omega (arith, h, k) in
        let low : Stands job.start middle (p ∷ []) (n.below ++ []) =
        stands_kept job.start now middle (p ∷ []) n.below (n.tree ∷ []) [] i 0 (subst (Stands job.start now (p ∷ [])) (sym (append-nil (n.below ++ n.tree ∷ []))) stands_here) from refl refl t.middle in
        stands_pushed job.start middle new (p ∷ []) n.below t.known.value v (subst (Stands job.start middle (p ∷ [])) (append-nil n.below) low) t.replaced (tree_at-has now t.known.value v t.right.held) t.sound

    stood_new : Stood start new (n.points ++ (p ∷ x.notes)) (n.since ++ n.tree ∷ []) (n.below ++ v ∷ [])
    stood_new =
        let some : trees_in_hand p ≤ greatest (map trees_in_hand (p ∷ [])) = omega arith in
        subst (λ (ps : List Point). Stood start new ps (n.since ++ n.tree ∷ []) (n.below ++ v ∷ [])) (append_assoc n.points (p ∷ []) x.notes)
        (stood_longer start new (n.points ++ p ∷ []) x.notes (n.since ++ n.tree ∷ []) (n.below ++ v ∷ []) (stood_on new (p ∷ []) (n.below ++ v ∷ []) some stands_new))

    memory_new : WasRight plan.rules (start.built ++ (n.since ++ n.tree ∷ [])) map2 epoch2 new
    memory_new =
        subst (λ ts. WasRight plan.rules ts map2 epoch2 new) (append_assoc start.built n.since (n.tree ∷ []))
        (was_longer plan.rules base (n.tree ∷ []) map2 epoch2 new (was_later plan.rules base map2 epoch2 now new (right_now plan.rules base map2 epoch2 now right is) stands_new.ages))

    pub value_taken : IsCaching plan codes start term fuel map2 epoch2 (at + 1) l new
    value_taken =
        let r : Evaluated (List Tree) = done (n.below ++ v ∷ []) l in
        record {
          ready = n.ready;
          points = n.points ++ (p ∷ x.notes);
          since = n.since ++ n.tree ∷ [];
          values = n.below ++ v ∷ [];
          stood = stood_new;
          cached = cached;
          memory = memory_new;
          run = run_on (p ∷ x.notes) r whole_is;
          fits = fits_on v;
          told = λ u. (All-push (IsNormalForm plan.rules) n.below v (n.tried.told u).0 (t.right.normal u), (n.tried.told u).1);
        }
