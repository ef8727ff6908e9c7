-- What a normalization with a memory leaves at its end.
use Rattle.std.proofs.Common.{◌≡◌, ℕ, ◌≤◌, List, [], ◌∷◌, ◌++◌, length, take, drop, map, max, refl, sym, ◌∙◌, ap, arith, subst, append_assoc, append-nil, Option, Result, Ok, Err, true, false}
use Rattle.std.specs.Prelude.{IfOk, IfErr}
use Rattle.std.proofs.lemmas.List.{map-append}
use Rattle.std.proofs.Math.Seq.{take-append_seam}
use Rattle.term_model.specs.Tree.{Tree, nodes}
use Rattle.terms_api.specs.Terms.{Store, IsSound, trees, kept}
use Rattle.terms_api.proofs.Callers.{trees-kept, last-none}
use Rattle.rewrite_model.specs.Rule.{Rule}
use Rattle.rewrite_model.specs.Run.{OutOfFuel as NoFuel, TooDeep as NoRoom, ends, noting, done}
use Rattle.rewrite_model.specs.Evaluation.{Point, Evaluated, evaluation}
use Rattle.rewrite_model.specs.Built.{trees_in_hand, greatest, need}
use Rattle.rewrite_cache.specs.Cached.{IsCached}
use Rattle.rule_match.specs.Planned.{Planned, IsPlain}
use Rattle.rule_code.specs.declared.compile.Code.{Code}
use Rattle.innermost.specs.declared.normal.Normal.{Normal}
use Rattle.innermost.specs.declared.normal.Normal.TheVariants.{Value, OutOfFuel, TooDeep}
use Rattle.innermost.specs.declared.normal.RunFault.{RunFault}
use Rattle.innermost.specs.declared.normal.RunFault.TheVariants.{StoreFull, Worn}
use Rattle.rule_code.specs.Code.{code}
use Rattle.innermost.specs.Follow.{onto}
use Rattle.innermost.specs.Fits.{Fits}
use Rattle.innermost.specs.State.{at_steps, whole, comes_to}
use Rattle.innermost.specs.Normalized.{StackIsBack, Answers, FaultOnlyWhereRefused, SweepsAtMost, LoadsNeedAtMost, KeepsNumbers}
use Rattle.innermost.specs.Standing.{with_notes}
use Rattle.innermost.specs.Machines.{settled}
use Rattle.innermost.specs.Remembered.{Map, AreRight, BuildsSome, WasRefusedAmong, BuildsCached}
use Rattle.innermost.specs.Caching.{WasRight, IsCaching, EndsCaching, GivesUpCaching, CachingEnds}
use Rattle.innermost.proofs.Points.{greatest-front, height, length-trees}
use Rattle.innermost.proofs.States.{closes}
use Rattle.innermost.proofs.Evaluations.{one_value, length_code}
use Rattle.innermost.proofs.Endings.{notes_same, value_same, fuel_same, room_same}

-- the rows that are remembered are right whatever stands on the stack
pub right_settled : (rules : List Rule) (built : List Tree) (now : Store) (base : ℕ) (map' : Map) (result : Result Normal RunFault) → AreRight rules built now map' → AreRight rules built (settled now base result) map'
right_settled rules built now base map' (Ok (Value left)) all row known e = all row known e
right_settled rules built now base map' (Ok OutOfFuel) all row known e = let r = all row known e in record { tree = r.tree; value = r.value; row = r.row; held = r.held; stood = r.stood; known = r.known; least = r.least; normal = r.normal }
right_settled rules built now base map' (Ok TooDeep) all row known e = let r = all row known e in record { tree = r.tree; value = r.value; row = r.row; held = r.held; stood = r.stood; known = r.known; least = r.least; normal = r.normal }
right_settled rules built now base map' (Err fault) all row known e = let r = all row known e in record { tree = r.tree; value = r.value; row = r.row; held = r.held; stood = r.stood; known = r.known; least = r.least; normal = r.normal }

pub built_settled : (now : Store) (base : ℕ) (result : Result Normal RunFault) → (settled now base result).built ≡ now.built
built_settled now base (Ok (Value left)) = refl
built_settled now base (Ok OutOfFuel) = refl
built_settled now base (Ok TooDeep) = refl
built_settled now base (Err fault) = refl

pub settled_right : (rules : List Rule) (now new : Store) (base : ℕ) (map' : Map) (result : Result Normal RunFault) → AreRight rules now.built now map' → new ≡ settled now base result → AreRight rules new.built new map'
settled_right rules now new base map' result all e =
    subst (λ (s : Store). AreRight rules s.built s map') (sym e)
    (subst (λ (ts : List Tree). AreRight rules ts (settled now base result) map') (sym (built_settled now base result)) (right_settled rules now.built now base map' result all))

module _ (plan : Planned) (codes : Code) (term : Tree) (fuel : ℕ) (start : Store) (plain : IsPlain plan.widest term) where
  abbrev pub run : Evaluated Tree
  run = evaluation plan.rules term fuel codes.depth

  abbrev pub End : Map → Option ℕ → Store → Result Normal RunFault → Type 0
  End map' epoch now (Ok end) = CachingEnds plan codes start term fuel map' epoch now end
  End map' epoch now (Err fault) = GivesUpCaching plan codes start term fuel map' epoch now fault

  pub record Left (new : Store) (result : Result Normal RunFault) : Type 0 where
    pub answer : Answers run.end start new result
    pub built : BuildsCached plan.rules run.notes start new result
    pub faults : FaultOnlyWhereRefused start new result
    pub sweeps : SweepsAtMost start new result
    pub load : LoadsNeedAtMost (need plan.rules term fuel codes.depth) start new
    pub numbers : KeepsNumbers start new

  notes_are : (points : List Point) (r : Evaluated (List Tree)) → onto [] run ≡ with_notes points r → run.notes ≡ points ++ r.notes
  notes_are points r e = sym (notes_same run.notes run.end) ∙ ap (λ x. x.notes) e

  cached_whole : (points : List Point) (since : List Tree) (now : Store) → IsCached plan.rules start.built points since → run.notes ≡ points → now.built ≡ start.built ++ since → BuildsSome plan.rules run.notes start now
  cached_whole points since now cached notes built =
      record { trees = since; built = built; cached = subst (λ (ps : List Point). IsCached plan.rules start.built ps since) (sym notes) cached }

  all_noted : (now : Store) (points : List Point) → (start.stack ≡ [] → now.load ≤ max start.load (greatest (map trees_in_hand points))) → run.notes ≡ points → LoadsNeedAtMost (need plan.rules term fuel codes.depth) start now
  all_noted now points load e = λ z. subst (λ ps. now.load ≤ max start.load (greatest (map trees_in_hand ps))) (sym e) (load z)

  is_back : (now : Store) (above : List Tree) → take (length start.stack) now.stack ≡ start.stack → trees now ≡ trees start ++ above → StackIsBack start (kept now (length start.stack) 0)
  is_back now above lower upper =
      let k = length start.stack in
      record {
        rows = ap (λ xs. take k now.stack ++ xs) (last-none now.stack) ∙ append-nil (take k now.stack) ∙ lower;
        trees = trees-kept now k 0 ∙ ap (λ xs. take k (trees now) ++ xs) (last-none (trees now)) ∙ append-nil (take k (trees now)) ∙ ap (take k) upper
            ∙ ap (λ n. take n (trees start ++ above)) (sym (length-trees start)) ∙ take-append_seam (trees start) above;
      }

  numbers_back : (now : Store) → KeepsNumbers start now → KeepsNumbers start (kept now (length start.stack) 0)
  numbers_back now n = record { inside = n.inside; rows = n.rows; widest = n.widest; room = n.room; sweeps = n.sweeps; load = n.load }

  value_left : (map' : Map) (epoch : Option ℕ) (now : Store) (left : ℕ) → IsCaching plan codes start term fuel map' epoch (nodes term) left now → Left now (Ok (Value left))
  value_left map' epoch now left c =
      let none : drop (nodes term) (code term 0) ≡ [] = length_code plan.widest term plain in
      let fits = subst (λ is. Fits 0 0 plan.widest false (length c.values) is) none c.fits in
      let one = one_value c.values fits.1 in
      let e : onto [] run ≡ with_notes c.points (done ([] ++ one.0 ∷ []) left) =
      c.run
      ∙ ap (λ is. with_notes c.points (comes_to plan.rules (at_steps (whole term codes.depth) is ∷ []) c.values left)) none
      ∙ ap (with_notes c.points) (closes plan.rules [] (whole term codes.depth) c.values left)
      ∙ ap (λ vs. with_notes c.points (comes_to plan.rules [] vs left)) one.1 in
      let notes : run.notes ≡ c.points = notes_are c.points (done ([] ++ one.0 ∷ []) left) e ∙ append-nil c.points in
      let upper : trees now ≡ trees start ++ one.0 ∷ [] = c.stood.upper ∙ ap (λ vs. trees start ++ vs) one.1 in
      let h = height start now (one.0 ∷ []) upper in
      record {
        answer = (one.0, value_same run.notes run.end one.0 left (ap (λ x. x.end) e), record { count = omega (arith, h); rows = c.stood.lower; trees = upper });
        built = cached_whole c.points c.since now c.cached notes c.stood.built;
        faults = c.stood.refusals;
        sweeps = c.stood.sweeps;
        load = all_noted now c.points c.stood.load notes;
        numbers = c.stood.numbers;
      }

  fuel_left : (map' : Map) (epoch : Option ℕ) (now : Store) → EndsCaching plan codes start term fuel map' epoch now (ends NoFuel) → Left (kept now (length start.stack) 0) (Ok OutOfFuel)
  fuel_left map' epoch now v =
      let new = kept now (length start.stack) 0 in
      let notes : run.notes ≡ v.points = notes_are v.points (ends NoFuel) v.run ∙ append-nil v.points in
      record {
        answer = (fuel_same run.notes run.end (ap (λ x. x.end) v.run), is_back now v.above v.stood.lower v.stood.upper);
        built = cached_whole v.points v.since new v.cached notes v.stood.built;
        faults = v.stood.refusals;
        sweeps = v.stood.sweeps;
        load = all_noted new v.points v.stood.load notes;
        numbers = numbers_back now v.stood.numbers;
      }

  room_left : (map' : Map) (epoch : Option ℕ) (now : Store) → EndsCaching plan codes start term fuel map' epoch now (ends NoRoom) → Left (kept now (length start.stack) 0) (Ok TooDeep)
  room_left map' epoch now v =
      let new = kept now (length start.stack) 0 in
      let notes : run.notes ≡ v.points = notes_are v.points (ends NoRoom) v.run ∙ append-nil v.points in
      record {
        answer = (room_same run.notes run.end (ap (λ x. x.end) v.run), is_back now v.above v.stood.lower v.stood.upper);
        built = cached_whole v.points v.since new v.cached notes v.stood.built;
        faults = v.stood.refusals;
        sweeps = v.stood.sweeps;
        load = all_noted new v.points v.stood.load notes;
        numbers = numbers_back now v.stood.numbers;
      }

  was_refused : (map' : Map) (epoch : Option ℕ) (now : Store) (fault : RunFault) (v : GivesUpCaching plan codes start term fuel map' epoch now fault) → run.notes ≡ v.points ++ v.point ∷ v.rest.notes → WasRefusedAmong plan.rules run.notes start (kept now (length start.stack) 0) fault
  was_refused map' epoch now StoreFull v e =
      let r = v.stopped in
      (v.point, record { front = v.points; back = v.rest.notes; split = e; some = record { trees = v.since; built = r.built; cached = v.cached } }, record { full = r.why.0.full; absent = r.why.0.absent }, r.why.1)
  was_refused map' epoch now Worn v e =
      let r = v.stopped in
      (v.point, record { front = v.points; back = v.rest.notes; split = e; some = record { trees = v.since; built = r.built; cached = v.cached } }, r.why)

  fault_left : (map' : Map) (epoch : Option ℕ) (now : Store) (fault : RunFault) → GivesUpCaching plan codes start term fuel map' epoch now fault → Left (kept now (length start.stack) 0) (Err fault)
  fault_left map' epoch now fault v =
      let r = v.stopped in
      let notes : run.notes ≡ v.points ++ v.point ∷ v.rest.notes = notes_are v.points (noting v.point v.rest) v.run in
      let split : run.notes ≡ (v.points ++ v.point ∷ []) ++ v.rest.notes = notes ∙ sym (append_assoc v.points (v.point ∷ []) v.rest.notes) in
      let most : greatest (map trees_in_hand (v.points ++ v.point ∷ [])) ≤ greatest (map trees_in_hand run.notes) =
      subst (λ ps. greatest (map trees_in_hand (v.points ++ v.point ∷ [])) ≤ greatest (map trees_in_hand ps)) (sym split)
      (subst (λ ns. greatest (map trees_in_hand (v.points ++ v.point ∷ [])) ≤ greatest ns) (sym (map-append trees_in_hand (v.points ++ v.point ∷ []) v.rest.notes)) (greatest-front (map trees_in_hand (v.points ++ v.point ∷ [])) (map trees_in_hand v.rest.notes))) in
      record {
        answer = is_back now r.above r.lower r.upper;
        built = was_refused map' epoch now fault v notes;
        faults = r.refusals;
        sweeps = r.sweeps;
        load = λ z. (let l = r.load z in omega (arith, l, most));
        numbers = numbers_back now r.numbers;
      }

  pub all_left : (map' : Map) (epoch : Option ℕ) (now new : Store) (base : ℕ) (result : Result Normal RunFault) → End map' epoch now result → base ≡ length start.stack → new ≡ settled now base result → Left new result
  all_left map' epoch now new base result v b e =
      let e' : new ≡ settled now (length start.stack) result = e ∙ ap (λ n. settled now n result) b in
      subst (λ s. Left s result) (sym e') (go result v)
    where
      go : (r : Result Normal RunFault) → End map' epoch now r → Left (settled now (length start.stack) r) r
      go (Ok (Value left)) v = value_left map' epoch now left v
      go (Ok OutOfFuel) v = fuel_left map' epoch now v
      go (Ok TooDeep) v = room_left map' epoch now v
      go (Err fault) v = fault_left map' epoch now fault v

  pub end_inside : (map' : Map) (epoch : Option ℕ) (now : Store) (result : Result Normal RunFault) → End map' epoch now result → now.inside ≡ true
  end_inside map' epoch now (Ok (Value left)) v = v.stood.numbers.inside
  end_inside map' epoch now (Ok OutOfFuel) v = v.stood.numbers.inside
  end_inside map' epoch now (Ok TooDeep) v = v.stood.numbers.inside
  end_inside map' epoch now (Err fault) v = v.stopped.numbers.inside

  pub end_sound : (map' : Map) (epoch : Option ℕ) (now : Store) (result : Result Normal RunFault) → End map' epoch now result → IsSound now
  end_sound map' epoch now (Ok (Value left)) v = v.stood.sound
  end_sound map' epoch now (Ok OutOfFuel) v = v.stood.sound
  end_sound map' epoch now (Ok TooDeep) v = v.stood.sound
  end_sound map' epoch now (Err fault) v = v.stopped.sound

  pub end_high : (map' : Map) (epoch : Option ℕ) (now : Store) (result : Result Normal RunFault) → End map' epoch now result → length start.stack ≤ length now.stack
  end_high map' epoch now (Ok (Value left)) v = omega (arith, height start now v.values v.stood.upper)
  end_high map' epoch now (Ok OutOfFuel) v = omega (arith, height start now v.above v.stood.upper)
  end_high map' epoch now (Ok TooDeep) v = omega (arith, height start now v.above v.stood.upper)
  end_high map' epoch now (Err fault) v = omega (arith, height start now v.stopped.above v.stopped.upper)

  -- the memory was right of all that was built by then
  pub end_memory : (map' : Map) (epoch : Option ℕ) (now : Store) (result : Result Normal RunFault) → End map' epoch now result → WasRight plan.rules now.built map' epoch now
  end_memory map' epoch now (Ok (Value left)) v = subst (λ (ts : List Tree). WasRight plan.rules ts map' epoch now) (sym v.stood.built) v.memory
  end_memory map' epoch now (Ok OutOfFuel) v = subst (λ (ts : List Tree). WasRight plan.rules ts map' epoch now) (sym v.stood.built) v.memory
  end_memory map' epoch now (Ok TooDeep) v = subst (λ (ts : List Tree). WasRight plan.rules ts map' epoch now) (sym v.stood.built) v.memory
  end_memory map' epoch now (Err fault) v = subst (λ (ts : List Tree). WasRight plan.rules ts map' epoch now) (sym v.stopped.built) v.memory

  pub end_from : (map' : Map) (epoch : Option ℕ) (now : Store) (result : Result Normal RunFault) → IfOk result (λ (end : Normal). CachingEnds plan codes start term fuel map' epoch now end) → IfErr result (λ (fault : RunFault). GivesUpCaching plan codes start term fuel map' epoch now fault) → End map' epoch now result
  end_from map' epoch now (Ok end) ok err = ok
  end_from map' epoch now (Err fault) ok err = err
