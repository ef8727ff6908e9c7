-- How an outermost rewriting ends, once the stack is settled.
use Rattle.std.proofs.Common.{◌≡◌, ℕ, ◌+◌, ◌≤◌, List, [], ◌∷◌, ◌++◌, length, take, refl, sym, ◌∙◌, ap, arith, subst, append-nil, Result, Ok, Err, true}
use Rattle.std.specs.Prelude.{IfOk, IfErr}
use Rattle.std.proofs.lemmas.List.{take_all}
use Rattle.std.proofs.Math.Seq.{take-append_seam}
use Rattle.term_model.specs.Tree.{Tree}
use Rattle.terms_api.specs.Terms.{Store, IsSound, trees, kept}
use Rattle.terms_api.proofs.Callers.{trees-kept, last-none}
use Rattle.rewrite_model.specs.Run.{Ended, OutOfFuel as NoFuel, TooDeep as NoRoom}
use Rattle.rewrite_model.specs.Evaluation.{Point}
use Rattle.rewrite_model.specs.Built.{trees_at}
use Rattle.rewrite_model.specs.Outermost.{Building}
use Rattle.innermost.specs.declared.normal.Normal.{Normal}
use Rattle.innermost.specs.declared.normal.Normal.TheVariants.{Value, OutOfFuel, TooDeep}
use Rattle.innermost.specs.declared.normal.RunFault.{RunFault}
use Rattle.innermost.specs.declared.normal.RunFault.TheVariants.{StoreFull, Worn}
use Rattle.innermost.specs.Normalized.{Answers, StackIsBack, FaultOnlyWhereRefused, SweepsAtMost, KeepsNumbers}
use Rattle.innermost.specs.BuiltTrees.{BuildsTrees, TreeWasRefused}
use Rattle.innermost.specs.Standing.{Stands, IsRefused}
use Rattle.innermost.specs.Machines.{settled}
use Rattle.innermost.specs.Outward.{Stops, Finishes, EndsAs, WasGivenUp}
use Rattle.innermost.proofs.Points.{height, length-trees}
use Rattle.innermost.proofs.Moving.{stands_kept}

module _ (start : Store) (whole : Building Tree) where
  abbrev pub Ends : Store → Result Normal RunFault → Type 0
  Ends now (Ok end) = EndsAs start now whole end
  Ends now (Err fault) = WasGivenUp start now whole fault

  pub record Settled (new : Store) (result : Result Normal RunFault) : Type 0 where
    pub answer : Answers whole.end start new result
    pub built : BuildsTrees whole.notes start new result
    pub faults : FaultOnlyWhereRefused start new result
    pub sweeps : SweepsAtMost start new result
    pub numbers : KeepsNumbers start new

  back : (now : Store) (points : List Point) (above : List Tree) → Stands start now points above → IsSound (kept now (length start.stack) 0) → Stands start (kept now (length start.stack) 0) points []
  back now points above stands sound =
      let n : length start.stack ≡ length start.stack + length (let xs : List Tree = [] in xs) = omega arith in
      stands_kept start now (kept now (length start.stack) 0) points [] above [] (length start.stack) 0 (subst (Stands start now points) (sym (append-nil ([] ++ above))) stands) n refl refl sound

  is_back : (now : Store) (points : List Point) → Stands start now points [] → StackIsBack start now
  is_back now points stands =
      let h = height start now [] stands.upper in
      record {
        rows = sym (take_all (length start.stack) now.stack (omega (arith, h))) ∙ stands.lower;
        trees = stands.upper ∙ append-nil (trees start);
      }

  value_settled : (now : Store) (left : ℕ) → Finishes start now whole left → Settled now (Ok (Value left))
  value_settled now left v =
      let g = v.goes in
      let h = height start now (v.tree ∷ []) g.stands.upper in
      record {
        answer = (v.tree, ap (λ (x : Building Tree). x.end) g.run, record { count = omega (arith, h); rows = g.stands.lower; trees = g.stands.upper });
        built = g.stands.built ∙ ap (λ ts. start.built ++ ts) (sym (ap (λ (x : Building Tree). x.notes) g.run ∙ append-nil (trees_at g.points)));
        faults = g.stands.refusals;
        sweeps = g.stands.sweeps;
        numbers = g.stands.numbers;
      }

  stop_notes : (now : Store) (e : Ended Tree) (v : Stops start now whole e) → whole.notes ≡ trees_at v.goes.points
  stop_notes now e v = ap (λ (x : Building Tree). x.notes) v.goes.run ∙ append-nil (trees_at v.goes.points)

  fuel_settled : (now : Store) → Stops start now whole NoFuel → IsSound (kept now (length start.stack) 0) → Settled (kept now (length start.stack) 0) (Ok OutOfFuel)
  fuel_settled now v sound =
      let new = kept now (length start.stack) 0 in
      let b = back now v.goes.points v.above v.goes.stands sound in
      record {
        answer = (ap (λ (x : Building Tree). x.end) v.goes.run, is_back new v.goes.points b);
        built = b.built ∙ ap (λ ts. start.built ++ ts) (sym (stop_notes now NoFuel v));
        faults = b.refusals;
        sweeps = b.sweeps;
        numbers = b.numbers;
      }

  room_settled : (now : Store) → Stops start now whole NoRoom → IsSound (kept now (length start.stack) 0) → Settled (kept now (length start.stack) 0) (Ok TooDeep)
  room_settled now v sound =
      let new = kept now (length start.stack) 0 in
      let b = back now v.goes.points v.above v.goes.stands sound in
      record {
        answer = (ap (λ (x : Building Tree). x.end) v.goes.run, is_back new v.goes.points b);
        built = b.built ∙ ap (λ ts. start.built ++ ts) (sym (stop_notes now NoRoom v));
        faults = b.refusals;
        sweeps = b.sweeps;
        numbers = b.numbers;
      }

  refused_back : (now : Store) (points : List Point) (p : Point) (fault : RunFault) → (r : IsRefused start now points p fault) → StackIsBack start (kept now (length start.stack) 0)
  refused_back now points p fault r =
      let k = length start.stack in
      record {
        rows = ap (λ xs. take k now.stack ++ xs) (last-none now.stack) ∙ append-nil (take k now.stack) ∙ r.lower;
        trees = trees-kept now k 0 ∙ ap (λ xs. take k (trees now) ++ xs) (last-none (trees now)) ∙ append-nil (take k (trees now)) ∙ ap (take k) r.upper
            ∙ ap (λ n. take n (trees start ++ r.above)) (sym (length-trees start)) ∙ take-append_seam (trees start) r.above;
      }

  tree_refused : (now : Store) (points : List Point) (p : Point) (rest : List Tree) (fault : RunFault) → whole.notes ≡ trees_at points ++ p.tree ∷ rest → IsRefused start now points p fault → TreeWasRefused whole.notes start (kept now (length start.stack) 0) fault
  tree_refused now points p rest StoreFull e r = (p.tree, record { front = trees_at points; back = rest; split = e; built = r.built }, record { full = r.why.0.full; absent = r.why.0.absent })
  tree_refused now points p rest Worn e r = (p.tree, record { front = trees_at points; back = rest; split = e; built = r.built }, r.why)

  fault_settled : (now : Store) (fault : RunFault) → WasGivenUp start now whole fault → Settled (kept now (length start.stack) 0) (Err fault)
  fault_settled now fault v =
      let r = v.refused in
      record {
        answer = refused_back now v.points v.point fault r;
        built = tree_refused now v.points v.point v.left.notes fault (ap (λ (x : Building Tree). x.notes) v.run) r;
        faults = r.refusals;
        sweeps = r.sweeps;
        numbers = record {
          inside = r.numbers.inside;
          rows = r.numbers.rows;
          widest = r.numbers.widest;
          room = r.numbers.room;
          sweeps = r.numbers.sweeps;
          load = r.numbers.load;
        };
      }

  pub all_settled : (now new : Store) (base : ℕ) (result : Result Normal RunFault) → Ends now result → base ≡ length start.stack → new ≡ settled now base result → IsSound new → Settled new result
  all_settled now new base result v b e sound =
      let e' : new ≡ settled now (length start.stack) result = e ∙ ap (λ n. settled now n result) b in
      subst (λ s. Settled s result) (sym e') (go result v (subst (λ s. IsSound s) e' sound))
    where
      go : (r : Result Normal RunFault) → Ends now r → IsSound (settled now (length start.stack) r) → Settled (settled now (length start.stack) r) r
      go (Ok (Value left)) v s = value_settled now left v
      go (Ok OutOfFuel) v s = fuel_settled now v s
      go (Ok TooDeep) v s = room_settled now v s
      go (Err fault) v s = fault_settled now fault v

  pub ends_inside : (now : Store) (result : Result Normal RunFault) → Ends now result → now.inside ≡ true
  ends_inside now (Ok (Value left)) v = v.goes.stands.numbers.inside
  ends_inside now (Ok OutOfFuel) v = v.goes.stands.numbers.inside
  ends_inside now (Ok TooDeep) v = v.goes.stands.numbers.inside
  ends_inside now (Err fault) v = v.refused.numbers.inside

  pub ends_sound : (now : Store) (result : Result Normal RunFault) → Ends now result → IsSound now
  ends_sound now (Ok (Value left)) v = v.goes.stands.sound
  ends_sound now (Ok OutOfFuel) v = v.goes.stands.sound
  ends_sound now (Ok TooDeep) v = v.goes.stands.sound
  ends_sound now (Err fault) v = v.refused.sound

  pub ends_high : (now : Store) (result : Result Normal RunFault) → Ends now result → length start.stack ≤ length now.stack
  ends_high now (Ok (Value left)) v = omega (arith, height start now (v.tree ∷ []) v.goes.stands.upper)
  ends_high now (Ok OutOfFuel) v = omega (arith, height start now v.above v.goes.stands.upper)
  ends_high now (Ok TooDeep) v = omega (arith, height start now v.above v.goes.stands.upper)
  ends_high now (Err fault) v = omega (arith, height start now v.refused.above v.refused.upper)

  pub ends_from : (now : Store) (result : Result Normal RunFault) → IfOk result (λ (end : Normal). EndsAs start now whole end) → IfErr result (λ (fault : RunFault). WasGivenUp start now whole fault) → Ends now result
  ends_from now (Ok end) ok err = ok
  ends_from now (Err fault) ok err = err
