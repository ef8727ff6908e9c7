-- What workers that stopped made or found is a front of what the terms build that each drew.
use Rattle.std.proofs.Common.{◌≡◌, inl, inr, ℕ, zero, suc, ◌<◌, ◌≤◌, List, [], ◌∷◌, ◌++◌, get_or, length, refl, sym, ap, subst, ◌∙◌, arith}
use Rattle.std.specs.Prelude.{All, Result, Ok, Err, IfOk, IfErr, map}
use Rattle.std.specs.List.{flat_map}
use Rattle.std.proofs.lemmas.List.{append-nil}
use Rattle.std.proofs.lemmas.List.Elements.{Contains-append_left, Contains-get_or}
use Rattle.std.proofs.lemmas.Option.{slice_get_within, slice_get-get_or, same_Some}
use Rattle.term_model.specs.Tree.{Tree}
use Rattle.rewrite_model.specs.Rule.{Rule}
use Rattle.settings.specs.declared.parts.Settings.{Settings}
use Rattle.history_core.specs.declared.entry.Entry.{Entry}
use Rattle.innermost.specs.declared.normal.RunFault.{RunFault}
use Rattle.innermost.specs.declared.normal.RunFault.TheVariants as refusal
use Rattle.node_rows.specs.declared.store.Store.{Store}
use Rattle.node_rows.specs.declared.store.Pass.{Pass}
use Rattle.node_rows.specs.Told.{TellsTrees}
use Rattle.term_lines.specs.Strategies.{IsBuiltBy}
use Rattle.term_lines.proofs.Lists.{none_built}
use Rattle.line_ends.specs.declared.stop.LineStop.{LineStop}
use Rattle.line_ends.specs.declared.stop.LineStop.TheVariants as stop
use Rattle.worker_crew.specs.declared.fault.AllFault.{AllFault}
use Rattle.worker_crew.specs.declared.lines.Lines.{Lines}
use Rattle.worker_crew.specs.Dealt.{times}
use Rattle.rewrite_workers.specs.Ends.{BuiltAll, BuiltFront, RefusedLast, Ended}
use Rattle.work_order.specs.Drawn.{numbered, Rises, AreApart}
use Rattle.work_order.specs.Lined.{worker_of, drawn_by}
use Rattle.work_order.specs.Works.{strategy_of, remembers_results, AreBuilt}
use Rattle.shared_desk.specs.Desk.{store_of}
use Rattle.shared_work.specs.Running.{HasRun, WantsMemory}
use Rattle.shared_work.specs.Sharing.{named_by, NamesWhatItBuilt}
use Rattle.shared_work.specs.Fronts.{NamesFront, NamesFronts, NamesOnlyBuilt, TellsEach}
use Rattle.shared_work.proofs.Closing.{Worker, worker, names_built, there}
use Rattle.shared_work.proofs.Refusals.{StopsAt, last_refused, first, drawn_builds, was_built}
use Rattle.shared_work.proofs.Members.{built_by_all, built_within, numbered_within, drawn_within}

module _ (s : Settings) (rules : List Rule) (terms : List Tree) (store : Store) (fault : AllFault) (ps : List Pass) (run : HasRun s rules terms store (Err fault) ps) (lists : List (List Entry)) (tells : All (TellsTrees lists) ps) where
  abbrev At : ℕ → Type 0
  At k = Worker s rules terms store (Err fault) ps run k

  -- what the entries of a worker name are what its desk built after nothing
  names : (k : ℕ) (w : At k) (more : List Tree) → w.new.pass.built ≡ w.old.pass.built ++ more → named_by lists k ≡ more
  names k w more e = names_built s rules terms store (Err fault) ps run lists tells k w ∙ e ∙ ap (λ zs. zs ++ more) w.fresh.built

  -- and they go on so
  named : (k : ℕ) (w : At k) (drawn : List ℕ) (front rest : List Tree) → AreBuilt s rules (numbered terms drawn) w.old.pass.built (front ++ rest) → w.new.pass.built ≡ w.old.pass.built ++ front
      → AreBuilt s rules (numbered terms drawn) [] (named_by lists k ++ rest)
  named k w drawn front rest are built =
      subst (λ zs. AreBuilt s rules (numbered terms drawn) [] (zs ++ rest)) (sym (names k w front built))
      (subst (λ zs. AreBuilt s rules (numbered terms drawn) zs (front ++ rest)) w.fresh.built are)

  -- the tree that was refused is the next one of those that the terms drawn build
  pub next_built : (k : ℕ) (w : At k) (drawn : List ℕ) (by : RunFault) (last : RefusedLast s rules (numbered terms drawn) (store_of w.old) (store_of w.new) by)
      → (t : Tree) (at : StopsAt (IsBuiltBy (strategy_of s.command) (remembers_results s rules) rules last.term s.fuel s.depth) last.begun (store_of w.new) t)
      → AreBuilt s rules (numbered terms drawn) [] (named_by lists k ++ t ∷ at.back)
  next_built k w drawn by last t at =
      let front = first s rules (numbered terms drawn) (store_of w.old) (store_of w.new) by last t at in
      named k w drawn front (t ∷ at.back) (drawn_builds s rules (numbered terms drawn) (store_of w.old) (store_of w.new) by last t at)
      (was_built s rules (numbered terms drawn) (store_of w.old) (store_of w.new) by last t at)

  whole : (k : ℕ) (w : At k) (drawn : List ℕ) → BuiltAll s rules (numbered terms drawn) (store_of w.old) (store_of w.new) → NamesFront s rules terms lists k drawn
  whole k w drawn e = record {
    rest = [];
    built = named k w drawn e.trees [] (subst (AreBuilt s rules (numbered terms drawn) w.old.pass.built) (sym (append-nil e.trees)) e.are) e.built;
  }

  first_named : (k : ℕ) (w : At k) (drawn : List ℕ) → BuiltFront s rules (numbered terms drawn) (store_of w.old) (store_of w.new) → NamesFront s rules terms lists k drawn
  first_named k w drawn e = record { rest = e.rest; built = named k w drawn e.front e.rest e.split e.built }

  front_at : (k : ℕ) (w : At k) (drawn : List ℕ) (end : Result (Unit {0}) LineStop) → Ended s rules (numbered terms drawn) (store_of w.old) (store_of w.new) end → NamesFront s rules terms lists k drawn
  front_at k w drawn (Ok x) e = whole k w drawn e.0
  front_at k w drawn (Err stop.StoreFull) e =
      let r = last_refused s rules (numbered terms drawn) (store_of w.old) (store_of w.new) refusal.StoreFull e in
      record { rest = r.0 ∷ r.1.back; built = next_built k w drawn refusal.StoreFull e r.0 r.1 }
  front_at k w drawn (Err stop.Worn) e =
      let r = last_refused s rules (numbered terms drawn) (store_of w.old) (store_of w.new) refusal.Worn e in
      record { rest = r.0 ∷ r.1.back; built = next_built k w drawn refusal.Worn e r.0 r.1 }
  front_at k w drawn (Err stop.Memory) e = first_named k w drawn e.0

  pub fronts : store.sizes.seats ≡ s.workers → NamesFronts s rules terms lists
  fronts seats =
      let many : length run.olds ≡ s.workers = run.new.count ∙ seats in
      record {
        drawn = run.stopped.hands;
        apart = subst (λ n. AreApart (length terms) n run.stopped.hands) many run.stopped.apart;
        front = λ k numbers at.
            let inside = slice_get_within run.stopped.hands k numbers at in
            let one = run.stopped.apart.one_each in
            let two = run.new.count in
            let w = worker s rules terms store (Err fault) ps run k (omega (arith, inside, one, two)) in
            let d = run.stopped.desks.1 k w.old w.new w.at_old w.at_new in
            subst (NamesFront s rules terms lists k) (same_Some d.0 numbers (sym d.2 ∙ at)) (front_at k w d.0 d.1 d.4);
      }

-- where lines were not made
pub tells_fronts : (s : Settings) (rules : List Rule) (terms : List Tree) (store : Store) (lines : Result Lines AllFault) (ps : List Pass) (run : HasRun s rules terms store lines ps) (lists : List (List Entry))
    → store.sizes.seats ≡ s.workers → All (TellsTrees lists) ps → IfErr lines (λ fault. NamesFronts s rules terms lists)
tells_fronts s rules terms store (Ok l) ps run lists seats tells = tt
tells_fronts s rules terms store (Err fault) ps run lists seats tells = fronts s rules terms store fault ps run lists tells seats

-- ---- the trees are some of those that all terms build
pub front_within : (s : Settings) (rules : List Rule) (terms : List Tree) (lists : List (List Entry)) → NamesFronts s rules terms lists → NamesOnlyBuilt s rules terms lists
front_within s rules terms lists f k lt =
    let one = f.apart.one_each in
    let d = there f.drawn k (omega (arith, one, lt)) in
    let n = f.front k d.0 d.1 in
    let below : All (λ i. i < length terms) d.0 = subst (All (λ i. i < length terms)) (same_Some (get_or f.drawn k d.0) d.0 (sym (slice_get-get_or f.drawn k d.0 (omega (arith, one, lt))) ∙ d.1)) (f.apart.below k d.0 (omega (arith, one, lt))) in
    λ i x inside.
    let t = get_or (named_by lists k) i x in
    built_by_all s rules (numbered terms d.0) terms (numbered_within terms d.0 below) t
    (built_within s rules (numbered terms d.0) (named_by lists k ++ n.rest) n.built t (Contains-append_left (named_by lists k) n.rest t (Contains-get_or (named_by lists k) i x inside)))

whole_within : (s : Settings) (rules : List Rule) (terms : List Tree) (workers : List ℕ) (lists : List (List Entry)) → NamesWhatItBuilt s rules terms workers lists → NamesOnlyBuilt s rules terms lists
whole_within s rules terms workers lists h k lt i x inside =
    let t = get_or (named_by lists k) i x in
    built_by_all s rules (drawn_by k workers terms) terms (drawn_within k workers terms) t
    (built_within s rules (drawn_by k workers terms) (named_by lists k) (h k lt) t (Contains-get_or (named_by lists k) i x inside))

pub only_built : (s : Settings) (rules : List Rule) (terms : List Tree) (lines : Result Lines AllFault) (lists : List (List Entry))
    → IfOk lines (λ l. NamesWhatItBuilt s rules terms (map worker_of l.list.items) lists) → IfErr lines (λ fault. NamesFronts s rules terms lists) → NamesOnlyBuilt s rules terms lists
only_built s rules terms (Ok l) lists h f = whole_within s rules terms (map worker_of l.list.items) lists h
only_built s rules terms (Err fault) lists h f = front_within s rules terms lists f

-- ---- the chronicle of nothing
abbrev blank : ℕ → List (List ℕ)
blank zero = []
blank (suc n) = [] ∷ blank n

blank_count : (n : ℕ) → length (blank n) ≡ n
blank_count zero = refl
blank_count (suc n) = ap suc (blank_count n)

blank_at : (n k : ℕ) (d : List ℕ) → k < length (blank n) → get_or (blank n) k d ≡ []
blank_at zero k d lt = absurd (omega (arith, lt))
blank_at (suc n) zero d lt = refl
blank_at (suc n) (suc k) d lt = blank_at n k d (omega (arith, lt))

blank_joined : (n : ℕ) → flat_map (λ (hand : List ℕ). hand) (blank n) ≡ []
blank_joined zero = refl
blank_joined (suc n) = blank_joined n

all_blank : (P : List ℕ → Type 0) (n : ℕ) → P [] → All P (blank n)
all_blank P n p k d lt = subst P (sym (blank_at n k d lt)) p

blank_apart : (count n : ℕ) → AreApart count n (blank n)
blank_apart count n = record {
  one_each = blank_count n;
  below = all_blank (All (λ i. i < count)) n (λ k d lt. absurd (omega (arith, lt)));
  upwards = all_blank Rises n tt;
  once = λ i. subst (λ xs. times i xs ≤ 1) (sym (blank_joined n)) (omega arith);
}

pub none_fronts : (s : Settings) (rules : List Rule) (terms : List Tree) (lists : List (List Entry)) → lists ≡ [] → NamesFronts s rules terms lists
none_fronts s rules terms [] e = record {
  drawn = blank s.workers;
  apart = blank_apart (length terms) s.workers;
  front = λ k numbers at.
      let l = slice_get_within (blank s.workers) k numbers at in
      let none : [] ≡ numbers = sym (blank_at s.workers k numbers l) ∙ same_Some (get_or (blank s.workers) k numbers) numbers (sym (slice_get-get_or (blank s.workers) k numbers l) ∙ at) in
      subst (NamesFront s rules terms [] k) none (record { rest = []; built = none_built rules s.fuel s.depth (strategy_of s.command) (remembers_results s rules) [] });
}
none_fronts s rules terms (x ∷ xs) e = cc

pub at_err : {A E : Type 0} (P : Type 0) (r : Result A E) → P → IfErr r (λ x. P)
at_err P (Ok a) p = tt
at_err P (Err x) p = p

pub tells_each : (s : Settings) (lines : Result Lines AllFault) (lists : List (List Entry)) → length lists ≡ s.workers → TellsEach s lines lists
tells_each s lines lists e = inl e

pub nothing_told : (s : Settings) (lines : Result Lines AllFault) (lists : List (List Entry)) → WantsMemory lines → lists ≡ [] → TellsEach s lines lists
nothing_told s lines lists e none = inr (e, none)
