-- Why workers on one store stop for want of numbers, by the chronicle.
use Rattle.std.proofs.Common.{◌≡◌, ◌⊎◌, inl, inr, ℕ, zero, suc, ◌+◌, ◌*◌, ◌^◌, ◌<◌, ◌≤◌, Bool, true, false, cond, List, [], ◌∷◌, ◌++◌, length, refl, sym, ap, subst, ◌∙◌, arith}
use Rattle.std.specs.Prelude.{All, Contains, Some, slice_get, ◌==◌, Result, Ok, Err, IfErr}
use Rattle.std.specs.List.{flat_map}
use Rattle.std.proofs.Math.Nat.{mul-le-mul_right}
use Rattle.std.proofs.lemmas.List.{append-nil, length-append}
use Rattle.std.proofs.lemmas.List.Elements.{All-head, All-tail}
use Rattle.std.proofs.lemmas.Option.{slice_get_within, slice_get-get_or, same_Some}
use Rattle.term_model.specs.Tree.{Tree}
use Rattle.terms_api.specs.Terms as terms
use Rattle.rewrite_model.specs.Rule.{Rule}
use Rattle.settings.specs.declared.parts.Settings.{Settings}
use Rattle.history_core.specs.declared.entry.Entry.{Entry}
use Rattle.history_core.specs.Chronicle.{chronicle, IsNoted}
use Rattle.history_core.proofs.Chronicles.{has_the_noted}
use Rattle.innermost.specs.declared.normal.RunFault.{RunFault}
use Rattle.innermost.specs.declared.normal.RunFault.TheVariants as fault
use Rattle.store_model.proofs.Basics.{eqb_is}
use Rattle.store_model.specs.declared.view.Sizes.{Sizes}
use Rattle.store_model.specs.Bases.{StaysBelow, collect_numbers}
use Rattle.store_model.specs.Invariant.{span}
use Rattle.node_rows.specs.declared.store.Store.{Store}
use Rattle.node_rows.specs.declared.store.Pass.{Pass}
use Rattle.node_rows.specs.Joining.{HasBase}
use Rattle.node_rows.specs.Told.{HasEntries, TellsTrees, view_of}
use Rattle.term_lines.specs.Strategies.{built_by, IsBuiltBy}
use Rattle.term_lines.proofs.Lists.{no_longer}
use Rattle.line_ends.specs.declared.stop.LineStop.{LineStop}
use Rattle.line_ends.specs.declared.stop.LineStop.TheVariants as stop
use Rattle.worker_crew.specs.declared.fault.AllFault.{AllFault}
use Rattle.worker_crew.specs.declared.fault.AllFault.TheVariants.{Worn, Memory}
use Rattle.worker_crew.specs.declared.lines.Lines.{Lines}
use Rattle.worker_crew.specs.Dealt.{times}
use Rattle.rewrite_workers.specs.Ends.{BuiltAll, BuiltFront, Ended, RefusedLast}
use Rattle.work_order.specs.Drawn.{numbered}
use Rattle.worker_crew.specs.Gathered.{IsWorst}
use Rattle.work_order.specs.Works.{term_at, strategy_of, remembers_results, built_of, AreBuilt}
use Rattle.worker_crew.proofs.Dealing.{hit, times_cons, times_append}
use Rattle.shared_desk.specs.Desk.{store_of}
use Rattle.shared_desk.specs.Pass.{PassView, WhichStore, IsWorn}
use Rattle.shared_desk.specs.Passes as passes
use Rattle.shared_desk.specs.Telling.{collects_by}
use Rattle.shared_work.specs.Running.{HasRun, WantsMemory}
use Rattle.shared_work.specs.Sharing.{named_by}
use Rattle.work_order.specs.Wearing.{WearsOut}
use Rattle.shared_work.specs.Wearing.{TellsWorn}
use Rattle.shared_work.proofs.Closing.{Worker, worker, names_built, collects_few, all_got}
use Rattle.shared_work.proofs.Refusals.{StopsAt, last_refused, first, drawn_builds, was_built}
use Rattle.shared_work.proofs.Counting.{total, total_most, total_more, weigh, weigh_hands, weigh_once, collects_most, stays_most}

-- ---- what the terms drawn build, by how many trees
module _ (s : Settings) (rules : List Rule) where
  abbrev builds : Tree → List Tree
  builds t = built_by (strategy_of s.command) rules t s.fuel s.depth

  -- the first of what the terms drawn build is no longer than all of it
  first_long : (drawn front rest : List Tree) (old new : terms.Store) → AreBuilt s rules drawn old.built (front ++ rest) → new.built ≡ old.built ++ front → length new.built ≤ length old.built + length (built_of s rules drawn)
  first_long drawn front rest old new are built =
      let a = no_longer rules s.fuel s.depth (strategy_of s.command) (remembers_results s rules) drawn old.built (front ++ rest) are in
      let b = length-append front rest in
      let c : length new.built ≡ length (old.built ++ front) = ap length built in
      let d = length-append old.built front in
      omega (arith, a, b, c, d)

  stopped_long : (drawn : List Tree) (old new : terms.Store) (f : RunFault) (last : RefusedLast s rules drawn old new f) (t : Tree)
      → StopsAt (IsBuiltBy (strategy_of s.command) (remembers_results s rules) rules last.term s.fuel s.depth) last.begun new t → length new.built ≤ length old.built + length (built_of s rules drawn)
  stopped_long drawn old new f last t at =
      first_long drawn (first s rules drawn old new f last t at) (t ∷ at.back) old new (drawn_builds s rules drawn old new f last t at) (was_built s rules drawn old new f last t at)

  all_long : (drawn : List Tree) (old new : terms.Store) → BuiltAll s rules drawn old new → length new.built ≤ length old.built + length (built_of s rules drawn)
  all_long drawn old new all = first_long drawn all.trees [] old new (subst (AreBuilt s rules drawn old.built) (sym (append-nil all.trees)) all.are) all.built

  front_long : (drawn : List Tree) (old new : terms.Store) → BuiltFront s rules drawn old new → length new.built ≤ length old.built + length (built_of s rules drawn)
  front_long drawn old new first = first_long drawn first.front first.rest old new first.split first.built

  -- however the worker ended
  ended_long : (drawn : List Tree) (old new : terms.Store) (end : Result (Unit {0}) LineStop) → Ended s rules drawn old new end
      → length new.built ≤ length old.built + length (built_of s rules drawn)
  ended_long drawn old new (Ok u) (all, same) = all_long drawn old new all
  ended_long drawn old new (Err stop.StoreFull) last =
      let r = last_refused s rules drawn old new fault.StoreFull last in
      stopped_long drawn old new fault.StoreFull last r.0 r.1
  ended_long drawn old new (Err stop.Worn) last =
      let r = last_refused s rules drawn old new fault.Worn last in
      stopped_long drawn old new fault.Worn last r.0 r.1
  ended_long drawn old new (Err stop.Memory) (first, same) = front_long drawn old new first

  -- how many trees the term with a number builds
  abbrev long_at : List Tree → ℕ → ℕ
  long_at ts i = length (builds (term_at ts i))

  numbered_long : (ts : List Tree) (hand : List ℕ) → length (flat_map builds (numbered ts hand)) ≡ weigh (long_at ts) hand
  numbered_long ts [] = omega arith
  numbered_long ts (i ∷ is) =
      let a = numbered_long ts is in
      let b = length-append (builds (term_at ts i)) (flat_map builds (numbered ts is)) in
      omega (arith, a, b)

  whole_long : (ts : List Tree) → length (flat_map builds ts) ≡ total (length ts) (long_at ts)
  whole_long [] = omega arith
  whole_long (t ∷ ts) =
      let a = whole_long ts in
      let b = length-append (builds t) (flat_map builds ts) in
      omega (arith, a, b)

-- ---- numbers in hands
hit_true : (b : Bool) → 0 < cond b 1 0 → b ≡ true
hit_true true lt = refl
hit_true false lt = absurd (omega (arith, lt))

hit_is : (x y : ℕ) → 0 < hit x y → y ≡ x
hit_is x y lt = eqb_is y x (hit_true (y == x) lt)

one_of : (a b c : ℕ) → c ≡ a + b → 0 < c → (0 < a) ⊎ (0 < b)
one_of zero b c e lt = inr (omega (arith, e, lt))
one_of (suc a) b c e lt = inl (omega arith)

below_hand : (n : ℕ) (hand : List ℕ) → All (λ i. i < n) hand → (x : ℕ) → 0 < times x hand → x < n
below_hand n [] all x lt = absurd (omega (arith, lt))
below_hand n (i ∷ is) all x lt = elim (one_of (hit x i) (times x is) (times x (i ∷ is)) (times_cons x i is) lt) [
  | inl here ↦ (let e : i ≡ x = hit_is x i here in let l : i < n = All-head (λ j. j < n) i is all in omega (arith, e, l))
  | inr there ↦ below_hand n is (All-tail (λ j. j < n) i is all) x there
]

below_hands : (n : ℕ) (hands : List (List ℕ)) → All (λ hand. All (λ i. i < n) hand) hands → (x : ℕ) → 0 < times x (flat_map (λ hand. hand) hands) → x < n
below_hands n [] all x lt = absurd (omega (arith, lt))
below_hands n (h ∷ hs) all x lt = elim (one_of (times x h) (times x (flat_map (λ hand. hand) hs)) (times x (flat_map (λ hand. hand) (h ∷ hs))) (times_append x h (flat_map (λ hand. hand) hs)) lt) [
  | inl here ↦ below_hand n h (All-head (λ hand. All (λ i. i < n) hand) h hs all) x here
  | inr there ↦ below_hands n hs (All-tail (λ hand. All (λ i. i < n) hand) h hs all) x there
]

-- ---- the numbers of collections
more_spans : (a c : ℕ) → (a + 2) * c ≡ a * c + 2 * c
more_spans a c = grind arith

-- The base that was loaded last came from one of so many collections, and leaves no room for two
-- epochs more.
used_up : (count most wide base : ℕ) → base ≤ 1 + count * wide → count ≤ most → 2 ^ 62 < base + 2 * wide → 2 ^ 62 ≤ (most + 2) * wide
used_up count most wide base from few far =
    let a = mul-le-mul_right wide few in
    let b = more_spans most wide in
    omega (arith, from, far, a, b)

base_most : (z : Sizes) (lists : List (List Entry)) (base : ℕ) → z.first ≡ 1 → StaysBelow z.first (span z) 1 (collect_numbers (chronicle lists)) → HasBase z lists base
    → base ≤ 1 + length (collect_numbers (chronicle lists)) * span z
base_most z lists base first below (inl e) = omega (arith, e)
base_most z lists base first below (inr (inl e)) = omega (arith, e, first)
base_most z lists base first below (inr (inr (n, i, e))) =
    let ns = collect_numbers (chronicle lists) in
    let a = stays_most z.first (span z) 1 (length ns) ns n below (omega arith) i in
    omega (arith, a, e, first)

module _ (s : Settings) (rules : List Rule) (terms : List Tree) (store : Store) (ps : List Pass) (run : HasRun s rules terms store (Err Worn) ps) (lists : List (List Entry))
    (seats : store.sizes.seats ≡ s.workers) (tells : All (TellsTrees lists) ps) (has : All (HasEntries lists) ps) where
  abbrev At : ℕ → Type 0
  At k = Worker s rules terms store (Err Worn) ps run k

  abbrev at : (k : ℕ) → k < store.sizes.seats → At k
  at k lt = worker s rules terms store (Err Worn) ps run k lt

  -- the trees that a worker's entries name are no more than those that the terms in its hand build
  named_most : (k : ℕ) (hand : List ℕ) → slice_get run.stopped.hands k ≡ Some hand → k < store.sizes.seats → length (named_by lists k) ≤ weigh (long_at s rules terms) hand
  named_most k hand drawn lt =
      let w = at k lt in
      let d = run.stopped.desks.1 k w.old w.new w.at_old w.at_new in
      let same : d.0 ≡ hand = same_Some d.0 hand (sym d.2 ∙ drawn) in
      let ended = subst (λ h. Ended s rules (numbered terms h) (store_of w.old) (store_of w.new) d.1) same d.4 in
      let long = ended_long s rules (numbered terms hand) (store_of w.old) (store_of w.new) d.1 ended in
      let none : length w.old.pass.built ≡ 0 = ap length w.fresh.built in
      let told : length (named_by lists k) ≡ length w.new.pass.built = ap length (names_built s rules terms store (Err Worn) ps run lists tells k w) in
      let drew = numbered_long s rules terms hand in
      omega (arith, long, none, told, drew)

  -- and all workers' are no more than all terms build
  all_named_most : total s.workers (λ k. length (named_by lists k)) ≤ length (built_of s rules terms)
  all_named_most =
      let hands = run.stopped.hands in
      let f = long_at s rules terms in
      let g : ℕ → ℕ = λ k. length (named_by lists k) in
      let count : length hands ≡ s.workers = run.stopped.apart.one_each ∙ run.new.count ∙ seats in
      let a = weigh_hands f hands g (λ k hand drawn. named_most k hand drawn (let l = slice_get_within hands k hand drawn in omega (arith, l, count, seats))) in
      let b = weigh_once (length terms) f (flat_map (λ hand. hand) hands) (below_hands (length terms) hands run.stopped.apart.below) run.stopped.apart.once in
      let c = whole_long s rules terms in
      let d : total (length hands) g ≡ total s.workers g = ap (λ n. total n g) count in
      omega (arith, a, b, c, d)

  -- so there are so many collections
  collects_all : length lists ≡ store.sizes.seats → length (collect_numbers (chronicle lists)) ≤ length (built_of s rules terms) + s.workers
  collects_all count =
      let g : ℕ → ℕ = λ k. length (named_by lists k) in
      let callers : (y : ℕ × Entry) → Contains (chronicle lists) y → y.0 < s.workers = λ y c. (let noted : IsNoted lists y = (has_the_noted lists y).0 c in let p = noted.present in omega (arith, p, count, seats)) in
      let a = collects_most s.workers (chronicle lists) callers in
      let b = total_most s.workers (λ k. collects_by k (chronicle lists)) (λ k. g k + 1) (collects_few s rules terms store (Err Worn) ps run lists seats tells has) in
      let c = total_more s.workers g in
      let d = all_named_most in
      omega (arith, a, b, c, d)

  wears_at : (k : ℕ) (lt : k < store.sizes.seats) → store.sizes.first ≡ 1 → store.sizes.rows ≡ s.rows → length lists ≡ store.sizes.seats → StaysBelow store.sizes.first (span store.sizes) 1 (collect_numbers (chronicle lists))
      → All (λ p. HasBase store.sizes lists (view_of p).store.base) ps → IsWorn (at k lt).new.pass → WearsOut s rules terms
  wears_at k lt first rows count below bases worn =
      let w = at k lt in
      let of : w.new.pass.store ≡ passes.store_of store = (run.same.1 k w.old w.new w.at_old w.at_new).pass.store ∙ w.fresh.store in
      let base : (view_of w.pass).store.base ≡ w.new.pass.base = ap (λ (v : PassView). v.base) w.back.seen in
      let from = base_most store.sizes lists (view_of w.pass).store.base first below (all_got (λ p. HasBase store.sizes lists (view_of p).store.base) ps k w.pass bases w.at_pass) in
      let far : 2 ^ 62 < (view_of w.pass).store.base + 2 * span store.sizes = (let e : span w.new.pass.store.sizes ≡ span store.sizes = ap (λ (x : WhichStore). span x.sizes) of in omega (arith, worn, e, base)) in
      let used = used_up (length (collect_numbers (chronicle lists))) (length (built_of s rules terms) + s.workers) (span store.sizes) (view_of w.pass).store.base from (collects_all count) far in
      subst (λ wide. 2 ^ 62 ≤ (length (built_of s rules terms) + s.workers + 2) * wide) (let e : span store.sizes ≡ s.rows + s.workers + 1 = omega (arith, rows, seats) in e) used

  wears : store.sizes.first ≡ 1 → store.sizes.rows ≡ s.rows → length lists ≡ store.sizes.seats → StaysBelow store.sizes.first (span store.sizes) 1 (collect_numbers (chronicle lists))
      → All (λ p. HasBase store.sizes lists (view_of p).store.base) ps → WearsOut s rules terms
  wears first rows count below bases = by run.stopped.worst
    where
      by : IsWorst run.stopped.ends (Some Worn) ⊎ (Worn ≡ Memory) → WearsOut s rules terms
      by (inr e) = absurd cc
      by (inl worst) =
          let c = worst.0 in
          let k = c.0 in
          let end : slice_get run.stopped.ends k ≡ Some (Err stop.Worn) = slice_get-get_or run.stopped.ends k (Err stop.Worn) c.1 ∙ ap Some c.2 in
          let one = run.stopped.one_end in
          let two = run.new.count in
          let l = c.1 in
          let lt : k < store.sizes.seats = omega (arith, one, two, l) in
          let w = at k lt in
          let d = run.stopped.desks.1 k w.old w.new w.at_old w.at_new in
          let same : d.1 ≡ Err stop.Worn = same_Some d.1 (Err stop.Worn) (sym d.3 ∙ end) in
          let last : RefusedLast s rules (numbered terms d.0) (store_of w.old) (store_of w.new) fault.Worn = subst (λ (r : Result (Unit {0}) LineStop). Ended s rules (numbered terms d.0) (store_of w.old) (store_of w.new) r) same d.4 in
          let told = (run.same.1 k w.old w.new w.at_old w.at_new).worn (last_refused s rules (numbered terms d.0) (store_of w.old) (store_of w.new) fault.Worn last).2 in
          elim told [
            | inl before ↦ absurd (let x : true ≡ false = sym before ∙ w.fresh.unspent in cc)
            | inr worn ↦ wears_at k lt first rows count below bases worn
          ]

pub tells_worn : (s : Settings) (rules : List Rule) (terms : List Tree) (store : Store) (lines : Result Lines AllFault) (ps : List Pass) (run : HasRun s rules terms store lines ps) (lists : List (List Entry))
    → store.sizes.seats ≡ s.workers → store.sizes.rows ≡ s.rows → store.sizes.first ≡ 1 → length lists ≡ store.sizes.seats → All (TellsTrees lists) ps → All (HasEntries lists) ps
    → StaysBelow store.sizes.first (span store.sizes) 1 (collect_numbers (chronicle lists)) → All (λ p. HasBase store.sizes lists (view_of p).store.base) ps → IfErr lines (TellsWorn s rules terms)
tells_worn s rules terms store (Ok l) ps run lists seats rows first count tells has below bases = tt
tells_worn s rules terms store (Err f) ps run lists seats rows first count tells has below bases = λ e.
    wears s rules terms store ps (subst (λ (x : AllFault). let r : Result Lines AllFault = Err x in HasRun s rules terms store r ps) e run) lists seats tells has first rows count below bases

pub none_worn : (s : Settings) (rules : List Rule) (terms : List Tree) (lines : Result Lines AllFault) → WantsMemory lines → IfErr lines (TellsWorn s rules terms)
none_worn s rules terms (Ok l) e = tt
none_worn s rules terms (Err f) e = λ q. absurd cc
