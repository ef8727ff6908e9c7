-- From what the workers leave to the answer.
use Rattle.std.proofs.Common.{◌≡◌, ◌⊎◌, ℕ, ◌+◌, ◌<◌, ◌≤◌, List, ◌++◌, length, take, drop, map, get_or, sum_by, sym, ap, subst, ◌∙◌, ⊎_elim, arith, zero-add, All}
use mathlib.Core.Logic.{dite}
use native.Mathlib.Decide.{ℕ_discrete}
use Rattle.std.specs.Prelude.{Some, Result, Ok, Contains, slice_get, option_map}
use Rattle.std.proofs.lemmas.Option.{slice_get_within, slice_get-get_or, get_or_from_slice_get, slice_get-map}
use Rattle.std.proofs.lemmas.List.{ext_get_or, length-map, append-nil, take_all, drop_all}
use Rattle.std.proofs.lemmas.Bool.{cases_lt}
use Rattle.std.proofs.lemmas.List.Elements.{All-weaker, All-map, All-contains, All-from_get_or}
use Rattle.term_model.specs.Tree.{Tree, Leaf}
use Rattle.terms_api.specs.Terms.{Store}
use Rattle.symbol_pool.specs.Pool.{Named}
use Rattle.rule_match.specs.Planned.{Planned}
use Rattle.settings.specs.declared.parts.Settings.{Settings}
use Rattle.atomic_table.specs.Seated.{TableId}
use Rattle.line_ends.specs.declared.stop.LineStop.{LineStop}
use Rattle.worker_crew.specs.declared.fault.AllFault.{AllFault}
use Rattle.worker_crew.specs.declared.fault.AllFault.TheVariants.{Memory}
use Rattle.worker_crew.specs.declared.lines.Traced.{Traced}
use Rattle.worker_crew.specs.declared.share.Numbered.{Numbered}
use Rattle.worker_crew.specs.declared.share.Share.{Share}
use Rattle.worker_crew.specs.Dealt.{times, once_below}
use Rattle.work_order.specs.Works.{term_at, need_of}
use Rattle.work_order.specs.Lined.{told, maker_of, told_of, drawn_by}
use Rattle.rewrite_workers.specs.Desks.{IsReady, EachDesk, KeepsDesk}
use Rattle.rewrite_workers.specs.Ends.{BuiltAll, Ended, Stopped}
use Rattle.work_order.specs.Drawn.{AreApart, Rises, numbered}
use Rattle.rewrite_workers.specs.Worked.{of_terms, IsLineAt, HasLines, HasLinesWhere}
use Rattle.rewrite_workers.specs.Shares.{EachShare, Works}
use Rattle.worker_crew.specs.Gathered.{end_of_share, HasOneShare, HasPlaces, PlacesAll, IsWorst}
use Rattle.worker_crew.specs.Crews.{IsAt, IsFresh, drawn_of, number_of}
use Rattle.worker_crew.proofs.Dealing.{sum_most, below_yes, below_no, is_below, is_in}
use Rattle.rewrite_workers.proofs.Ending.{keeps_desk}
use Rattle.rewrite_workers.proofs.Dividing.{drawn_hand, terms_below, terms_rise, times_of_terms, times_most, times_flat}
use Rattle.rewrite_workers.proofs.Eachwise.{Place, lengths, place_at, all_after, all_desks, each_desk, sum_none_all, part_of_all, two_parts}
use Rattle.worker_crew.proofs.Finding.{same_some, contained, place_of}

once_most : (n x : ℕ) → once_below n x ≤ 1
once_most n x = ⊎_elim (λ lt. let a = below_yes n x lt in omega arith) (λ le. let a = below_no n x le in omega arith) (cases_lt x n)

-- what was written through a slice is the whole
write_back : {A : Type 0} (items new : List A) (n : ℕ) → n ≡ length items → length new ≡ length items → take n (new ++ drop (length new) items) ≡ new
write_back {A = A} items new n long same =
    ap (λ (xs : List A). take n (new ++ xs)) (drop_all (length new) items (omega arith)) ∙ (ap (take n) (append-nil new) ∙ take_all n new (omega arith))

-- and so is what is told of each share
pub each_back : {D : Type 0} (P : D → D → Share → Share → Type 0) (olds news : List D) (items begun after : List Share) (n : ℕ) → n ≡ length items → begun ≡ items
    → EachShare P olds news begun after → EachShare P olds news begun (take n (after ++ drop (length after) items))
each_back P olds news items begun after n whole value each =
    let long = lengths P olds news begun after each in
    let a = long.1 in
    let b = long.2 in
    let v = ap (λ (xs : List Share). length xs) value in
    subst (EachShare P olds news begun) (sym (write_back items after n whole (omega (arith, a, b, v)))) each

-- each share of a crew is fresh
pub all_fresh : (table : TableId) (count workers : ℕ) (shares : List Share) → length shares ≡ workers → ((k : ℕ) → k < workers → IsAt table count k shares) → All (IsFresh table count) shares
all_fresh table count workers shares long at = λ k d h.
    let a = at k (omega (arith, long)) in
    subst (IsFresh table count) (sym (get_or_from_slice_get shares k a.share d a.at)) a.fresh

-- what all workers left, and how often each number was drawn
pub record Finished {D : Type 0} (store : D → Store) (same : D → D → Type 0) (s : Settings) (plan : Planned) (symbols : List Named) (terms : List Tree) (olds news : List D) (shares : List Share) : Type 0 where
  pub table : TableId
  pub begun : List Share
  pub each : EachShare (λ d e x y. same d e × Works s plan symbols terms table (store d) (store e) x y) olds news begun shares
  pub places : (k : ℕ) → k < length olds → IsAt table (length terms) k begun
  pub count : ℕ
  pub once : (x : ℕ) → sum_by (λ (y : Share). times x (drawn_of y)) shares ≡ once_below count x

module _ {D : Type 0} (store : D → Store) (same : D → D → Type 0) (s : Settings) (plan : Planned) (symbols : List Named) (terms : List Tree) (olds news : List D) (shares : List Share)
    (f : Finished store same s plan symbols terms olds news shares) where
  abbrev Each : D → D → Share → Share → Type 0
  Each d e x y = same d e × Works s plan symbols terms f.table (store d) (store e) x y

  abbrev Spot : ℕ → Type 0
  Spot k = Place Each olds news f.begun shares k

  -- the terms that a worker drew
  abbrev hand : Share → List ℕ
  hand y = of_terms (length terms) (drawn_of y)

  spot : (k : ℕ) → k < length olds → Spot k
  spot k h = place_at Each olds news f.begun shares f.each k h

  shares_long : length shares ≡ length olds
  shares_long = (lengths Each olds news f.begun shares f.each).2

  -- whoever drew a number
  total : (x : ℕ) → sum_by (λ (y : Share). times x (drawn_of y)) shares ≡ once_below f.count x
  total x = f.once x

  pub ready : All (λ d. IsReady s plan (store d)) news
  ready = all_desks Each (λ d. IsReady s plan (store d)) (λ d e x y p. p.1.ready) olds news f.begun shares f.each

  pub kept : EachDesk (λ k d e. KeepsDesk s (need_of s plan.rules terms) (store d) (store e)) olds news
  kept = each_desk Each (λ k d e. KeepsDesk s (need_of s plan.rules terms) (store d) (store e)) olds news f.begun shares f.each
      (λ k p. let w = p.holds.1.worked in keeps_desk (need_of s plan.rules terms) s plan.rules (numbered terms (hand p.y)) (store p.d) (store p.e) p.y.end w.works w.ended)

  pub same_desks : EachDesk (λ k d e. same d e) olds news
  same_desks = each_desk Each (λ k d e. same d e) olds news f.begun shares f.each (λ k p. p.holds.0)

  apart : AreApart (length terms) (length olds) (map hand shares)
  apart = record {
    one_each = length-map shares hand ∙ shares_long;
    below = All-map (λ (h : List ℕ). All (λ i. i < length terms) h) hand shares
        (all_after Each (λ y. All (λ i. i < length terms) (hand y)) (λ d e x y p. terms_below (length terms) (drawn_of y)) olds news f.begun shares f.each);
    upwards = All-map Rises hand shares
        (all_after Each (λ y. Rises (hand y)) (λ d e x y p. terms_rise (length terms) (drawn_of y) p.1.seat.rises) olds news f.begun shares f.each);
    once = λ i.
        let a = times_flat hand i shares in
        let b = sum_most (λ (y : Share). times i (hand y)) (λ (y : Share). times i (drawn_of y)) shares (λ k y e. times_most (length terms) i (drawn_of y)) in
        let c = total i in let d = once_most f.count i in omega arith;
  }

  -- a fault, and which desks show it
  pub stopped : (fault : AllFault) → IsWorst (map end_of_share shares) (Some fault) ⊎ (fault ≡ Memory) → Stopped store s plan.rules terms olds news fault
  stopped fault worst = record {
    hands = map hand shares;
    ends = map end_of_share shares;
    apart = apart;
    one_end = length-map shares end_of_share ∙ shares_long;
    desks = each_desk Each (λ k old new. (h : List ℕ) × (end : Result (Unit {0}) LineStop) × (slice_get (map hand shares) k ≡ Some h)
        × (slice_get (map end_of_share shares) k ≡ Some end) × Ended s plan.rules (numbered terms h) (store old) (store new) end) olds news f.begun shares f.each
        (λ k p. (
          hand p.y,
          p.y.end,
          slice_get-map hand shares k ∙ ap (option_map hand) p.at_y,
          slice_get-map end_of_share shares k ∙ ap (option_map end_of_share) p.at_y,
          p.holds.1.worked.ended,
        ));
    worst = worst;
  }

  -- each worker went on until no term was left
  module _ (blank lines : List Traced) (some_desk : 0 < length olds) (well : All (λ (end : Result (Unit {0}) LineStop). end ≡ Ok tt) (map end_of_share shares))
      (long : length blank ≡ length terms) (lines_long : length lines ≡ length blank) (placed : PlacesAll shares blank lines) where
    abbrev lined : Share → Type 0
    lined y = y.end ≡ Ok tt → HasLines s symbols plan.rules terms y

    ended_well : (k : ℕ) (y : Share) → slice_get shares k ≡ Some y → y.end ≡ Ok tt
    ended_well k y at = All-contains (λ end. end ≡ Ok tt) (map end_of_share shares) y.end well
        (contained (map end_of_share shares) k y.end (slice_get-map end_of_share shares k ∙ ap (option_map end_of_share) at))

    all_lined : All lined shares
    all_lined = all_after Each lined
        (λ d e x y p well'. subst (HasLinesWhere s symbols plan.rules terms y) well' p.1.worked.lines) olds news f.begun shares f.each

    lines_of : (k : ℕ) (y : Share) → slice_get shares k ≡ Some y → HasLines s symbols plan.rules terms y
    lines_of k y at = All-contains lined shares y all_lined (contained shares k y at) (ended_well k y at)

    -- more numbers were drawn than there are terms
    all_drawn : length terms < f.count
    all_drawn =
        let p = spot 0 some_desk in
        let l = lines_of 0 p.y p.at_y in
        let a = part_of_all (λ (y : Share). times l.last (drawn_of y)) shares 0 p.y p.at_y in
        let b = total l.last in let c = l.drawn in let d = l.past in
        let e : l.last < f.count = is_below f.count l.last (omega arith) in omega arith

    -- each term was drawn once
    drawn_once : (i : ℕ) → i < length terms → sum_by (λ (y : Share). times i (drawn_of y)) shares ≡ 1
    drawn_once i h = total i ∙ below_yes f.count i (let a = all_drawn in omega arith)

    -- the line of a term, and the share that it is of
    record LineOf (i : ℕ) : Type 0 where
      line : Traced
      at : slice_get lines i ≡ Some line
      place : ℕ
      share : Share
      share_at : slice_get shares place ≡ Some share
      made : Contains share.lines.items (record { number = i; line = line })

    line_at : (i : ℕ) → i < length terms → LineOf i
    line_at i h = ⊎_elim
        (λ p. let k = place_of shares p.0 p.1 in record { line = p.2.0; at = p.2.1; place = k.0; share = p.0; share_at = k.1; made = p.2.2 })
        (λ p.
        let nobody : sum_by (λ (y : Share). times i (drawn_of y)) shares ≡ 0 =
        sum_none_all (λ (y : Share). times i (drawn_of y)) shares (all_of (λ k y at. nothing i h k y at (All-contains (λ (z : Share). times i (map number_of z.lines.items) ≡ 0) shares y p.1 (contained shares k y at)))) in
        let one = drawn_once i h in absurd (omega arith))
        (placed i (let l = long in omega arith))
      where
        nothing : (i : ℕ) → i < length terms → (k : ℕ) (y : Share) → slice_get shares k ≡ Some y → times i (map number_of y.lines.items) ≡ 0 → times i (drawn_of y) ≡ 0
        nothing i h k y at none_made = sym (times_of_terms (length terms) i (drawn_of y) h) ∙ (ap (times i) (sym (lines_of k y at).numbers) ∙ none_made)

        all_of : {Q : Share → Type 0} → ((k : ℕ) (y : Share) → slice_get shares k ≡ Some y → Q y) → All Q shares
        all_of q = λ k d h. q k (get_or shares k d) (slice_get-get_or shares k d h)

    is_line : (i : ℕ) (h : i < length terms) → IsLineAt s symbols plan.rules terms (line_at i h).share.worker (record { number = i; line = (line_at i h).line })
    is_line i h = let l = line_at i h in
        All-contains (IsLineAt s symbols plan.rules terms l.share.worker) l.share.lines.items (record { number = i; line = l.line }) (lines_of l.place l.share l.share_at).lines l.made

    -- worker k has the share at place k
    worker_at : (k : ℕ) (y : Share) → slice_get shares k ≡ Some y → y.worker ≡ k
    worker_at k y at =
        let below : k < length olds = let a = slice_get_within shares k y at in let b = shares_long in omega arith in
        let p = spot k below in
        let first = f.places k below in
        let same_y : p.y ≡ y = same_some p.y y (sym p.at_y ∙ at) in
        let same_x : p.x ≡ first.share = same_some p.x first.share (sym p.at_x ∙ first.at) in
        ap (λ (z : Share). z.worker) (sym same_y) ∙ (p.holds.1.seat.worker ∙ (ap (λ (z : Share). z.worker) same_x ∙ first.worker))

    lines_length : length lines ≡ length terms
    lines_length = lines_long ∙ long

    pub all_told : map told lines ≡ map (told_of s symbols plan.rules) terms
    all_told = ext_get_or (told_of s symbols plan.rules (Leaf 0)) (map told lines) (map (told_of s symbols plan.rules) terms)
        (length-map lines told ∙ (lines_length ∙ sym (length-map terms (told_of s symbols plan.rules))))
        (λ i h.
        let inside : i < length terms = let a = length-map lines told in let b = lines_length in omega arith in
        let l = line_at i inside in
        get_or_from_slice_get (map told lines) i (told l.line) (told_of s symbols plan.rules (Leaf 0)) (slice_get-map told lines i ∙ ap (option_map told) l.at)
        ∙ ((is_line i inside).told_is ∙ sym (get_or_from_slice_get (map (told_of s symbols plan.rules) terms) i (told_of s symbols plan.rules (term_at terms i)) (told_of s symbols plan.rules (Leaf 0))
        (slice_get-map (told_of s symbols plan.rules) terms i ∙ ap (option_map (told_of s symbols plan.rules)) (slice_get-get_or terms i (Leaf 0) inside)))))

    -- the worker of a term is the place of the share
    worker_is : (i : ℕ) (h : i < length terms) → get_or (map maker_of lines) i 0 ≡ (line_at i h).place
    worker_is i h = let l = line_at i h in
        get_or_from_slice_get (map maker_of lines) i l.line.line.worker 0 (slice_get-map maker_of lines i ∙ ap (option_map maker_of) l.at)
        ∙ ((is_line i h).drawn_by ∙ worker_at l.place l.share l.share_at)

    pub workers_below : All (λ w. w < length olds) (map maker_of lines)
    workers_below = All-from_get_or (λ w. w < length olds) (map maker_of lines) 0 (λ i h.
        let inside : i < length terms = let a = length-map lines maker_of in let b = lines_length in omega arith in
        let l = line_at i inside in
        let a = worker_is i inside in let b = slice_get_within shares l.place l.share l.share_at in let c = shares_long in omega arith)

    -- a term is in the hand of its worker, and of no other
    in_hand : (i : ℕ) (h : i < length terms) → 0 < times i (hand (line_at i h).share)
    in_hand i h = let l = line_at i h in
        subst (λ (xs : List ℕ). 0 < times i xs) (lines_of l.place l.share l.share_at).numbers (among l.share.lines.items (record { number = i; line = l.line }) l.made)
      where
        among : (xs : List Numbered) (x : Numbered) → Contains xs x → 0 < times x.number (map number_of xs)
        among xs x c = let p = place_of xs x c in
            let at : slice_get (map number_of xs) p.0 ≡ Some x.number = slice_get-map number_of xs p.0 ∙ ap (option_map number_of) p.1 in
            let a = is_in (map number_of xs) p.0 (slice_get_within (map number_of xs) p.0 x.number at) in
            subst (λ n. 0 < times n (map number_of xs)) (get_or_from_slice_get (map number_of xs) p.0 x.number 0 at) a

    one_worker : (i : ℕ) (h : i < length terms) (k : ℕ) (y : Share) → slice_get shares k ≡ Some y → 0 < times i (hand y) → (line_at i h).place ≡ k
    one_worker i h k y at there = let l = line_at i h in dite (ℕ_discrete l.place k) (λ e. e)
        (λ ne.
        let a = two_parts (λ (z : Share). times i (drawn_of z)) shares l.place k l.share y l.share_at at ne in
        let b = drawn_once i h in
        let c = in_hand i h in
        let d = times_of_terms (length terms) i (drawn_of l.share) h in
        let e = times_of_terms (length terms) i (drawn_of y) h in absurd (omega arith))

    hand_is : (k : ℕ) (y : Share) → slice_get shares k ≡ Some y → drawn_by k (map maker_of lines) terms ≡ numbered terms (hand y)
    hand_is k y at = drawn_hand terms k 0 (map maker_of lines) terms (hand y) (record {
      long = length-map lines maker_of ∙ lines_length;
      rises = All-contains (λ (z : Share). Rises (hand z)) shares y
          (all_after Each (λ z. Rises (hand z)) (λ d e x z p. terms_rise (length terms) (drawn_of z) p.1.seat.rises) olds news f.begun shares f.each) (contained shares k y at);
      least = All-weaker (λ i. i < length terms) (λ i. 0 ≤ i) (λ i h. omega arith) (hand y) (terms_below (length terms) (drawn_of y));
      most = All-weaker (λ i. i < length terms) (λ i. i < 0 + length terms) (λ i h. omega arith) (hand y) (terms_below (length terms) (drawn_of y));
      at = λ j h. ap (term_at terms) (sym (zero-add j));
      there = λ j h e.
          let inside : j < length terms = let a = length-map lines maker_of in let b = lines_length in omega arith in
          let l = line_at j inside in
          let place : l.place ≡ k = sym (worker_is j inside) ∙ e in
          let share : l.share ≡ y = same_some l.share y (sym l.share_at ∙ (ap (slice_get shares) place ∙ at)) in
          subst (λ n. 0 < times n (hand y)) (sym (zero-add j)) (subst (λ (z : Share). 0 < times j (hand z)) share (in_hand j inside));
      here = λ j h there.
          let inside : j < length terms = let a = length-map lines maker_of in let b = lines_length in omega arith in
          worker_is j inside ∙ one_worker j inside k y at (subst (λ n. 0 < times n (hand y)) (zero-add j) there);
    })

    pub built : EachDesk (λ k old new. BuiltAll s plan.rules (drawn_by k (map maker_of lines) terms) (store old) (store new)) olds news
    built = each_desk Each (λ k old new. BuiltAll s plan.rules (drawn_by k (map maker_of lines) terms) (store old) (store new)) olds news f.begun shares f.each
        (λ k p. subst (λ (ts : List Tree). BuiltAll s plan.rules ts (store p.d) (store p.e)) (sym (hand_is k p.y p.at_y)) (finished k p).0)
      where
        finished : (k : ℕ) (p : Spot k) → Ended {A = Unit {0}} s plan.rules (numbered terms (hand p.y)) (store p.d) (store p.e) (Ok tt)
        finished k p = subst (Ended s plan.rules (numbered terms (hand p.y)) (store p.d) (store p.e)) (ended_well k p.y p.at_y) p.holds.1.worked.ended

    pub unrefused : EachDesk (λ k old new. (store new).refusals ≡ (store old).refusals) olds news
    unrefused = each_desk Each (λ k old new. (store new).refusals ≡ (store old).refusals) olds news f.begun shares f.each
        (λ k p. (subst (Ended s plan.rules (numbered terms (hand p.y)) (store p.d) (store p.e)) (ended_well k p.y p.at_y) p.holds.1.worked.ended).1)

-- what gathering asks of all shares
module _ {D : Type 0} (store : D → Store) (same : D → D → Type 0) (s : Settings) (plan : Planned) (symbols : List Named) (terms : List Tree) (table : TableId)
    (olds news : List D) (begun shares : List Share) (each : EachShare (λ d e x y. same d e × Works s plan symbols terms table (store d) (store e) x y) olds news begun shares) where
  pub one_share_each : All (HasOneShare table) shares
  one_share_each = all_after (λ d e x y. same d e × Works s plan symbols terms table (store d) (store e) x y) (HasOneShare table)
      (λ d e x y p. record { seat = p.1.seat.seat; shares = p.1.seat.shares }) olds news begun shares each

  pub places_each : (count : ℕ) → count ≡ length terms → All (λ (y : Share). HasPlaces count y.lines.items) shares
  places_each count e = subst (λ n. All (λ (y : Share). HasPlaces n y.lines.items) shares) (sym e)
      (all_after (λ d e x y. same d e × Works s plan symbols terms table (store d) (store e) x y) (λ y. HasPlaces (length terms) y.lines.items)
      (λ d e x y p. p.1.worked.places) olds news begun shares each)
