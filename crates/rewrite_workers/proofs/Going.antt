-- A worker that draws one term after another.
use Rattle.std.proofs.Common.{◌≡◌, ℕ, ◌+◌, ◌-◌, ◌<◌, ◌≤◌, cond, true, List, [], ◌∷◌, ◌++◌, length, map, max, nat_lt, refl, sym, ap, subst, ◌∙◌, arith, All}
use Rattle.std.specs.Prelude.{Result, Ok, Err, is_ok, if◌then◌else◌}
use Rattle.std.proofs.lemmas.List.{append-nil, map-append}
use Rattle.std.proofs.lemmas.Bool.{lt-ltb, le-ltb}
use Rattle.std.proofs.lemmas.List.Elements.{All-nil, All-head, All-tail, All-push, filter-append}
use Rattle.term_model.specs.Tree.{Tree}
use Rattle.terms_api.specs.Terms.{Store}
use Rattle.symbol_pool.specs.Pool.{Named}
use Rattle.rewrite_model.specs.Rule.{Rule}
use Rattle.settings.specs.declared.parts.Settings.{Settings}
use Rattle.atomic_table.specs.Seated.{TableId}
use Rattle.line_ends.specs.declared.stop.LineStop.{LineStop}
use Rattle.line_ends.specs.declared.stop.LineStop.TheVariants as stop
use Rattle.worker_crew.specs.declared.draws.Drawn.{Drawn}
use Rattle.worker_crew.specs.declared.share.Numbered.{Numbered}
use Rattle.worker_crew.specs.declared.share.Share.{Share}
use Rattle.worker_crew.specs.Dealt.{IsIn, drew, times}
use Rattle.work_order.specs.Works.{term_at, need_at, need_of}
use Rattle.work_order.specs.Lined.{told_of}
use Rattle.rewrite_workers.specs.Ends.{BuiltAll, Ended}
use Rattle.work_order.specs.Drawn.{Rises, numbered}
use Rattle.rewrite_workers.specs.Working.{WorksOn}
use Rattle.rewrite_workers.specs.Worked.{of_terms, KeepsSeat, AddsLine, Drew, IsLineAt, HasLinesWhere, Worked}
use Rattle.worker_crew.specs.Crews.{drawn_of, number_of, IsFresh}
use Rattle.worker_crew.proofs.Dealing.{times_snoc, hit_same}
use Rattle.rewrite_workers.proofs.Ending.{numbered-append, nothing_more, all_front, ended_after, works_after, works_begin, works_unbegun, need_most}

pub rises_snoc : (xs : List ℕ) (n : ℕ) → Rises xs → All (λ x. x < n) xs → Rises (xs ++ n ∷ [])
rises_snoc [] n r h = (All-nil (λ j. n < j), tt)
rises_snoc (x ∷ xs) n r h =
    (All-push (λ j. x < j) xs n r.0 (All-head (λ y. y < n) x xs h), rises_snoc xs n r.1 (All-tail (λ y. y < n) x xs h))

-- all are those of terms
pub all_of_terms : (count : ℕ) (xs : List ℕ) → All (λ x. x < count) xs → of_terms count xs ≡ xs
all_of_terms count [] h = refl
all_of_terms count (x ∷ xs) h =
    ap (λ b. cond b (x ∷ of_terms count xs) (of_terms count xs)) (lt-ltb x count (All-head (λ y. y < count) x xs h))
    ∙ ap (λ (ys : List ℕ). x ∷ ys) (all_of_terms count xs (All-tail (λ y. y < count) x xs h))

-- the last isn't
pub past_terms : (count : ℕ) (xs : List ℕ) (n : ℕ) → count ≤ n → All (λ x. x < count) xs → of_terms count (xs ++ n ∷ []) ≡ xs
past_terms count xs n past h =
    filter-append (λ i. nat_lt i count) xs (n ∷ [])
    ∙ ap (λ (ys : List ℕ). of_terms count xs ++ ys) (ap (λ b. cond b (n ∷ []) []) (le-ltb n count past))
    ∙ append-nil (of_terms count xs)
    ∙ all_of_terms count xs h

-- one more than the greatest of some numbers
abbrev pub next_of : List ℕ → ℕ
next_of [] = 0
next_of (x ∷ xs) = max (x + 1) (next_of xs)

pub next-snoc : (xs : List ℕ) (n : ℕ) → next_of (xs ++ n ∷ []) ≡ max (next_of xs) (n + 1)
next-snoc [] n = omega arith
next-snoc (x ∷ xs) n = let h = next-snoc xs n in omega arith

pub next_most : (xs : List ℕ) (n : ℕ) → All (λ x. x < n) xs → next_of xs ≤ n
next_most [] n h = omega arith
next_most (x ∷ xs) n h =
    let a : x < n = All-head (λ y. y < n) x xs h in
    let b = next_most xs n (All-tail (λ y. y < n) x xs h) in omega arith

-- So far the seat drew the numbers of the lines, upwards, and the desk built all that these terms
-- build.
pub record Going (table : TableId) (s : Settings) (symbols : List Named) (rules : List Rule) (terms : List Tree) (old now : Store) (begun share : Share) : Type 0 where
  pub seat : IsIn table share.seat.table_id share.seat.me share.seat.me.0
  pub shares : share.seat.me.0.shares ≡ 1
  pub end : share.seat.me.0.end ≡ length terms
  pub past : share.seat.me.0.past ≡ 0
  pub rises : Rises (drawn_of share)
  pub below : All (λ i. i < length terms) (drawn_of share)
  pub numbers : map number_of share.lines.items ≡ drawn_of share
  pub lines : All (IsLineAt s symbols rules terms share.worker) share.lines.items
  pub places : All (λ (x : Numbered). x.number < length terms) share.lines.items
  pub worker : share.worker ≡ begun.worker
  pub built : BuiltAll s rules (numbered terms (drawn_of share)) old now
  pub refusals : now.refusals ≡ old.refusals
  pub works : WorksOn {A = Unit {0}} s (need_of s rules terms) old now (Ok tt)

-- a number was drawn
pub record Draws (table : TableId) (share next : Share) (n : ℕ) : Type 0 where
  pub seat : IsIn table next.seat.table_id next.seat.me (drew share.seat.me.0 n)
  pub above : All (λ x. x < n) (drawn_of share)
  pub lines : next.lines ≡ share.lines
  pub worker : next.worker ≡ share.worker

module _ (table : TableId) (s : Settings) (symbols : List Named) (rules : List Rule) (terms : List Tree) where
  pub begin : (a : Store) (share : Share) → IsFresh table (length terms) share → Going table s symbols rules terms a a share share
  begin a share fresh = record {
    seat = fresh.seat;
    shares = fresh.shares;
    end = fresh.end;
    past = fresh.past;
    rises = subst Rises (sym fresh.none) tt;
    below = subst (All (λ i. i < length terms)) (sym fresh.none) (All-nil (λ i. i < length terms));
    numbers = ap (map number_of) fresh.no_lines ∙ sym fresh.none;
    lines = subst (All (IsLineAt s symbols rules terms share.worker)) (sym fresh.no_lines) (All-nil (IsLineAt s symbols rules terms share.worker));
    places = subst (All (λ (x : Numbered). x.number < length terms)) (sym fresh.no_lines) (All-nil (λ (x : Numbered). x.number < length terms));
    worker = refl;
    built = subst (λ (xs : List ℕ). BuiltAll s rules (numbered terms xs) a a) (sym fresh.none) (nothing_more s rules a);
    refusals = refl;
    works = works_begin s (need_of s rules terms) a tt;
  }

  -- the view and the numbers after a draw
  abbrev view : Share → Drawn
  view share = share.seat.me.0

  drew_view : (share next : Share) (n : ℕ) → Draws table share next n → view next ≡ drew (view share) n
  drew_view share next n d = ap (λ m. m.0) d.seat.me_is

  drew_numbers : (share next : Share) (n : ℕ) → Draws table share next n → drawn_of next ≡ drawn_of share ++ n ∷ []
  drew_numbers share next n d = ap (λ (v : Drawn). v.numbers) (drew_view share next n d)

  drew_in : (share next : Share) (n : ℕ) → Draws table share next n → IsIn table next.seat.table_id next.seat.me (view next)
  drew_in share next n d = subst (IsIn table next.seat.table_id next.seat.me) (sym (drew_view share next n d)) d.seat

  drew_rises : (share next : Share) (n : ℕ) → Draws table share next n → Rises (drawn_of share) → Rises (drawn_of next)
  drew_rises share next n d r = subst Rises (sym (drew_numbers share next n d)) (rises_snoc (drawn_of share) n r d.above)

  -- no term was left
  pub finish : (a b : Store) (begun share next : Share) (n : ℕ) → Going table s symbols rules terms a b begun share → Draws table share next n → length terms ≤ n →
      Drew table begun next × Worked s symbols rules terms a b next (Ok tt)
  finish a b begun share next n g d past =
      let drawn = drew_numbers share next n d in
      let same : of_terms (length terms) (drawn_of next) ≡ drawn_of share = ap (of_terms (length terms)) drawn ∙ past_terms (length terms) (drawn_of share) n past g.below in (
        record {
          seat = drew_in share next n d;
          shares = ap (λ (v : Drawn). v.shares) (drew_view share next n d) ∙ g.shares;
          rises = drew_rises share next n d g.rises;
          worker = d.worker ∙ g.worker;
        },
        record {
          ended = (subst (λ (xs : List ℕ). BuiltAll s rules (numbered terms xs) a b) (sym same) g.built, g.refusals);
          works = g.works;
          places = subst (λ l. All (λ (x : Numbered). x.number < length terms) l.items) (sym d.lines) g.places;
          lines = record {
            numbers = ap (λ l. map number_of l.items) d.lines ∙ (g.numbers ∙ sym same);
            lines = subst (λ l. All (IsLineAt s symbols rules terms next.worker) l.items) (sym d.lines)
                (subst (λ w. All (IsLineAt s symbols rules terms w) share.lines.items) (sym d.worker) g.lines);
            last = n;
            past = past;
            drawn = subst (λ (xs : List ℕ). 0 < times n xs) (sym drawn) (let p = times_snoc n n (drawn_of share) in let q = hit_same n in omega arith);
          };
        },
      )

  abbrev numbers_on : Share → ℕ → List ℕ
  numbers_on share n = drawn_of share ++ n ∷ []

  -- what was drawn, with a term more
  on_terms : (share next : Share) (n : ℕ) → Draws table share next n → n < length terms → All (λ i. i < length terms) (drawn_of share) →
      of_terms (length terms) (drawn_of next) ≡ drawn_of next
  on_terms share next n d inside below =
      all_of_terms (length terms) (drawn_of next)
      (subst (All (λ i. i < length terms)) (sym (drew_numbers share next n d)) (All-push (λ i. i < length terms) (drawn_of share) n below inside))

  on_numbered : (share next : Share) (n : ℕ) → Draws table share next n → numbered terms (drawn_of next) ≡ numbered terms (drawn_of share) ++ term_at terms n ∷ []
  on_numbered share next n d = ap (numbered terms) (drew_numbers share next n d) ∙ numbered-append terms (drawn_of share) (n ∷ [])

  -- it stopped at the term that it drew
  pub halt : (a b c : Store) (begun share next last : Share) (n : ℕ) (e : LineStop) → Going table s symbols rules terms a b begun share → Draws table share next n → n < length terms →
      KeepsSeat next last → last.lines.items ≡ next.lines.items → Ended {A = Unit {0}} s rules (term_at terms n ∷ []) b c (Err e) → WorksOn {A = Unit {0}} s (need_at s rules terms n) b c (Err e) →
      Drew table begun last × Worked s symbols rules terms a c last (Err e)
  halt a b c begun share next last n e g d inside keeps unmade ended works =
      let kept : drawn_of last ≡ drawn_of next = ap (λ x. x.me.0.numbers) keeps.seat in
      let same : of_terms (length terms) (drawn_of last) ≡ drawn_of next = ap (of_terms (length terms)) kept ∙ on_terms share next n d inside g.below in (
        record {
          seat = subst (λ x. IsIn table x.table_id x.me x.me.0) (sym keeps.seat) (drew_in share next n d);
          shares = ap (λ x. x.me.0.shares) keeps.seat ∙ (ap (λ (v : Drawn). v.shares) (drew_view share next n d) ∙ g.shares);
          rises = subst Rises (sym kept) (drew_rises share next n d g.rises);
          worker = keeps.worker ∙ (d.worker ∙ g.worker);
        },
        record {
          ended = subst (λ (ts : List Tree). Ended {A = Unit {0}} s rules ts a c (Err e)) (sym (ap (numbered terms) same ∙ on_numbered share next n d))
              (ended_after s rules {A = Unit {0}} (numbered terms (drawn_of share)) (term_at terms n) a b c (Err e) g.built g.refusals ended);
          works = works_after s (need_of s rules terms) (need_at s rules terms n) a b c tt (Err e) (need_most s rules terms n inside) g.works works;
          places = subst (All (λ (x : Numbered). x.number < length terms)) (sym (unmade ∙ ap (λ l. l.items) d.lines)) g.places;
          lines = tt;
        },
      )

  -- the line of the term was made
  pub go_on : (a b c : Store) (begun share next last : Share) (n : ℕ) → Going table s symbols rules terms a b begun share → Draws table share next n → n < length terms →
      KeepsSeat next last → AddsLine next last n (told_of s symbols rules (term_at terms n)) →
      Ended {A = Unit {0}} s rules (term_at terms n ∷ []) b c (Ok tt) → WorksOn {A = Unit {0}} s (need_at s rules terms n) b c (Ok tt) →
      Going table s symbols rules terms a c begun last
  go_on a b c begun share next last n g d inside keeps adds ended works =
      let kept : drawn_of last ≡ drawn_of next = ap (λ x. x.me.0.numbers) keeps.seat in
      let drawn : drawn_of last ≡ drawn_of share ++ n ∷ [] = kept ∙ drew_numbers share next n d in
      let whole = ended_after s rules {A = Unit {0}} (numbered terms (drawn_of share)) (term_at terms n) a b c (Ok tt) g.built g.refusals ended in
      let at = view next in
      record {
        seat = subst (λ x. IsIn table x.table_id x.me x.me.0) (sym keeps.seat) (drew_in share next n d);
        shares = ap (λ x. x.me.0.shares) keeps.seat ∙ (ap (λ (v : Drawn). v.shares) (drew_view share next n d) ∙ g.shares);
        end = ap (λ x. x.me.0.end) keeps.seat ∙ (ap (λ (v : Drawn). v.end) (drew_view share next n d) ∙ g.end);
        past = ap (λ x. x.me.0.past) keeps.seat ∙ (ap (λ (v : Drawn). v.past) (drew_view share next n d)
            ∙ (ap (λ b. cond b (view share).past ((view share).past + 1)) (lt-ltb n (view share).end (let h = g.end in omega arith)) ∙ g.past));
        rises = subst Rises (sym kept) (drew_rises share next n d g.rises);
        below = subst (All (λ i. i < length terms)) (sym drawn) (All-push (λ i. i < length terms) (drawn_of share) n g.below inside);
        numbers = ap (map number_of) adds.lines ∙ (map-append number_of next.lines.items (record { number = n; line = adds.line } ∷ [])
            ∙ (ap (λ (xs : List ℕ). xs ++ n ∷ []) (ap (λ l. map number_of l.items) d.lines ∙ g.numbers) ∙ sym drawn));
        lines = subst (All (IsLineAt s symbols rules terms last.worker)) (sym adds.lines)
            (All-push (IsLineAt s symbols rules terms last.worker) next.lines.items (record { number = n; line = adds.line })
            (subst (λ l. All (IsLineAt s symbols rules terms last.worker) l.items) (sym d.lines)
            (subst (λ w. All (IsLineAt s symbols rules terms w) share.lines.items) (sym (keeps.worker ∙ d.worker)) g.lines))
            (record { told_is = adds.told_is; drawn_by = adds.worker ∙ sym keeps.worker }));
        places = subst (All (λ (x : Numbered). x.number < length terms)) (sym adds.lines)
            (All-push (λ (x : Numbered). x.number < length terms) next.lines.items (record { number = n; line = adds.line })
            (subst (λ l. All (λ (x : Numbered). x.number < length terms) l.items) (sym d.lines) g.places) inside);
        worker = keeps.worker ∙ (d.worker ∙ g.worker);
        built = subst (λ (ts : List Tree). BuiltAll s rules ts a c) (sym (ap (numbered terms) kept ∙ on_numbered share next n d)) whole.0;
        refusals = whole.1;
        works = works_after s (need_of s rules terms) (need_at s rules terms n) a b c tt (Ok tt) (need_most s rules terms n inside) g.works works;
      }

  -- fewer terms are left
  pub smaller : (share next last : Share) (n : ℕ) → Draws table share next n → n < length terms → KeepsSeat next last →
      length terms - next_of (drawn_of last) < length terms - next_of (drawn_of share)
  smaller share next last n d inside keeps =
      let drawn : drawn_of last ≡ drawn_of share ++ n ∷ [] = ap (λ x. x.me.0.numbers) keeps.seat ∙ drew_numbers share next n d in
      let a : next_of (drawn_of last) ≡ max (next_of (drawn_of share)) (n + 1) = ap next_of drawn ∙ next-snoc (drawn_of share) n in
      let b = next_most (drawn_of share) n d.above in omega arith

  -- there was no memory to begin
  pub unbegun : (a : Store) (share : Share) → IsFresh table (length terms) share → Drew table share share × Worked s symbols rules terms a a share (Err stop.Memory)
  unbegun a share fresh =
      let g = begin a share fresh in (
        record { seat = fresh.seat; shares = fresh.shares; rises = g.rises; worker = refl },
        record {
          ended = (all_front s rules (numbered terms (of_terms (length terms) (drawn_of share))) a a (subst (λ (xs : List ℕ). BuiltAll s rules (numbered terms xs) a a) (sym (all_of_terms (length terms) (drawn_of share) g.below)) g.built), refl);
          works = works_unbegun (Unit {0}) s (need_of s rules terms) a;
          places = g.places;
          lines = tt;
        },
      )

-- how it ended is noted
pub worked_end : (s : Settings) (symbols : List Named) (rules : List Rule) (terms : List Tree) (a b : Store) (share : Share) (r : Result (Unit {0}) LineStop) →
    Worked s symbols rules terms a b share r → Worked s symbols rules terms a b (record share { end = r }) r
worked_end s symbols rules terms a b share r w = record { ended = w.ended; works = w.works; places = w.places; lines = lines r w.lines }
  where
    lines : (q : Result (Unit {0}) LineStop) → HasLinesWhere s symbols rules terms share q → HasLinesWhere s symbols rules terms (record share { end = r }) q
    lines (Ok _) l = record { numbers = l.numbers; lines = l.lines; last = l.last; past = l.past; drawn = l.drawn }
    lines (Err e) l = tt

-- what was put behind, where it was put
pub pushed_ok : {A E : Type 0} (r : Result (Unit {0}) E) (xs ys zs : List A) → zs ≡ (if is_ok r then ys else xs) → is_ok r ≡ true → zs ≡ ys
pushed_ok r xs ys zs e is = e ∙ ap (λ b. if b then ys else xs) is
