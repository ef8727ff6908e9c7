-- What a worker's share has, before and after it draws terms.
use Rattle.std.specs.Prelude.{◌≡◌, ℕ, ◌<◌, ◌≤◌, List, [], ◌∷◌, ◌++◌, Result, Ok, Err, map, length, filter, nat_lt, All}
use Rattle.term_model.specs.Tree.{Tree}
use Rattle.terms_api.specs.Terms.{Store}
use Rattle.symbol_pool.specs.Pool.{Named}
use Rattle.rewrite_model.specs.Rule.{Rule}
use Rattle.settings.specs.declared.parts.Settings.{Settings}
use Rattle.atomic_table.specs.Seated.{TableId}
use Rattle.line_ends.specs.declared.stop.LineStop.{LineStop}
use Rattle.worker_crew.specs.declared.lines.Traced.{Traced}
use Rattle.worker_crew.specs.declared.share.Numbered.{Numbered}
use Rattle.worker_crew.specs.declared.share.Share.{Share}
use Rattle.worker_crew.specs.Dealt.{IsIn, times}
use Rattle.worker_crew.specs.Crews.{drawn_of, number_of}
use Rattle.work_order.specs.Works.{term_at, need_of}
use Rattle.work_order.specs.Lined.{Told, told, told_of}
use Rattle.rewrite_workers.specs.Ends.{Ended}
use Rattle.work_order.specs.Drawn.{Rises, numbered}
use Rattle.rewrite_workers.specs.Working.{WorksOn}

-- the numbers that are those of terms
abbrev pub of_terms : ℕ → List ℕ → List ℕ
of_terms count numbers = filter (λ i. nat_lt i count) numbers

-- the seat and the worker's number are as before
pub record KeepsSeat (old new : Share) : Type 0 where
  pub seat : new.seat ≡ old.seat
  pub worker : new.worker ≡ old.worker

-- one line more, of the term with this number
pub record AddsLine (old new : Share) (number : ℕ) (wanted : Told) : Type 0 where
  pub line : Traced
  pub lines : new.lines.items ≡ old.lines.items ++ record { number = number; line = line } ∷ []
  pub told_is : told line ≡ wanted
  pub worker : line.line.worker ≡ old.worker

-- the same seat with what it has drawn, upwards, and the same worker
pub record Drew (table : TableId) (old new : Share) : Type 0 where
  pub seat : IsIn table new.seat.table_id new.seat.me new.seat.me.0
  pub shares : new.seat.me.0.shares ≡ 1
  pub rises : Rises (drawn_of new)
  pub worker : new.worker ≡ old.worker

-- the line is that of the term with its number, by this worker
pub record IsLineAt (s : Settings) (symbols : List Named) (rules : List Rule) (terms : List Tree)
    (worker : ℕ) (x : Numbered) : Type 0 where
  pub told_is : told x.line ≡ told_of s symbols rules (term_at terms x.number)
  pub drawn_by : x.line.line.worker ≡ worker

-- the lines of all terms that were drawn, and that no term was left to draw
pub record HasLines (s : Settings) (symbols : List Named) (rules : List Rule) (terms : List Tree)
    (share : Share) : Type 0 where
  pub numbers : map number_of share.lines.items ≡ of_terms (length terms) (drawn_of share)
  pub lines : All (IsLineAt s symbols rules terms share.worker) share.lines.items
  pub last : ℕ
  pub past : length terms ≤ last
  pub drawn : 0 < times last (drawn_of share)

abbrev pub HasLinesWhere : Settings → List Named → List Rule → List Tree → Share
    → Result (Unit {0}) LineStop → Type 0
HasLinesWhere s symbols rules terms share (Ok _) = HasLines s symbols rules terms share
HasLinesWhere s symbols rules terms share (Err stop) = Unit {0}

-- What a worker leaves: the lines of the terms that it drew, or why it stopped, and its desk.
pub record Worked (s : Settings) (symbols : List Named) (rules : List Rule) (terms : List Tree)
    (old new : Store) (share : Share) (end : Result (Unit {0}) LineStop) : Type 0 where
  pub ended : Ended s rules (numbered terms (of_terms (length terms) (drawn_of share))) old new end
  pub works : WorksOn s (need_of s rules terms) old new end
  pub places : All (λ x. x.number < length terms) share.lines.items
  pub lines : HasLinesWhere s symbols rules terms share end
