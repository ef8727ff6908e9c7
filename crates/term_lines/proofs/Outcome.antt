-- What holds at each end of a line.
use Rattle.std.proofs.Common.{◌≡◌, ℕ, ◌-◌, List, [], ◌++◌, Bool, true, false, length, refl, sym, ◌∙◌, ap, arith, Err}
use Rattle.std.specs.Prelude.{if◌then◌else◌}
use Rattle.std.proofs.lemmas.List.{drop_all}
use Rattle.term_model.specs.Tree.{Tree}
use Rattle.terms_api.specs.Terms.{Store, kept}
use Rattle.rewrite_model.specs.Rule.{Rule}
use Rattle.rewrite_model.specs.Run.{Ended, Done}
use Rattle.rewrite_model.specs.declared.event.Event.{Event}
use Rattle.innermost.specs.Normalized.{KeepsNumbers}
use Rattle.innermost.specs.declared.normal.Normal.{Normal}
use Rattle.term_lines.specs.Line.{line_text, value_text, is_written, kind_of, spent_of, is_value, is_value_kind}
use Rattle.term_lines.specs.Tracing.{events_of}
use Rattle.term_lines.specs.Written.{top_tree, BuildsForLine, CountsRefusals, SweepsForLine}
use Rattle.term_lines.specs.declared.strategy.Strategy.{Strategy}
use Rattle.term_lines.specs.declared.ending.Ending.{Ending}
use Rattle.line_ends.specs.declared.kind.LineKind.{LineKind}
use Rattle.line_ends.specs.declared.kind.LineKind.TheVariants as kind
use Rattle.term_lines.specs.declared.rewriter.Rewriter.{Rewriter}
use Rattle.symbol_pool.specs.Pool.{Named}
use Rattle.line_ends.specs.declared.stop.LineStop.{LineStop}
use Rattle.line_ends.specs.declared.stop.LineStop.TheVariants.{StoreFull, Worn, Memory}

-- nothing is kept
pub kept_none : (s : Store) → (kept s 0 0).stack ≡ []
kept_none s = drop_all (length s.stack - 0) s.stack (omega arith)

pub kept_numbers : (old s : Store) → KeepsNumbers old s → KeepsNumbers old (kept s 0 0)
kept_numbers old s n = record { inside = n.inside; rows = n.rows; widest = n.widest; room = n.room; sweeps = n.sweeps; load = n.load }

-- no events are told where there is no value
pub no_events : (told : Bool) (rules : List Rule) (term : Tree) (fuel : ℕ) → [] ≡ events_of told rules term fuel false
no_events true rules term fuel = refl
no_events false rules term fuel = refl

-- those of a value stay where it is written
pub value_events : (told written : Bool) (rules : List Rule) (term : Tree) (fuel : ℕ) (events : List Event) → events ≡ events_of told rules term fuel true → (if written then events else []) ≡ events_of told rules term fuel (is_value_kind (if written then kind.Value else kind.TooLarge))
value_events told true rules term fuel events e = e
value_events told false rules term fuel events e = no_events told rules term fuel

-- a stop is one of a line too
module _ (strategy : Strategy) (told remembered : Bool) (rules : List Rule) (term : Tree) (fuel room : ℕ) (old new : Store) where
  pub stop_built : (stop : LineStop) → BuildsForLine {A = Normal} strategy told remembered rules term fuel room old new (Err stop) → BuildsForLine {A = Ending} strategy told remembered rules term fuel room old new (Err stop)
  stop_built StoreFull b = b
  stop_built Worn b = b
  stop_built Memory b = b

pub stop_refusals : (old new : Store) (stop : LineStop) → CountsRefusals {A = Normal} old new (Err stop) → CountsRefusals {A = Ending} old new (Err stop)
stop_refusals old new StoreFull r = r
stop_refusals old new Worn r = r
stop_refusals old new Memory r = r

pub stop_sweeps : (old new : Store) (stop : LineStop) → SweepsForLine {A = Normal} old new (Err stop) → SweepsForLine {A = Ending} old new (Err stop)
stop_sweeps old new StoreFull s = s
stop_sweeps old new Worn s = s
stop_sweeps old new Memory s = s

-- what is said of a value, by the rewriter that is as it was and the tree on the stack
module _ (w self : Rewriter) (same : w ≡ self) (mid : Store) (t : Tree) (first : top_tree mid ≡ t) (left : ℕ) (end : Ended Tree) (done : end ≡ Done t left) where
  pub value_line : (symbols : List Named) (out now : List ℕ) → now ≡ out ++ value_text w.sizes symbols (top_tree mid) → now ≡ out ++ line_text self.sizes symbols end
  value_line symbols out now e =
      e ∙ ap (λ (v : Rewriter). out ++ value_text v.sizes symbols (top_tree mid)) same ∙ ap (λ u. out ++ value_text self.sizes symbols u) first ∙ ap (λ (x : Ended Tree). out ++ line_text self.sizes symbols x) (sym done)

  pub value_written : (written : Bool) → written ≡ is_written w.sizes (top_tree mid) → written ≡ is_written self.sizes t
  value_written written e = e ∙ ap (λ (v : Rewriter). is_written v.sizes (top_tree mid)) same ∙ ap (is_written self.sizes) first

  module _ (written : Bool) (is : written ≡ is_written self.sizes t) where
    pub value_kind : (k : LineKind) → k ≡ (if written then kind.Value else kind.TooLarge) → k ≡ kind_of self.sizes end
    value_kind k e = e ∙ ap (λ b. if b then kind.Value else kind.TooLarge) is ∙ ap (kind_of self.sizes) (sym done)

    pub value_spent : (n : ℕ) → n ≡ (if written then w.fuel - left else 0) → n ≡ spent_of self.sizes self.fuel end
    value_spent n e = e ∙ ap (λ b. if b then w.fuel - left else 0) is ∙ ap (λ (v : Rewriter). if is_written self.sizes t then v.fuel - left else 0) same ∙ ap (spent_of self.sizes self.fuel) (sym done)

    pub value_told : (told : Bool) (rules : List Rule) (term : Tree) (events now : List Event) → events ≡ events_of told rules term self.fuel true → now ≡ (if written then events else []) → now ≡ events_of told rules term self.fuel (is_value self.sizes end)
    value_told told rules term events now e n =
        n ∙ value_events told written rules term self.fuel events e
        ∙ ap (λ b. events_of told rules term self.fuel (is_value_kind (if b then kind.Value else kind.TooLarge))) is
        ∙ ap (λ (x : Ended Tree). events_of told rules term self.fuel (is_value self.sizes x)) (sym done)

-- what is said where there is no value
module _ (sizes : Bool) (end is : Ended Tree) (none : end ≡ is) where
  pub none_line : (symbols : List Named) (out now : List ℕ) → now ≡ out ++ line_text sizes symbols is → now ≡ out ++ line_text sizes symbols end
  none_line symbols out now e = e ∙ ap (λ (x : Ended Tree). out ++ line_text sizes symbols x) (sym none)

  pub none_told : (told : Bool) (rules : List Rule) (term : Tree) (fuel : ℕ) (now : List Event) → is_value sizes is ≡ false → now ≡ [] → now ≡ events_of told rules term fuel (is_value sizes end)
  none_told told rules term fuel now v n =
      n ∙ no_events told rules term fuel ∙ ap (events_of told rules term fuel) (sym v) ∙ ap (λ (x : Ended Tree). events_of told rules term fuel (is_value sizes x)) (sym none)
