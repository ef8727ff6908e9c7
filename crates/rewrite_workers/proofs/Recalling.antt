-- What a worker remembers from one term to the next, and how its rewriter is asked.
use Rattle.std.proofs.Common.{◌≡◌, ◌⊎◌, inl, inr, ℕ, ◌<◌, Bool, true, false, List, [], ◌∷◌, length, Option, None, Some, refl, sym, ap, subst, ◌∙◌, arith}
use Rattle.std.specs.Prelude.{All, Result, ◌==◌, ◌&&◌}
use Rattle.std.proofs.lemmas.Bool.{eqb-true}
use Rattle.std.proofs.lemmas.List.Elements.{All-nil, All-cons}
use Rattle.term_model.specs.Tree.{Tree}
use Rattle.term_model.proofs.Order.{both_hold}
use Rattle.term_model.specs.declared.Row.{Row}
use Rattle.terms_api.specs.Terms.{Store, Entered, Left, KeepsAll, IsLater}
use Rattle.symbol_pool.specs.Pool.{Named}
use Rattle.rewrite_model.specs.Rule.{Rule, Condition, IsUnconditional}
use Rattle.rewrite_model.specs.declared.event.Event.{Event}
use Rattle.rule_match.specs.Planned.{Planned}
use Rattle.innermost.specs.Remembered.{Map}
use Rattle.settings.specs.declared.parts.Settings.{Settings}
use Rattle.term_lines.specs.Line.{line_text, kind_of, spent_of, is_value}
use Rattle.term_lines.specs.Strategies.{ended}
use Rattle.term_lines.specs.Tracing.{tells, remembers, MayTell, events_of}
use Rattle.line_ends.specs.declared.kind.LineKind.{LineKind}
use Rattle.term_lines.specs.declared.strategy.Strategy.{Strategy}
use Rattle.term_lines.specs.declared.strategy.Strategy.TheVariants.{Innermost, Outermost}
use Rattle.term_lines.specs.Written.{BuildsForLine, MayRecall}
use Rattle.term_lines.specs.declared.ending.Ending.{Ending}
use Rattle.term_lines.specs.declared.rewriter.Rewriter.{Rewriter}
use Rattle.line_ends.specs.declared.stop.LineStop.{LineStop}
use Rattle.term_lines.proofs.Recalling.{may_still}
use Rattle.innermost.proofs.Memories.{none_right}
use Rattle.work_order.specs.Lined.{Told, told_of}
use Rattle.work_order.specs.Works.{strategy_of, is_traced, are_unconditional, tells_events, remembers_results}
use Rattle.rewrite_workers.specs.Working.{IsRewriterOf, Recalls}

-- ---- the epoch of the desk

no_later : (n : ℕ) (old new : Option ℕ) → old ≡ Some n → new ≡ Some n → IsLater old new → ⊥
no_later n old new e f later = let less : n < n = subst (λ o. IsLater (Some n) o) f (subst (λ o. IsLater o new) e later) in omega (arith, less)

keeps_all : (left now : Store) (n : ℕ) → Entered left now → left.epoch ≡ Some n → now.epoch ≡ Some n → KeepsAll left now
keeps_all left now n entered e f = by entered.rows.epoch
  where
    by : ((now.epoch ≡ left.epoch) × KeepsAll left now) ⊎ IsLater left.epoch now.epoch → KeepsAll left now
    by (inl same) = same.1
    by (inr later) = absurd (no_later n left.epoch now.epoch e f later)

-- the epoch is the one at which the desk was left
pub same_epoch : (s : Settings) (rules : List Rule) (left now : Store) (map : Map) (epoch : Option ℕ) (n : ℕ) → epoch ≡ Some n → now.epoch ≡ Some n → Recalls s rules left map epoch → Entered left now →
    MayRecall (remembers_results s rules) rules now map
same_epoch s rules left now map epoch n e f recalls entered =
    may_still (remembers_results s rules) rules left now map (keeps_all left now n entered (recalls.epoch_is n e) f) (ap (λ (x : Store). x.built) entered.rest) recalls.right

-- the desk was left
pub left_with : (s : Settings) (rules : List Rule) (now desk : Store) (map : Map) (epoch : Option ℕ) → MayRecall (remembers_results s rules) rules now map → epoch ≡ now.epoch → Left now desk → Recalls s rules desk map epoch
left_with s rules now desk map epoch right e left =
    let held : (r : Row) → desk.held r ≡ now.held r = λ r. ap (λ (x : Store). x.held r) left.rest in
    record {
      right = may_still (remembers_results s rules) rules now desk map (λ r t has. held r ∙ has) (ap (λ (x : Store). x.built) left.rest) right;
      epoch_is = λ n f. ap (λ (x : Store). x.epoch) left.rest ∙ (sym e ∙ f);
    }

-- ---- events are told of rules without conditions alone
no_conditions : (cs : List Condition) → (length cs == 0) ≡ true → cs ≡ []
no_conditions [] e = refl
no_conditions (c ∷ cs) e = absurd (let none = eqb-true (length (c ∷ cs)) 0 e in omega (arith, none))

unconditional : (rules : List Rule) → are_unconditional rules ≡ true → All IsUnconditional rules
unconditional [] e = All-nil IsUnconditional
unconditional (r ∷ rs) e =
    let both = both_hold (length r.conditions == 0) (are_unconditional rs) e in
    All-cons IsUnconditional r rs (no_conditions r.conditions both.0) (unconditional rs both.1)

may_tell : (by : Strategy) (trace : Bool) (rules : List Rule) → MayTell (tells by (trace && are_unconditional rules)) rules
may_tell Innermost trace rules = λ e. unconditional rules (both_hold trace (are_unconditional rules) e).1
may_tell Outermost trace rules = λ e. absurd cc

abbrev MadeOf : LineKind → List ℕ → ℕ → List Event → Told
MadeOf kind text spent events = record { line = record { kind = kind; text = text; spent = spent }; events = events }

made_same : (k l : LineKind) (t u : List ℕ) (m n : ℕ) (e f : List Event) → k ≡ l → t ≡ u → m ≡ n → e ≡ f → MadeOf k t m e ≡ MadeOf l u n f
made_same k l t u m n e f a b c d = λ i. record { line = record { kind = a i; text = b i; spent = c i }; events = d i }

-- ---- what the rewriter is asked, by the settings
module _ (s : Settings) (plan : Planned) (rewriter : Rewriter) (is : IsRewriterOf s plan rewriter) where
  asked : remembers rewriter.strategy rewriter.traced rewriter.remembers ≡ remembers_results s plan.rules
  asked = ap (λ by. remembers by rewriter.traced rewriter.remembers) is.strategy ∙ (ap (λ b. remembers (strategy_of s.command) b rewriter.remembers) is.traced
      ∙ ap (λ b. remembers (strategy_of s.command) (is_traced s plan.rules) b) is.remembers)

  pub recalls_asked : (rules : List Rule) (desk : Store) (map : Map) → MayRecall (remembers_results s plan.rules) rules desk map → MayRecall (remembers rewriter.strategy rewriter.traced rewriter.remembers) rules desk map
  recalls_asked rules desk map right = subst (λ b. MayRecall b rules desk map) (sym asked) right

  pub recalls_told : (rules : List Rule) (desk : Store) (map : Map) → MayRecall (remembers rewriter.strategy rewriter.traced rewriter.remembers) rules desk map → MayRecall (remembers_results s plan.rules) rules desk map
  recalls_told rules desk map right = subst (λ b. MayRecall b rules desk map) asked right

  pub as_asked : (read term : Tree) → read ≡ term → (begun made : Store) (r : Result Ending LineStop) →
      BuildsForLine rewriter.strategy (tells rewriter.strategy rewriter.traced) (remembers rewriter.strategy rewriter.traced rewriter.remembers) plan.rules read rewriter.fuel rewriter.machine.depth begun made r →
      BuildsForLine (strategy_of s.command) (tells_events s plan.rules) (remembers_results s plan.rules) plan.rules term s.fuel s.depth begun made r
  as_asked read term same begun made r built =
      let strategy = strategy_of s.command in
      let told = is_traced s plan.rules in
      subst (λ t. BuildsForLine strategy (tells strategy told) (remembers_results s plan.rules) plan.rules t s.fuel s.depth begun made r) same
      (subst (λ n. BuildsForLine strategy (tells strategy told) (remembers_results s plan.rules) plan.rules read s.fuel n begun made r) is.depth
      (subst (λ n. BuildsForLine strategy (tells strategy told) (remembers_results s plan.rules) plan.rules read n rewriter.machine.depth begun made r) is.fuel
      (subst (λ b. BuildsForLine strategy (tells strategy told) b plan.rules read rewriter.fuel rewriter.machine.depth begun made r) asked
      (subst (λ b. BuildsForLine strategy (tells strategy b) (remembers rewriter.strategy rewriter.traced rewriter.remembers) plan.rules read rewriter.fuel rewriter.machine.depth begun made r) is.traced
      (subst (λ by. BuildsForLine by (tells by rewriter.traced) (remembers rewriter.strategy rewriter.traced rewriter.remembers) plan.rules read rewriter.fuel rewriter.machine.depth begun made r) is.strategy built)))))

  -- ---- what is told of a term
  abbrev told_by : List Named → Strategy → Bool → ℕ → ℕ → Bool → Tree → Told
  told_by symbols by sizes fuel room traced t = record {
    line = record {
      kind = kind_of sizes (ended by plan.rules t fuel room);
      text = line_text sizes symbols (ended by plan.rules t fuel room);
      spent = spent_of sizes fuel (ended by plan.rules t fuel room);
    };
    events = events_of (tells by traced) plan.rules t fuel (is_value sizes (ended by plan.rules t fuel room));
  }

  same_told : (symbols : List Named) (read term : Tree) → read ≡ term → told_by symbols rewriter.strategy rewriter.sizes rewriter.fuel rewriter.machine.depth rewriter.traced read ≡ told_of s symbols plan.rules term
  same_told symbols read term same =
      ap (λ by. told_by symbols by rewriter.sizes rewriter.fuel rewriter.machine.depth rewriter.traced read) is.strategy
      ∙ (ap (λ b. told_by symbols (strategy_of s.command) b rewriter.fuel rewriter.machine.depth rewriter.traced read) is.sizes
      ∙ (ap (λ n. told_by symbols (strategy_of s.command) s.sizes n rewriter.machine.depth rewriter.traced read) is.fuel
      ∙ (ap (λ n. told_by symbols (strategy_of s.command) s.sizes s.fuel n rewriter.traced read) is.depth
      ∙ (ap (λ b. told_by symbols (strategy_of s.command) s.sizes s.fuel s.depth b read) is.traced
      ∙ ap (λ t. told_by symbols (strategy_of s.command) s.sizes s.fuel s.depth (is_traced s plan.rules) t) same))))

  may_tell_asked : MayTell (tells rewriter.strategy rewriter.traced) plan.rules
  may_tell_asked = subst (λ by. MayTell (tells by rewriter.traced) plan.rules) (sym is.strategy) (subst (λ b. MayTell (tells (strategy_of s.command) b) plan.rules) (sym is.traced) (may_tell (strategy_of s.command) s.trace plan.rules))

  pub line_told : (symbols : List Named) (read term : Tree) → read ≡ term → (kind : LineKind) (text : List ℕ) (spent : ℕ) (events : List Event)
      → text ≡ line_text rewriter.sizes symbols (ended rewriter.strategy plan.rules read rewriter.fuel rewriter.machine.depth)
      → kind ≡ kind_of rewriter.sizes (ended rewriter.strategy plan.rules read rewriter.fuel rewriter.machine.depth)
      → spent ≡ spent_of rewriter.sizes rewriter.fuel (ended rewriter.strategy plan.rules read rewriter.fuel rewriter.machine.depth)
      → (MayTell (tells rewriter.strategy rewriter.traced) plan.rules
      → events ≡ events_of (tells rewriter.strategy rewriter.traced) plan.rules read rewriter.fuel (is_value rewriter.sizes (ended rewriter.strategy plan.rules read rewriter.fuel rewriter.machine.depth)))
      → MadeOf kind text spent events ≡ told_of s symbols plan.rules term
  line_told symbols read term same kind text spent events t k f e =
      made_same kind _ text _ spent _ events _ k t f (e may_tell_asked) ∙ same_told symbols read term same

-- where nothing is known, all that is known is right
none_known : (remembered : Bool) (rules : List Rule) (desk : Store) (map : Map) → ((row : Row) → map row ≡ None) → MayRecall remembered rules desk map
none_known true rules desk map none = none_right rules desk.built desk map none
none_known false rules desk map none = tt

pub recalls_nothing : (s : Settings) (rules : List Rule) (desk : Store) (map : Map) (epoch : Option ℕ) → ((row : Row) → map row ≡ None) → epoch ≡ None → Recalls s rules desk map epoch
recalls_nothing s rules desk map epoch none e = record { right = none_known (remembers_results s rules) rules desk map none; epoch_is = λ n k. cc }
