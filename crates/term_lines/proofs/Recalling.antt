-- What is remembered stays right where no row is lost.
use Rattle.std.proofs.Common.{◌≡◌, Bool, true, false, List, Some, None, refl, sym, ◌∙◌, subst}
use Rattle.std.specs.Prelude.{Contains}
use Rattle.term_model.specs.declared.Row.{Row}
use Rattle.terms_api.specs.Terms.{Store, KeepsAll, kept}
use Rattle.rewrite_model.specs.Rule.{Rule}
use Rattle.innermost.specs.Remembered.{Map, AreRight}
use Rattle.term_lines.specs.Written.{MayRecall}

still_right : (rules : List Rule) (old new : Store) (map : Map) → KeepsAll old new → new.built ≡ old.built → AreRight rules old.built old map → AreRight rules new.built new map
still_right rules old new map keeps built right = λ place pair is.
    let r = right place pair is in
    record {
      tree = r.tree;
      value = r.value;
      row = keeps place r.tree r.row;
      held = keeps pair.value r.value r.held;
      stood = subst (λ ts. Contains ts r.tree) (sym built) r.stood;
      known = r.known;
      least = r.least;
      normal = r.normal;
    }

pub may_still : (b : Bool) (rules : List Rule) (old new : Store) (map : Map) → KeepsAll old new → new.built ≡ old.built → MayRecall b rules old map → MayRecall b rules new map
may_still true rules old new map keeps built right = still_right rules old new map keeps built right
may_still false rules old new map keeps built right = tt

-- an empty memory is right
pub nothing_recalled : (b : Bool) (rules : List Rule) (s : Store) (map : Map) → ((row : Row) → map row ≡ None) → MayRecall b rules s map
nothing_recalled true rules s map none = λ place pair is. absurd (let e : None ≡ Some pair = sym (none place) ∙ is in cc)
nothing_recalled false rules s map none = tt

-- only the stack changes
pub kept_recalls : (b : Bool) (rules : List Rule) (old new : Store) (map : Map) → new ≡ kept old 0 0 → MayRecall b rules old map → MayRecall b rules new map
kept_recalls b rules old new map e right =
    subst (λ s. MayRecall b rules s map) (sym e) (may_still b rules old (kept old 0 0) map (λ r t has. has) refl right)
