-- Lines and events beside each other, from lines with their events.
use Rattle.std.proofs.Common.{◌≡◌, List, [], ◌∷◌, map, refl, sym, ap, ◌∙◌}
use Rattle.std.specs.Prelude.{Vec}
use Rattle.std.specs.Global.{Global}
use Rattle.term_model.specs.Tree.{Tree}
use Rattle.symbol_pool.specs.Pool.{Named}
use Rattle.rewrite_model.specs.Rule.{Rule}
use Rattle.rewrite_model.specs.declared.event.Event.{Event}
use Rattle.settings.specs.declared.parts.Settings.{Settings}
use Rattle.worker_crew.specs.declared.lines.Line.{Line}
use Rattle.worker_crew.specs.declared.lines.Traced.{Traced}
use Rattle.work_order.specs.Lined.{said, worker_of, line_of, trace_of, Told, told, told_of, maker_of}

map_twice : {A B C : Type 0} (f : A → B) (g : B → C) (xs : List A) → map g (map f xs) ≡ map (λ x. g (f x)) xs
map_twice f g [] = refl
map_twice f g (x ∷ xs) = ap (λ ys. g (f x) ∷ ys) (map_twice f g xs)

pub makers_beside : (ts : List Traced) (list : List Line) → list ≡ map (λ (t : Traced). t.line) ts → map worker_of list ≡ map maker_of ts
makers_beside ts list lines = ap (map worker_of) lines ∙ map_twice (λ (t : Traced). t.line) worker_of ts

module _ (s : Settings) (symbols : List Named) (rules : List Rule) (terms : List Tree) (ts : List Traced) (all : map told ts ≡ map (told_of s symbols rules) terms) where
  pub lines_beside : (list : List Line) → list ≡ map (λ (t : Traced). t.line) ts → map said list ≡ map (line_of s symbols rules) terms
  lines_beside list lines =
      ap (map said) lines ∙ (map_twice (λ (t : Traced). t.line) said ts ∙ (sym (map_twice told (λ (x : Told). x.line) ts)
      ∙ (ap (map (λ (x : Told). x.line)) all ∙ map_twice (told_of s symbols rules) (λ (x : Told). x.line) terms)))

  pub traces_beside : (traces : List (Vec Event Global)) → traces ≡ map (λ (t : Traced). t.events) ts → map (λ (v : Vec Event Global). v.items) traces ≡ map (trace_of s rules) terms
  traces_beside traces events =
      ap (map (λ (v : Vec Event Global). v.items)) events ∙ (map_twice (λ (t : Traced). t.events) (λ (v : Vec Event Global). v.items) ts ∙ (sym (map_twice told (λ (x : Told). x.events) ts)
      ∙ (ap (map (λ (x : Told). x.events)) all ∙ map_twice (told_of s symbols rules) (λ (x : Told). x.events) terms)))
