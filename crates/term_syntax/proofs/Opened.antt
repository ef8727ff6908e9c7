-- The innermost group, on which a step after a whole term depends.
use Rattle.std.proofs.Common.{◌≡◌, ◌<◌, ◌∙◌, ◌+◌, List, [], ◌∷◌, ◌++◌, true, false, Some, None, refl, ap, sym}
use Rattle.std.proofs.lemmas.List.Elements.{All-tail}
use Rattle.sequences.specs.Lists.{first_of, is_nil}
use Rattle.term_syntax.specs.Token.{Token}
use Rattle.term_syntax.specs.declared.machine.Group.{Group}
use Rattle.term_syntax.specs.declared.machine.Place.TheVariants.{Settled}
use Rattle.term_syntax.specs.State.{Machine}
use Rattle.term_syntax.specs.Few.{AreCountsFew}
use Rattle.term_syntax.specs.Groups.{under, one_more, without}
use Rattle.term_syntax.specs.Steps.{on_term, in_group, after_term, after_term_under, end_under}

-- a whole term that stands in no group, and one that stands in a group
pub end_last : (gs : List Group) (m : Machine) → is_nil gs ≡ true → end_under gs m ≡ record m { place = Settled; groups = gs; nodes = []; terms = m.terms ++ m.nodes ∷ [] }
end_last [] m h = refl
end_last (g ∷ gs) m h = absurd cc

pub end_inner : (gs : List Group) (m : Machine) → is_nil gs ≡ false → end_under gs m ≡ record m { place = Settled; groups = one_more gs }
end_inner [] m h = absurd cc
end_inner (g ∷ gs) m h = refl

-- a token after a whole term
none_under : (gs : List Group) (m : Machine) (t : Token) → m.groups ≡ gs → first_of gs ≡ None → after_term_under gs m t ≡ on_term m t
none_under [] m t is h = ap (λ gs. on_term (record m { groups = gs }) t) (sym is)
none_under (g ∷ gs) m t is h = absurd cc

pub after_none : (m : Machine) (t : Token) → first_of m.groups ≡ None → after_term m t ≡ on_term m t
after_none m t h = none_under m.groups m t refl h

some_under : (gs : List Group) (m : Machine) (t : Token) (g : Group) → m.groups ≡ gs → first_of gs ≡ Some g → after_term_under gs m t ≡ in_group g (without m) t
some_under [] m t g is h = absurd cc
some_under (x ∷ gs) m t g is h =
    let same : x ≡ g = cc in
    ap (λ y. in_group y (record m { groups = gs }) t) same
    ∙ ap (λ ys. in_group g (record m { groups = under ys }) t) (sym is)

pub after_some : (m : Machine) (t : Token) (g : Group) → first_of m.groups ≡ Some g → after_term m t ≡ in_group g (without m) t
after_some m t g h = some_under m.groups m t g refl h

-- the innermost group, and those around it
pub put_back : (gs : List Group) (g : Group) → first_of gs ≡ Some g → g ∷ under gs ≡ gs
put_back [] g h = absurd cc
put_back (x ∷ gs) g h = let same : x ≡ g = cc in ap (λ y. y ∷ gs) (sym same)

pub few_left : (gs : List Group) → AreCountsFew 1 gs → AreCountsFew 1 (under gs)
few_left [] h = h
few_left (g ∷ gs) h = All-tail (λ g. g.count + 1 < 4294967296) g gs h
