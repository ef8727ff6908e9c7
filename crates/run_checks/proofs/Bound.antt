-- A variable that is bound to a term, or a term that is opened, by numbers.
use Rattle.std.proofs.Common.{◌≡◌, ℕ, ◌<◌, Bool, true, false, ◌&&◌, List, [], ◌∷◌, ◌++◌, length, get_or, map, reverse, Option, Some, None, All, refl, sym, ap, subst, ◌∙◌, arith, eq-eqb, ne_eqb}
use Rattle.std.specs.Prelude.{IsTrue, ◌==◌}
use Rattle.std.specs.Bool.{OnTrue}
use Rattle.std.specs.Global.{Vec}
use Rattle.std.proofs.lemmas.List.{map-append, reverse-append}
use Rattle.std.proofs.lemmas.List.Elements.{All-head, All-tail, All-append, All-push}
use Rattle.term_model.specs.declared.Symbol.{Symbol}
use Rattle.term_model.specs.declared.Head.TheVariants.{App}
use Rattle.term_model.specs.Tree.{Tree, arguments, trees_of, count_of}
use Rattle.rewrite_model.specs.Matching.{bind}
use Rattle.rule_match.specs.Stands.{stands}
use Rattle.run_checks.specs.Held.{Held, IsThere, term_at, term_over}
use Rattle.run_checks.specs.Matched.{Binds, IsMatched}
use Rattle.run_checks.proofs.Matches.{bound_same, bound_other, newly}
use Rattle.run_checks.proofs.Steps.{list_of-trees_of}

pub bound_there : (h : Held) (variable number q : ℕ) (rows : List ℕ) (b : Bool) → All (IsThere h) rows → variable < length rows → q ≡ get_or rows variable q → (IsTrue b → term_at h q ≡ term_at h number) × (term_at h q ≡ term_at h number → IsTrue b) → Binds h rows (bind variable (term_at h number) (map (term_at h) rows)) b
bound_there h variable number q rows true there lt at same = (bound_same (term_at h) rows variable q number lt at (same.0 refl), there)
bound_there h variable number q rows false there lt at same = bound_other (term_at h) rows variable q number lt at (λ e. let f : false ≡ true = same.1 e in absurd cc)

pub newly_bound : (h : Held) (variable number : ℕ) (rows new : List ℕ) → All (IsThere h) rows → IsThere h number → variable ≡ length rows → new ≡ rows ++ number ∷ [] → Binds h new (bind variable (term_at h number) (map (term_at h) rows)) true
newly_bound h variable number rows new there one at is =
    (newly (term_at h) rows new variable number at is, subst (All (IsThere h)) (sym is) (All-push (IsThere h) rows number there one))

-- ---- a symbol over so many arguments

count_mapped : (h : Held) (ns : List ℕ) → count_of (trees_of (map (term_at h) ns)) ≡ length ns
count_mapped h [] = refl
count_mapped h (n ∷ ns) = let e = count_mapped h ns in omega (arith, e)

stands_over : (h : Held) (g f : Symbol) (count : ℕ) (ns : List ℕ) → stands (App f) count (term_over h g ns) ≡ ((f.0 == g.0) && (length ns == count))
stands_over h g f count ns = ap (λ n. (f.0 == g.0) && (n == count)) (count_mapped h ns)

pub opened : (h : Held) (number : ℕ) (g f : Symbol) (count : ℕ) (ns : List ℕ) → term_at h number ≡ term_over h g ns → g.0 ≡ f.0 → length ns ≡ count → stands (App f) count (term_at h number) ≡ true
opened h number g f count ns t e n =
    ap (stands (App f) count) t ∙ stands_over h g f count ns
    ∙ (λ i. eq-eqb f.0 g.0 (sym e) i && eq-eqb (length ns) count n i)

pub other_count : (h : Held) (number : ℕ) (g f : Symbol) (count : ℕ) (ns : List ℕ) → term_at h number ≡ term_over h g ns → (length ns ≡ count → ⊥) → stands (App f) count (term_at h number) ≡ false
other_count h number g f count ns t other =
    ap (stands (App f) count) t ∙ stands_over h g f count ns ∙ ap (λ b. (f.0 == g.0) && b) (ne_eqb (length ns) count other) ∙ never (f.0 == g.0)
  where
    never : (b : Bool) → (b && false) ≡ false
    never true = refl
    never false = refl

map-reverse : (h : Held) (ns : List ℕ) → map (term_at h) (reverse ns) ≡ reverse (map (term_at h) ns)
map-reverse h [] = refl
map-reverse h (n ∷ ns) =
    ap (map (term_at h)) (reverse-append (n ∷ []) ns) ∙ map-append (term_at h) (reverse ns) (n ∷ [])
    ∙ ap (λ ts. ts ++ term_at h n ∷ []) (map-reverse h ns) ∙ sym (reverse-append (term_at h n ∷ []) (map (term_at h) ns))

pub opened_onto : (h : Held) (number : ℕ) (g : Symbol) (ns stack new : List ℕ) → term_at h number ≡ term_over h g ns → new ≡ stack ++ reverse ns → map (term_at h) new ≡ map (term_at h) stack ++ reverse (arguments (term_at h number))
opened_onto h number g ns stack new t is =
    ap (map (term_at h)) is ∙ map-append (term_at h) stack (reverse ns)
    ∙ ap (λ ts. map (term_at h) stack ++ ts) (map-reverse h ns ∙ ap reverse (sym (ap arguments t ∙ list_of-trees_of (map (term_at h) ns))))

all-reverse : (h : Held) (ns : List ℕ) → All (IsThere h) ns → All (IsThere h) (reverse ns)
all-reverse h [] a = a
all-reverse h (n ∷ ns) a =
    subst (All (IsThere h)) (sym (reverse-append (n ∷ []) ns)) (All-push (IsThere h) (reverse ns) n (all-reverse h ns (All-tail (IsThere h) n ns a)) (All-head (IsThere h) n ns a))

pub all_opened : (h : Held) (ns stack new : List ℕ) → All (IsThere h) stack → All (IsThere h) ns → new ≡ stack ++ reverse ns → All (IsThere h) new
all_opened h ns stack new a b is = subst (All (IsThere h)) (sym is) (All-append (IsThere h) stack (reverse ns) a (all-reverse h ns b))

-- ---- a stack of terms, and what was bound

pub one_there : (h : Held) (n : ℕ) (ns : List ℕ) → ns ≡ n ∷ [] → IsThere h n → All (IsThere h) ns
one_there h n ns e t = subst (All (IsThere h)) (sym e) (All-push (IsThere h) [] n (λ k d lt. absurd (omega arith)) t)

pub none_there : (h : Held) (ns : List ℕ) → ns ≡ [] → All (IsThere h) ns
none_there h ns e = subst (All (IsThere h)) (sym e) (λ k d lt. absurd (omega arith))

pub binds_not : (h : Held) (bound : List ℕ) (m : Option (List Tree)) (b : Bool) → Binds h bound m b → b ≡ false → m ≡ None
binds_not h bound m true s e = absurd cc
binds_not h bound m false s e = s

pub binds_so : (h : Held) (bound : List ℕ) (m : Option (List Tree)) (b : Bool) → Binds h bound m b → b ≡ true → (m ≡ Some (map (term_at h) bound)) × All (IsThere h) bound
binds_so h bound m true s e = s
binds_so h bound m false s e = absurd cc

pub so_pushed : (b : Bool) (P : Type 0) → b ≡ true → OnTrue b P → P
so_pushed true P e p = p
so_pushed false P e p = absurd cc

-- ---- what a match gives

pub matched_some : (h : Held) (m : Option (List Tree)) (o : Option (Vec ℕ)) (bound : Vec ℕ) → IsMatched h m o → o ≡ Some bound → (m ≡ Some (map (term_at h) bound.items)) × All (IsThere h) bound.items
matched_some h m o bound s e = subst (IsMatched h m) e s

pub matched_none : (h : Held) (m : Option (List Tree)) (o : Option (Vec ℕ)) → IsMatched h m o → o ≡ None → m ≡ None
matched_none h m o s e = subst (IsMatched h m) e s
