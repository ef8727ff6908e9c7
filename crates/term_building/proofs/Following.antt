-- Each step of building and copying is a step of reading.
use Rattle.std.proofs.Common.{◌≡◌, ◌≤◌, ◌<◌, ◌∙◌, ℕ, ◌-◌, List, [], ◌∷◌, ◌++◌, length, length-append, take, drop, map, refl, ap, sym, subst, arith, append-nil, Bool, true, false, Option, Some, None, decimal}
use Rattle.std.proofs.lemmas.List.{length-map}
use Rattle.std.specs.Prelude.{if◌then◌else◌}
use Rattle.term_model.specs.Tree.{Tree}
use Rattle.symbol_pool.specs.Pool.{Named}
use Rattle.tree_text.specs.Canonical.{is_plain, escaped, spelled_name}
use Rattle.term_syntax.specs.declared.token.Shape.{Shape}
use Rattle.term_syntax.specs.declared.token.Shape.TheVariants as shape
use Rattle.term_syntax.specs.declared.token.Mark.TheVariants as mark
use Rattle.term_syntax.specs.Shown.{token_at, plain_at, quoted_at, value_at}
use Rattle.term_syntax.specs.TakenUp.{tree_in}
use Rattle.term_syntax.specs.Written.{Written, Digits}
use Rattle.term_building.specs.Stages as stage
use Rattle.term_building.specs.declared.groups.Group.{Group}
use Rattle.term_building.specs.Copying.{copied}
use Rattle.term_building.specs.Progress as read
use Rattle.term_building.specs.Progress.{Progress, Settled, Bracketed, Headed, Bracket, Open, whole}
use Rattle.term_building.specs.State as build
use Rattle.term_building.specs.State.{State}
use Rattle.term_building.specs.Text.{text_before}
use Rattle.term_building.specs.Trees.{trees_so_far}
use Rattle.term_building.specs.Shows.{count_so_far, Holds, Shows}
use Rattle.term_building.proofs.Tokens.{IsToken, plain_spelled}
use Rattle.term_building.proofs.Ending.{state, ended_shows, copied_on, copied_none}

pub many_trees : (pool : List Named) (os : List Open) (finished : List Written) → length (trees_so_far pool os finished) ≡ count_so_far os finished
many_trees pool [] finished = length-map finished (tree_in pool)
many_trees pool (o ∷ os) finished =
    let front = many_trees pool os finished in
    let all = length-append (trees_so_far pool os finished) (map (tree_in pool) o.terms) in
    let last = length-map o.terms (tree_in pool) in
    omega (arith, front, all, last)

-- a step of reading that the state after it shows
abbrev pub Goes : List ℕ → ℕ → State → Option Progress → Type 0
Goes text end r next = (k : Progress) × (next ≡ Some k) × Shows text end r k

module _ (text : List ℕ) (place end : ℕ) where
  abbrev bytes : List ℕ
  bytes = take (end - place) (drop place text)

  pub goes_on : (written : List ℕ) (from : ℕ) (before x : List ℕ) → place < end → from ≤ place → copied text place written from ≡ before → bytes ≡ x → copied text end written from ≡ before ++ x
  goes_on written from before x l f e b =
      copied_on text place end written from f (omega (arith, l)) ∙ (λ i. e i ++ b i)

  -- ---- a term begins
  module _ (gs : List Group) (written : List ℕ) (from : ℕ) (pool : List Named) (ts : List Tree) (st : stage.Stage) (os : List Open) (finished : List Written) where
    abbrev now : State
    now = state st gs written from pool ts

    abbrev Starts : Type 0
    Starts = Holds text place now os finished (text_before os finished)

    begins_word : Starts → IsToken text place end shape.Word → Shows text end (build.headed place end false now) (record { stage = Headed place (plain_at text place); groups = os; finished = finished })
    begins_word h t = record {
      stage = t.is.0;
      fits = tt;
      holds = record {
        groups = h.groups;
        good = h.good;
        trees_are = h.trees_are;
        copied_is = goes_on written from (text_before os finished) (spelled_name (plain_at text place)) t.after h.from h.copied_is (t.is.0 ∙ sym (plain_spelled (plain_at text place) t.is.1));
        from = let f = h.from in let l = t.after in omega (arith, f, l);
        is_pool = h.is_pool;
      };
    }

    begins_quoted : Starts → IsToken text place end shape.Quoted → (b : Bool) → is_plain (quoted_at text place) ≡ b →
        Shows text end (build.headed place end true (if b then build.replaced text place (quoted_at text place) end now else now)) (record { stage = Headed place (quoted_at text place); groups = os; finished = finished })
    begins_quoted h t true e = record {
      stage = refl;
      fits = tt;
      holds = record {
        groups = h.groups;
        good = h.good;
        trees_are = h.trees_are;
        copied_is = copied_none text end (copied text place written from ++ quoted_at text place) ∙ (λ i. h.copied_is i ++ sym (plain_spelled (quoted_at text place) e) i);
        from = omega arith;
        is_pool = h.is_pool;
      };
    }
    begins_quoted h t false e = record {
      stage = refl;
      fits = tt;
      holds = record {
        groups = h.groups;
        good = h.good;
        trees_are = h.trees_are;
        copied_is = goes_on written from (text_before os finished) (spelled_name (quoted_at text place)) t.after h.from h.copied_is (t.is ∙ sym (ap (λ b. if b then quoted_at text place else (34 ∷ []) ++ (escaped (quoted_at text place) ++ (34 ∷ []))) e));
        from = let f = h.from in let l = t.after in omega (arith, f, l);
        is_pool = h.is_pool;
      };
    }

    begins_number : Starts → IsToken text place end shape.Number → (o : Option ℕ) (r : State) → value_at text place ≡ o → build.on_value text end o now ≡ Some r → Shows text end r (whole os finished (Digits place o))
    begins_number h t None r e is = absurd cc
    begins_number h t (Some v) r e is =
        let same : build.ended text end (build.with_integer v now) ≡ r = cc in
        subst (λ k. Shows text end k (whole os finished (Digits place (Some v)))) same
        (ended_shows text end st gs written from pool _ os finished (Digits place (Some v)) h.groups h.good tt
        (ap (λ xs. xs ++ tree_in pool (Digits place (Some v)) ∷ []) h.trees_are)
        (goes_on written from (text_before os finished) (decimal v) t.after h.from h.copied_is (t.is v e))
        (let f = h.from in let l = t.after in omega (arith, f, l)) h.is_pool)

    begins_list : Starts → IsToken text place end (shape.At mark.OpenList) → Shows text end (build.opened None stage.Bracketed now) (read.opened (Bracket place) Bracketed (record { stage = Settled; groups = os; finished = finished }))
    begins_list h t = record {
      stage = tt;
      fits = refl;
      holds = record {
        groups = (tt, ap length h.trees_are ∙ many_trees pool os finished, h.groups);
        good = (h.good, tt);
        trees_are = h.trees_are ∙ sym (append-nil (trees_so_far pool os finished));
        copied_is = goes_on written from (text_before os finished) (91 ∷ []) t.after h.from h.copied_is t.is ∙ sym (append-nil (text_before os finished ++ 91 ∷ []));
        from = let f = h.from in let l = t.after in omega (arith, f, l);
        is_pool = h.is_pool;
      };
    }

    pub term_follows : (old : read.Stage) (sh : Shape) (r : State) → Starts → IsToken text place end sh → build.on_term text place end sh now ≡ Some r →
        Goes text end r (read.on_term (record { stage = old; groups = os; finished = finished }) (token_at text place sh))
    term_follows old shape.Word r h t e =
        let same : build.headed place end false now ≡ r = cc in
        (_, refl, subst (λ k. Shows text end k (record { stage = Headed place (plain_at text place); groups = os; finished = finished })) same (begins_word h t))
    term_follows old shape.Quoted r h t e =
        let same : build.on_quoted text place end now ≡ r = cc in
        (_, refl, subst (λ k. Shows text end k (record { stage = Headed place (quoted_at text place); groups = os; finished = finished })) same (begins_quoted h t (is_plain (quoted_at text place)) refl))
    term_follows old shape.Number r h t e = (_, refl, begins_number h t (value_at text place) r refl e)
    term_follows old (shape.At mark.OpenList) r h t e =
        let same : build.opened None stage.Bracketed now ≡ r = cc in
        (_, refl, subst (λ k. Shows text end k (read.opened (Bracket place) Bracketed (record { stage = Settled; groups = os; finished = finished }))) same (begins_list h t))
    term_follows old (shape.At mark.Open) r h t e = absurd cc
    term_follows old (shape.At mark.Close) r h t e = absurd cc
    term_follows old (shape.At mark.CloseList) r h t e = absurd cc
    term_follows old (shape.At mark.Comma) r h t e = absurd cc
