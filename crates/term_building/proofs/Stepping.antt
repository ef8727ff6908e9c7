-- A token is taken: what was built and copied shows one more step of reading.
use Rattle.std.proofs.Common.{◌≡◌, ◌∙◌, ℕ, List, [], ◌∷◌, ◌++◌, length, refl, ap, sym, subst, arith, append_assoc, append-nil, Option, Some, None}
use Rattle.std.specs.Prelude.{option_and_then}
use Rattle.term_model.specs.Tree.{Tree}
use Rattle.symbol_pool.specs.Pool.{Named}
use Rattle.tree_text.specs.Canonical.{spelled_name}
use Rattle.term_syntax.specs.declared.token.Shape.{Shape}
use Rattle.term_syntax.specs.declared.token.Shape.TheVariants as shape
use Rattle.term_syntax.specs.declared.token.Mark.TheVariants as mark
use Rattle.term_syntax.specs.Shown.{token_at}
use Rattle.term_syntax.specs.TakenUp.{tree_in}
use Rattle.term_syntax.specs.Written.{Written, Call, End}
use Rattle.term_building.specs.Stages as stage
use Rattle.term_building.specs.declared.groups.Group.{Group}
use Rattle.term_building.specs.declared.groups.Heading.{Heading}
use Rattle.term_building.specs.Progress as read
use Rattle.term_building.specs.Progress.{Progress, Settled, Bracketed, Expected, Headed, Called, Open, whole}
use Rattle.term_building.specs.State as build
use Rattle.term_building.specs.State.{State, name_in}
use Rattle.term_building.specs.Text.{text_before, text_behind}
use Rattle.term_building.specs.Trees.{trees_so_far}
use Rattle.term_building.specs.Shows.{FitsStage, Holds, Shows}
use Rattle.term_building.proofs.Tokens.{IsToken}
use Rattle.term_building.proofs.Ending.{state, ended_shows}
use Rattle.term_building.proofs.Calling.{calls, made}
use Rattle.term_building.proofs.Growing.{good_stay, trees_stay}
use Rattle.term_building.proofs.Following.{Goes, goes_on, many_trees, term_follows}
use Rattle.term_building.proofs.Closing.{group_follows, list_closes}

-- a whole term stands last, or nothing was read
pub record Behind (text : List ℕ) (at : ℕ) (s : State) (os : List Open) (finished : List Written) : Type 0 where
  pub fits : FitsStage Settled os
  pub holds : Holds text at s os finished (text_behind os finished)

behind_whole : (text : List ℕ) (at : ℕ) (s : State) (os : List Open) (finished : List Written) (w : Written) → Shows text at s (whole os finished w) → Behind text at s (whole os finished w).groups (whole os finished w).finished
behind_whole text at s [] finished w h = record { fits = tt; holds = h.holds }
behind_whole text at s (o ∷ os) finished w h = record { fits = h.fits; holds = h.holds }

module _ (text : List ℕ) (place end : ℕ) where
  after_follows : (gs : List Group) (written : List ℕ) (from : ℕ) (pool : List Named) (ts : List Tree) (st : stage.Stage) (os : List Open) (finished : List Written) (sh : Shape) (r : State) →
      Behind text place (state st gs written from pool ts) os finished → IsToken text place end sh → build.after_term_under gs text place end sh (state st gs written from pool ts) ≡ Some r →
      Goes text end r (read.after_term_under os finished (token_at text place sh))
  after_follows [] written from pool ts st [] finished sh r b t e = term_follows text place end [] written from pool ts st [] finished Settled sh r b.holds t e
  after_follows (g ∷ gs) written from pool ts st [] finished sh r b t e = absurd b.holds.groups
  after_follows [] written from pool ts st (o ∷ os) finished sh r b t e = absurd b.holds.groups
  after_follows (g ∷ gs) written from pool ts st (o ∷ os) finished sh r b t e = group_follows text place end gs written from pool ts st os finished g o.opening o.terms sh r b.fits b.holds t e

  -- ---- behind an opening bracket
  as_behind : (s : State) (o : Open) (os : List Open) (finished : List Written) → o.terms ≡ [] → Holds text place s (o ∷ os) finished (text_before (o ∷ os) finished) → Holds text place s (record { opening = o.opening; terms = [] } ∷ os) finished (text_behind (record { opening = o.opening; terms = [] } ∷ os) finished)
  as_behind s o os finished e h =
      subst (λ ws. Holds text place s (record { opening = o.opening; terms = ws } ∷ os) finished (text_before (record { opening = o.opening; terms = ws } ∷ os) finished)) e h

  none_closes : (gs : List Group) (written : List ℕ) (from : ℕ) (pool : List Named) (ts : List Tree) (st : stage.Stage) (os : List Open) (finished : List Written) (r : State) →
      FitsStage Bracketed os → Holds text place (state st gs written from pool ts) os finished (text_before os finished) → IsToken text place end (shape.At mark.CloseList) → build.after_term_under gs text place end (shape.At mark.CloseList) (state st gs written from pool ts) ≡ Some r →
      Goes text end r (read.after_term_under os finished (token_at text place (shape.At mark.CloseList)))
  none_closes [] written from pool ts st os finished r f h t e = absurd cc
  none_closes (g ∷ gs) written from pool ts st [] finished r f h t e = absurd h.groups
  none_closes (g ∷ gs) written from pool ts st (o ∷ os) finished r f h t e =
      subst (λ ws. Goes text end r (read.close_list o.opening ws os finished)) (sym f)
      (list_closes text place end gs written from pool ts st os finished g g.heading o.opening [] r h.groups.0 (as_behind (state st (g ∷ gs) written from pool ts) o os finished f h) t e)

  brackets_follow : (gs : List Group) (written : List ℕ) (from : ℕ) (pool : List Named) (ts : List Tree) (st : stage.Stage) (m : Progress) (sh : Shape) (r : State) →
      FitsStage Bracketed m.groups → Holds text place (state st gs written from pool ts) m.groups m.finished (text_before m.groups m.finished) → IsToken text place end sh → build.in_brackets text place end sh (state st gs written from pool ts) ≡ Some r →
      Goes text end r (read.in_brackets m (token_at text place sh))
  brackets_follow gs written from pool ts st m (shape.At mark.CloseList) r f h t e = none_closes gs written from pool ts st m.groups m.finished r f h t e
  brackets_follow gs written from pool ts st m (shape.At mark.Open) r f h t e = term_follows text place end gs written from pool ts st m.groups m.finished m.stage (shape.At mark.Open) r h t e
  brackets_follow gs written from pool ts st m (shape.At mark.Close) r f h t e = term_follows text place end gs written from pool ts st m.groups m.finished m.stage (shape.At mark.Close) r h t e
  brackets_follow gs written from pool ts st m (shape.At mark.OpenList) r f h t e = term_follows text place end gs written from pool ts st m.groups m.finished m.stage (shape.At mark.OpenList) r h t e
  brackets_follow gs written from pool ts st m (shape.At mark.Comma) r f h t e = term_follows text place end gs written from pool ts st m.groups m.finished m.stage (shape.At mark.Comma) r h t e
  brackets_follow gs written from pool ts st m shape.Word r f h t e = term_follows text place end gs written from pool ts st m.groups m.finished m.stage shape.Word r h t e
  brackets_follow gs written from pool ts st m shape.Quoted r f h t e = term_follows text place end gs written from pool ts st m.groups m.finished m.stage shape.Quoted r h t e
  brackets_follow gs written from pool ts st m shape.Number r f h t e = term_follows text place end gs written from pool ts st m.groups m.finished m.stage shape.Number r h t e

-- ---- behind a name
pub settled_shows : (text : List ℕ) (at : ℕ) (s : State) (h : Heading) (p : ℕ) (n : List ℕ) (os : List Open) (finished : List Written) (r : State) → name_in text h ≡ n → Holds text at s os finished (text_before os finished ++ spelled_name n) → build.settled text h at s ≡ Some r → Shows text at r (whole os finished (Call p n End))
settled_shows text at s h p n os finished r named b e = by (build.call_named n 0 s) refl (ap (λ k. option_and_then (λ j. Some (build.ended text at j)) (build.call_named k 0 s)) (sym named) ∙ e)
  where
    by : (o : Option State) → build.call_named n 0 s ≡ o → option_and_then (λ j. Some (build.ended text at j)) o ≡ Some r → Shows text at r (whole os finished (Call p n End))
    by None f e = absurd cc
    by (Some j) f e =
        let m = made n 0 s j f in
        let c = calls s p n (trees_so_far s.symbols os finished) [] m.0 (b.trees_are ∙ sym (append-nil (trees_so_far s.symbols os finished))) tt b.is_pool in
        let new = (build.called n 0 s).symbols in
        let same : build.ended text at j ≡ r = cc in
        subst (λ k. Shows text at k (whole os finished (Call p n End))) (ap (build.ended text at) m.1 ∙ same)
        (ended_shows text at s.stage s.groups s.written s.from new _ os finished (Call p n End) b.groups (good_stay s.symbols new c.grows os finished b.good) c.good
        (c.trees_are ∙ ap (λ xs. xs ++ tree_in new (Call p n End) ∷ []) (sym (trees_stay s.symbols new c.grows os finished b.good)))
        (b.copied_is ∙ ap (λ xs. text_before os finished ++ xs) (sym (append-nil (spelled_name n))))
        b.from c.is_pool)

module _ (text : List ℕ) (place end : ℕ) where
  ends_follows : (s : State) (h : Heading) (p : ℕ) (n : List ℕ) (m : Progress) (sh : Shape) (r : State) → name_in text h ≡ n → Holds text place s m.groups m.finished (text_before m.groups m.finished ++ spelled_name n) → IsToken text place end sh →
      option_and_then (λ k. build.after_term text place end sh k) (build.settled text h place s) ≡ Some r → Goes text end r (read.after_term (whole m.groups m.finished (Call p n End)) (token_at text place sh))
  ends_follows s h p n m sh r named b t e = by (build.settled text h place s) refl e
    where
      by : (o : Option State) → build.settled text h place s ≡ o → option_and_then (λ k. build.after_term text place end sh k) o ≡ Some r → Goes text end r (read.after_term (whole m.groups m.finished (Call p n End)) (token_at text place sh))
      by None f e = absurd cc
      by (Some j) f e =
          let w = Call p n End in
          let shows = settled_shows text place s h p n m.groups m.finished j named b f in
          after_follows text place end j.groups j.written j.from j.symbols j.trees j.stage (whole m.groups m.finished w).groups (whole m.groups m.finished w).finished sh r (behind_whole text place j m.groups m.finished w shows) t e

  opens : (s : State) (h : Heading) (p : ℕ) (n : List ℕ) (m : Progress) → name_in text h ≡ n → Holds text place s m.groups m.finished (text_before m.groups m.finished ++ spelled_name n) → IsToken text place end (shape.At mark.Open) →
      Shows text end (build.opened (Some h) stage.Expected s) (read.opened (Called p n) Expected m)
  opens s h p n m named b t = record {
    stage = tt;
    fits = tt;
    holds = record {
      groups = (named, ap length b.trees_are ∙ many_trees s.symbols m.groups m.finished, b.groups);
      good = (b.good, tt);
      trees_are = b.trees_are ∙ sym (append-nil (trees_so_far s.symbols m.groups m.finished));
      copied_is =
          goes_on text place end s.written s.from (text_before m.groups m.finished ++ spelled_name n) (40 ∷ []) t.after b.from b.copied_is t.is
          ∙ append_assoc (text_before m.groups m.finished) (spelled_name n) (40 ∷ [])
          ∙ sym (append-nil (text_before m.groups m.finished ++ (spelled_name n ++ 40 ∷ [])));
      from = let f = b.from in let l = t.after in omega (arith, f, l);
      is_pool = b.is_pool;
    };
  }

  name_follows : (s : State) (h : Heading) (p : ℕ) (n : List ℕ) (m : Progress) (sh : Shape) (r : State) → name_in text h ≡ n → Holds text place s m.groups m.finished (text_before m.groups m.finished ++ spelled_name n) → IsToken text place end sh →
      build.after_name text h place end sh s ≡ Some r → Goes text end r (read.after_name p n m (token_at text place sh))
  name_follows s h p n m (shape.At mark.Open) r named b t e =
      let same : build.opened (Some h) stage.Expected s ≡ r = cc in
      (_, refl, subst (λ k. Shows text end k (read.opened (Called p n) Expected m)) same (opens s h p n m named b t))
  name_follows s h p n m (shape.At mark.Close) r named b t e = ends_follows s h p n m (shape.At mark.Close) r named b t e
  name_follows s h p n m (shape.At mark.OpenList) r named b t e = ends_follows s h p n m (shape.At mark.OpenList) r named b t e
  name_follows s h p n m (shape.At mark.CloseList) r named b t e = ends_follows s h p n m (shape.At mark.CloseList) r named b t e
  name_follows s h p n m (shape.At mark.Comma) r named b t e = ends_follows s h p n m (shape.At mark.Comma) r named b t e
  name_follows s h p n m shape.Word r named b t e = ends_follows s h p n m shape.Word r named b t e
  name_follows s h p n m shape.Quoted r named b t e = ends_follows s h p n m shape.Quoted r named b t e
  name_follows s h p n m shape.Number r named b t e = ends_follows s h p n m shape.Number r named b t e

  -- ---- a token
  taken_at : (st : stage.Stage) (ms : read.Stage) (gs : List Group) (written : List ℕ) (from : ℕ) (pool : List Named) (ts : List Tree) (os : List Open) (finished : List Written) (sh : Shape) (r : State) →
      Shows text place (state st gs written from pool ts) (record { stage = ms; groups = os; finished = finished }) → IsToken text place end sh → build.step_at st text place end sh (state st gs written from pool ts) ≡ Some r →
      Goes text end r (read.step_at ms (record { stage = ms; groups = os; finished = finished }) (token_at text place sh))
  taken_at stage.Settled Settled gs written from pool ts os finished sh r s t e = after_follows text place end gs written from pool ts stage.Settled os finished sh r (record { fits = s.fits; holds = s.holds }) t e
  taken_at stage.Bracketed Bracketed gs written from pool ts os finished sh r s t e = brackets_follow text place end gs written from pool ts stage.Bracketed (record { stage = Bracketed; groups = os; finished = finished }) sh r s.fits s.holds t e
  taken_at stage.Expected Expected gs written from pool ts os finished sh r s t e = term_follows text place end gs written from pool ts stage.Expected os finished Expected sh r s.holds t e
  taken_at (stage.Headed h) (Headed p n) gs written from pool ts os finished sh r s t e = name_follows (state (stage.Headed h) gs written from pool ts) h p n (record { stage = Headed p n; groups = os; finished = finished }) sh r s.stage s.holds t e
  taken_at stage.Settled Bracketed gs written from pool ts os finished sh r s t e = absurd s.stage
  taken_at stage.Settled Expected gs written from pool ts os finished sh r s t e = absurd s.stage
  taken_at stage.Settled (Headed p n) gs written from pool ts os finished sh r s t e = absurd s.stage
  taken_at stage.Bracketed Settled gs written from pool ts os finished sh r s t e = absurd s.stage
  taken_at stage.Bracketed Expected gs written from pool ts os finished sh r s t e = absurd s.stage
  taken_at stage.Bracketed (Headed p n) gs written from pool ts os finished sh r s t e = absurd s.stage
  taken_at stage.Expected Settled gs written from pool ts os finished sh r s t e = absurd s.stage
  taken_at stage.Expected Bracketed gs written from pool ts os finished sh r s t e = absurd s.stage
  taken_at stage.Expected (Headed p n) gs written from pool ts os finished sh r s t e = absurd s.stage
  taken_at (stage.Headed h) Settled gs written from pool ts os finished sh r s t e = absurd s.stage
  taken_at (stage.Headed h) Bracketed gs written from pool ts os finished sh r s t e = absurd s.stage
  taken_at (stage.Headed h) Expected gs written from pool ts os finished sh r s t e = absurd s.stage

  pub taken : (s r : State) (m : Progress) (sh : Shape) → Shows text place s m → IsToken text place end sh → build.step text place end sh s ≡ Some r → Goes text end r (read.step m (token_at text place sh))
  taken s r m sh shows t e = taken_at s.stage m.stage s.groups s.written s.from s.symbols s.trees m.groups m.finished sh r shows t e
