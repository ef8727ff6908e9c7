-- What the tests ask of their terms.
use Rattle.std.proofs.Common.{◌≡◌, ℕ, ◌<◌, ◌^◌, List, [], length, get_or, max, refl, sym, subst, arith, All}
use Rattle.std.specs.Prelude.{None}
use Rattle.std.proofs.lemmas.List.{length-replicate}
use Rattle.std.proofs.lemmas.List.Elements.{All-nil}
use Rattle.terms_api.specs.Terms.{Store}
use Rattle.settings.specs.declared.parts.Settings.{Settings}
use Rattle.plain_store.specs.Contents.{Contents, store_of, empty}
use Rattle.term_model.specs.Tree.{Tree, IsGround}
use Rattle.symbol_pool.specs.Pool.{Named}
use Rattle.rule_match.specs.Planned.{Planned, IsPlain}
use Rattle.term_text.specs.Text.{HasNames}
use Rattle.term_lines.specs.Laws.{WritesNames}
use Rattle.rewrite_workers.specs.Desks.{IsReady}
use Rattle.work_order.specs.Works.{MayWork}
use Rattle.rewrite_workers.specs.Trials.{IsEmptyDesk}

pub may_work : (plan : Planned) (names : List Named) (terms : List Tree) → length terms < 2 ^ 32 → plan.rules ≡ [] → plan.widest ≡ 2 →
    All (λ t. IsGround t × IsPlain 2 t) terms → All (HasNames names) terms → MayWork plan names terms
may_work plan names terms few no_rules widest plain named = record {
  few = few;
  each_term = λ k d h. record { free = (plain k d h).0; plain = subst (λ n. IsPlain n (get_or terms k d)) (sym widest) (plain k d h).1; named = named k d h };
  names = subst (All (WritesNames names)) (sym no_rules) (All-nil (WritesNames names));
}

-- an empty store is an empty desk
pub empty_desk : (rows : ℕ) (c : Contents) → c ≡ empty rows 8 (max 2 2) → IsEmptyDesk rows (store_of c)
empty_desk rows c e = subst (λ x. IsEmptyDesk rows (store_of x)) (sym e) (record {
  outside = refl;
  empty = refl;
  rows_are = length-replicate rows None;
  room = refl;
  widest = refl;
})

-- an empty desk of as many rows as the settings have is ready
pub desk_ready : (s : Settings) (plan : Planned) (rows : ℕ) (desk : Store) → s.rows ≡ rows → s.depth ≡ 8 → plan.widest ≡ 2 → IsEmptyDesk rows desk → IsReady s plan desk
desk_ready s plan rows desk e depth widest d = record {
  outside = d.outside;
  empty = d.empty;
  rows = let a = d.rows_are in omega arith;
  room = let a = d.room in omega arith;
  width = let a = d.widest in omega arith;
}

-- so are all of several desks
pub desks_ready : {D : Type 0} (store : D → Store) (s : Settings) (plan : Planned) (rows : ℕ) (ds : List D) → s.rows ≡ rows → s.depth ≡ 8 → plan.widest ≡ 2 →
    All (λ d. IsEmptyDesk rows (store d)) ds → All (λ d. IsReady s plan (store d)) ds
desks_ready store s plan rows ds e depth widest all = λ k d h. desk_ready s plan rows (store (get_or ds k d)) e depth widest (all k d h)
