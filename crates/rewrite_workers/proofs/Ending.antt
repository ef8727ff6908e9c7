-- What a desk built over several terms, one after another.
use Rattle.std.proofs.Common.{◌≡◌, ℕ, zero, suc, ◌<◌, ◌≤◌, List, [], ◌∷◌, ◌++◌, length, refl, sym, ap, subst, ◌∙◌, arith}
use Rattle.std.specs.Prelude.{Result, Ok, Err}
use Rattle.std.proofs.lemmas.List.{append-nil, append_assoc}
use Rattle.term_model.specs.Tree.{Tree}
use Rattle.terms_api.specs.Terms.{Store}
use Rattle.rewrite_model.specs.Rule.{Rule}
use Rattle.term_lines.proofs.Lists.{none_built, built_on}
use Rattle.settings.specs.declared.parts.Settings.{Settings}
use Rattle.innermost.specs.declared.normal.RunFault.{RunFault}
use Rattle.line_ends.specs.declared.stop.LineStop.{LineStop}
use Rattle.line_ends.specs.declared.stop.LineStop.TheVariants as stop
use Rattle.rewrite_workers.specs.Desks.{KeepsDesk}
use Rattle.rewrite_workers.specs.Ends.{BuiltAll, BuiltFront, RefusedLast, Ended}
use Rattle.work_order.specs.Drawn.{numbered}
use Rattle.work_order.specs.Works.{term_at, strategy_of, remembers_results, AreBuilt, need_at, need_of}
use Rattle.rewrite_workers.specs.Working.{WorksOn, more_sweeps}

pub numbered-append : (terms : List Tree) (xs ys : List ℕ) → numbered terms (xs ++ ys) ≡ numbered terms xs ++ numbered terms ys
numbered-append terms [] ys = refl
numbered-append terms (x ∷ xs) ys = ap (λ (ts : List Tree). term_at terms x ∷ ts) (numbered-append terms xs ys)

module _ (s : Settings) (rules : List Rule) where
  -- no terms build nothing
  pub nothing_more : (a : Store) → BuiltAll s rules [] a a
  nothing_more a = record { trees = []; are = none_built rules s.fuel s.depth (strategy_of s.command) (remembers_results s rules) a.built; built = sym (append-nil a.built) }

  pub built_over : (ts us before mid xs ys : List Tree) → mid ≡ before ++ xs → AreBuilt s rules ts before xs → AreBuilt s rules us mid ys → AreBuilt s rules (ts ++ us) before (xs ++ ys)
  built_over ts us before mid xs ys e c d =
      built_on rules s.fuel s.depth (strategy_of s.command) (remembers_results s rules) ts us before xs ys c (subst (λ (zs : List Tree). AreBuilt s rules us zs ys) e d)

  longer : (a b c : Store) (xs ys : List Tree) → b.built ≡ a.built ++ xs → c.built ≡ b.built ++ ys → c.built ≡ a.built ++ (xs ++ ys)
  longer a b c xs ys one two = two ∙ ap (λ (zs : List Tree). zs ++ ys) one ∙ append_assoc a.built xs ys

  pub built_after : (ts us : List Tree) (a b c : Store) → BuiltAll s rules ts a b → BuiltAll s rules us b c → BuiltAll s rules (ts ++ us) a c
  built_after ts us a b c one two = record {
    trees = one.trees ++ two.trees;
    are = built_over ts us a.built b.built one.trees two.trees one.built one.are two.are;
    built = longer a b c one.trees two.trees one.built two.built;
  }

  -- all is the first of it
  pub all_front : (ts : List Tree) (a b : Store) → BuiltAll s rules ts a b → BuiltFront s rules ts a b
  all_front ts a b h = record { front = h.trees; rest = []; split = subst (AreBuilt s rules ts a.built) (sym (append-nil h.trees)) h.are; built = h.built; whole = λ e. h }

  front_after : (ts us : List Tree) (a b c : Store) → BuiltAll s rules ts a b → BuiltFront s rules us b c → BuiltFront s rules (ts ++ us) a c
  front_after ts us a b c one two = record {
    front = one.trees ++ two.front;
    rest = two.rest;
    split = subst (AreBuilt s rules (ts ++ us) a.built) (sym (append_assoc one.trees two.front two.rest))
        (built_over ts us a.built b.built one.trees (two.front ++ two.rest) one.built one.are two.split);
    built = longer a b c one.trees two.front one.built two.built;
    whole = λ e. built_after ts us a b c one (two.whole e);
  }

  refused_after : (ts : List Tree) (t : Tree) (a b c : Store) (fault : RunFault) → BuiltAll s rules ts a b → b.refusals ≡ a.refusals →
      RefusedLast s rules (t ∷ []) b c fault → RefusedLast s rules (ts ++ t ∷ []) a c fault
  refused_after ts t a b c fault one same r = record {
    before = ts ++ r.before;
    term = r.term;
    drawn_is = ap (λ (xs : List Tree). ts ++ xs) r.drawn_is ∙ sym (append_assoc ts r.before (r.term ∷ []));
    begun = r.begun;
    built = built_after ts r.before a b r.begun one r.built;
    empty = r.empty;
    refused = r.refused;
    refusals = let h = r.refusals in omega (arith, same);
  }

  -- a term more, after terms at which nothing was refused
  pub ended_after : {A : Type 0} (ts : List Tree) (t : Tree) (a b c : Store) (r : Result A LineStop) → BuiltAll s rules ts a b → b.refusals ≡ a.refusals →
      Ended s rules (t ∷ []) b c r → Ended s rules (ts ++ t ∷ []) a c r
  ended_after ts t a b c (Ok x) one same e = (built_after ts (t ∷ []) a b c one e.0, e.1 ∙ same)
  ended_after ts t a b c (Err stop.StoreFull) one same e = refused_after ts t a b c _ one same e
  ended_after ts t a b c (Err stop.Worn) one same e = refused_after ts t a b c _ one same e
  ended_after ts t a b c (Err stop.Memory) one same e = (front_after ts (t ∷ []) a b c one e.0, e.1 ∙ same)

  -- a stop is the same, whatever the other answer would be
  pub ended_stop : (A B : Type 0) (ts : List Tree) (a b : Store) (e : LineStop) → Ended {A = A} s rules ts a b (Err e) → Ended {A = B} s rules ts a b (Err e)
  ended_stop A B ts a b stop.StoreFull e = e
  ended_stop A B ts a b stop.Worn e = e
  ended_stop A B ts a b stop.Memory e = e

pub works_stop : (A B : Type 0) (s : Settings) (n : ℕ) (a b : Store) (e : LineStop) → WorksOn {A = A} s n a b (Err e) → WorksOn {A = B} s n a b (Err e)
works_stop A B s n a b stop.StoreFull w = record { rows = w.rows; widest = w.widest; room = w.room; least_sweeps = w.least_sweeps; most_sweeps = w.most_sweeps; least_load = w.least_load; most_load = w.most_load }
works_stop A B s n a b stop.Worn w = record { rows = w.rows; widest = w.widest; room = w.room; least_sweeps = w.least_sweeps; most_sweeps = w.most_sweeps; least_load = w.least_load; most_load = w.most_load }
works_stop A B s n a b stop.Memory w = record { rows = w.rows; widest = w.widest; room = w.room; least_sweeps = w.least_sweeps; most_sweeps = w.most_sweeps; least_load = w.least_load; most_load = w.most_load }

pub works_after : {A B : Type 0} (s : Settings) (n m : ℕ) (a b c : Store) (x : A) (r : Result B LineStop) → m ≤ n → WorksOn s n a b (Ok x) → WorksOn s m b c r → WorksOn s n a c r
works_after s n m a b c x r most one two = record {
  rows = two.rows ∙ one.rows;
  widest = two.widest ∙ one.widest;
  room = two.room ∙ one.room;
  least_sweeps = let p = one.least_sweeps in let q = two.least_sweeps in omega arith;
  most_sweeps = let p = one.most_sweeps in let q = two.most_sweeps in omega arith;
  least_load = let p = one.least_load in let q = two.least_load in omega arith;
  most_load = λ is. let p = one.most_load is in let q = two.most_load is in omega arith;
}

pub works_begin : {A : Type 0} (s : Settings) (n : ℕ) (a : Store) (x : A) → WorksOn s n a a (Ok x)
works_begin s n a x = record {
  rows = refl;
  widest = refl;
  room = refl;
  least_sweeps = omega arith;
  most_sweeps = omega arith;
  least_load = omega arith;
  most_load = λ is. omega arith;
}

-- there was no memory to begin
pub works_unbegun : (A : Type 0) (s : Settings) (n : ℕ) (a : Store) → WorksOn {A = A} s n a a (Err stop.Memory)
works_unbegun A s n a = record {
  rows = refl;
  widest = refl;
  room = refl;
  least_sweeps = omega arith;
  most_sweeps = omega arith;
  least_load = omega arith;
  most_load = λ is. omega arith;
}

-- one of some numbers is no more than the greatest
greatest_most : (s : Settings) (rules : List Rule) (terms : List Tree) (i : ℕ) → i < length terms → need_at s rules terms i ≤ need_of s rules terms
greatest_most s rules [] i h = absurd (omega arith)
greatest_most s rules (t ∷ ts) zero h = omega arith
greatest_most s rules (t ∷ ts) (suc i) h = let p = greatest_most s rules ts i (omega arith) in omega arith

pub need_most : (s : Settings) (rules : List Rule) (terms : List Tree) (i : ℕ) → i < length terms → need_at s rules terms i ≤ need_of s rules terms
need_most = greatest_most

few_sweeps : {A : Type 0} (r : Result A LineStop) → more_sweeps r ≤ 1
few_sweeps (Ok x) = omega arith
few_sweeps (Err stop.StoreFull) = omega arith
few_sweeps (Err stop.Worn) = omega arith
few_sweeps (Err stop.Memory) = omega arith

more_refusals : {A : Type 0} (s : Settings) (rules : List Rule) (ts : List Tree) (a b : Store) (r : Result A LineStop) → Ended s rules ts a b r → a.refusals ≤ b.refusals
more_refusals s rules ts a b (Ok x) e = let h = e.1 in omega arith
more_refusals s rules ts a b (Err stop.StoreFull) e = let h = e.refusals in omega arith
more_refusals s rules ts a b (Err stop.Worn) e = let h = e.refusals in omega arith
more_refusals s rules ts a b (Err stop.Memory) e = let h = e.1 in omega arith

pub keeps_desk : {A : Type 0} (n : ℕ) (s : Settings) (rules : List Rule) (ts : List Tree) (a b : Store) (r : Result A LineStop) → WorksOn s n a b r → Ended s rules ts a b r → KeepsDesk s n a b
keeps_desk n s rules ts a b r w e = record {
  rows = w.rows;
  widest = w.widest;
  room = w.room;
  least_sweeps = w.least_sweeps;
  most_sweeps = let p = w.most_sweeps in let q = few_sweeps r in omega arith;
  least_load = w.least_load;
  most_load = w.most_load;
  refusals = more_refusals s rules ts a b r e;
}
