-- What a build tells its caller, by how it ends.
use Rattle.std.proofs.Common.{◌≡◌, ℕ, ◌++◌, ◌∷◌, [], inl, rules, refl, ap, sym, subst, arith}
use Rattle.std.specs.Prelude.{Result, Ok, Err, OnOk, OnErr, IsErrOf, ◌↔◌}
use Rattle.term_model.specs.declared.Head.{Head}
use Rattle.terms_api.specs.declared.terms.BuildFault.{BuildFault}
use Rattle.terms_api.specs.declared.terms.BuildFault.TheVariants.{Deep, StoreFull, Worn}
use Rattle.terms_api.specs.Terms.{HasTree, IsSound, NeedsPlace, Built, NotBuilt, IsCrowded, CountsRefusal, trees, but_last, asked}
use Rattle.plain_store.specs.Contents.{Contents, store_of, IsSame, IsFilled, same_itself, LosesRow, CountsLosses, IsUsedUp}
use Rattle.plain_store.specs.Outcome.{Outcome}

abbrev R : Type 0
R = Result (Unit {0}) BuildFault

pub unchanged_not_built : (c : Contents) (h : Head) (n : ℕ) → NotBuilt (store_of c) (store_of c) h n
unchanged_not_built c h n =
    record {
      stack = refl;
      built = refl;
      none = λ r t k. k;
      rows = record { reachable = λ r t k reach. k; epoch = inl (refl, λ r t k. k) };
      counts = record {
        inside = refl;
        least_sweeps = omega arith;
        most_sweeps = omega arith;
        load = record { least = omega arith; most = omega arith };
        rows = refl;
        widest = refl;
        room = refl;
      };
    }

unchanged_losses : (c : Contents) → CountsLosses c c
unchanged_losses c =
    record { lost = λ l. absurd (l.gone l.had); kept = λ all. refl }

pub end_losses : (c d : Contents) (h : Head) (n : ℕ) (r : R) → Outcome c d h n r → CountsLosses c d
end_losses c d h n (Ok u) o = o.losses
end_losses c d h n (Err Deep) o = subst (CountsLosses c) (sym o.0) (unchanged_losses c)
end_losses c d h n (Err StoreFull) o = o.losses
end_losses c d h n (Err Worn) o = absurd o

pub end_used_up : (c d : Contents) (h : Head) (n : ℕ) (r : R) → Outcome c d h n r → LosesRow (store_of c) (store_of d) → IsUsedUp c h n
end_used_up c d h n (Ok u) o l = o.only_used_up l
end_used_up c d h n (Err Deep) o l = absurd (l.gone (subst (λ (x : Contents). HasTree (store_of x) l.row l.tree) (sym o.0) l.had))
end_used_up c d h n (Err StoreFull) o l = o.only_used_up l
end_used_up c d h n (Err Worn) o l = absurd o

pub end_ok : (c d : Contents) (h : Head) (n : ℕ) (r : R) → Outcome c d h n r → OnOk r (Built (store_of c) (store_of d) h n)
end_ok c d h n (Ok u) o = o.built
end_ok c d h n (Err e) o = tt

pub end_trees : (c d : Contents) (h : Head) (n : ℕ) (r : R) → Outcome c d h n r → OnOk r (trees (store_of d) ≡ but_last n (trees (store_of c)) ++ asked (store_of c) h n ∷ [])
end_trees c d h n (Ok u) o = o.trees
end_trees c d h n (Err e) o = tt

pub end_err : (c d : Contents) (h : Head) (n : ℕ) (r : R) → Outcome c d h n r → OnErr r (NotBuilt (store_of c) (store_of d) h n)
end_err c d h n (Ok u) o = tt
end_err c d h n (Err Deep) o = subst (λ (x : Contents). NotBuilt (store_of c) (store_of x) h n) (sym o.0) (unchanged_not_built c h n)
end_err c d h n (Err StoreFull) o = o.not_built
end_err c d h n (Err Worn) o = absurd o

pub end_err_trees : (c d : Contents) (h : Head) (n : ℕ) (r : R) → Outcome c d h n r → OnErr r (trees (store_of d) ≡ trees (store_of c))
end_err_trees c d h n (Ok u) o = tt
end_err_trees c d h n (Err Deep) o = ap (λ (x : Contents). trees (store_of x)) o.0
end_err_trees c d h n (Err StoreFull) o = o.trees
end_err_trees c d h n (Err Worn) o = absurd o

pub end_deep : (c d : Contents) (h : Head) (n : ℕ) (r : R) → Outcome c d h n r → IsErrOf r Deep ↔ NeedsPlace (store_of c) n
end_deep c d h n (Ok u) o = (λ e. absurd (search rules), λ p. absurd (o.place p))
end_deep c d h n (Err Deep) o = (λ e. o.1, λ p. refl)
end_deep c d h n (Err StoreFull) o = (λ e. absurd (cc), λ p. absurd (o.place p))
end_deep c d h n (Err Worn) o = absurd o

pub end_full : (c d : Contents) (h : Head) (n : ℕ) (r : R) → Outcome c d h n r → IsErrOf r StoreFull → IsCrowded (store_of c) (store_of d) h n × IsFilled (store_of c) h n
end_full c d h n (Ok u) o e = absurd (search rules)
end_full c d h n (Err Deep) o e = absurd (cc)
end_full c d h n (Err StoreFull) o e = (o.crowded, o.filled)
end_full c d h n (Err Worn) o e = absurd o

pub end_filled : (c d : Contents) (h : Head) (n : ℕ) (r : R) → Outcome c d h n r → IsFilled (store_of c) h n → (NeedsPlace (store_of c) n → ⊥) → IsErrOf r StoreFull
end_filled c d h n (Ok u) o f p = absurd (o.not_filled f)
end_filled c d h n (Err Deep) o f p = absurd (p o.1)
end_filled c d h n (Err StoreFull) o f p = refl
end_filled c d h n (Err Worn) o f p = absurd o

pub end_worn : (c d : Contents) (h : Head) (n : ℕ) (r : R) → Outcome c d h n r → IsErrOf r Worn → ⊥
end_worn c d h n (Ok u) o e = absurd (search rules)
end_worn c d h n (Err Deep) o e = absurd (cc)
end_worn c d h n (Err StoreFull) o e = absurd (cc)
end_worn c d h n (Err Worn) o e = absurd o

pub end_refusals : (c d : Contents) (h : Head) (n : ℕ) (r : R) → Outcome c d h n r → CountsRefusal r (store_of c) (store_of d)
end_refusals c d h n (Ok u) o = o.refusals
end_refusals c d h n (Err Deep) o = ap (λ (x : Contents). x.refusals) o.0
end_refusals c d h n (Err StoreFull) o = omega (arith, o.refusals)
end_refusals c d h n (Err Worn) o = absurd o

pub end_sound : (c d : Contents) (h : Head) (n : ℕ) (r : R) → IsSound (store_of c) → Outcome c d h n r → IsSound (store_of d)
end_sound c d h n (Ok u) s o = o.sound
end_sound c d h n (Err Deep) s o = subst (λ (x : Contents). IsSound (store_of x)) (sym o.0) s
end_sound c d h n (Err StoreFull) s o = o.sound
end_sound c d h n (Err Worn) s o = absurd o

pub end_same : (c d : Contents) (h : Head) (n : ℕ) (r : R) → Outcome c d h n r → IsSame c d
end_same c d h n (Ok u) o = o.same
end_same c d h n (Err Deep) o = subst (IsSame c) (sym o.0) (same_itself c)
end_same c d h n (Err StoreFull) o = o.same
end_same c d h n (Err Worn) o = absurd o
