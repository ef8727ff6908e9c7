-- Runs of the plain program, one part after another.
use Rattle.std.proofs.Common.{◌≡◌, ℕ, zero, suc, ◌+◌, ◌-◌, ◌<◌, ◌≤◌, List, [], ◌∷◌, ◌++◌, length, refl, sym, ◌∙◌, ap, subst, arith, append_assoc, append-nil, Bool, true, false, Some, None}
use Rattle.std.specs.Prelude.{Result, Ok, Err, map, if◌then◌else◌, nat_lt}
use Rattle.std.proofs.lemmas.Bool.{ltb-true, ltb-false}
use Rattle.term_model.specs.Tree.{Tree, Leaf, Node, Trees, More, arguments}
use Rattle.rewrite_model.specs.Rule.{Rule, Condition}
use Rattle.rewrite_model.specs.Matching.{match_of, if_matched, tree_at}
use Rattle.rewrite_model.specs.Run.{Run, Ended, Done, OutOfFuel as NoFuel, TooDeep as NoRoom, done, ends, noting, after, ◌>>=◌, in_room}
use Rattle.rewrite_model.specs.Evaluation.{Point, Evaluated, Reducer, evaluate, evaluate_all, hold, holds, replace, apply, reduce_by, reduction}
use Rattle.plain_rewriting.specs.Boxed.{tree_of, trees_in}
use Rattle.plain_rewriting.specs.declared.boxed.Term.{Term}
use Rattle.plain_rewriting.specs.declared.boxed.Arguments.{Arguments}
use Rattle.plain_rewriting.specs.Program.{Agrees, ComesTo, same_point}
use Rattle.plain_rewriting.specs.declared.ends.NoValue.{NoValue}
use Rattle.plain_rewriting.specs.declared.ends.NoValue.TheVariants.{OutOfFuel, TooDeep, Memory}
use Rattle.rewrite_model.proofs.Fuel.{begins_with_itself}

map_append : {N M : Type 0} (f : N → M) (xs ys : List N) → map f (xs ++ ys) ≡ map f xs ++ map f ys
map_append f [] ys = refl
map_append f (x ∷ xs) ys = ap (λ ts. f x ∷ ts) (map_append f xs ys)

module _ {N M : Type 0} (tree : N → M) where
  -- after a value the run goes on
  agrees_after : {A B : Type 0} (notes : List N) (e : Ended A) (g : A → ℕ → Run N B) (a : A) (k : ℕ) (old mid new : List M) (f : Ended B) → mid ≡ old ++ map tree notes → Done a k ≡ e → Agrees tree mid new f (g a k) → Agrees tree old new f (after notes e g)
  agrees_after {A} {B} notes e g a k old mid new f m d s =
      subst (λ (e' : Ended A). Agrees tree old new f (after notes e' g)) d (record {
        built = s.built ∙ ap (λ ts. ts ++ map tree (g a k).notes) m ∙ append_assoc old (map tree notes) (map tree (g a k).notes) ∙ ap (λ ts. old ++ ts) (sym (map_append tree notes (g a k).notes));
        ends = s.ends;
      })

  pub agrees_then : {A B : Type 0} (x : Run N A) (g : A → ℕ → Run N B) (a : A) (k : ℕ) (old mid new : List M) (f : Ended B) → Agrees tree old mid (Done a k) x → Agrees tree mid new f (g a k) → Agrees tree old new f (x >>= g)
  agrees_then x g a k old mid new f s t = agrees_after x.notes x.end g a k old mid new f s.built s.ends t

  no_value : {A B : Type 0} (notes : List N) (e : Ended A) (g : A → ℕ → Run N B) (old new : List M) → new ≡ old ++ map tree notes → (NoFuel ≡ e → Agrees tree old new NoFuel (after notes e g)) × (NoRoom ≡ e → Agrees tree old new NoRoom (after notes e g))
  no_value {A} {B} notes e g old new b = (
    (λ h. subst (λ (d : Ended A). Agrees tree old new NoFuel (after notes d g)) h (record { built = b; ends = refl })),
    (λ h. subst (λ (d : Ended A). Agrees tree old new NoRoom (after notes d g)) h (record { built = b; ends = refl })),
  )

  -- the first end that is no value is the end of all
  pub then_err : {T U A B : Type 0} (view : T → A) (view' : U → B) (x : Run N A) (g : A → ℕ → Run N B) (old new : List M) (fuel fuel' : ℕ) (e : NoValue) → ComesTo {T = T} tree view old new fuel (Err e) x → ComesTo {T = U} tree view' old new fuel' (Err e) (x >>= g)
  then_err view view' x g old new fuel fuel' OutOfFuel s = (no_value x.notes x.end g old new s.built).0 s.ends
  then_err view view' x g old new fuel fuel' TooDeep s = (no_value x.notes x.end g old new s.built).1 s.ends
  then_err view view' x g old new fuel fuel' Memory s = tt

  pub then_tail : {T A B : Type 0} (view : T → B) (x : Run N A) (g : A → ℕ → Run N B) (a : A) (k : ℕ) (old mid new : List M) (fuel : ℕ) (r : Result (T × ℕ) NoValue) → Agrees tree old mid (Done a k) x → k ≤ fuel → ComesTo tree view mid new k r (g a k) → ComesTo tree view old new fuel r (x >>= g)
  then_tail view x g a k old mid new fuel (Ok r) s l t = (agrees_then x g a k old mid new (Done (view r.0) r.1) s t.0, omega (arith, t.1))
  then_tail view x g a k old mid new fuel (Err OutOfFuel) s l t = agrees_then x g a k old mid new NoFuel s t
  then_tail view x g a k old mid new fuel (Err TooDeep) s l t = agrees_then x g a k old mid new NoRoom s t
  then_tail view x g a k old mid new fuel (Err Memory) s l t = tt

  pub then_on : {T A B : Type 0} (view : T → B) (x : Run N A) (g : A → ℕ → Run N B) (a : A) (k m : ℕ) (old mid new : List M) (fuel : ℕ) (r : Result (T × ℕ) NoValue) → Agrees tree old mid (Done a k) x → m ≤ fuel → ComesTo tree view mid new m r (g a k) → ComesTo tree view old new fuel r (x >>= g)
  then_on view x g a k m old mid new fuel (Ok r) s l t = (agrees_then x g a k old mid new (Done (view r.0) r.1) s t.0, omega (arith, t.1))
  then_on view x g a k m old mid new fuel (Err OutOfFuel) s l t = agrees_then x g a k old mid new NoFuel s t
  then_on view x g a k m old mid new fuel (Err TooDeep) s l t = agrees_then x g a k old mid new NoRoom s t
  then_on view x g a k m old mid new fuel (Err Memory) s l t = tt

  pub comes_done : {A : Type 0} (a b : A) (old : List M) (fuel : ℕ) → b ≡ a → Agrees tree old old (Done b fuel) (done a fuel)
  comes_done {A} a b old fuel e = record { built = sym (append-nil old); ends = ap (λ c. Done c fuel) e }

  pub comes_end : {T A : Type 0} (view : T → A) (old : List M) (fuel : ℕ) → ComesTo {T = T} tree view old old fuel (Err OutOfFuel) (ends NoFuel) × ComesTo {T = T} tree view old old fuel (Err TooDeep) (ends NoRoom)
  comes_end view old fuel = (record { built = sym (append-nil old); ends = refl }, record { built = sym (append-nil old); ends = refl })

  -- the same run, with more fuel given
  pub more_given : {T A : Type 0} (view : T → A) (old new : List M) (m n : ℕ) (r : Result (T × ℕ) NoValue) (x : Run N A) → m ≤ n → ComesTo tree view old new m r x → ComesTo tree view old new n r x
  more_given view old new m n (Ok r) x l s = (s.0, omega (arith, s.1))
  more_given view old new m n (Err OutOfFuel) x l s = s
  more_given view old new m n (Err TooDeep) x l s = s
  more_given view old new m n (Err Memory) x l s = s

  -- a run that begins with a note
  pub noted : {T A : Type 0} (view : T → A) (n : N) (old new : List M) (fuel : ℕ) (r : Result (T × ℕ) NoValue) (x : Run N A) → ComesTo tree view (old ++ tree n ∷ []) new fuel r x → ComesTo tree view old new fuel r (noting n x)
  noted view n old new fuel (Ok r) x s = (record { built = s.0.built ∙ append_assoc old (tree n ∷ []) (map tree x.notes); ends = s.0.ends }, s.1)
  noted view n old new fuel (Err OutOfFuel) x s = record { built = s.built ∙ append_assoc old (tree n ∷ []) (map tree x.notes); ends = s.ends }
  noted view n old new fuel (Err TooDeep) x s = record { built = s.built ∙ append_assoc old (tree n ∷ []) (map tree x.notes); ends = s.ends }
  noted view n old new fuel (Err Memory) x s = tt

-- room that is there makes no difference
pub some_room : {N A : Type 0} (room : ℕ) (x : Run N A) → 0 < room → in_room room x ≡ x
some_room zero x l = absurd (omega arith)
some_room (suc n) x l = refl

-- The parts of the evaluation, from what came before them.
module _ (red : Reducer) (bound : List Tree) where
  pub no_room : (p : Tree) (kept : List Tree) (fuel room : ℕ) (old : List Point) → room ≡ 0 → Agrees same_point old old NoRoom (evaluate red bound p kept fuel room)
  no_room p kept fuel room old e = subst (λ (x : Evaluated Tree). Agrees same_point old old NoRoom x) (sym (none p)) (record { built = sym (append-nil old); ends = refl })
    where
      none : (q : Tree) → evaluate red bound q kept fuel room ≡ ends NoRoom
      none (Leaf x) = ap (λ r. in_room r (done (tree_at x bound) fuel)) e
      none (Node h ps) = ap (λ r. in_room r (evaluate_all red bound ps kept fuel room >>= (λ ts left. red [] kept (Node h ts) left room))) e

  module _ (all : Trees) (p : Tree) (ps : Trees) (is : all ≡ More p ps) (kept : List Tree) (fuel room below : ℕ) (at : below ≡ room - 1) (t : Tree) (left : ℕ) (old mid new : List Point) (first : Agrees same_point old mid (Done t left) (evaluate red bound p kept fuel below)) (l : left ≤ fuel) where
    here : Agrees same_point old mid (Done t left) (evaluate red bound p kept fuel (room - 1))
    here = subst (λ r. Agrees same_point old mid (Done t left) (evaluate red bound p kept fuel r)) at first

    pub rest_err : (e : NoValue) → ComesTo {T = Arguments} same_point trees_in mid new left (Err e) (evaluate_all red bound ps (t ∷ kept) left below) → ComesTo {T = Arguments} same_point trees_in old new fuel (Err e) (evaluate_all red bound all kept fuel room)
    rest_err e c =
        let c' : ComesTo {T = Arguments} same_point trees_in mid new left (Err e) (evaluate_all red bound ps (t ∷ kept) left (room - 1)) = subst (λ r. ComesTo {T = Arguments} same_point trees_in mid new left (Err e) (evaluate_all red bound ps (t ∷ kept) left r)) at c in
        subst (λ qs. ComesTo {T = Arguments} same_point trees_in old new fuel (Err e) (evaluate_all red bound qs kept fuel room)) (sym is)
        (then_tail same_point trees_in (evaluate red bound p kept fuel (room - 1)) _ t left old mid new fuel (Err e) here l (then_err same_point trees_in trees_in (evaluate_all red bound ps (t ∷ kept) left (room - 1)) _ mid new left left e c'))

    pub all_ok : (ts : Trees) (last : ℕ) → Agrees same_point mid new (Done ts last) (evaluate_all red bound ps (t ∷ kept) left below) → Agrees same_point old new (Done (More t ts) last) (evaluate_all red bound all kept fuel room)
    all_ok ts last c =
        let c' : Agrees same_point mid new (Done ts last) (evaluate_all red bound ps (t ∷ kept) left (room - 1)) = subst (λ r. Agrees same_point mid new (Done ts last) (evaluate_all red bound ps (t ∷ kept) left r)) at c in
        subst (λ qs. Agrees same_point old new (Done (More t ts) last) (evaluate_all red bound qs kept fuel room)) (sym is)
        (agrees_then same_point (evaluate red bound p kept fuel (room - 1)) _ t left old mid new (Done (More t ts) last) here
        (agrees_then same_point (evaluate_all red bound ps (t ∷ kept) left (room - 1)) _ ts last mid new new (Done (More t ts) last) c' (comes_done same_point (More t ts) (More t ts) new last refl)))

  module _ (all : List Condition) (c : Condition) (cs : List Condition) (is : all ≡ c ∷ cs) (p q : Tree) (p_is : p ≡ c.first) (q_is : q ≡ c.second) (kept : List Tree) (fuel room two three : ℕ) (two_is : two ≡ room - 2) (three_is : three ≡ room - 3) (t : Tree) (left : ℕ) (old mid : List Point) (first : Agrees same_point old mid (Done t left) (evaluate red bound p kept fuel two)) (l : left ≤ fuel) where
    first_value : Agrees same_point old mid (Done t left) (evaluate red bound c.first kept fuel (room - 2))
    first_value = subst (λ r. Agrees same_point old mid (Done t left) (evaluate red bound c.first kept fuel r)) two_is (subst (λ u. Agrees same_point old mid (Done t left) (evaluate red bound u kept fuel two)) p_is first)

    pub second_err : (new : List Point) (e : NoValue) → ComesTo {T = Term} same_point tree_of mid new left (Err e) (evaluate red bound q (t ∷ kept) left three) → ComesTo {T = Bool} same_point (λ b. b) old new fuel (Err e) (hold red bound all kept fuel room)
    second_err new e s =
        let s' : ComesTo {T = Term} same_point tree_of mid new left (Err e) (evaluate red bound c.second (t ∷ kept) left (room - 3)) = subst (λ r. ComesTo {T = Term} same_point tree_of mid new left (Err e) (evaluate red bound c.second (t ∷ kept) left r)) three_is (subst (λ u. ComesTo {T = Term} same_point tree_of mid new left (Err e) (evaluate red bound u (t ∷ kept) left three)) q_is s) in
        subst (λ ds. ComesTo {T = Bool} same_point (λ b. b) old new fuel (Err e) (hold red bound ds kept fuel room)) (sym is)
        (then_tail same_point (λ (b : Bool). b) (evaluate red bound c.first kept fuel (room - 2)) _ t left old mid new fuel (Err e) first_value l (then_err same_point tree_of (λ (b : Bool). b) (evaluate red bound c.second (t ∷ kept) left (room - 3)) _ mid new left left e s'))

    pub both_values : (u : Tree) (last : ℕ) (new end : List Point) (r : Result (Bool × ℕ) NoValue) (b : Bool) → Agrees same_point mid new (Done u last) (evaluate red bound q (t ∷ kept) left three) → last ≤ left → b ≡ holds c t u → ComesTo same_point (λ b. b) new end last r (if b then hold red bound cs kept last room else done false last) → ComesTo same_point (λ b. b) old end fuel r (hold red bound all kept fuel room)
    both_values u last new end r b s l' b_is k =
        let s' : Agrees same_point mid new (Done u last) (evaluate red bound c.second (t ∷ kept) left (room - 3)) = subst (λ r'. Agrees same_point mid new (Done u last) (evaluate red bound c.second (t ∷ kept) left r')) three_is (subst (λ v. Agrees same_point mid new (Done u last) (evaluate red bound v (t ∷ kept) left three)) q_is s) in
        let k' : ComesTo same_point (λ (b : Bool). b) new end last r (if holds c t u then hold red bound cs kept last room else done false last) = subst (λ (d : Bool). ComesTo same_point (λ (b : Bool). b) new end last r (if d then hold red bound cs kept last room else done false last)) b_is k in
        subst (λ ds. ComesTo same_point (λ (b : Bool). b) old end fuel r (hold red bound ds kept fuel room)) (sym is)
        (then_tail same_point (λ (b : Bool). b) (evaluate red bound c.first kept fuel (room - 2)) _ t left old mid end fuel r first_value l
        (then_tail same_point (λ (b : Bool). b) (evaluate red bound c.second (t ∷ kept) left (room - 3)) _ u last mid new end left r s' l' k'))

-- a reduction begins with a point
pub reduced : (rules : List Rule) (given kept : List Tree) (t : Tree) (fuel room : ℕ) (old mid new : List Point) (r : Result (Term × ℕ) NoValue) → mid ≡ old ++ record { tree = t; hand = arguments t ++ given ++ kept; room = room } ∷ [] → ComesTo same_point tree_of mid new fuel r (reduce_by (reduction rules) rules kept t fuel room) → ComesTo same_point tree_of old new fuel r (reduction rules given kept t fuel room)
reduced rules given kept t fuel room old mid new r m c =
    let c' : ComesTo same_point tree_of (old ++ record { tree = t; hand = arguments t ++ given ++ kept; room = room } ∷ []) new fuel r (reduce_by (reduction rules) rules kept t fuel room) = subst (λ ts. ComesTo same_point tree_of ts new fuel r (reduce_by (reduction rules) rules kept t fuel room)) m c in
    subst (λ x. ComesTo same_point tree_of old new fuel r x) (sym (begins_with_itself rules given kept t fuel room))
    (noted same_point tree_of (record { tree = t; hand = arguments t ++ given ++ kept; room = room }) old new fuel r (reduce_by (reduction rules) rules kept t fuel room) c')

-- by the rules of a list
module _ (red : Reducer) (r : Rule) (rs : List Rule) (kept : List Tree) (t : Tree) (fuel room : ℕ) where
  pub passed_over : match_of r.left t ≡ None → reduce_by red (r ∷ rs) kept t fuel room ≡ reduce_by red rs kept t fuel room
  passed_over m = ap (λ o. if_matched o (reduce_by red rs kept t fuel room) (λ bound. apply red r bound kept t fuel room (λ left. reduce_by red rs kept t left room))) m

  matched : (bound : List Tree) → match_of r.left t ≡ Some bound → reduce_by red (r ∷ rs) kept t fuel room ≡ apply red r bound kept t fuel room (λ left. reduce_by red rs kept t left room)
  matched bound m = ap (λ o. if_matched o (reduce_by red rs kept t fuel room) (λ bound. apply red r bound kept t fuel room (λ left. reduce_by red rs kept t left room))) m

  pub too_deep : (bound : List Tree) (f : ℕ) → match_of r.left t ≡ Some bound → fuel ≡ suc f → room ≤ length bound → reduce_by red (r ∷ rs) kept t fuel room ≡ ends NoRoom
  too_deep bound f m e l =
      matched bound m ∙ ap (λ k. apply red r bound kept t k room (λ left. reduce_by red rs kept t left room)) e
      ∙ ap (λ (b : Bool). if b then ends NoRoom else (hold red bound r.conditions (t ∷ bound ++ kept) f (room - length bound) >>= (λ all left. if all then replace red bound r.right kept left room else reduce_by red rs kept t left room))) (is_less (nat_lt room (1 + length bound)) refl)
    where
      is_less : (b : Bool) → nat_lt room (1 + length bound) ≡ b → nat_lt room (1 + length bound) ≡ true
      is_less true q = q
      is_less false q = absurd (omega (arith, ltb-false room (1 + length bound) q))

  pub used : (bound : List Tree) (f : ℕ) → match_of r.left t ≡ Some bound → fuel ≡ suc f → length bound < room → reduce_by red (r ∷ rs) kept t fuel room ≡ (hold red bound r.conditions (t ∷ bound ++ kept) f (room - length bound) >>= (λ all left. if all then replace red bound r.right kept left room else reduce_by red rs kept t left room))
  used bound f m e l =
      matched bound m ∙ ap (λ k. apply red r bound kept t k room (λ left. reduce_by red rs kept t left room)) e
      ∙ ap (λ (b : Bool). if b then ends NoRoom else (hold red bound r.conditions (t ∷ bound ++ kept) f (room - length bound) >>= (λ all left. if all then replace red bound r.right kept left room else reduce_by red rs kept t left room))) (is_no_less (nat_lt room (1 + length bound)) refl)
    where
      is_no_less : (b : Bool) → nat_lt room (1 + length bound) ≡ b → nat_lt room (1 + length bound) ≡ false
      is_no_less false q = q
      is_no_less true q = absurd (omega (arith, ltb-true room (1 + length bound) q))

-- the same, of the rules from one of them on
module _ (red : Reducer) (all : List Rule) (r : Rule) (rs : List Rule) (is : all ≡ r ∷ rs) (kept : List Tree) (t : Tree) (fuel room : ℕ) (old : List Point) where
  pub rest_used : (new : List Point) (s : Result (Term × ℕ) NoValue) → match_of r.left t ≡ None → ComesTo same_point tree_of old new fuel s (reduce_by red rs kept t fuel room) → ComesTo same_point tree_of old new fuel s (reduce_by red all kept t fuel room)
  rest_used new s m c =
      subst (λ qs. ComesTo same_point tree_of old new fuel s (reduce_by red qs kept t fuel room)) (sym is)
      (subst (λ x. ComesTo same_point tree_of old new fuel s x) (sym (passed_over red r rs kept t fuel room m)) c)

  module _ (bound : List Tree) (f : ℕ) (m : match_of r.left t ≡ Some bound) (e : fuel ≡ suc f) where
    pub no_room_used : room ≤ length bound → Agrees same_point old old NoRoom (reduce_by red all kept t fuel room)
    no_room_used l =
        subst (λ qs. Agrees same_point old old NoRoom (reduce_by red qs kept t fuel room)) (sym is)
        (subst (λ (x : Evaluated Tree). Agrees same_point old old NoRoom x) (sym (too_deep red r rs kept t fuel room bound f m e l)) (record { built = sym (append-nil old); ends = refl }))

    module _ (l : length bound < room) (below : ℕ) (below_is : below ≡ room - length bound) where
      after_hold : (new : List Point) (s : Result (Term × ℕ) NoValue) → ComesTo same_point tree_of old new fuel s (hold red bound r.conditions (t ∷ bound ++ kept) f below >>= (λ all left. if all then replace red bound r.right kept left room else reduce_by red rs kept t left room)) → ComesTo same_point tree_of old new fuel s (reduce_by red all kept t fuel room)
      after_hold new s c =
          subst (λ qs. ComesTo same_point tree_of old new fuel s (reduce_by red qs kept t fuel room)) (sym is)
          (subst (λ x. ComesTo same_point tree_of old new fuel s x) (sym (used red r rs kept t fuel room bound f m e l))
          (subst (λ b. ComesTo same_point tree_of old new fuel s (hold red bound r.conditions (t ∷ bound ++ kept) f b >>= (λ all left. if all then replace red bound r.right kept left room else reduce_by red rs kept t left room))) below_is c))

      pub hold_err : (new : List Point) (d : NoValue) → ComesTo {T = Bool} same_point (λ b. b) old new f (Err d) (hold red bound r.conditions (t ∷ bound ++ kept) f below) → ComesTo {T = Term} same_point tree_of old new fuel (Err d) (reduce_by red all kept t fuel room)
      hold_err new d c = after_hold new (Err d) (then_err same_point (λ (b : Bool). b) tree_of (hold red bound r.conditions (t ∷ bound ++ kept) f below) _ old new f fuel d c)

      pub held : (b : Bool) (left : ℕ) (mid new : List Point) (s : Result (Term × ℕ) NoValue) → Agrees same_point old mid (Done b left) (hold red bound r.conditions (t ∷ bound ++ kept) f below) → left ≤ f → ComesTo same_point tree_of mid new left s (if b then replace red bound r.right kept left room else reduce_by red rs kept t left room) → ComesTo same_point tree_of old new fuel s (reduce_by red all kept t fuel room)
      held b left mid new s h l' c = after_hold new s (then_tail same_point tree_of (hold red bound r.conditions (t ∷ bound ++ kept) f below) _ b left old mid new fuel s h (omega (arith, l', e)) c)
