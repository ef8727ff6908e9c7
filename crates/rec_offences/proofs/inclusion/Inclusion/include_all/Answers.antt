use Rattle.rec_offences.proofs.Common.{nat_tests, common_steps, ◌≡◌, ℕ, ◌+◌, Bool, List, [], ◌∷◌, ◌++◌, None, Some, Option, drop, take, get_or, ap, sym, subst, ◌∙◌, arith, Name, Verdict, Inclusion, same_text, place_in, target, target_before, drop_at, drop_all, default_in, append-nil}
use Rattle.rec_offences.proofs.Along.{Along, Ended, past_unknown, past_first, past_other}
use Rattle.rec_offences.proofs.inclusion.Inclusion.include_all.Goals as goal
use Rattle.rec_offences.proofs.inclusion.Inclusion.include_all.Goals.{in-None, in-Some, in-Some-2+in_ok-verdict-in-Some-2}

-- what an entry includes, by the headers as they are kept
targeted : (bytes : List ℕ) (names headers : List Name) (number : ℕ) (x : Name) (found o : Option ℕ) → names ≡ headers → found ≡ place_in (same_text bytes x) (take number names) → found ≡ o →
    target bytes headers number x ≡ o
targeted bytes names headers number x found o e is was = ap (λ ns. place_in (same_text bytes x) (take number ns)) (sym e) ∙ sym is ∙ was

blank : Name
blank = record { start = 0; end = 0 }

pub include-requires-clause-there : goal.include-requires-clause-there
unfolding blank
include-requires-clause-there c = grind (arith, common_steps, blank, target_before, in-Some, targeted)

pub loop-entry-preserved : goal.loop-entry-preserved
unfolding blank
loop-entry-preserved c =
    let h = c.args.headers.now in
    let bytes = h.bytes in
    let specifications = c.args.specifications.now in
    let number = c.args.number in
    let xs = c.includes_at-entries.result.now in
    let l = c.loop-entry in
    let i = l.entry-index in
    let x = get_or xs i blank in
    let rest = drop (i + 1) xs in
    let here = drop_at xs i x c.loop-entry-test.true (default_in xs i blank x c.loop-entry-test.true) in
    let P : List Name → Type 0 = λ ns. Along bytes specifications number xs ns l.is_there l.verdicts.items l.self in
    let a : Along bytes specifications number xs (x ∷ rest) l.is_there l.verdicts.items l.self = subst P here l.invariant.along in
    let pushed = c.in_ok-push.ensures.items in
    let names = c.requires.names in
    let A : Bool → Inclusion → Type 0 = λ b j. Along bytes specifications number xs rest b c.push.new.self.items j in
    let Q : Bool → Type 0 = λ b. Along bytes specifications number xs (x ∷ rest) b l.verdicts.items l.self in
    let more : (v : Verdict) → c.match-place_before.verdict ≡ v → c.push.new.self.items ≡ l.verdicts.items ++ v ∷ [] = λ v e. pushed ∙ ap (λ u. l.verdicts.items ++ u ∷ []) e in
    let settled : (b : Bool) (j : Inclusion) → c.match-place_before.is_there ≡ b → c.match-place_before.self ≡ j → A b j → A c.match-place_before.is_there c.match-place_before.self =
    λ b j e f k. subst (λ d. A d c.match-place_before.self) (sym e) (subst (A b) (sym f) k) in
    let L : Inclusion → Type 0 = λ j. j.levels ≡ c.return_to-is_there.new.self.levels in
    record {
      levels = grind (arith, c.match-place_before.branch);
      along = elim c.match-place_before.branch [
        | in-None w ↦
            settled _ _ w.is_there-is w.self-is (past_unknown bytes specifications number xs rest x _ _ _ _ a (more _ w.verdict-is) (targeted bytes _ _ number x _ None names c.place_before.ensures w.in-None.is))
        | in-Some w ↦
            settled _ _ w.is_there-is w.self-is
            (past_first bytes specifications number xs rest x _ _ _ w.in-Some.field-0 _ (subst Q w.if-is_there.true a) (more _ w.verdict-is)
            (targeted bytes _ _ number x _ (Some w.in-Some.field-0) names c.place_before.ensures w.in-Some.is) (w.verdict_on_first-verdict.ensures bytes specifications a.inclusion))
        | in-Some-2+in_ok-verdict-in-Some-2 w ↦
            let v = w.in_ok-verdict-in-Some-2 in
            settled _ _ (w.is_there-is ∙ w.if-is_there.false) w.self-is
            (past_other bytes specifications number xs rest x _ _ _ w.in-Some.field-0 _ _ (subst Q w.if-is_there.false a) (more _ w.verdict-is)
            (targeted bytes _ _ number x _ (Some w.in-Some.field-0) names c.place_before.ensures w.in-Some.is) v.ensures.verdict v.ensures.kept w.include.ensures.levels v.ensures.material)
      ];
    }

at_end : (c : goal.After-loop-entry) → Ended c.args.headers.now.bytes c.args.specifications.now c.args.number c.includes_at-entries.result.now c.loop-entry.verdicts.items c.loop-entry.self
at_end c = grind (arith, common_steps, nat_tests, append-nil, drop_all)

pub returns-clause-past : goal.returns-clause-past
unfolding at_end
returns-clause-past c = (at_end c).past

pub returns-clause-material : goal.returns-clause-material
unfolding at_end
returns-clause-material c = grind (arith, common_steps)

pub returns-clause-verdicts : goal.returns-clause-verdicts
unfolding at_end
returns-clause-verdicts c = grind (arith, common_steps)

pub returns-clause-path : goal.returns-clause-path
returns-clause-path c = grind (arith, common_steps, nat_tests)
