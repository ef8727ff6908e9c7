use Rattle.rec_includes.proofs.Common.{nat_tests, common_steps, ◌≡◌, ℕ, ◌<◌, List, [], ◌∷◌, ◌++◌, Option, Some, None, refl, sym, append_assoc, append-nil, length, arith, Name, Specification, Frame, with_numbers, material_of, header_names, next_in, missing}
use Rattle.rec_includes.proofs.Fresh.{first_number, no_numbers}
use Rattle.rec_includes.proofs.Brought.{target_before}
use Rattle.rec_includes.proofs.Walk.{frame, finish, IsUnderWay, passes_over, goes_into, ends, weights, lighter_after, lighter_into, lighter_ended, done_first}
use Rattle.rec_includes.proofs.gathering.gather_absent.Goals as goal

module _ (bytes : List ℕ) (xs : List Specification) (names : List Name) (named : names ≡ header_names xs) (m total : List ℕ) (vs frames : List Frame) (v : Frame) (top : frames ≡ vs ++ v ∷ []) where
  module _ (e : Name) (rest : Frame) (next : ◌≡◌ {A = Option (Name × Frame)} (Some (e, rest)) (next_in xs v)) where
    over : (now : List Frame) → now ≡ vs ++ rest ∷ [] → missing bytes names m v.number e ≡ None → IsUnderWay bytes xs total m frames → IsUnderWay bytes xs total m now
    over now is none w = grind (arith, nat_tests, passes_over bytes xs m vs v e)

    into : (p : ℕ) (between now : List Frame) → between ≡ vs ++ rest ∷ [] → now ≡ between ++ frame p 0 ∷ [] → missing bytes names m v.number e ≡ Some p →
        IsUnderWay bytes xs total m frames → IsUnderWay bytes xs total m now
    into p between now was is some w = grind (arith, nat_tests, goes_into bytes xs m vs v e)

    into_lighter : (p : ℕ) (between now : List Frame) → between ≡ vs ++ rest ∷ [] → now ≡ between ++ frame p 0 ∷ [] → missing bytes names m v.number e ≡ Some p → weights xs now < weights xs frames
    into_lighter p between now was is some = grind (arith, nat_tests, target_before, weights, frame, lighter_into)

  ended : (now : List ℕ) → None ≡ next_in xs v → now ≡ with_numbers m (v.number ∷ []) →
      IsUnderWay bytes xs total m frames → IsUnderWay bytes xs total now vs
  ended now none is w = grind (arith, nat_tests, first_number, no_numbers, ends bytes xs m vs v total)

pub loop-frame-init : goal.loop-frame-init
loop-frame-init c = grind (arith, common_steps, frame, done_first, append-nil)

pub loop-frame-smaller-in-Continue-branch-3 : goal.loop-frame-smaller-in-Continue-branch-3
loop-frame-smaller-in-Continue-branch-3 c =
    into_lighter _ _ _ c.requires.names _ [] _ _ _ c.in-Some.ensures.items _ _ c.in-Some-next_entry.ensures _ _ _
    c.in_ok-push-in-Some-next_entry.ensures.items c.in_ok-push-in-Some-next_entry-2.ensures.items (sym c.in-Some-missing.ensures)

pub loop-frame-preserved-in-Continue-branch-3 : goal.loop-frame-preserved-in-Continue-branch-3
loop-frame-preserved-in-Continue-branch-3 c =
    let walk = into _ _ _ c.requires.names _ _ _ _ _ c.in-Some.ensures.items _ _ c.in-Some-next_entry.ensures _ _ _ c.in_ok-push-in-Some-next_entry.ensures.items
    c.in_ok-push-in-Some-next_entry-2.ensures.items (sym c.in-Some-missing.ensures) c.loop-frame.invariant.walk in
    record { walk = walk; added = c.loop-frame.invariant.added }

pub loop-frame-smaller-in_default-missing : goal.loop-frame-smaller-in_default-missing
loop-frame-smaller-in_default-missing c = grind (arith, common_steps, nat_tests, weights, lighter_after, frame)

pub loop-frame-preserved-in_default-missing : goal.loop-frame-preserved-in_default-missing
loop-frame-preserved-in_default-missing c =
    let walk = over _ _ _ c.requires.names _ _ _ _ _ c.in-Some.ensures.items _ _ c.in-Some-next_entry.ensures _ c.in_ok-push-in-Some-next_entry.ensures.items (sym c.in_default-missing.ensures) c.loop-frame.invariant.walk in
    record { walk = walk; added = c.loop-frame.invariant.added }

pub loop-frame-smaller : goal.loop-frame-smaller
loop-frame-smaller c = grind (arith, common_steps, lighter_ended, frame)

pub loop-frame-preserved : goal.loop-frame-preserved
loop-frame-preserved c =
    record {
      walk =
          ended c.args.headers.now.bytes c.args.specifications.now c.args.headers.now.names c.requires.names c.loop-frame.material.keys
          (with_numbers c.args.material.now.keys (material_of c.args.headers.now.bytes c.args.specifications.now c.args.number))
          c.pop.new.self.items c.loop-frame.frames.items c.in-Some.frame c.in-Some.ensures.items
          c.add.new.material.keys c.in-None.ensures c.in_ok-add-in-None.ensures.material c.loop-frame.invariant.walk;
      added = grind (arith, common_steps, append_assoc);
    }

none_left : (vs : List Frame) → length vs ≡ 0 → vs ≡ []
none_left [] e = refl
none_left (v ∷ vs) e = absurd (omega arith)

same_rest : (a b c : List ℕ) → a ++ b ≡ a ++ c → b ≡ c
same_rest [] b c e = e
same_rest (x ∷ a) b c e = same_rest a b c (let h : ◌≡◌ {A = List ℕ} (x ∷ (a ++ b)) (x ∷ (a ++ c)) = e in cc)

pub returns-clause-added : goal.returns-clause-added
returns-clause-added c = grind (arith, common_steps, none_left, finish, same_rest)
