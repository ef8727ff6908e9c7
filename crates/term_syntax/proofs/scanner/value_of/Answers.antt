use Rattle.std.proofs.Common.{◌≡◌, ◌+◌, ◌*◌, ◌-◌, ◌≤◌, ◌<◌, ℕ, List, length, take, get_or, cond, arith, ap, sym, ◌∙◌, None, Some}
use Rattle.std.specs.Str.Parse.{digits_value, AllDigits}
use Rattle.std.proofs.lemmas.Int.Digits.{digits_value_more}
use Rattle.std.proofs.lemmas.Str.Parse.{digit_at, digits_value-take-le}
use Rattle.std.proofs.lemmas.Str.{digit_value_digit}
use Rattle.std.proofs.lemmas.Bool.{lt-leb, le-leb}
use Rattle.std.proofs.lemmas.List.{take_all}
use Rattle.term_syntax.specs.Tokens.{up_to_most}
use Rattle.term_syntax.proofs.scanner.value_of.Goals as goal

most : ℕ
most = 18446744073709551615

-- one digit more
step : (ds : List ℕ) (i v : ℕ) → AllDigits 10 ds → i < length ds → v ≡ digits_value 10 (take i ds) → digits_value 10 (take (i + 1) ds) ≡ v * 10 + (get_or ds i 0 - 48)
step ds i v all h e =
    let d = digit_value_digit (get_or ds i 0) (digit_at ds i all h) in
    let more = digits_value_more 10 ds i h in
    omega (arith, more, d, e)

too_large : (ds : List ℕ) (i v : ℕ) → AllDigits 10 ds → i < length ds → v ≡ digits_value 10 (take i ds) → 18446744073709551615 < v * 10 + (get_or ds i 0 - 48) → up_to_most (digits_value 10 ds) ≡ None
too_large ds i v all h e big =
    let le = digits_value-take-le 10 ds (i + 1) (omega arith) in
    let s = step ds i v all h e in
    let lt : 18446744073709551615 < digits_value 10 ds = omega (arith, le, s, big) in
    ap (λ b. cond b (Some (digits_value 10 ds)) None) (lt-leb (digits_value 10 ds) 18446744073709551615 lt)

pub overflow_sub-digit : goal.overflow_sub-digit
overflow_sub-digit c = (digit_at c.args.digits.now c.loop-digit.digit-index c.requires c.loop-digit-test.true).0

pub returns-in_err-shifted : goal.returns-in_err-shifted
returns-in_err-shifted c = rw c.from_residual.ensures (sym (too_large c.args.digits.now c.loop-digit.digit-index c.loop-digit.value c.requires c.loop-digit-test.true c.loop-digit.invariant.0 (omega (arith, c.in_err-shifted.ensures))))

pub returns-in_err-value : goal.returns-in_err-value
returns-in_err-value c = rw c.from_residual-in_err-value.ensures (sym (too_large c.args.digits.now c.loop-digit.digit-index c.loop-digit.value c.requires c.loop-digit-test.true c.loop-digit.invariant.0 (omega (arith, c.in_err-value.ensures, c.in_ok-shifted.ensures, c.from.ensures))))

pub loop-digit-preserved : goal.loop-digit-preserved
loop-digit-preserved c =
    let s = step c.args.digits.now c.loop-digit.digit-index c.loop-digit.value c.requires c.loop-digit-test.true c.loop-digit.invariant.0 in
    (omega (arith, s, c.in_ok-value.ensures, c.in_ok-shifted.ensures, c.from.ensures), omega (arith, c.in_ok-value.ensures))

pub returns : goal.returns
returns c =
    let ds = c.args.digits.now in
    let all = ap (digits_value 10) (take_all c.loop-digit.digit-index ds (omega (arith, c.loop-digit-test.false))) in
    let v : c.loop-digit.value ≡ digits_value 10 ds = c.loop-digit.invariant.0 ∙ all in
    let le : digits_value 10 ds ≤ 18446744073709551615 = omega (arith, v, c.loop-digit.invariant.1) in
    ap Some v ∙ sym (ap (λ b. cond b (Some (digits_value 10 ds)) None) (le-leb (digits_value 10 ds) 18446744073709551615 le))
