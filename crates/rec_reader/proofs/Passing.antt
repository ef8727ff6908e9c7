-- Steps at the tokens of bytes, from their front on.
use Rattle.std.proofs.Common.{◌≡◌, ◌≤◌, ◌<◌, ◌∙◌, ℕ, ◌+◌, List, [], ◌∷◌, ◌++◌, length, drop, refl, ap, sym, subst, arith, inl, inr, append-nil, Option, Some, None, Result, Ok, Err}
use Rattle.std.specs.Prelude.{option_and_then}
use Rattle.std.proofs.lemmas.List.{length-append, drop_all}
use Rattle.std.proofs.lemmas.List.Elements.{All-nil}
use Rattle.read_faults.specs.declared.fail.ReadFail.{ReadFail}
use Rattle.read_faults.specs.declared.fail.ReadFail.TheVariants.{Refused, Memory}
use Rattle.rec_reader.specs.declared.token.Token.{Token}
use Rattle.rec_reader.specs.declared.syntax_tree.Specification.{Specification}
use Rattle.rec_reader.specs.declared.scanner.Piece.TheVariants.{Blank, Whole, Bad}
use Rattle.rec_reader.specs.declared.machine.Machine.{Machine}
use Rattle.rec_reader.specs.Few.{AreCountsFew}
use Rattle.rec_reader.specs.Grammar.{IsInput}
use Rattle.rec_reader.specs.Tokens.{tokens_from, tokens_of, after_token, piece_at}
use Rattle.rec_reader.specs.Steps.{run, start, step, accepted}
use Rattle.rec_reader.specs.Reached.{Spells, IsReadRefusal, HasRun, IsUntaken, IsStoppedIn}
use Rattle.rec_reader.proofs.Reading.{after_tokens, after_push, blank_read, whole_read, bad_read}
use Rattle.rec_reader.proofs.Runs.{run_more}
use Rattle.rec_reader.proofs.Counts.{UpTo, counted_on, few_of}
use Rattle.rec_reader.proofs.Verdicts.{refusal, no_stop, only_these, unended, end_refusal}

-- a step was taken at each token that begins before this place, at which the next piece begins
pub record Passed (bytes : List ℕ) (at : ℕ) (m : Machine) : Type 0 where
  pub tokens : List Token
  pub left : after_tokens tokens (tokens_from at 0 (drop at bytes)) ≡ tokens_of bytes
  pub ran : run start tokens ≡ Some m
  pub counted : UpTo (length tokens) m.heads
  pub short : length tokens ≤ at

after_none : (r : Result (List Token) ℕ) → after_tokens [] r ≡ r
after_none (Ok us) = refl
after_none (Err at) = refl

pub passed_none : (bytes : List ℕ) → Passed bytes 0 start
passed_none bytes = record {
  tokens = [];
  left = after_none (tokens_of bytes);
  ran = refl;
  counted = All-nil (λ h. h.count ≤ 0);
  short = omega arith;
}

pub passed_blank : (bytes : List ℕ) (at more next : ℕ) (m : Machine) → at + more < length bytes → next ≡ at + (more + 1) → piece_at at (drop at bytes) ≡ Blank more → Passed bytes at m → Passed bytes next m
passed_blank bytes at more next m h n e p =
    let short = p.short in
    record {
      tokens = p.tokens;
      left = ap (after_tokens p.tokens) (sym (blank_read bytes at more next h n e)) ∙ p.left;
      ran = p.ran;
      counted = p.counted;
      short = omega (arith, short, n);
    }

then_some : (o : Option Machine) → option_and_then (λ x. Some x) o ≡ o
then_some None = refl
then_some (Some x) = refl

ran_on : (ts : List Token) (t : Token) (m n : Machine) → run start ts ≡ Some m → step m t ≡ Some n → run start (ts ++ t ∷ []) ≡ Some n
ran_on ts t m n r s =
    run_more ts (t ∷ []) start
    ∙ ap (λ o. option_and_then (λ k. run k (t ∷ [])) o) r
    ∙ then_some (step m t)
    ∙ s

pub passed_whole : (bytes : List ℕ) (at more next : ℕ) (t : Token) (m n : Machine) → at + more < length bytes → next ≡ at + (more + 1) → piece_at at (drop at bytes) ≡ Whole t more → step m t ≡ Some n → Passed bytes at m → Passed bytes next n
passed_whole bytes at more next t m n h k e s p =
    let short = p.short in
    let long = length-append p.tokens (t ∷ []) in
    let same : length p.tokens + 1 ≡ length (p.tokens ++ t ∷ []) = omega (arith, long) in
    record {
      tokens = p.tokens ++ t ∷ [];
      left =
          after_push p.tokens t (tokens_from next 0 (drop next bytes))
          ∙ ap (after_tokens p.tokens) (sym (whole_read bytes at more next t h k e))
          ∙ p.left;
      ran = ran_on p.tokens t m n p.ran s;
      counted = subst (λ j. UpTo j n.heads) same (counted_on (length p.tokens) m n t s p.counted);
      short = omega (arith, long, short, k);
    }

-- the counts are few before each step
pub few_before : (bytes : List ℕ) (at : ℕ) (m : Machine) → at < length bytes → length bytes < 4294967296 → Passed bytes at m → AreCountsFew m.heads
few_before bytes at m h few p = let short = p.short in few_of (length p.tokens) m.heads (omega (arith, short, h, few)) p.counted

pub passed_all : (bytes : List ℕ) (at : ℕ) (m : Machine) → length bytes ≤ at → Passed bytes at m → HasRun bytes m
passed_all bytes at m h p = record {
  tokens = p.tokens;
  cut =
      sym p.left
      ∙ ap (λ bs. after_tokens p.tokens (tokens_from at 0 bs)) (drop_all at bytes h)
      ∙ ap Ok (append-nil p.tokens);
  ran = p.ran;
}

-- a byte at which nothing begins
pub stopped_byte : (bytes : List ℕ) (at : ℕ) (m : Machine) → at < length bytes → piece_at at (drop at bytes) ≡ Bad → Passed bytes at m → IsStoppedIn bytes (Refused 1 at)
stopped_byte bytes at m h e p = inl (record { kind_is = refl; place = sym p.left ∙ ap (after_tokens p.tokens) (bad_read bytes at h e) })

split : (ts read : List Token) (t : Token) (r : Result (List Token) ℕ) → after_tokens read (after_token t r) ≡ Ok ts → (us : List Token) × (ts ≡ read ++ t ∷ us)
split ts read t (Ok us) e = (us, let same : read ++ t ∷ us ≡ ts = cc in sym same)
split ts read t (Err f) e = absurd (let bad : Err f ≡ Ok ts = e in cc)

-- a token that is not taken
pub stopped_token : (bytes : List ℕ) (at more : ℕ) (t : Token) (m : Machine) (e : ReadFail) → at + more < length bytes → piece_at at (drop at bytes) ≡ Whole t more → IsUntaken bytes m t e → Passed bytes at m → IsStoppedIn bytes e
stopped_token bytes at more t m (Refused kind offset) h e (inl byte) p = inl byte
stopped_token bytes at more t m (Refused kind offset) h e (inr n) p =
    let next = at + (more + 1) in
    let read = ap (after_tokens p.tokens) (sym (whole_read bytes at more next t h refl e)) ∙ p.left ∙ n.cut in
    let rest = split n.tokens p.tokens t (tokens_from next 0 (drop next bytes)) read in
    inr (record {
      tokens = n.tokens;
      cut = n.cut;
      kind_is = n.kind_is;
      stops = record {
        before = p.tokens;
        token = t;
        after = rest.0;
        is = rest.1;
        machine = m;
        reached = p.ran;
        stops = n.stops;
        place = n.place;
      };
    })
stopped_token bytes at more t m Memory h e untaken p = tt

-- what stops is refused
pub stop_refusal : (bytes : List ℕ) (e : ReadFail) → IsStoppedIn bytes e → IsReadRefusal bytes e
stop_refusal bytes (Refused kind offset) (inl byte) = inl byte
stop_refusal bytes (Refused kind offset) (inr s) =
    inr (record { tokens = s.tokens; cut = s.cut; refused = refusal (record { bytes = bytes; tokens = s.tokens }) s.tokens (Refused kind offset) refl (s.kind_is, s.stops) })
stop_refusal bytes Memory stopped = tt

same_tokens : (bytes : List ℕ) (ts us : List Token) → tokens_of bytes ≡ Ok ts → tokens_of bytes ≡ Ok us → ts ≡ us
same_tokens bytes ts us a b = let e : Ok ts ≡ Ok us = sym a ∙ b in cc

-- and spells nothing
pub stop_spells_nothing : (bytes : List ℕ) (e : ReadFail) (specs : List Specification) → IsStoppedIn bytes e → Spells bytes specs → e ≡ Memory
stop_spells_nothing bytes (Refused kind offset) specs (inl byte) s = absurd (let bad : Err offset ≡ Ok s.tokens = sym byte.place ∙ s.cut in cc)
stop_spells_nothing bytes (Refused kind offset) specs (inr k) s =
    no_stop k.tokens s.tokens (Refused kind offset) specs (same_tokens bytes k.tokens s.tokens k.cut s.cut) (k.kind_is, k.stops) s.sentence
stop_spells_nothing bytes Memory specs stopped s = refl

-- bytes spell no others
pub spells_only : (bytes : List ℕ) (specs others : List Specification) → Spells bytes specs → Spells bytes others → others ≡ specs
spells_only bytes specs others a b =
    only_these a.tokens specs others a.sentence (subst (λ ts. IsInput ts others) (same_tokens bytes b.tokens a.tokens b.cut a.cut) b.sentence)

-- the bytes end where no sentence does
pub ended_refusal : (bytes : List ℕ) (m : Machine) (at : ℕ) → HasRun bytes m → accepted m ≡ None → at ≡ length bytes → IsReadRefusal bytes (Refused 3 at)
ended_refusal bytes m at r none e =
    inr (record { tokens = r.tokens; cut = r.cut; refused = end_refusal (record { bytes = bytes; tokens = r.tokens }) r.tokens m at refl r.ran none e })

pub ended_spells_nothing : (bytes : List ℕ) (m : Machine) (specs : List Specification) → HasRun bytes m → accepted m ≡ None → Spells bytes specs → ⊥
ended_spells_nothing bytes m specs r none s =
    (unended r.tokens m r.ran none).unended specs (subst (λ ts. IsInput ts specs) (same_tokens bytes s.tokens r.tokens s.cut r.cut) s.sentence)
