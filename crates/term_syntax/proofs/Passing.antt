-- Steps at the tokens of bytes, from their front on.
use Rattle.std.proofs.Common.{◌≡◌, ◌≤◌, ◌<◌, ◌∙◌, ℕ, suc, ◌+◌, List, [], ◌∷◌, ◌++◌, length, drop, refl, ap, sym, subst, arith, inl, inr, Some, None, Result, Ok, Err}
use Rattle.std.proofs.lemmas.List.{length-append}
use Rattle.std.proofs.lemmas.List.Elements.{All-nil}
use Rattle.read_faults.specs.declared.fail.ReadFail.{ReadFail}
use Rattle.read_faults.specs.declared.fail.ReadFail.TheVariants.{Refused, Memory}
use Rattle.faults.specs.declared.refusal.Refusal.{Refusal}
use Rattle.term_syntax.specs.Token.{Token, Blank, Whole}
use Rattle.term_syntax.specs.State.{Machine}
use Rattle.term_syntax.specs.declared.token.Shape.{Shape}
use Rattle.term_syntax.specs.declared.token.Shape.TheVariants as shape
use Rattle.term_syntax.specs.Shown.{token_at}
use Rattle.read_faults.specs.Fault.{IsDue}
use Rattle.term_syntax.specs.Few.{AreCountsFew}
use Rattle.term_syntax.specs.Tokens.{tokens_from, tokens_of, after_token, piece_at}
use Rattle.term_syntax.specs.Refusal.{place_of}
use Rattle.term_syntax.specs.Steps.{run, start, step}
use Rattle.term_syntax.specs.Reached.{HasTokens, HasRun, IsUntaken, IsStoppedIn, IsSyntaxFault}
use Rattle.term_syntax.proofs.Cutting.{after_tokens, after_none, all_cut, after_push, piece_read, due_at}
use Rattle.term_syntax.proofs.Outcome.{run_one}
use Rattle.term_syntax.proofs.Verdicts.{first_unexpected}
use Rattle.term_syntax.proofs.Fewness.{Below, counted_on, few_of}

-- a step was taken at each token that begins before this place, at which the next piece begins
pub record Passed (bytes : List ℕ) (at : ℕ) (m : Machine) : Type 0 where
  pub tokens : List Token
  pub left : after_tokens tokens (tokens_from at 0 (drop at bytes)) ≡ tokens_of bytes
  pub ran : run start tokens ≡ Some m
  pub counted : Below (length tokens) m.groups
  pub short : length tokens ≤ at

pub passed_none : (bytes : List ℕ) → Passed bytes 0 start
passed_none bytes = record {
  tokens = [];
  left = after_none (tokens_of bytes);
  ran = refl;
  counted = All-nil (λ g. g.count < 0);
  short = omega arith;
}

pub passed_blank : (bytes : List ℕ) (at : ℕ) (m : Machine) → at < length bytes → piece_at at (drop at bytes) ≡ Ok Blank → Passed bytes at m → Passed bytes (at + 1) m
passed_blank bytes at m h e p =
    let short = p.short in
    record {
      tokens = p.tokens;
      left = ap (after_tokens p.tokens) (sym (piece_read bytes at Blank h (omega arith) (omega (arith, h)) e)) ∙ p.left;
      ran = p.ran;
      counted = p.counted;
      short = omega (arith, short);
    }

pub passed_whole : (bytes : List ℕ) (at next : ℕ) (t : Token) (m n : Machine) → at < length bytes → at < next → next ≤ length bytes → piece_at at (drop at bytes) ≡ Ok (Whole t next) → step m t ≡ Some n → Passed bytes at m → Passed bytes next n
passed_whole bytes at next t m n h after fits e s p =
    let short = p.short in
    let long = length-append p.tokens (t ∷ []) in
    let same : suc (length p.tokens) ≡ length (p.tokens ++ t ∷ []) = omega (arith, long) in
    record {
      tokens = p.tokens ++ t ∷ [];
      left =
          after_push p.tokens t (tokens_from next 0 (drop next bytes))
          ∙ ap (after_tokens p.tokens) (sym (piece_read bytes at (Whole t next) h after fits e))
          ∙ p.left;
      ran = run_one p.tokens t start m n p.ran s;
      counted = subst (λ k. Below k n.groups) same (counted_on (length p.tokens) m n t s p.counted);
      short = omega (arith, long, short, after);
    }

-- the counts are few before each step, and at the end
pub few_before : (bytes : List ℕ) (at : ℕ) (m : Machine) → at < length bytes → length bytes < 4294967296 → Passed bytes at m → AreCountsFew 2 m.groups
few_before bytes at m h few p =
    let short = p.short in
    few_of (length p.tokens) 2 m.groups (omega (arith, short, h, few)) p.counted

pub passed_all : (bytes : List ℕ) (at : ℕ) (m : Machine) → length bytes ≤ at → at ≤ length bytes → length bytes < 4294967296 → Passed bytes at m → HasRun bytes m
passed_all bytes at m h within few p =
    let short = p.short in
    record {
      tokens = p.tokens;
      cut = all_cut bytes at p.tokens h p.left;
      ran = p.ran;
      few = few_of (length p.tokens) 1 m.groups (omega (arith, short, within, few)) p.counted;
    }

-- a piece that is refused
pub stopped_piece : (bytes : List ℕ) (at : ℕ) (m : Machine) (e : ReadFail) → at < length bytes → IsDue (piece_at at (drop at bytes)) e → Passed bytes at m → IsStoppedIn bytes e
stopped_piece bytes at m (Refused kind offset) h due p = inl (due_at bytes at p.tokens (Refused kind offset) h p.left due)
stopped_piece bytes at m Memory h due p = tt

split : (ts read : List Token) (t : Token) (r : Result (List Token) Refusal) → after_tokens read (after_token t r) ≡ Ok ts → (us : List Token) × (ts ≡ read ++ t ∷ us)
split ts read t (Ok us) e = (us, let same : read ++ t ∷ us ≡ ts = cc in sym same)
split ts read t (Err f) e = absurd (let bad : Err f ≡ Ok ts = e in cc)

-- a token that is not taken
pub stopped_token : (bytes : List ℕ) (at next : ℕ) (t : Token) (m : Machine) (e : ReadFail) → at < length bytes → at < next → next ≤ length bytes → piece_at at (drop at bytes) ≡ Ok (Whole t next) → IsUntaken bytes m t e → Passed bytes at m → IsStoppedIn bytes e
stopped_token bytes at next t m (Refused kind offset) h after fits e (inl due) p = inl due
stopped_token bytes at next t m (Refused kind offset) h after fits e (inr n) p =
    let read = ap (after_tokens p.tokens) (sym (piece_read bytes at (Whole t next) h after fits e)) ∙ p.left ∙ n.cut in
    let rest = split n.tokens p.tokens t (tokens_from next 0 (drop next bytes)) read in
    inr (record {
      tokens = n.tokens;
      cut = n.cut;
      kind_is = n.kind_is;
      stops = record {
        before = p.tokens;
        token = t;
        after = rest.0;
        is = rest.1;
        machine = m;
        reached = p.ran;
        stops = n.stops;
        place = n.place;
      };
    })
stopped_token bytes at next t m Memory h after fits e due p = tt

-- what stops is refused
pub stop_refusal : (bytes : List ℕ) (e : ReadFail) → IsStoppedIn bytes e → IsSyntaxFault bytes e
stop_refusal bytes (Refused kind offset) (inl due) = inl due
stop_refusal bytes (Refused kind offset) (inr s) =
    inr (record { tokens = s.tokens; cut = s.cut; refused = inl (s.kind_is, first_unexpected s.tokens offset s.stops) })
stop_refusal bytes Memory stopped = tt

-- a token of the bytes stands at its place
pub placed : (text : List ℕ) (place : ℕ) (s : Shape) → place_of (token_at text place s) ≡ place
placed text place shape.Word = refl
placed text place shape.Quoted = refl
placed text place shape.Number = refl
placed text place (shape.At m) = refl

-- a token at which there is no step, where all bytes have tokens
pub untaken_there : (bytes : List ℕ) (m : Machine) (place : ℕ) (s : Shape) → HasTokens bytes → step m (token_at bytes place s) ≡ None → IsUntaken bytes m (token_at bytes place s) (Refused 2 place)
untaken_there bytes m place s h stops = inr (record {
  tokens = h.0;
  cut = h.1;
  stops = stops;
  kind_is = refl;
  place = sym (placed bytes place s);
})

-- bytes that have no tokens
pub untaken_cut : (bytes : List ℕ) (m : Machine) (t : Token) (e : ReadFail) → IsDue (tokens_of bytes) e → IsUntaken bytes m t e
untaken_cut bytes m t (Refused kind offset) due = inl due
untaken_cut bytes m t Memory due = tt
