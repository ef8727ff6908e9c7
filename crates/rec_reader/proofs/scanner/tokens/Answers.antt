use Rattle.std.proofs.Common.{◌≡◌, ◌+◌, drop, refl, ap, sym, ◌∙◌, arith, append-nil, Ok}
use Rattle.std.proofs.lemmas.List.{at_drop_all}
use Rattle.rec_reader.specs.Tokens.{tokens_from, tokens_of}
use Rattle.rec_reader.proofs.Reading.{after_tokens, after_push, blank_read, whole_read, bad_read}
use Rattle.rec_reader.proofs.Fewness.{few_tokens}
use Rattle.rec_reader.proofs.scanner.tokens.Goals as goal

pub loop-at-preserved-in-Blank : goal.loop-at-preserved-in-Blank
loop-at-preserved-in-Blank c =
    let l = c.loop-at in
    let bytes = c.args.bytes.now in
    let within = c.in-Blank.ensures.within in
    let next = l.at + (c.in-Blank.more + 1) in
    record {
      within = omega (arith, within);
      read = ap (after_tokens l.items.items) (sym (blank_read bytes l.at c.in-Blank.more next within refl (sym c.in-Blank.ensures.piece))) ∙ l.invariant.read;
    }

pub loop-at-preserved : goal.loop-at-preserved
loop-at-preserved c =
    let l = c.loop-at in
    let bytes = c.args.bytes.now in
    let within = c.in-Whole.ensures.within in
    let next = l.at + (c.in-Whole.more + 1) in
    record {
      within = omega (arith, within);
      read =
          ap (λ ts. after_tokens ts (tokens_from next 0 (drop next bytes))) c.in_ok-push-in-Whole.ensures.items
          ∙ after_push l.items.items c.in-Whole.token (tokens_from next 0 (drop next bytes))
          ∙ ap (after_tokens l.items.items) (sym (whole_read bytes l.at c.in-Whole.more next c.in-Whole.token within refl (sym c.in-Whole.ensures.piece)))
          ∙ l.invariant.read;
    }

pub returns-in-Bad-clause-refused_only_at_first_bad_byte : goal.returns-in-Bad-clause-refused_only_at_first_bad_byte
returns-in-Bad-clause-refused_only_at_first_bad_byte c =
    let l = c.loop-at in
    rw c.refused.ensures (refl, sym l.invariant.read ∙ ap (after_tokens l.items.items) (bad_read c.args.bytes.now l.at c.loop-at-test.true (sym c.in-Bad.ensures.piece)))

pub invariant_of-result : goal.invariant_of-result
invariant_of-result c =
    let l = c.loop-at in
    let bytes = c.args.bytes.now in
    let items = l.items.items in
    let all : tokens_of bytes ≡ Ok items =
    sym l.invariant.read
    ∙ at_drop_all (λ rest. after_tokens items (tokens_from l.at 0 rest)) bytes l.at (omega (arith, c.loop-at-test.false))
    ∙ ap Ok (append-nil items) in
    record { bytes_few = omega (arith, c.if-bytes-gt-MOST_BYTES.false); tokens_few = few_tokens bytes items all }
