use Rattle.std.proofs.Common.{refl}
use Rattle.std.specs.Prelude.{slice_index_or, length, ◌-◌}
use Rattle.log_check.proofs.Scanning.{worded_found, worded_more, worded_all}
use Rattle.log_check.proofs.words.first_word.Goals as goal

pub returns-then-byte-eq32-clause-words : goal.returns-then-byte-eq32-clause-words
returns-then-byte-eq32-clause-words c =
    worded_found c.args.bytes.now c.loop-place.place (slice_index_or c.args.bytes.now c.loop-place.place 0) 0 (length c.args.bytes.now - c.loop-place.place) c.loop-place-test.true refl c.if-byte-eq32.true refl c.loop-place.invariant

pub loop-place-preserved : goal.loop-place-preserved
loop-place-preserved c =
    worded_more c.args.bytes.now c.loop-place.place (slice_index_or c.args.bytes.now c.loop-place.place 0) 0 c.loop-place-test.true refl c.if-byte-eq32.false c.loop-place.invariant

pub returns-clause-words : goal.returns-clause-words
returns-clause-words c = worded_all c.args.bytes.now c.loop-place.place c.loop-place-test.false c.loop-place.invariant
