use Rattle.std.proofs.Common.{refl, lit<}
use Rattle.settings.proofs.reading.settings_in.Goals as goal

pub returns : goal.returns
returns c = λ uses shows. λ i. record {
  command = c.args.command;
  workers = c.short_number.ensures uses shows refl (lit< tt) i;
  fuel = c.number.ensures uses shows refl i;
  rows = c.short_number-2.ensures uses shows refl (lit< tt) i;
  depth = c.short_number-3.ensures uses shows refl (lit< tt) i;
  cache = c.short_number-4.ensures uses shows refl (lit< tt) i;
  sizes = c.has_flag.ensures uses shows refl i;
  log = c.has_flag-2.ensures uses shows refl i;
  trace = c.has_flag-3.ensures uses shows refl i;
  count = c.short_number-5.ensures uses shows refl (lit< tt) i;
  seats = c.short_number-6.ensures uses shows refl (lit< tt) i;
}
