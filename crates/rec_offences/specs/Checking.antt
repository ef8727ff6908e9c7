-- The checking of specifications, between one and the next.
use Rattle.std.specs.Prelude.{◌≡◌}
use Rattle.rec_includes.specs.Numbered.{header_names}
use Rattle.rec_offences.specs.Inclusion.{IsAtLevel}
use Rattle.rec_offences.specs.declared.checking.Checking.{Checking}

-- the headers are those of the specifications, and the material at hand is that of the last level
pub record IsChecking (c : Checking) : Type 0 where
  pub names : c.headers.now.names ≡ header_names c.specifications.now
  pub at_level : IsAtLevel c.headers.now.bytes c.specifications.now c.included

-- the same specifications are checked
pub record HasSameInput (old new : Checking) : Type 0 where
  pub specifications : new.specifications ≡ old.specifications
  pub headers : new.headers ≡ old.headers
