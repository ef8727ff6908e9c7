use Rattle.std.proofs.Common.{◌≡◌, ◌∙◌, Some, None, MatchResult, sym, subst}
use Rattle.settings.specs.declared.parts.WordsFault.TheVariants.{Usage}
use Rattle.settings.specs.Words.{texts, settings_after}
use Rattle.settings.proofs.Told.{ok_in_range}
use Rattle.settings.proofs.Ranges.{settings_range}
use Rattle.settings.proofs.reading.settings.Goals as goal

pub returns-in-Some-clause-settings : goal.returns-in-Some-clause-settings
returns-in-Some-clause-settings c =
    subst (λ wanted. MatchResult c.read_options.result (λ given. wanted ≡ Some given) (λ fault. fault ≡ Usage → wanted ≡ None)) c.in-Some.ensures c.read_options.ensures

pub returns-in-Some-clause-in_range : goal.returns-in-Some-clause-in_range
returns-in-Some-clause-in_range c =
    let wanted = settings_after c.in-Some.command (texts c.in-Some.options.now) in
    ok_in_range wanted c.read_options.result (λ fault. fault ≡ Usage → wanted ≡ None) c.read_options.ensures
    (λ s e. settings_range (texts c.args.words.now) s (sym c.in-Some.ensures ∙ e))

pub returns-in-None-clause-settings : goal.returns-in-None-clause-settings
returns-in-None-clause-settings c = λ usage. sym c.in-None.ensures
