use Rattle.std.proofs.Common.{◌≡◌, ◌∙◌, ap, map, arith}
use Rattle.clap.specs.Simple.{app_of}
use Rattle.clap.specs.Words.{rule_of}
use Rattle.settings.specs.declared.options.OptionName.TheVariants.{Workers}
use Rattle.settings.specs.Words.{options_of, texts}
use Rattle.settings.specs.Line.{argument_of, app_with}
use Rattle.settings.proofs.Told.{line_begun, line_first, line_next, line_told, parsed_ok, parsed_err}
use Rattle.settings.proofs.reading.read_matches.Goals as goal

pub returns-in-Ok : goal.returns-in-Ok
returns-in-Ok c =
    let line : app_of c.loop-option.line ≡ app_with (map argument_of (options_of c.args.command)) =
    line_told (app_of c.loop-option.line) c.options-all.result.now c.loop-option.option-index (omega (arith, c.loop-option-test.false)) c.loop-option.invariant
    ∙ ap (λ l. app_with (map argument_of l)) c.options-all.ensures in
    let parse = c.try_get_matches_from in
    parsed_ok c.args.command (texts c.args.words.now) (app_of c.loop-option.line) parse.result c.in-Ok.matches (line, c.requires, parse.ensures.kinds, parse.ensures.matches) c.in-Ok.is

pub returns-in-Err : goal.returns-in-Err
returns-in-Err c =
    let line : app_of c.loop-option.line ≡ app_with (map argument_of (options_of c.args.command)) =
    line_told (app_of c.loop-option.line) c.options-all.result.now c.loop-option.option-index (omega (arith, c.loop-option-test.false)) c.loop-option.invariant
    ∙ ap (λ l. app_with (map argument_of l)) c.options-all.ensures in
    let parse = c.try_get_matches_from in
    parsed_err c.args.command (texts c.args.words.now) (app_of c.loop-option.line) parse.result c.in-Err.error c.kind.result c.fault_of.result (line, c.requires, parse.ensures.kinds, parse.ensures.matches) c.in-Err.is
    c.kind.ensures c.fault_of.ensures

pub argument-requires : goal.argument-requires
argument-requires c = c.name.ensures

pub loop-option-init : goal.loop-option-init
loop-option-init c =
    line_first (app_of c.disable_help_flag-line.result) (map argument_of c.options-all.result.now)
    (line_begun c.new.result c.no_binary_name.result c.disable_help_flag-line.result c.new.ensures.app c.no_binary_name.ensures c.disable_help_flag-line.ensures)

pub loop-option-preserved : goal.loop-option-preserved
loop-option-preserved c =
    line_next (app_of c.loop-option.line) (app_of c.in_ok-line.line) (rule_of c.argument.result) c.options-all.result.now c.loop-option.option-index Workers (app_with (map argument_of c.options-all.result.now))
    c.loop-option-test.true c.argument.ensures.rule (c.in_ok-line.ensures.shape c.argument.ensures.local) c.loop-option.invariant
