use Rattle.log_laws.proofs.Built.{innermost_told, innermost_value_told}
use Rattle.log_laws.proofs.BuiltOutermost.{outermost_told, outermost_value_told}
use Rattle.log_laws.proofs.heads_stay.Goals as goal

pub returns : goal.returns
returns c = λ ok rules term fuel room w h. record {
  inside = innermost_told ok rules term fuel room w h;
  outside = outermost_told ok rules term fuel room w h;
  inside_value = innermost_value_told ok rules term fuel room w h;
  outside_value = outermost_value_told ok rules term fuel room w h;
}
