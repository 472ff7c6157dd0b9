use Rattle.std.proofs.Common.{lit<}
use Rattle.std.proofs.lemmas.Str.Pattern.{strip_suffix_char}
use Rattle.dfdl_statements.proofs.Bracing.{is_closed}
use Rattle.dfdl_statements.proofs.braces.closed.Goals as goal

pub returns : goal.returns
returns c = is_closed c.args.text.now _ (strip_suffix_char 125 c.args.text.now _ c.strip_suffix.ensures.cases (lit< tt))
