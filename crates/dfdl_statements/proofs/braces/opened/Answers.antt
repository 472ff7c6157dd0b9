use Rattle.std.proofs.Common.{lit<}
use Rattle.std.proofs.lemmas.Str.Pattern.{strip_prefix_char}
use Rattle.dfdl_statements.proofs.Bracing.{is_opened}
use Rattle.dfdl_statements.proofs.braces.opened.Goals as goal

pub returns : goal.returns
returns c = is_opened c.args.text.now _ (strip_prefix_char 123 c.args.text.now _ c.strip_prefix.ensures.cases (lit< tt))
