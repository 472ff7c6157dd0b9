use Rattle.dfdl_escapes.proofs.TrimmedContents.{trimmed-text, trimmed_from-text}
use Rattle.dfdl_escapes.proofs.laws.contents_without_escapes_are_trimmed_as_texts.Goals as goal

pub returns-clause-content : goal.returns-clause-content
returns-clause-content c = trimmed-text

pub returns-clause-begin : goal.returns-clause-begin
returns-clause-begin c = trimmed_from-text
