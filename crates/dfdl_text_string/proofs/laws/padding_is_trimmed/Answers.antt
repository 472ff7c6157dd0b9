use Rattle.dfdl_text_string.proofs.LawLemmas.{padded_trimmed}
use Rattle.dfdl_text_string.proofs.laws.padding_is_trimmed.Goals as goal

pub returns : goal.returns
returns c = padded_trimmed
