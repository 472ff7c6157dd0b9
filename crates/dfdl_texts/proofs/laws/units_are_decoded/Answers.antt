use Rattle.dfdl_texts.proofs.Pieces.{decoded}
use Rattle.dfdl_texts.proofs.laws.units_are_decoded.Goals as goal

pub returns : goal.returns
returns c look enc stop k looks t = decoded look stop k looks t enc
