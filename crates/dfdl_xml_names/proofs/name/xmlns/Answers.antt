use Rattle.std.specs.Str.{chars}
use Rattle.std.proofs.Common.{refl}
use Rattle.dfdl_markup.specs.Values.{xmlns_prefix}
use Rattle.dfdl_xml_names.proofs.name.xmlns.Goals as goal

pub returns : goal.returns
unfolding xmlns_prefix chars
returns c = refl
