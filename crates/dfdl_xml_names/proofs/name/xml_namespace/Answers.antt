use Rattle.std.specs.Str.{chars}
use Rattle.std.proofs.Common.{refl}
use Rattle.dfdl_markup.specs.Values.{xml_namespace}
use Rattle.dfdl_xml_names.proofs.name.xml_namespace.Goals as goal

pub returns : goal.returns
unfolding xml_namespace chars
returns c = refl
