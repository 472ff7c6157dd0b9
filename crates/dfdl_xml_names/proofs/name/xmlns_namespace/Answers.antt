use Rattle.std.specs.Str.{chars}
use Rattle.std.proofs.Common.{refl}
use Rattle.dfdl_markup.specs.Values.{xmlns_namespace}
use Rattle.dfdl_xml_names.proofs.name.xmlns_namespace.Goals as goal

pub returns : goal.returns
unfolding xmlns_namespace chars
returns c = refl
