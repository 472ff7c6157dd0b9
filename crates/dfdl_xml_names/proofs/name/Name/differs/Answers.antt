use Rattle.std.specs.Prelude.{◌^◌, ◌-◌, min}
use Rattle.std.proofs.Common.{sym, ap, ◌∙◌}
use Rattle.dfdl_markup.specs.Values.{same_name}
use Rattle.dfdl_xml_names.specs.Shown.{name_of}
use Rattle.dfdl_xml_names.proofs.Written.{sizes_alike, differ_by}
use Rattle.dfdl_xml_names.proofs.name.Name.differs.Goals as goal

pub returns : goal.returns
returns c =
    let a = c.args.self.now in
    let b = c.args.other.now in
    differ_by c.size.result c.size-2.result (same_name (name_of a) (name_of b))
    (λ alike. c.size.ensures ∙ (ap (λ n. min n (2 ^ 64 - 1)) (sizes_alike a b alike) ∙ sym c.size-2.ensures))
