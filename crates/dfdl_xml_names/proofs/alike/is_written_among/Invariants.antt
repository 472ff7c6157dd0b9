use Rattle.std.specs.Prelude.{◌≡◌, drop}
use Rattle.std.specs.List.{list_any}
use Rattle.dfdl_markup.specs.Values.{same_name}
use Rattle.dfdl_xml_names.specs.Shown.{name_of}
use Rattle.dfdl_xml_names.specs.declared.name.Attribute.{Attribute}
use Rattle.dfdl_xml_names.proofs.alike.is_written_among.Given as goal

-- one has the name exactly where one of those that are left has
abbrev pub invariant-loop-other : goal.invariant-loop-other
invariant-loop-other l =
    list_any (λ (a : Attribute). same_name (name_of a.name) (name_of l.name)) (drop l.other-index l.others)
    ≡ list_any (λ (a : Attribute). same_name (name_of a.name) (name_of l.name)) l.others
