use Rattle.std.specs.Prelude.{◌∷◌, []}
use Rattle.std.proofs.Common.{sym, subst}
use Rattle.std.proofs.lemmas.List.{map-append}
use Rattle.dfdl_markup.specs.Values as values
use Rattle.dfdl_markup.specs.Values.{names_of}
use Rattle.dfdl_xml_names.specs.Shown.{name_of}
use Rattle.dfdl_xml_names.specs.Scoped.{scope_seen}
use Rattle.dfdl_xml_names.specs.Expanded.{IsResolved}
use Rattle.dfdl_xml_names.proofs.index.Index.more.Goals as goal

pub returns : goal.returns
returns c = λ old value before is kept.
    let more : values.Attribute = record { name = name_of c.args.name.now; value = value } in
    let within = c.in_ok-resolved.ensures old value (names_of before) is kept.resolved in
    record {
      written = c.in_ok-add-2.ensures before value kept.written;
      resolved =
          subst (λ l. IsResolved c.add.new.self (scope_seen c.args.scope.now) l)
          (sym (map-append (λ (a : values.Attribute). a.name) before (more ∷ [])))
          (c.in_ok-add.ensures (names_of before) within);
    }
