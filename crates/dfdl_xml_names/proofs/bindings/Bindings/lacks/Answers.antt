use Rattle.std.specs.Str.{chars}
use Rattle.std.proofs.Common.{sym, ap, ◌∙◌}
use Rattle.std.proofs.lemmas.Slice.Eq.{bytes_eq-Decides}
use Rattle.dfdl_markup.specs.Values.{found, xmlns_prefix}
use Rattle.dfdl_xml_names.proofs.bindings.Bindings.lacks.Goals as goal

pub returns : goal.returns
returns c = λ is.
    let p = chars c.args.prefix.now in
    ap (found c.args.self.now) ((bytes_eq-Decides p xmlns_prefix).0 (sym c.is_xmlns.ensures ∙ is))
    ∙ (ap (λ bs. found bs xmlns_prefix) (sym c.self.view_is) ∙ c.self.invariant.1 c.if-self.false)
