use Rattle.std.specs.Str.{chars}
use Rattle.std.proofs.Common.{refl}
use Rattle.dfdl_xml_names.specs.declared.resolved.Resolved.{Resolved}
use Rattle.dfdl_xml_names.proofs.Expanded.{add_unfound}
use Rattle.dfdl_xml_names.proofs.Texts.{on_ok}
use Rattle.dfdl_xml_names.proofs.resolved.Resolved.wait.Goals as goal

pub returns : goal.returns
returns c =
    let old = c.args.self.now in
    let new : Resolved = record { pairs = old.pairs; waiting = c.add.new.self; clash = old.clash } in
    on_ok c.add.result c.add.ensures
    (λ step scope names none kept.
    add_unfound old new scope names c.args.prefix.now (chars c.args.part.now) refl refl c.utf8.prefix none step kept)
