use Rattle.dfdl_xml_names.proofs.Expanded.{add_found}
use Rattle.dfdl_xml_names.proofs.Texts.{on_both}
use Rattle.dfdl_xml_names.proofs.resolved.Resolved.take.Goals as goal

pub returns : goal.returns
returns c =
    on_both c.insert.result c.insert.ensures.pairs c.insert.ensures.clash
    (λ pairs clash scope names prefix is kept.
    add_found c.args.self.now c.insert.new.self scope names prefix c.args.namespace.now c.args.part.now c.utf8.namespace c.utf8.part is pairs c.insert.ensures.waiting clash kept)
