use Rattle.dfdl_xml_chars.specs.Shown.{bytes_of}
use Rattle.dfdl_doc_tree.proofs.Sizes.{taken_size}
use Rattle.dfdl_doc_tree.proofs.reader.taken.Goals as goal

pub returns-clause-whole : goal.returns-clause-whole
returns-clause-whole c =
    taken_size c.bytes_are_seen.ensures c.with.result (bytes_of c.args.begun) c.args.byte c.with.ensures.seen
