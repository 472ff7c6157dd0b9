use Rattle.std.proofs.Common.{codes}
use Rattle.dfdl_references.specs.Writers.{writer_of}
use Rattle.dfdl_scope.specs.Shown.{chain_of}
use Rattle.dfdl_breaches.proofs.NamedSchemes.{of_name, of_no_name}
use Rattle.dfdl_breaches.proofs.schemes.scheme_of.Goals as goal

pub returns-in_default : goal.returns-in_default
returns-in_default c =
    of_no_name c.args.schema.now (writer_of c.args.schema.now c.args.sites.now (codes "escapeSchemeRef")) (chain_of c.args.chain.now) c.in_default.ensures

pub returns : goal.returns
returns c =
    of_name c.args.schema.now (writer_of c.args.schema.now c.args.sites.now (codes "escapeSchemeRef")) c.writer.result (chain_of c.args.chain.now)
    c.in-Some.text.now c.scheme_written.result c.in-Some.ensures c.writer.ensures.writer c.scheme_written.ensures
