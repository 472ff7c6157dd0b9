use Rattle.std.proofs.Common.{◌≡◌, ◌<◌, List, sym, subst, length}
use Rattle.dfdl_components.specs.declared.schema.Index.{Index}
use Rattle.dfdl_components.specs.Shown.{IsIndex}
use Rattle.dfdl_documents.specs.Documents.{SchemaDocument}
use Rattle.dfdl_components.proofs.schema.Schema.index.Goals as goal

pub returns : goal.returns
returns c =
    let same : c.self.inside.documents ≡ c.args.self.now = c.self.view_is in
    let within : c.args.document < length c.self.inside.documents = subst (λ (ds : List SchemaDocument). c.args.document < length ds) (sym same) c.requires in
    subst (λ (ds : List SchemaDocument). IsIndex ds c.args.document c.index.result.now) same
    (subst (λ (i : Index). IsIndex c.self.inside.documents c.args.document i) (sym c.index.ensures)
    (c.self.invariant.1.each c.args.document c.index.result.now within))
