use Rattle.std.proofs.Common.{ℕ, List, sym, subst}
use Rattle.dfdl_region.specs.declared.node.Node.{Node}
use Rattle.dfdl_region.specs.Texts.{HaveTexts}
use Rattle.dfdl_grammar.specs.Documents.{document}
use Rattle.dfdl_grammar.specs.Outcomes.{Outcome}
use Rattle.dfdl_run.specs.Meaning.{limits}
use Rattle.dfdl_run.proofs.parsing.parse.Goals as goal

-- the bytes of the values are those of the document
pub line_of-requires : goal.line_of-requires
line_of-requires c =
    let come = c.requires.come in
    let o : Outcome = document limits c.args.terms.now come.bytes in
    let parsed = come.ended.parsed in
    let have : HaveTexts o.state.nodes o.state.text =
    c.documents_have_texts.ensures limits c.args.terms.now 0 come.bytes come.ended.are_bytes c.rows-rows.ensures.table.bounded in
    record {
      texts = subst (λ (nodes : List Node). HaveTexts nodes c.text.result.now) (sym (c.nodes.ensures.ended o parsed.steps parsed.allowed parsed.ends))
          (subst (λ (text : List ℕ). HaveTexts o.state.nodes text) (sym (c.text.ensures.ended o parsed.steps parsed.allowed parsed.ends)) have);
    }
