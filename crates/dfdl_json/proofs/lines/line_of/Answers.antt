use Rattle.std.proofs.Common.{[], ◌∷◌, ◌++◌, ap, ◌∙◌}
use Rattle.dfdl_json.specs.Lines.{infoset_of}
use Rattle.dfdl_json.proofs.Whole.{line_written, whole_utf8}
use Rattle.dfdl_json.proofs.lines.line_of.Goals as goal

pub string_with-line-requires : goal.string_with-line-requires
string_with-line-requires c =
    whole_utf8 c.new-out.result c.write_infoset.new.out c.into_inner.result.items (infoset_of c.args.terms.now c.args.nodes.now c.args.text.now)
    (c.new-out.ensures.before ∙ c.in_ok-with_capacity.ensures.items) c.in_ok-write_infoset.ensures c.into_inner.ensures.items c.into_inner.ensures.utf8

pub returns : goal.returns
unfolding lib.Utf8.encode
returns c =
    line_written c.args.terms.now c.args.nodes.now c.args.text.now c.new-out.result c.write_infoset.new.out c.into_inner.result.items c.from_string.result
    (c.new-out.ensures.before ∙ c.in_ok-with_capacity.ensures.items) c.new-out.ensures.tokens c.in_ok-write_infoset.ensures c.into_inner.ensures.items
    (c.from_string.ensures ∙ (c.in_ok-push.ensures.bytes ∙ ap (λ xs. xs ++ 10 ∷ []) c.string_with-line.ensures))
