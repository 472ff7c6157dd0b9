use Rattle.std.specs.Prelude.{map, chars}
use Rattle.std.specs.List.{list_any}
use Rattle.std.proofs.Common.{sym, ap, ◌∙◌, subst}
use Rattle.dfdl_markup.specs.Grammar.{Prefixed}
use Rattle.dfdl_markup.specs.Values.{have_same, is_found, names_of, same_expanded, xmlns_prefix}
use Rattle.dfdl_xml_names.specs.Beyond.{picked}
use Rattle.dfdl_xml_names.specs.Expanded.{IsPaired}
use Rattle.dfdl_xml_names.specs.Scoped.{scope_seen}
use Rattle.dfdl_xml_names.specs.Shown.{attribute_of}
use Rattle.dfdl_xml_names.proofs.Settled.{settled}
use Rattle.dfdl_xml_names.proofs.Split.{found_pairs}
use Rattle.dfdl_xml_names.proofs.Texts.{if_ok}
use Rattle.dfdl_xml_names.proofs.index.Index.clashes_within.Goals as goal

pub returns-then-is_settled : goal.returns-then-is_settled
returns-then-is_settled c = λ outer is kept.
    let own = scope_seen c.args.own.now in
    let xs = c.args.attributes.now in
    let names = names_of (map attribute_of xs) in
    let resolved = c.args.self.now.resolved in
    let found = picked (is_found own) names in
    let yes = c.if-is_settled.true in
    let paired = subst (λ z. IsPaired resolved.pairs z found) (sym is) (found_pairs own outer resolved names kept.resolved) in
    settled own outer resolved xs kept.resolved (sym kept.written.repeated ∙ c.is_settled.ensures.written yes) (c.is_settled.ensures.open yes)
    (λ b u. ap (λ z. list_any (λ o. same_expanded z o (Prefixed xmlns_prefix (chars b))) found) (sym is) ∙ c.is_settled.ensures.apart yes found paired b u)
    ∙ ap (λ z. have_same (same_expanded z) names) (sym is)

pub returns : goal.returns
returns c = if_ok c.clashes_within.result c.clashes_within.ensures (λ clash step outer is kept. step outer is kept.resolved)
