use Rattle.std.proofs.Common.{ℕ, List, ap, sym, ◌∙◌}
use Rattle.dfdl_markup.specs.Machine.{AtValue}
use Rattle.dfdl_xml_names.specs.Shown.{name_of}
use Rattle.dfdl_doc_tree.specs.Shown.{ahead_seen}
use Rattle.dfdl_doc_tree.specs.ScannerShown.{place_seen, state_seen, value_seen}
use Rattle.dfdl_doc_tree.proofs.Passes.{value_passed, marked_at, none_lent}
use Rattle.dfdl_doc_tree.proofs.scanner.Scanner.pass_value.Goals as goal

pub returns : goal.returns
returns c ahead mark =
    let old = c.args.self.now in
    value_passed (state_seen old) _ (value_seen old) c.args.bytes.now c.in_ok-lengthen.field-0
    (ap ahead_seen ahead) (ap (λ m. place_seen m old) mark) c.if-self.false
    (none_lent c.fixed_value.result _ (sym c.is_some.ensures ∙ c.if-is_some.false) c.fixed_value.ensures)
    c.in_ok-lengthen.ensures.within c.in_ok-lengthen.ensures.class
    (marked_at _ _ _ mark (ap (λ (t : List ℕ). AtValue (record { tag = old.tag; name = name_of old.attribute; quote = old.quote; text = t; behind_cr = old.behind_cr })) c.in_ok-lengthen.ensures.text))
