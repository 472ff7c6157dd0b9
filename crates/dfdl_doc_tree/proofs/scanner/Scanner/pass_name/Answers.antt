use Rattle.std.proofs.Common.{ap, refl}
use Rattle.dfdl_doc_tree.specs.Shown.{ahead_seen}
use Rattle.dfdl_doc_tree.specs.ScannerShown.{place_seen, state_seen}
use Rattle.dfdl_doc_tree.proofs.Passes.{tag_name_passed, attribute_name_passed, marked_at}
use Rattle.dfdl_doc_tree.proofs.scanner.Scanner.pass_name.Goals as goal

pub returns-clause-tag : goal.returns-clause-tag
returns-clause-tag c ahead mark =
    tag_name_passed (state_seen c.args.self.now) _ c.args.self.now.reading c.pass.new.self c.args.bytes.now c.in_ok-pass.field-0
    (ap ahead_seen ahead) (ap (λ m. place_seen m c.args.self.now) mark)
    c.in_ok-pass.ensures.within c.in_ok-pass.ensures.class c.in_ok-pass.ensures.reading
    (marked_at _ _ _ mark refl)

pub returns-clause-attribute : goal.returns-clause-attribute
returns-clause-attribute c ahead mark =
    attribute_name_passed (state_seen c.args.self.now) _ c.args.self.now.tag c.args.self.now.reading c.pass.new.self c.args.bytes.now c.in_ok-pass.field-0
    (ap ahead_seen ahead) (ap (λ m. place_seen m c.args.self.now) mark)
    c.in_ok-pass.ensures.within c.in_ok-pass.ensures.class c.in_ok-pass.ensures.reading
    (marked_at _ _ _ mark refl)
