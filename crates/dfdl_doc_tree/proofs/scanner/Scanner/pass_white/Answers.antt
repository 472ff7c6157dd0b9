use Rattle.std.proofs.Common.{ap, ◌∙◌, Bool}
use Rattle.dfdl_markup.specs.Machine.{AtTag}
use Rattle.dfdl_doc_tree.specs.Shown.{ahead_seen}
use Rattle.dfdl_doc_tree.specs.ScannerShown.{place_seen, state_seen}
use Rattle.dfdl_doc_tree.proofs.Passes.{white_passed}
use Rattle.dfdl_doc_tree.proofs.scanner.Scanner.pass_white.Goals as goal

pub returns-then-spaced : goal.returns-then-spaced
returns-then-spaced c ahead mark =
    white_passed (state_seen c.args.self.now) c.args.self.now.tag c.args.bytes.now c.count.result (ap ahead_seen ahead)
    (ap (λ m. place_seen m c.args.self.now) mark ∙ ap (λ (b : Bool). AtTag c.args.self.now.tag b) c.if-spaced.true)
    c.count.ensures.within c.count.ensures.class
