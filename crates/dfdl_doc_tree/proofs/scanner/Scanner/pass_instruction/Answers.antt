use Rattle.std.proofs.Common.{ap, ◌∙◌, Bool}
use Rattle.dfdl_markup.specs.Machine.{AtInstruction}
use Rattle.dfdl_doc_tree.specs.Shown.{ahead_seen}
use Rattle.dfdl_doc_tree.specs.ScannerShown.{place_seen, state_seen}
use Rattle.dfdl_doc_tree.proofs.Passes.{instruction_passed}
use Rattle.dfdl_doc_tree.proofs.scanner.Scanner.pass_instruction.Goals as goal

pub returns-else-mark : goal.returns-else-mark
returns-else-mark c ahead mark =
    instruction_passed (state_seen c.args.self.now) c.args.bytes.now c.count.result (ap ahead_seen ahead)
    (ap (λ m. place_seen m c.args.self.now) mark ∙ ap (λ (b : Bool). AtInstruction b) c.if-mark.false)
    c.count.ensures.within c.count.ensures.class
