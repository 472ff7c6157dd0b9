use Rattle.std.proofs.Common.{ap, sym, ◌∙◌}
use Rattle.dfdl_markup.specs.Machine.{AtContent}
use Rattle.dfdl_doc_tree.specs.Shown.{ahead_seen, run_number}
use Rattle.dfdl_doc_tree.specs.ScannerShown.{place_seen, state_seen}
use Rattle.dfdl_doc_tree.proofs.Passes.{text_passed, top_passed}
use Rattle.dfdl_doc_tree.proofs.scanner.Scanner.pass_content.Goals as goal

pub returns-in-None : goal.returns-in-None
returns-in-None c ahead mark =
    top_passed (state_seen c.args.self.now) c.args.bytes.now c.count.result (ap ahead_seen ahead)
    (ap (λ m. place_seen m c.args.self.now) mark ∙ ap (λ r. AtContent (run_number r)) c.in-None.is)
    (sym c.is_empty.ensures ∙ c.if-is_empty.true) c.count.ensures.within c.count.ensures.class

pub returns-in-None-2 : goal.returns-in-None-2
returns-in-None-2 c ahead mark =
    text_passed (state_seen c.args.self.now) c.args.bytes.now c.count-in-None-2.result (ap ahead_seen ahead)
    (ap (λ m. place_seen m c.args.self.now) mark ∙ ap (λ r. AtContent (run_number r)) c.in-None-2.is)
    (sym c.is_empty.ensures ∙ c.if-is_empty.false) c.count-in-None-2.ensures.within c.count-in-None-2.ensures.class
