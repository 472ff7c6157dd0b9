use Rattle.std.proofs.Common.{ap, ◌∙◌}
use Rattle.dfdl_markup.specs.Machine.{AtComment}
use Rattle.dfdl_doc_tree.specs.Shown.{ahead_seen, run_number}
use Rattle.dfdl_doc_tree.specs.ScannerShown.{place_seen, state_seen}
use Rattle.dfdl_doc_tree.proofs.Passes.{comment_passed}
use Rattle.dfdl_doc_tree.proofs.scanner.Scanner.pass_comment.Goals as goal

pub returns-in-None : goal.returns-in-None
returns-in-None c ahead mark =
    comment_passed (state_seen c.args.self.now) c.args.bytes.now c.count.result (ap ahead_seen ahead)
    (ap (λ m. place_seen m c.args.self.now) mark ∙ ap (λ r. AtComment (run_number r)) c.in-None.is)
    c.count.ensures.within c.count.ensures.class
