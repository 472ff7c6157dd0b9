use Rattle.std.proofs.Common.{◌≡◌, ◌+◌, ◌-◌, ◌≤◌, Some, None, length, set, replicate, sym, ap, ◌∙◌, arith, length-append}
use Rattle.std.proofs.lemmas.List.{length-replicate}
use Rattle.dfdl_suspend.specs.Padded.{padded}
use Rattle.dfdl_suspend.proofs.Padding.{padded_fill, padded_set}
use Rattle.dfdl_suspend.proofs.known.Known.put.Goals as goal

pub returns : goal.returns
returns c =
    let cells = c.self.inside.cells in
    let i = c.number-at.result in
    let old = c.self.inside.values.items in
    let few : length old ≤ cells = c.self.invariant.0 in
    let room : length c.args.self.now ≡ cells = sym (ap (λ a. length a) c.self.view_is) ∙ (length-append old (replicate (cells - length old) None) ∙ (ap (λ k. length old + k) (length-replicate (cells - length old) None) ∙ omega arith)) in
    let within : i + 1 ≤ cells = omega arith in
    let written : length c.fill.new.values.items ≡ length old + (i + 1 - length old) =
    ap (λ a. length a) c.fill.ensures.items ∙ (length-append old (replicate (i + 1 - length old) None) ∙ ap (λ k. length old + k) (length-replicate (i + 1 - length old) None)) in
    ap (λ a. padded cells a) c.write.ensures.items
    ∙ (padded_set cells i c.fill.new.values.items (Some c.args.held) (omega arith)
    ∙ (ap (λ a. set a i (Some c.args.held)) (ap (λ a. padded cells a) c.fill.ensures.items ∙ (padded_fill cells (i + 1) old few within ∙ c.self.view_is))
    ∙ ap (λ k. set c.args.self.now k (Some c.args.held)) c.number-at.ensures))
