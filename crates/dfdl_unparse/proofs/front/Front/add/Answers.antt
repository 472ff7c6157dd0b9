use Rattle.std.proofs.Common.{◌*◌, None, ◌∙◌, sym, ap, arith}
use Rattle.dfdl_splice.specs.Splicing.{Spliced, bit_count}
use Rattle.dfdl_splice.proofs.Leads.{behind-push}
use Rattle.dfdl_unparse.proofs.front.Front.add.Goals as goal

pub invariant_of-self : goal.invariant_of-self
invariant_of-self c =
    let splice = c.self.inside.splice in
    let is = c.in-Ok.ensures.added in (
      c.self.invariant.0 ∙ ap (λ (s : Spliced). 8 * s.most_bytes) (sym is),
      omega (arith, c.self.invariant.1, ap (λ (s : Spliced). bit_count s) is, behind-push splice.awaited splice.added None),
      c.self.invariant.2,
      c.self.invariant.3,
    )
