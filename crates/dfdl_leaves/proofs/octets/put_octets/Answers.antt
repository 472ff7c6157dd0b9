use Rattle.std.proofs.Common.{◌≡◌, ℕ, ◌+◌, ◌-◌, ◌*◌, ◌<◌, List, ◌++◌, take, subst, sym, ◌∙◌, ap, arith}
use Rattle.dfdl_grammar.specs.Octets.{octets_from}
use Rattle.dfdl_leaves.proofs.HexBinaries.{one-more, whole-bytes}
use Rattle.dfdl_leaves.proofs.octets.put_octets.Goals as goal

pub returns-then-before-eq0 : goal.returns-then-before-eq0
returns-then-before-eq0 c =
    let bytes = c.args.bytes.now in
    let at_front : c.args.before ≡ 0 = omega arith in
    c.in_ok-extend_from_slice.ensures.items
    ∙ ap (λ (xs : List ℕ). xs ++ take c.args.count bytes) c.clear.ensures.items
    ∙ sym (whole-bytes c.args.bits_by bytes (λ i. omega (arith, c.type_inv.bytes i)) c.args.count (omega arith))
    ∙ ap (λ (b : ℕ). octets_from c.args.bits_by bytes b c.args.count) (sym at_front)

pub loop-at-preserved : goal.loop-at-preserved
loop-at-preserved c =
    let bytes = c.args.bytes.now in
    let few : c.loop-at.at < c.args.count = omega arith in
    subst (λ (xs : List ℕ). xs ++ octets_from c.args.bits_by bytes (c.args.before + 8 * (c.loop-at.at + 1)) (c.args.count - (c.loop-at.at + 1)) ≡ octets_from c.args.bits_by bytes c.args.before c.args.count)
    (sym c.in_ok-push.ensures.items)
    (one-more c.args.bits_by bytes c.args.before c.loop-at.at c.args.count c.loop-at.into.items c.octet_at-octet.result few c.octet_at-octet.ensures c.loop-at.invariant)
