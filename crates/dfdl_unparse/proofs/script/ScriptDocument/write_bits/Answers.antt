use Rattle.std.proofs.Common.{◌∷◌, [], ◌++◌, ℕ, List, length, ap, ◌∙◌, arith}
use Rattle.std.specs.List.{slice_get}
use Rattle.dfdl_forms.specs.declared.order.BitOrder.TheVariants.{MostFirst}
use Rattle.dfdl_splice.specs.Bits.{bits_from}
use Rattle.dfdl_splice.proofs.Runs.{length-bits_from}
use Rattle.dfdl_suspend.specs.Asks.{at}
use Rattle.dfdl_unparse.specs.Scripts.{last_byte, width_at}
use Rattle.dfdl_unparse.proofs.Scripted.{width_few}
use Rattle.dfdl_unparse.proofs.script.ScriptDocument.write_bits.Goals as goal

pub returns-clause-room : goal.returns-clause-room
returns-clause-room c =
    let long = length-bits_from MostFirst (last_byte (at c.args.known.now c.args.piece) ∷ []) 0 (width_at c.args.self.now.widths.items c.args.piece) in
    let items = c.in_ok-push.ensures.items ∙ ap (λ (xs : List ℕ). xs ++ c.last_byte.result ∷ []) c.clear.ensures.items in
    omega (arith, long, ap (λ (xs : List ℕ). length xs) items, width_few (slice_get c.args.self.now.widths.items c.args.piece))

pub returns-clause-bits : goal.returns-clause-bits
returns-clause-bits c =
    let byte = last_byte (at c.args.known.now c.args.piece) in
    let width = width_at c.args.self.now.widths.items c.args.piece in
    let items = c.in_ok-push.ensures.items ∙ (ap (λ (xs : List ℕ). xs ++ c.last_byte.result ∷ []) c.clear.ensures.items ∙ ap (λ (n : ℕ). n ∷ []) c.last_byte.ensures) in
    ap (λ (xs : List ℕ). bits_from MostFirst xs 0 (length (bits_from MostFirst (byte ∷ []) 0 width))) items
    ∙ ap (λ (n : ℕ). bits_from MostFirst (byte ∷ []) 0 n) (length-bits_from MostFirst (byte ∷ []) 0 width)
