use Rattle.std.proofs.Common.{◌≡◌, ◌<◌, ℕ, refl, ap, subst, length, arith}
use Rattle.std.proofs.lemmas.Option.{slice_get_read}
use Rattle.dfdl_suspend.specs.Formulas.{Tabled, NamesWithin}
use Rattle.dfdl_suspend.proofs.table.TableEquations.answer.Goals as goal

pub returns-clause-names : goal.returns-clause-names
returns-clause-names g c =
    let rows = c.self.inside.rows.items in
    let long : length rows ≡ length c.args.self.now.rows = ap (λ (t : Tabled). length t.rows) c.self.view_is in
    let low : c.number.result < length rows = omega (arith, c.requires.cell, c.number.ensures, long) in
    let named : NamesWithin (length rows) c.index-formula.result.now =
    c.self.invariant.0 c.number.result c.index-formula.result.now (slice_get_read rows (length rows) c.number.result c.index-formula.result.now refl low c.index-formula.ensures) in
    c.evaluate.ensures.names (length c.args.self.now.rows) c.requires.cell (subst (λ (n : ℕ). NamesWithin n c.index-formula.result.now) long named)
