-- The begin of the content of an element with parts.
use Rattle.std.proofs.Common.{◌≡◌, ℕ, zero, suc, List, Option, None, Some, option_copied, Result, Ok, refl, sym, ap, ◌∙◌}
use denote.Ref.{Bor}
use Rattle.dfdl_suspend.specs.declared.known.Held.{Held}
use Rattle.dfdl_cells.specs.Asking.{begin_by, led, onward}
use Rattle.dfdl_cells.specs.Books.{Book}
use Rattle.dfdl_cells.specs.Places.{complex_at}
use Rattle.dfdl_cells.specs.declared.asking.Stop.{Stop}
use Rattle.dfdl_cells.specs.declared.complex.Complex.{Complex}

module _ (book : Book) (known : List (Option Held)) where
  pub begin_none : (most : ℕ) → Ok 0 ≡ begin_by book known most None
  unfolding begin_by
  begin_none zero = refl
  begin_none (suc most) = refl

  pub begin_zero : (most : ℕ) (around : Option Complex) → most ≡ 0 → Ok 0 ≡ begin_by book known most around
  unfolding begin_by
  begin_zero zero around is = refl
  begin_zero (suc most) around is = absurd (cc)

  -- one element more around
  pub begin_some : (most less : ℕ) (complex : Complex) (told : Result ℕ Stop) → most ≡ suc less
      → told ≡ begin_by book known less (complex_at book complex.around)
      → begin_by book known most (Some complex) ≡ onward told (λ n. led book.cells known complex n)
  unfolding begin_by
  begin_some most less complex told is told_is =
      ap (λ (n : ℕ). begin_by book known n (Some complex)) is
      ∙ ap (λ (r : Result ℕ Stop). onward r (λ n. led book.cells known complex n)) (sym told_is)

  -- the same of an element that is lent
  pub begin_more : (most less : ℕ) (around inner : Option (Bor Complex)) (complex : Bor Complex) (told : Result ℕ Stop) → around ≡ Some complex → most ≡ suc less
      → told ≡ begin_by book known less (option_copied inner) → option_copied inner ≡ complex_at book complex.now.around
      → begin_by book known most (option_copied around) ≡ onward told (λ n. led book.cells known complex.now n)
  begin_more most less around inner complex told some is told_is inner_is =
      ap (λ (o : Option (Bor Complex)). begin_by book known most (option_copied o)) some
      ∙ begin_some most less complex.now told is (told_is ∙ ap (λ (o : Option Complex). begin_by book known less o) inner_is)
