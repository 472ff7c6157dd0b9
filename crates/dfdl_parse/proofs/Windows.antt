-- A window that gives up bytes at its front.
use Rattle.std.proofs.Common.{◌≡◌, ℕ, ◌+◌, ◌-◌, ◌<◌, ◌≤◌, List, length, get_or, ap, ◌∙◌, arith, length-drop}
use Rattle.std.proofs.lemmas.List.{get_or-drop}
use Rattle.dfdl_bits.specs.Window.{Held, end_of, from_byte}
use Rattle.dfdl_looks.specs.Looks.{Agrees}

-- it ends where it ended
pub end_from : (held : Held) (k : ℕ) → held.base ≤ k → k ≤ end_of held → end_of (from_byte held k) ≡ end_of held
end_from held k base end = omega (arith, length-drop (k - held.base) held.bytes)

-- it still holds a part of the data
pub agrees_from : (held : Held) (whole : List ℕ) (k : ℕ) → held.base ≤ k → k ≤ end_of held → Agrees held whole → Agrees (from_byte held k) whole
agrees_from held whole k base end agrees =
    let same = end_from held k base end in
    let within = agrees.within in
    record {
      bytes = λ i less.
          let size = length-drop (k - held.base) held.bytes in
          let inside : k - held.base + i < length held.bytes = omega arith in
          let place : held.base + (k - held.base + i) ≡ k + i = omega arith in
          get_or-drop (k - held.base) held.bytes i 0 ∙ agrees.bytes (k - held.base + i) inside ∙ ap (λ j. get_or whole j 0) place;
      within = omega (arith, same, within);
      all = λ ended. let all = agrees.all ended in omega (arith, same, all);
    }
