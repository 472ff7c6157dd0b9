use Rattle.std.proofs.Common.{ℕ, ◌≡◌, ◌+◌, ◌-◌, ◌/◌, ◌≤◌, ◌<◌, get_or, ap, ◌∙◌, arith, inl, inr}
use Rattle.std.proofs.lemmas.Bool.{cases_lt}
use Rattle.std.proofs.lemmas.List.{get_or_default}
use Rattle.dfdl_splice.specs.Entries.{piece_of}
use Rattle.dfdl_splice.proofs.Entries.{rising_order}
use Rattle.dfdl_splice.proofs.entry.find.Goals as goal

pub loop-low-preserved-then-piece : goal.loop-low-preserved-then-piece
loop-low-preserved-then-piece c =
    let middle : ℕ = c.loop-low.low + (c.loop-low.high - c.loop-low.low) / 2 in
    let xs = c.args.entries.now in
    record {
      order = omega arith;
      inside = omega arith;
      between = λ i any below is.
          let old = c.loop-low.invariant.between i any below is in
          let here : c.piece.result ≡ piece_of (get_or xs middle any) = c.piece.ensures ∙ ap piece_of (get_or_default xs middle _ any (omega arith)) in
          let lower : middle ≤ i = elim (cases_lt i middle) [
            | inl less ↦ absurd (omega (arith, rising_order 0 xs c.requires.0 c.requires.1 i middle any less (omega arith)))
            | inr le ↦ le
          ] in
          (lower, old.1);
    }

pub loop-low-preserved : goal.loop-low-preserved
loop-low-preserved c =
    let middle : ℕ = c.loop-low.low + (c.loop-low.high - c.loop-low.low) / 2 in
    let xs = c.args.entries.now in
    record {
      order = omega arith;
      inside = omega arith;
      between = λ i any below is.
          let old = c.loop-low.invariant.between i any below is in
          let here : c.piece.result ≡ piece_of (get_or xs middle any) = c.piece.ensures ∙ ap piece_of (get_or_default xs middle _ any (omega arith)) in
          let upper : i < middle = elim (cases_lt i middle) [
            | inl less ↦ less
            | inr le ↦ elim (cases_lt middle i) [
              | inl less ↦ absurd (omega (arith, rising_order 0 xs c.requires.0 c.requires.1 middle i any less below))
              | inr back ↦
                  let same : i ≡ middle = omega arith in
                  absurd (omega (arith, rw same at is))
            ]
          ] in
          (old.0, upper);
    }
