-- Where a match lies.
use Rattle.std.specs.Prelude.{ℕ, ◌≤◌, List, length, IsCharBoundary}

-- both ends lie in the text, in order and between characters
pub record LiesIn (text : List ℕ) (begin end : ℕ) : Type 0 where
  pub ordered : begin ≤ end
  pub inside : end ≤ length text
  pub begins_cleanly : IsCharBoundary text begin
  pub ends_cleanly : IsCharBoundary text end
