-- One more read behind the bytes that were read before.
use Rattle.std.proofs.Common.{◌≡◌, ℕ, ◌+◌, List, ◌++◌, take, drop, Option, Some, None, ◌∙◌, sym}
use Rattle.std.proofs.Common.{append_assoc}
use Rattle.std.proofs.Math.Seq.{take-add}
use Rattle.dfdl_edge.specs.Source.{Takes}
use Rattle.dfdl_edge.specs.Whole.{IsAfter, IsRestOf}

-- what is left after one more read is the rest after one more piece
pub is_after_read : (left now then : Option (List ℕ)) (filled count : ℕ) (old new : List ℕ) →
    IsAfter left (take filled old) now → take filled new ≡ take filled old
    → Takes now count (drop filled new) then →
    IsAfter left (take (filled + count) new) then
is_after_read None None None filled count old new before same more = tt
is_after_read None None (Some end) filled count old new before same more = absurd more
is_after_read None (Some rest) then filled count old new before same more = absurd before
is_after_read (Some all) None then filled count old new before same more = absurd before
is_after_read (Some all) (Some rest) None filled count old new before same more = absurd more
is_after_read (Some all) (Some rest) (Some end) filled count old new before same more =
    before ∙ rw (← same, more.bytes, take-add filled count new)
    (sym (append_assoc (take filled new) (take count (drop filled new)) end))

-- an end of an end is an end
pub is_rest_after : (left now then : Option (List ℕ)) (bytes : List ℕ) → IsAfter left bytes now
    → IsRestOf now then → IsRestOf left then
is_rest_after None None None bytes before more = tt
is_rest_after None None (Some end) bytes before more = absurd more
is_rest_after None (Some rest) then bytes before more = absurd before
is_rest_after (Some all) None then bytes before more = absurd before
is_rest_after (Some all) (Some rest) None bytes before more = absurd more
is_rest_after (Some all) (Some rest) (Some end) bytes before more =
    (bytes ++ more.0, before ∙ rw more.1 (sym (append_assoc bytes more.0 end)))
